-- How long the lines are at most, where their numbers are as small as a bank's.
--
--   Small a          an answer whose card has one digit, and whose number of bytes at most two
--   count_length, block_length, totals_length, sound_length, refused_length   the lines
use Prim.Native.Nat.{ℕ, ◌≤◌, ◌<◌}
use native.Mathlib.Omega.{arith}
use lib.ListN.{length, length-append}
use Rattle.answer.specs.Answer.{Answer, done, clean, in_chips, in_card, counted, refused, refused_card}
use Rattle.lines.specs.Lines.{count_line, block_line, totals_line, sound_line, refused_line}
use Rattle.text.proofs.Decimal.{short}

abbrev pub Small : Answer → Type 0
Small clean = Unit {0}
Small (in_chips n) = n < 100
Small (in_card j n) = (j < 10) × (n < 100)
Small (refused n) = Unit {0}
Small (refused_card n j) = j < 10
Small done = Unit {0}
Small (counted v w x y z) = Unit {0}

pub count_length : (n : ℕ) → n < 10000 → length (count_line n) ≤ 12
count_length n h = simp length-append (omega (arith, short 3 n h))

pub block_length : (k : ℕ) (a : Answer) → k < 10000 → Small a → length (block_line k a) ≤ 15
block_length k clean h s = omega arith
block_length k (in_chips n) h s = simp length-append (omega (arith, short 3 k h, short 1 n s))
block_length k (in_card j n) h s = simp length-append (omega (arith, short 3 k h, short 0 j s.0, short 1 n s.1))
block_length k (refused n) h s = simp length-append (omega (arith, short 3 k h))
block_length k (refused_card n j) h s = simp length-append (omega (arith, short 3 k h, short 0 j s))
block_length k done h s = omega arith
block_length k (counted v w x y z) h s = omega arith

pub totals_length : (v w x y z : ℕ) → v < 10000 → w < 10000 → x < 10000 → y < 10000 → z < 10000 → length (totals_line v w x y z) ≤ 55
totals_length v w x y z a b c d e = simp length-append (omega (arith, short 3 v a, short 3 w b, short 3 x c, short 3 y d, short 3 z e))

pub sound_length : (q : ℕ) → q < 10000 → length (sound_line q) ≤ 11
sound_length q h = simp length-append (omega (arith, short 3 q h))

pub refused_length : (n : ℕ) → n < 100 → length (refused_line n) ≤ 11
refused_length n h = simp length-append (omega (arith, short 1 n h))
