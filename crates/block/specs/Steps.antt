-- The steps of a reading.
--
--   lengths_cause, length_cause   the number of the refusal by the lengths alone, 0 where they are right: of a block and an output, of a block
--   clean_under   what a clean block reads as under marks
--   delivered   what an output holds after a reading: the corrected block, or what it held
--   Corrects    the block decoded from its sums, and delivered
use Rattle.std.specs.Prelude.{◌≡◌, List, [], ◌∷◌, ℕ, not, eqb}
use Rattle.base.specs.Base.{if}
use Rattle.answer.specs.Answer.{Answer, clean, refused}
use Rattle.answer.specs.Cause.{cause, lowest}
use Rattle.marks.specs.Marks.{marks_cause}
use Rattle.marks.specs.declared.Marks.{Marks}
use Rattle.sums.specs.declared.Sums.{Sums}
use Rattle.reading.specs.Reading.{reading_answer}
use Rattle.change.specs.Change.{applied}
use Rattle.decode.specs.Decode.{Decodes}
use Rattle.decode.specs.Decode.{Decoded, reading_of, change_of}
use Rattle.block.specs.Read.{is_corrected}

-- 1: the block received is not 45 bytes; 2: the output is not
unfoldable pub lengths_cause : ℕ → ℕ → ℕ
lengths_cause n o = lowest (cause 1 (not (eqb n 45)) ∷ cause 2 (not (eqb o 45)) ∷ [])

unfoldable pub length_cause : ℕ → ℕ
length_cause n = lowest (cause 1 (not (eqb n 45)) ∷ [])

-- 6, 7: the marks are not lawful
abbrev pub clean_under : Marks → Answer
clean_under m = if (eqb (marks_cause m) 0) clean (refused (marks_cause m))

abbrev pub delivered : Answer → List ℕ → List ℕ → List ℕ
delivered a x out = if (is_corrected a) x out

-- a primed name is what the bytes hold after it
pub record Corrects (b : List ℕ) (s : Sums) (m : Marks) (out : List ℕ) (d : Decoded) (b' out' : List ℕ) : Type 0 where
  pub decoded : Decodes s m d
  pub received : b' ≡ b
  pub output : out' ≡ delivered (reading_answer (reading_of d)) (applied b (change_of d)) out
