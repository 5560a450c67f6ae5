-- What the calls on one block do, for any arguments, and the record part. Demands 1 and 3; document 01, "What a reading says".
--
--   read_cause, mend_cause   the number of the refusal, 0 where nothing is refused
--   ReadDone       a block read into an output
--   is_corrected   the answers of a block that is corrected
--   changed_at     the positions that a corrected block differs at from the one that was read; on a refusal none
--   NotedDone      a block read into an output, with these positions added to a window
--   MendDone       a block read, the corrected bytes put in its place, and their positions added to a window
--   LookDone       a block read, and nothing written
--   ReadsClean     a block reads as clean, whatever is marked; FourUnclean: which of four blocks one after the other do not, a binary digit each
--   record_in      the record as a part of the output
use Rattle.std.specs.Prelude.{ℕ, ◌*◌, ◌<◌, ◌≡◌, ◌≢◌, ◌↔◌, Bool, true, false, not, List, [], ◌∷◌, eqb, length, take, drop}
use Rattle.base.specs.Base.{if, digit}
use Rattle.answer.specs.Answer.{Answer, done, clean, in_chips, in_card, counted, refused, refused_card, By}
use Rattle.answer.specs.Cause.{cause, lowest}
use Rattle.code.specs.Block.{differing}
use Rattle.marks.specs.Marks.{marks_cause, marks_causes}
use Rattle.marks.specs.declared.Marks.{Marks}
use Rattle.reading.specs.Reading.{ReadsUnder}
use Rattle.window.specs.Window.{added}

-- 1: the block received is not 45 bytes; 2: the output is not; 6 and 7: the marks are not lawful
unfoldable pub read_cause : ℕ → Marks → ℕ → ℕ
read_cause n m o = lowest (cause 1 (not (eqb n 45)) ∷ cause 2 (not (eqb o 45)) ∷ marks_causes m)

unfoldable pub mend_cause : ℕ → Marks → ℕ
mend_cause n m = lowest (cause 1 (not (eqb n 45)) ∷ marks_causes m)

abbrev pub is_corrected : Answer → Bool
is_corrected done = false
is_corrected clean = true
is_corrected (in_chips n) = true
is_corrected (in_card j n) = true
is_corrected (counted v w x y z) = false
is_corrected (refused n) = false
is_corrected (refused_card n j) = false

-- document 02, order 2: "each corrected get or patrol .. adds its changed positions, lowest first"
abbrev pub changed_at : Answer → List ℕ → List ℕ → List ℕ
changed_at a b x = if (is_corrected a) (differing b x) []

-- a primed name is what the bytes hold after the call
pub record ReadDone (b : List ℕ) (m : Marks) (out : List ℕ) (a : Answer) (b' out' : List ℕ) : Type 0 where
  pub received : b' ≡ b
  pub output : By (read_cause (length b) m (length out)) a (out' ≡ out) (ReadsUnder m b out a out')

pub record NotedDone (b : List ℕ) (m : Marks) (out w : List ℕ) (a : Answer) (b' out' w' : List ℕ) : Type 0 where
  pub read : ReadDone b m out a b' out'
  pub window : w' ≡ added w (changed_at a b out')

-- as a reading whose output is the block itself
pub record MendDone (b : List ℕ) (m : Marks) (w : List ℕ) (a : Answer) (b' w' : List ℕ) : Type 0 where
  pub block : By (mend_cause (length b) m) a (b' ≡ b) (ReadsUnder m b b a b')
  pub window : w' ≡ added w (changed_at a b b')

pub record LookDone (b : List ℕ) (m : Marks) (a : Answer) (b' : List ℕ) : Type 0 where
  pub received : b' ≡ b
  pub answer : By (mend_cause (length b) m) a (Unit {0}) ((x : List ℕ) × ReadsUnder m b [] a x)

-- these bytes read as clean, whatever is marked
abbrev pub ReadsClean : List ℕ → Type 0
ReadsClean x = (m : Marks) → marks_cause m ≡ 0 → ReadsUnder m x [] clean x

-- digit k of r is 0 exactly where block k does; b' are the bytes after the call
pub record FourUnclean (b : List ℕ) (r : ℕ) (b' : List ℕ) : Type 0 where
  pub below : r < 16
  pub four : length b ≡ 180 → (k : ℕ) → k < 4 → (digit r k ≡ 0) ↔ ReadsClean (take 45 (drop (45 * k) b))
  pub other : length b ≢ 180 → r ≡ 15
  pub kept : b' ≡ b

-- "the first 34 bytes of that same output", empty on a refusal, and "of an output that is not 45 bytes it is empty"
unfoldable pub record_in : List ℕ → Answer → List ℕ
record_in out a = if (eqb (length out) 45) (if (is_corrected a) (take 34 out) []) []
