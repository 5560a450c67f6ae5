-- What each call on a bank does, for any arguments: the answer, and every byte of bank, output and record after it.
-- Document 01, "Bytes and cards", "Causes of refusal" and "What a reading says".
--
--   blocks bank          how many blocks the bank has
--   block bank k         block k; with_block bank k x: the bank with x in its place
--   ..-cause             the number of the refusal, 0 where nothing is refused
--   ClearDone, PutDone, GetDone, PatrolDone, ReportDone   the contracts; a primed name is what the bytes hold after the call
--   EachReads, totals    how each block reads, and how many read as each; CountsEach: an answer that counts them
use Rattle.std.specs.Prelude.{ℕ, ◌+◌, ◌*◌, ◌/◌, ◌%◌, ◌<◌, ◌≡◌, Bool, ◌||◌, not, List, [], ◌∷◌, ◌++◌, eqb, leb, ltb, length, take, drop, replicate}
use Rattle.base.specs.Base.{tally}
use Rattle.answer.specs.Answer.{Answer, done, clean, in_chips, in_card, counted, refused, refused_card, By, refusal_number}
use Rattle.answer.specs.Cause.{Cause, cause, lowest}
use Rattle.marks.specs.Marks.{marks_causes}
use Rattle.marks.specs.declared.Marks.{Marks}
use Rattle.code.specs.Block.{OneMember, Stored}
use Rattle.code.specs.Labels.{built_in}
use Rattle.reading.specs.Reading.{ReadsUnder}
use Rattle.window.specs.Window.{added}
use Rattle.block.specs.Read.{changed_at}
use Rattle.std.specs.declared.result.Result.{Result}
use Rattle.std.specs.Prelude.{Ok, Err}
use Rattle.answer.specs.declared.Refusal.{Refusal}
use Rattle.answer.specs.declared.Totals.{Totals}

-- ---- blocks
abbrev pub blocks : List ℕ → ℕ
blocks bank = length bank / 45

abbrev pub block : List ℕ → ℕ → List ℕ
block bank k = take 45 (drop (45 * k) bank)

abbrev pub with_block : List ℕ → ℕ → List ℕ → List ℕ
with_block bank k x = take (45 * k) bank ++ (x ++ drop (45 * k + 45) bank)

-- ---- causes, n being the bank's length
-- 4: the bank is 0 bytes, no multiple of 45, or above 46,080
abbrev pub bad_bank : ℕ → Bool
bad_bank n = eqb n 0 || (not (eqb (n % 45) 0) || ltb 46080 n)

-- 5: the block number is n or more
abbrev pub past : ℕ → ℕ → Bool
past n k = leb (n / 45) k

abbrev pub size_causes : ℕ → List Cause
size_causes n = cause 4 (bad_bank n) ∷ []

abbrev pub place_causes : ℕ → ℕ → List Cause
place_causes n k = cause 4 (bad_bank n) ∷ cause 5 (past n k) ∷ []

unfoldable pub clear_cause : ℕ → ℕ
clear_cause n = lowest (size_causes n)

-- 3: the record is not 34 bytes
unfoldable pub put_cause : ℕ → ℕ → ℕ → ℕ
put_cause n k r = lowest (cause 3 (not (eqb r 34)) ∷ place_causes n k)

-- 2: the output is not 45 bytes; 6 and 7: the marks are not lawful
unfoldable pub get_cause : ℕ → ℕ → Marks → ℕ → ℕ
get_cause n k m o = lowest (cause 2 (not (eqb o 45)) ∷ (place_causes n k ++ marks_causes m))

unfoldable pub patrol_cause : ℕ → ℕ → Marks → ℕ
patrol_cause n k m = lowest (place_causes n k ++ marks_causes m)

unfoldable pub report_cause : ℕ → Marks → ℕ
report_cause n m = lowest (size_causes n ++ marks_causes m)

-- ---- clear: every block becomes zeros
unfoldable pub ClearDone : List ℕ → Answer → List ℕ → Type 0
ClearDone bank a bank' = By (clear_cause (length bank)) a (bank' ≡ bank) ((a ≡ done) × (bank' ≡ replicate (length bank) 0))

-- ---- put: block k becomes the only lawful block that begins with the record
pub record PutDone (bank : List ℕ) (k : ℕ) (rec : List ℕ) (a : Answer) (bank' rec' : List ℕ) : Type 0 where
  pub lent : rec' ≡ rec
  pub put : By (put_cause (length bank) k (length rec)) a (bank' ≡ bank)
      ((a ≡ done) × ((x : List ℕ) × OneMember (Stored built_in rec) x × (bank' ≡ with_block bank k x)))

-- ---- get: a reading of block k; where it is corrected the output holds the corrected block. "A get never alters the bank."
-- order 2: the positions at which they differ are added to the window w
pub record GetDone (bank : List ℕ) (k : ℕ) (m : Marks) (out w : List ℕ) (a : Answer) (bank' out' w' : List ℕ) : Type 0 where
  pub kept : bank' ≡ bank
  pub output : By (get_cause (length bank) k m (length out)) a (out' ≡ out) (ReadsUnder m (block bank k) out a out')
  pub window : w' ≡ added w (changed_at a (block bank k) out')

-- ---- patrol: a reading of block k whose output is put back in its place; the positions at which the block differs after it are added
pub record PatrolDone (bank : List ℕ) (k : ℕ) (m : Marks) (w : List ℕ) (a : Answer) (bank' w' : List ℕ) : Type 0 where
  pub mended : By (patrol_cause (length bank) k m) a (bank' ≡ bank)
      ((x : List ℕ) × ReadsUnder m (block bank k) (block bank k) a x × (bank' ≡ with_block bank k x))
  pub window : w' ≡ added w (changed_at a (block bank k) (block bank' k))

-- ---- report: how many blocks read as clean, chips, card, none and several
-- 0 clean, 1 chips, 2 card, 3 none, 4 several; a reading that isn't refused by its arguments gives nothing else
abbrev pub class : Answer → ℕ
class clean = 0
class (in_chips n) = 1
class (in_card j n) = 2
class (refused n) = 3
class (refused_card n j) = 4
class done = 5
class (counted v w x y z) = 5

abbrev pub how_many : (ℕ → Answer) → ℕ → ℕ → ℕ
how_many f n i = tally n (λ k. eqb (class (f k)) i)

-- of the answers f 0, .., f (n - 1)
abbrev pub totals : (ℕ → Answer) → ℕ → Answer
totals f n = counted (how_many f n 0) (how_many f n 1) (how_many f n 2) (how_many f n 3) (how_many f n 4)

-- each of n blocks reads so
abbrev pub EachReads : (ℕ → List ℕ) → ℕ → Marks → (ℕ → Answer) → Type 0
EachReads b n m f = (k : ℕ) → k < n → (x : List ℕ) × ReadsUnder m (b k) [] (f k) x

-- the answer a counts how they read
abbrev pub CountsEach : (ℕ → List ℕ) → ℕ → Marks → Answer → Type 0
CountsEach b n m a = (f : ℕ → Answer) × EachReads b n m f × (a ≡ totals f n)

pub record ReportDone (bank : List ℕ) (m : Marks) (a : Answer) (bank' : List ℕ) : Type 0 where
  pub kept : bank' ≡ bank
  pub answer : By (report_cause (length bank) m) a (Unit {0}) (CountsEach (block bank) (blocks bank) m a)

-- the answer that a report stands for
abbrev pub report_answer : Result Totals Refusal → Answer
report_answer (Ok t) = counted t.clean t.chips t.card t.none t.several
report_answer (Err r) = refused (refusal_number r)
