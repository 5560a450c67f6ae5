-- What the calls on a bank return, in the code's own words: none of these cites the definition of the answer that it stands for.
--
--   ClearSays, PutSays, GetSays, PatrolSays, ReportSays   what each call returns, and what it leaves; a primed name is what the bytes hold after it
--   Adds        a window after a reading: of a corrected block the positions that are changed, else nothing more
--   Counts      the five totals are how many of the blocks read as each
use Rattle.std.specs.Prelude.{◌≡◌, ◌≢◌, List, ℕ, Ok, Err, length, replicate}
use Rattle.std.specs.declared.result.Result.{Result}
use Rattle.answer.specs.Answer.{Answer, refusal_number}
use Rattle.answer.specs.Said.{Says}
use Rattle.answer.specs.declared.Refusal.{Refusal}
use Rattle.answer.specs.declared.Totals.{Totals}
use Rattle.code.specs.Block.{OneMember, Stored, differing}
use Rattle.code.specs.Labels.{built_in}
use Rattle.marks.specs.declared.Marks.{Marks}
use Rattle.reading.specs.Reading.{Reading}
use Rattle.reading.specs.Said.{ReadsAs, ReadingSays}
use Rattle.window.specs.Window.{added}
use Rattle.bank.specs.Calls.{blocks, block, with_block, clear_cause, put_cause, get_cause, patrol_cause, report_cause, EachReads, how_many}

abbrev pub ClearSays : List ℕ → Result (Unit {0}) Refusal → List ℕ → Type 0
ClearSays bank r bank' = Says (clear_cause (length bank)) (bank' ≡ bank) (bank' ≡ replicate (length bank) 0) r

-- block k becomes the only lawful block that begins with the record
abbrev pub PutSays : List ℕ → ℕ → List ℕ → Result (Unit {0}) Refusal → List ℕ → Type 0
PutSays bank k rec r bank' =
    Says (put_cause (length bank) k (length rec)) (bank' ≡ bank) ((x : List ℕ) × OneMember (Stored built_in rec) x × (bank' ≡ with_block bank k x)) r

abbrev pub Adds : List ℕ → Reading → List ℕ → List ℕ → List ℕ → Type 0
Adds w (Ok kind) b x w' = w' ≡ added w (differing b x)
Adds w (Err f) b x w' = w' ≡ w

pub record GetSays (bank : List ℕ) (k : ℕ) (m : Marks) (out w : List ℕ) (r : Reading) (out' w' : List ℕ) : Type 0 where
  pub output : ReadingSays (get_cause (length bank) k m (length out)) (out' ≡ out) (ReadsAs m (block bank k) out r out') r
  pub window : Adds w r (block bank k) out' w'

pub record PatrolSays (bank : List ℕ) (k : ℕ) (m : Marks) (w : List ℕ) (r : Reading) (bank' w' : List ℕ) : Type 0 where
  pub mended : ReadingSays (patrol_cause (length bank) k m) (bank' ≡ bank)
      ((x : List ℕ) × ReadsAs m (block bank k) (block bank k) r x × (bank' ≡ with_block bank k x)) r
  pub window : Adds w r (block bank k) (block bank' k) w'

-- 0 clean, 1 chips, 2 card, 3 none, 4 several
pub record Counts (bank : List ℕ) (m : Marks) (t : Totals) : Type 0 where
  pub answers : ℕ → Answer
  pub reads : EachReads (block bank) (blocks bank) m answers
  pub clean : t.clean ≡ how_many answers (blocks bank) 0
  pub chips : t.chips ≡ how_many answers (blocks bank) 1
  pub card : t.card ≡ how_many answers (blocks bank) 2
  pub none : t.none ≡ how_many answers (blocks bank) 3
  pub several : t.several ≡ how_many answers (blocks bank) 4

abbrev pub ReportSays : List ℕ → Marks → Result Totals Refusal → Type 0
ReportSays bank m (Ok t) = (report_cause (length bank) m ≡ 0) × Counts bank m t
ReportSays bank m (Err r) = (report_cause (length bank) m ≢ 0) × (refusal_number r ≡ report_cause (length bank) m)
