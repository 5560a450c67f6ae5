-- What storing does, for any record and any output. Demand 2, first sentence, and demand 1.
--
--   store_cause    why a call is refused: 2, the output is not 45 bytes; 3, the record is not 34
--   StoreAccepted  exactly when it is not
--   StoreDone      what the call answers, and the record and the output after it
use Rattle.std.specs.Prelude.{ℕ, ◌≡◌, ◌↔◌, not, List, [], ◌∷◌, eqb, length}
use Rattle.answer.specs.Answer.{Answer, done, By}
use Rattle.answer.specs.Cause.{cause, lowest}
use Rattle.code.specs.Block.{OneMember, Stored}
use Rattle.code.specs.Labels.{built_in}

unfoldable pub store_cause : List ℕ → List ℕ → ℕ
store_cause rec out = lowest (cause 2 (not (eqb (length out) 45)) ∷ cause 3 (not (eqb (length rec) 34)) ∷ [])

-- in plain words: it is not refused exactly when both lengths are right
abbrev pub StoreAccepted : Type 0
StoreAccepted = (rec out : List ℕ) → (store_cause rec out ≡ 0) ↔ ((length out ≡ 45) × (length rec ≡ 34))

-- the output becomes the only lawful block that begins with the record
pub record StoreDone (rec out : List ℕ) (a : Answer) (rec' out' : List ℕ) : Type 0 where
  pub record_kept : rec' ≡ rec
  pub by_cause : By (store_cause rec out) a (out' ≡ out) ((a ≡ done) × OneMember (Stored built_in rec) out')
