-- What the check of a mark record returns, in plain words: none of these cites the definition of the answer that it stands for.
--
--   InRange          every field within its range: lawful, but for two chip marks that may be equal
--   EqualChips       two chip marks, and both the same
--   CheckSays m r    ok exactly when the record is lawful, else which refusal, each exactly when
-- A call on a record says `Says` of crate answer.
use Rattle.std.specs.Prelude.{◌≤◌, ◌<◌, ◌≡◌, ◌⊎◌, ◌↔◌, Ok, Err}
use Rattle.std.specs.declared.result.Result.{Result}
use Rattle.answer.specs.declared.Refusal.{Refusal}
use Rattle.answer.specs.declared.Refusal.TheVariants.{MarkRange, EqualMarks}
use Rattle.marks.specs.Marks.{CardInRange, LawfulMarks}
use Rattle.marks.specs.declared.Marks.{Marks}

pub record InRange (m : Marks) : Type 0 where
  pub card : CardInRange m.card
  pub count : m.count ≤ 2
  pub first : ((1 ≤ m.count) × (m.first < 45)) ⊎ ((m.count ≡ 0) × (m.first ≡ 255))
  pub second : ((m.count ≡ 2) × (m.second < 45)) ⊎ ((m.count < 2) × (m.second ≡ 255))

abbrev pub EqualChips : Marks → Type 0
EqualChips m = (m.count ≡ 2) × (m.first ≡ m.second)

pub record CheckSays (m : Marks) (r : Result (Unit {0}) Refusal) : Type 0 where
  pub lawful : (r ≡ Ok tt) ↔ LawfulMarks m
  pub outside : (r ≡ Err MarkRange) ↔ (InRange m → ⊥)
  pub equal : (r ≡ Err EqualMarks) ↔ (InRange m × EqualChips m)
