-- Order 11: two bad chips, no marks.
--
--   TwoBad b x p q   b is x changed in exactly two chips, p and q
--   InOrder          of p below q: exactly where `differing` lists p and then q
--   CountedTwo       of some p and q: exactly where `changes` counts two bytes
--   CanBeBad         any two chips of any block can be so changed, to any other values
--   WithinReach      of a lawful block so changed, with no marks, S has no other member than that block; and that one exactly where both chips
--                    are on one card
--   TwoSay           what is then said, and held by the output
--   TwoBadRead       the reading of such a block with no marks is this, and nothing else; for every label set with 01's property
--   TwoBadBuiltIn    the same of the built-in labels, under the mark record that has no marks; NoMarks: that one is the fresh one
use Rattle.std.specs.Prelude.{◌≡◌, ◌⊎◌, ◌≢◌, ◌↔◌, List, [], ◌∷◌, ℕ, ◌/◌, ◌<◌, set}
use Rattle.base.specs.Base.{In}
use Rattle.answer.specs.Answer.{Answer, in_card, refused}
use Rattle.code.specs.Block.{byte, Block, Lawful, DifferOnly, changes, differing}
use Rattle.code.specs.Labels.{built_in, LabelSet}
use Rattle.marks.specs.Marks.{LawfulMarks, fresh_marks, marked_chips}
use Rattle.std.specs.Prelude.{None}
use Rattle.marks.specs.declared.Marks.{Marks}
use Rattle.reading.specs.Reading.{S, Reads, ReadsUnder}

-- "changed in exactly two chips": two different positions, both bytes changed, and no other
pub record TwoBad (b x : List ℕ) (p q : ℕ) : Type 0 where
  pub positions : (p < 45) × (q < 45)
  pub different : p ≢ q
  pub changed : (byte b p ≢ byte x p) × (byte b q ≢ byte x q)
  pub others : DifferOnly (λ r. In r (p ∷ q ∷ [])) b x

-- ---- that is so, and only so, where two bytes are changed
abbrev pub InOrder : Type 0
InOrder = (b x : List ℕ) (p q : ℕ) → (differing b x ≡ p ∷ q ∷ []) ↔ (TwoBad b x p q × (p < q))

abbrev pub CountedTwo : Type 0
CountedTwo = (b x : List ℕ) → (changes b x ≡ 2) ↔ ((p : ℕ) × (q : ℕ) × TwoBad b x p q)

abbrev pub CanBeBad : Type 0
CanBeBad = (x : List ℕ) → Block x → (p q v w : ℕ) → p < 45 → q < 45 → p ≢ q → v < 256 → w < 256 → byte x p ≢ v → byte x q ≢ w
    → TwoBad (set (set x p v) q w) x p q × Block (set (set x p v) q w)

-- ---- what is read, x being the lawful block
-- "if both chips are on one card, the reading is that card with n = 2 and the lawful block; if on two cards, it is always "none"", and the
-- output is as before
abbrev pub TwoSay : ℕ → ℕ → List ℕ → List ℕ → Answer → List ℕ → Type 0
TwoSay p q x out a out' = ((p / 9 ≡ q / 9) × (a ≡ in_card (p / 9) 2) × (out' ≡ x)) ⊎ ((p / 9 ≢ q / 9) × (a ≡ refused 10) × (out' ≡ out))

-- "For no such damage may another record come out."
abbrev pub WithinReach : Type 0
WithinReach = (ls : List ℕ) → LabelSet ls → (x : List ℕ) → Block x → Lawful ls x → (b : List ℕ) (p q : ℕ) → TwoBad b x p q
    → (y : List ℕ) → S ls None [] b y ↔ ((y ≡ x) × (p / 9 ≡ q / 9))

-- THE STATEMENT
abbrev pub TwoBadRead : Type 0
TwoBadRead = (ls : List ℕ) → LabelSet ls → (x : List ℕ) → Block x → Lawful ls x → (b : List ℕ) (p q : ℕ) → TwoBad b x p q
    → (out : List ℕ) (a : Answer) (out' : List ℕ) → Reads ls None [] b out a out' ↔ TwoSay p q x out a out'

-- ---- in the contracts of the calls
abbrev pub NoMarks : Type 0
NoMarks = (m : Marks) → LawfulMarks m → ((m.card ≡ None) × (marked_chips m ≡ [])) ↔ (m ≡ fresh_marks)

abbrev pub TwoBadBuiltIn : Type 0
TwoBadBuiltIn = (x : List ℕ) → Block x → Lawful built_in x → (b : List ℕ) (p q : ℕ) → TwoBad b x p q
    → (out : List ℕ) (a : Answer) (out' : List ℕ) → ReadsUnder fresh_marks b out a out' ↔ TwoSay p q x out a out'
