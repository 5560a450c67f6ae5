-- Order 6: the card that is named with 11.
--
--   ReadsAny         the rule as it was: any card may be named by which a lawful block is reached
--   StillAllowed     what is read was allowed by that rule
--   Lowered          the same answer, or 11 with a card that is no higher
--   OnlyTheCard      what was allowed is read still, Lowered
--   NeverCard4       card 4 is never named
--   AllOrOne         with no marks and the built-in labels a lawful block is reached by one card at most, or by all five
--   UnmarkedNames0   so that card 0 is named then
use Rattle.std.specs.Prelude.{◌≡◌, ◌⊎◌, ◌≢◌, List, [], ℕ, ◌≤◌, ◌<◌}
use Rattle.base.specs.Base.{Few}
use Rattle.answer.specs.Answer.{Answer, refused_card}
use Rattle.code.specs.Block.{Block}
use Rattle.code.specs.Labels.{built_in, LabelSet}
use Rattle.code.specs.Reach.{rules}
use Rattle.marks.specs.Marks.{CardInRange}
use Rattle.std.specs.declared.option.Option.{Option}
use Rattle.std.specs.Prelude.{None}
use Rattle.reading.specs.Allowed.{OfChipKind}
use Rattle.reading.specs.Reading.{S, Reaches, ReadsBy, Reads}

-- ---- the rule as it was: "one card whose card-kind change reaches a lawful block"
abbrev pub ReadsAny : List ℕ → Option ℕ → List ℕ → List ℕ → List ℕ → Answer → List ℕ → Type 0
ReadsAny labels c ps b out a out' = ReadsBy (S labels c ps b) (OfChipKind c ps b) (Reaches labels ps b) c ps b out a out'

abbrev pub StillAllowed : Type 0
StillAllowed = (ls : List ℕ) (c : Option ℕ) (ps b out : List ℕ) (a : Answer) (out' : List ℕ) → Reads ls c ps b out a out' → ReadsAny ls c ps b out a out'

abbrev pub Lowered : Answer → Answer → Type 0
Lowered a a' = (a' ≡ a) ⊎ ((i : ℕ) × (j : ℕ) × (a ≡ refused_card 11 i) × (a' ≡ refused_card 11 j) × (j ≤ i))

abbrev pub OnlyTheCard : Type 0
OnlyTheCard = (ls : List ℕ) → LabelSet ls → (c : Option ℕ) (ps : List ℕ) → Few rules ps → (b : List ℕ) → Block b → (out : List ℕ) (a : Answer) (out' : List ℕ)
    → ReadsAny ls c ps b out a out' → (a' : Answer) × Lowered a a' × Reads ls c ps b out a' out'

-- ---- which card it can be
-- two cards reach a block at least
abbrev pub NeverCard4 : Type 0
NeverCard4 = (ls : List ℕ) → LabelSet ls → (c : Option ℕ) → CardInRange c → (ps : List ℕ) → Few rules ps → (b out : List ℕ) (n j : ℕ) (out' : List ℕ)
    → Reads ls c ps b out (refused_card n j) out' → j < 4

abbrev pub AllOrOne : Type 0
AllOrOne = (b : List ℕ) → Block b → (i j : ℕ) → i ≢ j → Reaches built_in [] b i → Reaches built_in [] b j → (k : ℕ) → k < 5 → Reaches built_in [] b k

abbrev pub UnmarkedNames0 : Type 0
UnmarkedNames0 = (b : List ℕ) → Block b → (out : List ℕ) (n j : ℕ) (out' : List ℕ) → Reads built_in None [] b out (refused_card n j) out' → j ≡ 0
