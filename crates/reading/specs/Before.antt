-- Order 5: the rule as it was, beside the rule as it is. u counted every marked chip, those on a marked card too. The card with 11 is order 6's
-- in both: order 6's own rule before it is in Named.antt.
--
--   u_before, AllowedBefore, OfChipKindBefore   the table of 01 before the order
--   SBefore, ReadsBefore     the set S and what a reading said by that table
--   OnlyGrows                every member of S is a member still
--   OneStays                 the one member is the one member still
--   NeverSeveral             under a card mark S had at most one member, and has
--   CorrectedStill           what was corrected is corrected still: the same block, kind and n; all but "none" is said still
--   SameWithoutCard          with no card marked nothing changes; SameBesideCard: nor where no marked chip is on the marked card
use Rattle.std.specs.Prelude.{◌⊎◌, ◌≢◌, ◌↔◌, List, ℕ, ◌<◌, length}
use Rattle.base.specs.Base.{Few}
use Rattle.answer.specs.Answer.{Answer, number}
use Rattle.code.specs.Block.{OneMember, TwoMembers}
use Rattle.code.specs.Labels.{LabelSet}
use Rattle.code.specs.Reach.{rules, Off}
use Rattle.marks.specs.Marks.{CardInRange}
use Rattle.std.specs.declared.option.Option.{Option}
use Rattle.std.specs.Prelude.{None, Some}
use Rattle.reading.specs.Allowed.{further, further_beside, ChipsUpTo, CardKind, BesideUpTo, CardChanged}
use Rattle.reading.specs.Reading.{LawfulIn, S, LowestReaching, ReadsBy, Reads}

-- ---- the rule as it was
-- "Let u be the count of chip marks."
abbrev pub u_before : Option ℕ → List ℕ → ℕ
u_before c ps = length ps

abbrev pub AllowedBefore : Option ℕ → List ℕ → List ℕ → List ℕ → Type 0
AllowedBefore None ps b x = ChipsUpTo (further (u_before None ps)) ps b x ⊎ ((j : ℕ) × (j < 5) × CardKind j ps b x)
AllowedBefore (Some j) ps b x = BesideUpTo (further_beside (u_before (Some j) ps)) j ps b x

abbrev pub OfChipKindBefore : Option ℕ → List ℕ → List ℕ → List ℕ → Type 0
OfChipKindBefore None ps b x = ChipsUpTo (further (u_before None ps)) ps b x
OfChipKindBefore (Some j) ps b x = AllowedBefore (Some j) ps b x × (CardChanged j b x → ⊥)

abbrev pub SBefore : List ℕ → Option ℕ → List ℕ → List ℕ → List ℕ → Type 0
SBefore labels c ps b x = LawfulIn labels (AllowedBefore c ps b) x

abbrev pub ReadsBefore : List ℕ → Option ℕ → List ℕ → List ℕ → List ℕ → Answer → List ℕ → Type 0
ReadsBefore labels c ps b out a out' = ReadsBy (SBefore labels c ps b) (OfChipKindBefore c ps b) (LowestReaching labels ps b) c ps b out a out'

-- ---- the two rules; where it is needed, for labels with 01's property, a card mark in range and at most two marked chips
abbrev pub OnlyGrows : Type 0
OnlyGrows = (ls : List ℕ) (c : Option ℕ) (ps b x : List ℕ) → SBefore ls c ps b x → S ls c ps b x

abbrev pub OneStays : Type 0
OneStays = (ls : List ℕ) → LabelSet ls → (c : Option ℕ) → CardInRange c → (ps : List ℕ) → Few rules ps → (b x : List ℕ)
    → OneMember (SBefore ls c ps b) x → OneMember (S ls c ps b) x

abbrev pub NeverSeveral : Type 0
NeverSeveral = (ls : List ℕ) → LabelSet ls → (j : ℕ) → j < 5 → (ps : List ℕ) → Few rules ps → (b : List ℕ)
    → (TwoMembers (SBefore ls (Some j) ps b) → ⊥) × (TwoMembers (S ls (Some j) ps b) → ⊥)

-- the same answer, with its kind, card and n, and the same output; of "several" too, with no card marked
abbrev pub CorrectedStill : Type 0
CorrectedStill = (ls : List ℕ) → LabelSet ls → (c : Option ℕ) → CardInRange c → (ps : List ℕ) → Few rules ps → (b out : List ℕ) (a : Answer) (out' : List ℕ)
    → number a ≢ 10 → ReadsBefore ls c ps b out a out' → Reads ls c ps b out a out'

abbrev pub SameWithoutCard : Type 0
SameWithoutCard = (ls ps b out : List ℕ) (a : Answer) (out' : List ℕ) → ReadsBefore ls None ps b out a out' ↔ Reads ls None ps b out a out'

abbrev pub SameBesideCard : Type 0
SameBesideCard = (ls : List ℕ) (j : ℕ) (ps : List ℕ) → Off j ps → (b out : List ℕ) (a : Answer) (out' : List ℕ)
    → ReadsBefore ls (Some j) ps b out a out' ↔ Reads ls (Some j) ps b out a out'
