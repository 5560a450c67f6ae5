-- The changes that the marks allow. Document 01, "Allowed changes", with u as order 5 counts it.
--
--   u                         how many chip marks count
--   further, further_beside   how many further chips, by u: with no card marked, with one
--   ChipsUpTo, BesideUpTo     any change in marked chips, or in card j and in marked chips, and in at most n further chips
--   ChipKind, CardKind, BesideKind   the table's three rows, ps being the marked chips
--   Allowed c ps b x          the table: the allowed difference between the block read, b, and a lawful block, x
--   OfChipKind c ps b x       01's "chip kind" under any marks
--
-- Marks come as the card mark c and the list ps of marked chips.
use Rattle.std.specs.Prelude.{◌≡◌, ◌⊎◌, ◌≢◌, List, ℕ, zero, suc, ◌/◌, ◌≤◌, ◌<◌, length}
use Rattle.base.specs.Base.{In}
use Rattle.code.specs.Block.{byte, DifferOnly}
use Rattle.code.specs.Reach.{keep}
use Rattle.std.specs.declared.option.Option.{Option}
use Rattle.std.specs.Prelude.{None, Some}

-- "Let u be the count of chip marks." Order 5: "u, under a card mark, counts only the chip marks outside the marked card."
abbrev pub u : Option ℕ → List ℕ → ℕ
u None ps = length ps
u (Some j) ps = length (keep j ps)

-- "at most one further chip if u is 0 or 1, none further if u is 2"
abbrev pub further : ℕ → ℕ
further zero = 1
further (suc zero) = 1
further (suc (suc n)) = 0

-- "and in one further chip if u is 0"
abbrev pub further_beside : ℕ → ℕ
further_beside zero = 1
further_beside (suc n) = 0

abbrev pub ChipsUpTo : ℕ → List ℕ → List ℕ → List ℕ → Type 0
ChipsUpTo n ps b x = (fs : List ℕ) × (length fs ≤ n) × DifferOnly (λ p. In p ps ⊎ In p fs) b x

abbrev pub BesideUpTo : ℕ → ℕ → List ℕ → List ℕ → List ℕ → Type 0
BesideUpTo n j ps b x = (fs : List ℕ) × (length fs ≤ n) × DifferOnly (λ p. (p / 9 ≡ j) ⊎ (In p ps ⊎ In p fs)) b x

-- "chip kind: any change in marked chips, and in at most one further chip if u is 0 or 1, none further if u is 2"
abbrev pub ChipKind : List ℕ → List ℕ → List ℕ → Type 0
ChipKind ps b x = ChipsUpTo (further (u None ps)) ps b x

-- "card kind: any change in one card, whichever it is, and in marked chips"
abbrev pub CardKind : ℕ → List ℕ → List ℕ → List ℕ → Type 0
CardKind j ps b x = DifferOnly (λ p. (p / 9 ≡ j) ⊎ In p ps) b x

-- "any change in card j and in marked chips, and in one further chip if u is 0"
abbrev pub BesideKind : ℕ → List ℕ → List ℕ → List ℕ → Type 0
BesideKind j ps b x = BesideUpTo (further_beside (u (Some j) ps)) j ps b x

abbrev pub Allowed : Option ℕ → List ℕ → List ℕ → List ℕ → Type 0
Allowed None ps b x = ChipKind ps b x ⊎ ((j : ℕ) × (j < 5) × CardKind j ps b x)
Allowed (Some j) ps b x = BesideKind j ps b x

-- a byte of card j is changed
abbrev pub CardChanged : ℕ → List ℕ → List ℕ → Type 0
CardChanged j b x = (p : ℕ) × (p < 45) × (p / 9 ≡ j) × (byte b p ≢ byte x p)

-- "Under a card mark the chip kind is every allowed change that touches no byte of card j."
abbrev pub OfChipKind : Option ℕ → List ℕ → List ℕ → List ℕ → Type 0
OfChipKind None ps b x = ChipKind ps b x
OfChipKind (Some j) ps b x = BesideKind j ps b x × (CardChanged j b x → ⊥)
