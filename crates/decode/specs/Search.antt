-- The search over cards: what has been looked at, and how what is found is told.
--
--   Known         s holds the sums of the block b
--   SumsAt        t₁ and t₂ are the sums of card j's reduced matrix
--   Alone         whether card j alone reaches a lawful block, and that the change of its rows does
--   stray, strays the rows of a change's card that it changes, and whose chips are not among ps
--   Looked        what is known once the cards below j have been looked at: none or one of them reaches a block; LookedTwice: two do
--   Held          the same for every block with these sums, with the change of the one card that reaches one
--   chips_kind    the kind of a chip-kind change of n bytes; card-kind: of a change beside a marked card, own being its bytes on that card
use Rattle.std.specs.Prelude.{◌≡◌, Bool, true, false, ◌&&◌, not, List, [], ℕ, zero, suc, ◌+◌, ◌*◌, ◌<◌, Option, Some, None}
use Rattle.base.specs.Base.{is_in, tally}
use Rattle.code.specs.Block.{Block, TwoMembers}
use Rattle.code.specs.Reach.{keep, Reached}
use Rattle.std.specs.Prelude.{None}
use Rattle.sums.specs.Sums.{rows_of, IsSums, ReducedSums}
use Rattle.sums.specs.declared.Sums.{Sums}
use Rattle.change.specs.Change.{applied, nonzero_at}
use Rattle.change.specs.declared.Change.{Change}
use Rattle.reading.specs.Allowed.{ChipKind}
use Rattle.reading.specs.Reading.{S, LowestReaching}
use Rattle.reading.specs.declared.Kind.{Kind}
use Rattle.reading.specs.declared.Kind.TheVariants.{Clean, Chips, OneCard}
use Rattle.decode.specs.Equations.{fits_by, rows_only, Solves}

pub record Known (labels b : List ℕ) (s : Sums) : Type 0 where
  pub block : Block b
  pub sums : IsSums labels b s

-- t₁ and t₂ are the sums of card j's reduced matrix, for every block with these sums
abbrev pub SumsAt : List ℕ → Sums → ℕ → ℕ → ℕ → Type 0
SumsAt labels s j t₁ t₂ = (b : List ℕ) → Known labels b s → ReducedSums labels b j t₁ t₂

pub record Alone (labels : List ℕ) (s : Sums) (j : ℕ) (t : Bool) : Type 0 where
  pub found : t ≡ true → (b : List ℕ) → Known labels b s → Reached labels j [] b (applied b (rows_only (rows_of s) j))
  pub none : t ≡ false → (b : List ℕ) → Known labels b s → (x : List ℕ) → Reached labels j [] b x → ⊥

-- ---- the kind
unfoldable pub stray : Change → List ℕ → ℕ → Bool
stray d ps i = nonzero_at d.rows i && not (is_in (9 * d.card + i) ps)

abbrev pub strays : Change → List ℕ → ℕ
strays d ps = tally 9 (stray d ps)

abbrev pub chips_kind : ℕ → Kind
chips_kind zero = Clean
chips_kind (suc n) = Chips (suc n)

abbrev pub card_kind : ℕ → ℕ → ℕ → Kind
card_kind j zero n = chips_kind n
card_kind j (suc own) n = OneCard j n

-- ---- the cards below j
abbrev pub NoneBut : List ℕ → List ℕ → List ℕ → ℕ → (ℕ → Type 0) → Type 0
NoneBut labels ps b j P = (i : ℕ) → i < j → (P i → ⊥) → (x : List ℕ) → Reached labels i ps b x → ⊥

-- none of them reaches a block; or one does, not of the chip kind
abbrev pub Looked : List ℕ → List ℕ → List ℕ → ℕ → Option ℕ → Type 0
Looked labels ps b j None = NoneBut labels ps b j (λ i. ⊥)
Looked labels ps b j (Some card) =
    (card < j) × ((x : List ℕ) × Reached labels card ps b x × (ChipKind ps b x → ⊥)) × NoneBut labels ps b j (λ i. i ≡ card)

-- two cards do, and this is the lowest
abbrev pub LookedTwice : List ℕ → List ℕ → List ℕ → ℕ → Type 0
LookedTwice labels ps b card = TwoMembers (S labels None ps b) × LowestReaching labels ps b card

-- the change by which one does solves for the chips off its card
abbrev pub Held : List ℕ → Sums → List ℕ → ℕ → Option Change → Type 0
Held labels s ps j None = (b : List ℕ) → Known labels b s → Looked labels ps b j None
Held labels s ps j (Some d) =
    (d.card < 5)
    × ((b : List ℕ) → Known labels b s → Looked labels ps b j (Some d.card))
    × ((t₁ : ℕ) × (t₂ : ℕ) × SumsAt labels s d.card t₁ t₂ × (fits_by labels d.card (keep d.card ps) t₁ t₂ ≡ true)
    × Solves labels (rows_of s) d.card (keep d.card ps) t₁ t₂ d)
