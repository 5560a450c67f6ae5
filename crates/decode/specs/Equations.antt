-- Beside one card: what is known of a block there, and the change that reaches a lawful one.
--
--   KnownAt         z are the nine rows of the block b, t₁ and t₂ the sums of card j's reduced matrix
--   fits_by         whether such sums are those of a change of the chips qs, at most two, off card j
--   rows_only       card j takes the rows, and no further chip is changed
--   Within          d changes card j and chips of qs only
--   Solves          d reaches a lawful block, from every block with these rows and sums
--   chips_off       the chips of OffCard
--   Further         a chip that is found by its entry in card j's reduced matrix, or none
use Rattle.std.specs.Prelude.{◌≡◌, Bool, true, ◌&&◌, ◌⊎◌, ◌≢◌, List, [], ◌∷◌, ℕ, ◌/◌, ◌<◌, eqb, get_or, Option, Some, None}
use Rattle.base.specs.Base.{In}
use Rattle.field.specs.Field.{◌·◌, sum}
use Rattle.code.specs.Block.{byte, position, Block}
use Rattle.code.specs.Labels.{entry, LabelSet}
use Rattle.code.specs.Reach.{Reached}
use Rattle.sums.specs.Sums.{ReducedSums}
use Rattle.change.specs.Change.{applied}
use Rattle.change.specs.declared.Change.{Change}
use Rattle.decode.specs.declared.chips.OffCard.{OffCard}
use Rattle.decode.specs.declared.chips.OffCard.TheVariants.{Zero, One, Two}

pub record KnownAt (labels b z : List ℕ) (j t₁ t₂ : ℕ) : Type 0 where
  pub set : LabelSet labels
  pub block : Block b
  pub rows : (i : ℕ) → i < 9 → get_or z i 0 ≡ sum 5 (λ k. byte b (position k i))
  pub sums : ReducedSums labels b j t₁ t₂

-- no chip: both sums are 0; one: they are a multiple of its column; two columns are independent, so that there is always a solution
unfoldable pub fits_by : List ℕ → ℕ → List ℕ → ℕ → ℕ → Bool
fits_by labels j [] t₁ t₂ = eqb t₁ 0 && eqb t₂ 0
fits_by labels j (p ∷ []) t₁ t₂ = eqb t₂ (entry labels j p · t₁)
fits_by labels j (p ∷ q ∷ qs) t₁ t₂ = true

abbrev pub rows_only : List ℕ → ℕ → Change
rows_only z j = record { card = j; rows = z; p = 0; e = 0; q = 0; f = 0 }

pub record Within (j : ℕ) (qs : List ℕ) (d : Change) : Type 0 where
  pub card : d.card ≡ j
  pub first : (d.e ≡ 0) ⊎ In d.p qs
  pub second : (d.f ≡ 0) ⊎ (In d.q qs × (d.q ≢ d.p))

pub record Solves (labels z : List ℕ) (j : ℕ) (qs : List ℕ) (t₁ t₂ : ℕ) (d : Change) : Type 0 where
  pub within : Within j qs d
  pub reached : (b : List ℕ) → KnownAt labels b z j t₁ t₂ → Reached labels j qs b (applied b d)

abbrev pub chips_off : OffCard → List ℕ
chips_off Zero = []
chips_off (One p) = p ∷ []
chips_off (Two p q) = p ∷ q ∷ []

-- ---- a chip by its entry
-- a chip off card j whose column the sums are a multiple of
abbrev pub Further : List ℕ → ℕ → ℕ → ℕ → Option ℕ → Type 0
Further labels j t₁ t₂ (Some p) = (p < 45) × (p / 9 ≢ j) × (t₂ ≡ entry labels j p · t₁)
Further labels j t₁ t₂ None = (i : ℕ) → i < 45 → i / 9 ≢ j → t₂ ≢ entry labels j i · t₁
