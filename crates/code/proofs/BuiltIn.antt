-- The built-in labels: those that document 01 quotes, and its property of the 36 sums.
--
--   figures          the 45 labels in figures; in_figures: the labels are these
--   quoted           the seven labels that document 01 prints
--   figures_set, built_in_set   for every card the 36 sums are nonzero and all different
use mathlib.Core.Logic.{◌≢◌}
use mathlib.Core.Path.{◌≡◌, refl, sym, subst}
use mathlib.Core.Bool.{Bool, not}
use mathlib.Core.List.{List, [], ◌∷◌}
use Prim.Native.Nat.{ℕ, ◌/◌, ◌<◌}
use native.Mathlib.Decide.{dec_lt}
use native.Mathlib.Omega.{arith}
use lib.Dec.{T, T_not, eqb, eqb_refl, ltb, ltb→lt}
use borrow.Author.Tests.{ne_eqb}
use Rattle.field.specs.Field.{◌⊕◌, sum, polynomial_product, remainder, product, power}
use Rattle.base.proofs.Tests.{both, either, every, both_left, both_right, every_at}
use Rattle.code.specs.Block.{byte, position, block_of}
use Rattle.code.specs.Labels.{label, built_in, entry, LabelSet}

unfoldable pub figures : List ℕ
figures =
    1 ∷ 2 ∷ 4 ∷ 8 ∷ 16 ∷ 32 ∷ 64 ∷ 128 ∷ 29
    ∷ 152 ∷ 45 ∷ 90 ∷ 180 ∷ 117 ∷ 234 ∷ 201 ∷ 143 ∷ 3
    ∷ 78 ∷ 156 ∷ 37 ∷ 74 ∷ 148 ∷ 53 ∷ 106 ∷ 212 ∷ 181
    ∷ 10 ∷ 20 ∷ 40 ∷ 80 ∷ 160 ∷ 93 ∷ 186 ∷ 105 ∷ 210
    ∷ 153 ∷ 47 ∷ 94 ∷ 188 ∷ 101 ∷ 202 ∷ 137 ∷ 15 ∷ 30 ∷ []

pub in_figures : built_in ≡ figures
unfolding built_in block_of figures power product remainder polynomial_product sum ◌⊕◌
in_figures = refl

-- document 01: "The five labels of chip 0 are 1, 152, 78, 10, 153. Chip 8 of card 0 has 29 and chip 8 of card 1 has 3."
pub quoted : (label (position 0 0) ≡ 1) × (label (position 1 0) ≡ 152) × (label (position 2 0) ≡ 78) × (label (position 3 0) ≡ 10)
    × (label (position 4 0) ≡ 153) × (label (position 0 8) ≡ 29) × (label (position 1 8) ≡ 3)
unfolding power product remainder polynomial_product sum ◌⊕◌
quoted = (refl, refl, refl, refl, refl, refl, refl)

-- ---- the 36 sums of each card, by a test
-- position p's sum is not 0, and differs from the sums before it; the positions of card j are passed over
fresh : List ℕ → ℕ → ℕ → Bool
fresh ls j p =
    either (eqb (p / 9) j)
    (both (not (eqb (entry ls j p) 0)) (every (λ q. either (eqb (q / 9) j) (not (eqb (entry ls j q) (entry ls j p)))) p))

passes : T (every (λ j. every (λ p. fresh figures j p) 45) 5)
unfolding figures fresh ◌⊕◌
passes = tt

unless : (a b : ℕ) (x : Bool) → a ≢ b → T (either (eqb a b) x) → T x
unless a b x ne t = subst (λ (z : Bool). T (either z x)) (ne_eqb a b ne) t

differ : (a b : ℕ) → T (not (eqb a b)) → a ≢ b
differ a b t e = T_not (eqb a b) t (subst (λ (x : ℕ). T (eqb a x)) e (eqb_refl a))

module _ (ls : List ℕ) (ok : T (every (λ j. every (λ p. fresh ls j p) 45) 5)) (j : ℕ) (hj : j < 5) where
  abbrev later : ℕ → Bool
  later p = every (λ q. either (eqb (q / 9) j) (not (eqb (entry ls j q) (entry ls j p)))) p

  at_place : (p : ℕ) → p < 45 → p / 9 ≢ j → T (both (not (eqb (entry ls j p) 0)) (later p))
  unfolding fresh
  at_place p hp ne =
      unless (p / 9) j (both (not (eqb (entry ls j p) 0)) (later p)) ne
      (every_at (λ p. fresh ls j p) 45 (every_at (λ j. every (λ p. fresh ls j p) 45) 5 ok j hj) p hp)

  nonzero : (p : ℕ) → p < 45 → p / 9 ≢ j → entry ls j p ≢ 0
  nonzero p hp ne = differ (entry ls j p) 0 (both_left (not (eqb (entry ls j p) 0)) (later p) (at_place p hp ne))

  earlier : (q p : ℕ) → q < p → p < 45 → q / 9 ≢ j → p / 9 ≢ j → entry ls j q ≢ entry ls j p
  earlier q p l hp nq np =
      differ (entry ls j q) (entry ls j p)
      (unless (q / 9) j (not (eqb (entry ls j q) (entry ls j p))) nq
      (every_at (λ q. either (eqb (q / 9) j) (not (eqb (entry ls j q) (entry ls j p)))) p
      (both_right (not (eqb (entry ls j p) 0)) (later p) (at_place p hp np)) q l))

  different : (p q : ℕ) → p < 45 → q < 45 → p / 9 ≢ j → q / 9 ≢ j → p ≢ q → entry ls j p ≢ entry ls j q
  different p q hp hq np nq ne = pick (dec_lt p q)
    where
      pick : Dec (p < q) → entry ls j p ≢ entry ls j q
      pick (yes l) = earlier p q l hq np nq
      pick (no h) = λ e. earlier q p (omega arith) hp nq np (sym e)

figures_bytes : T (every (λ p. ltb (byte figures p) 256) 45)
unfolding figures
figures_bytes = tt

pub figures_set : LabelSet figures
unfolding figures
figures_set = record {
  bytes = record { long = refl; bytes = λ p l. ltb→lt (byte figures p) 256 (every_at (λ p. ltb (byte figures p) 256) 45 figures_bytes p l) };
  separated = record { nonzero = λ j p hj. nonzero figures passes j hj p; different = λ j p q hj. different figures passes j hj p q };
}

pub built_in_set : LabelSet built_in
built_in_set = subst LabelSet (sym in_figures) figures_set
