-- The store's factors are those that the printed tables give.
--
--   label_at    place p of the labels is the label of position p
--   scaled      every number that is 1 / (d · e · (d + e)), by products, takes a value where the one by the printed tables does
--   factor_at   the four factors
--   every_shift the statement on shifts
use mathlib.Core.Logic.{◌≢◌}
use mathlib.Core.Path.{◌≡◌, refl, sym, ap, ap₂, ◌∙◌}
use mathlib.Core.List.{List, [], ◌∷◌}
use Prim.Native.Nat.{ℕ, zero, suc, ◌%◌, ◌<◌}
use native.Mathlib.Nat.{mod-lt}
use native.Mathlib.Omega.{arith}
use lib.Dec.{lit<}
use Rattle.field.specs.Field.{◌⊕◌, ◌·◌, power}
use Rattle.field.proofs.Xor.{add_lt, eq_of_sum}
use Rattle.field.proofs.Gf256.{field}
use Rattle.field.proofs.Powers.{power_below}
use Rattle.field.proofs.IsField.{IsField}
use Rattle.field.proofs.Ring.{ring}
use Rattle.code.specs.Block.{byte}
use Rattle.code.specs.Labels.{label, built_in}
use Rattle.code.proofs.Blocks.{block_of_at}
use Rattle.code.proofs.BuiltIn.{built_in_set}
use Rattle.pairs.specs.Words.{paired}
use Rattle.store.specs.Factors as factors_of
use Rattle.store.specs.Factors.{Factors}
use Rattle.store.proofs.Solved.{built_in_factors}
use Rattle.sheet.specs.ByTables.{logs_product, logs_inverse}
use Rattle.sheet.proofs.Logs.{all_nonzero}
use Rattle.sheet.proofs.ByTables.{logs_multiply, logs_invert}
use Rattle.constants.specs.EveryShift.{worked_D, worked_E, worked_T, worked_factors, EveryShift}

pub label_at : (p : ℕ) → p < 45 → byte built_in p ≡ label p
unfolding built_in
label_at p h = block_of_at label p h

-- values that have an inverse: what is taken by `logs_product` and `logs_inverse` is one again
abbrev Nonzero : ℕ → Type 0
Nonzero a = (0 < a) × (a < 256)

printed : (n : ℕ) → Nonzero (power 2 (n % 255))
printed n = all_nonzero.nonzero (n % 255) (mod-lt n (lit< tt))

-- (sorting wants the product as a variable, not as an abbreviation)
module _ (◌∗◌ : ℕ → ℕ → ℕ) (F : IsField 8 ◌∗◌) (x t s y : ℕ) where
  infixl 70 ◌∗◌
  exchange : (x ∗ t) ∗ (s ∗ y) ≡ (s ∗ x) ∗ (t ∗ y)
  exchange = simp (ring, F)

module _ (d e : ℕ) (hd : Nonzero d) (he : Nonzero e) (hs : Nonzero (d ⊕ e)) where
  abbrev t : ℕ
  t = logs_inverse (logs_product (logs_product d e) (d ⊕ e))

  product_is : logs_product (logs_product d e) (d ⊕ e) ≡ (d · e) · (d ⊕ e)
  product_is =
      logs_multiply (logs_product d e) (d ⊕ e) (printed _).0 (printed _).1 hs.0 hs.1
      ∙ ap (λ (x : ℕ). x · (d ⊕ e)) (logs_multiply d e hd.0 hd.1 he.0 he.1)

  t_inverse : ((d · e) · (d ⊕ e)) · t ≡ 1
  t_inverse = ap (λ (x : ℕ). x · t) (sym product_is) ∙ logs_invert (logs_product (logs_product d e) (d ⊕ e)) (printed _).0 (printed _).1

  -- any number that is 1 / (d · e · (d + e)), times a nonzero value
  scaled : (s y z : ℕ) → s · ((d · e) · (d ⊕ e)) ≡ 1 → Nonzero z → z ≡ y → s · y ≡ logs_product t z
  scaled s y z one hz is =
      sym (field.one (s · y) (field.below s y)) ∙ ap (λ (x : ℕ). x · (s · y)) (sym t_inverse)
      ∙ exchange ◌·◌ field ((d · e) · (d ⊕ e)) t s y ∙ ap (λ (x : ℕ). x · (t · y)) one ∙ field.one (t · y) (field.below t y)
      ∙ sym (logs_multiply t z (printed _).0 (printed _).1 hz.0 hz.1 ∙ ap (λ (x : ℕ). t · x) is)

D_is : factors_of.D built_in ≡ worked_D
D_is = ap₂ (λ (x y : ℕ). x ⊕ y) (label_at 34 (omega arith)) (label_at 43 (omega arith))

E_is : factors_of.E built_in ≡ worked_E
E_is = ap₂ (λ (x y : ℕ). x ⊕ y) (label_at 35 (omega arith)) (label_at 44 (omega arith))

positive : (a : ℕ) → a ≢ 0 → 0 < a
positive a n = omega (arith, n)

D_nonzero : Nonzero worked_D
D_nonzero = (
  positive worked_D (λ z. built_in_set.separated.nonzero 4 34 (omega arith) (omega arith) (λ e. omega arith) (D_is ∙ z)),
  add_lt 8 (label 34) (label 43) (power_below _) (power_below _),
)

E_nonzero : Nonzero worked_E
E_nonzero = (
  positive worked_E (λ z. built_in_set.separated.nonzero 4 35 (omega arith) (omega arith) (λ e. omega arith) (E_is ∙ z)),
  add_lt 8 (label 35) (label 44) (power_below _) (power_below _),
)

sum_nonzero : Nonzero (worked_D ⊕ worked_E)
sum_nonzero = (
  positive (worked_D ⊕ worked_E)
      (λ z. built_in_set.separated.different 4 34 35 (omega arith) (omega arith) (omega arith) (λ e. omega arith) (λ e. omega arith) (λ e. omega arith)
      (D_is ∙ eq_of_sum worked_D worked_E z ∙ sym E_is)),
  add_lt 8 worked_D worked_E D_nonzero.1 E_nonzero.1,
)

square : (a : ℕ) → Nonzero a → logs_product a a ≡ a · a
square a h = logs_multiply a a h.0 h.1 h.0 h.1

module _ (fs : List ℕ) (F : Factors built_in (byte fs 0) (byte fs 1) (byte fs 2) (byte fs 3)) where
  one_is : F.T · ((worked_D · worked_E) · (worked_D ⊕ worked_E)) ≡ 1
  one_is = ap₂ (λ (d e : ℕ). F.T · ((d · e) · (d ⊕ e))) (sym D_is) (sym E_is) ∙ F.one

  by_T : (y z : ℕ) → Nonzero z → z ≡ y → F.T · y ≡ logs_product worked_T z
  by_T y z hz is = scaled worked_D worked_E D_nonzero E_nonzero sum_nonzero F.T y z one_is hz is

  pub factor_at : (i : ℕ) → i < 4 → byte fs i ≡ byte worked_factors i
  factor_at zero l =
      F.f_is ∙ ap (λ (e : ℕ). F.T · (e · e)) E_is ∙ by_T (worked_E · worked_E) (logs_product worked_E worked_E) (printed _) (square worked_E E_nonzero)
  factor_at (suc zero) l = F.g_is ∙ ap (λ (e : ℕ). F.T · e) E_is ∙ by_T worked_E worked_E E_nonzero refl
  factor_at (suc (suc zero)) l =
      F.h_is ∙ ap (λ (d : ℕ). F.T · (d · d)) D_is ∙ by_T (worked_D · worked_D) (logs_product worked_D worked_D) (printed _) (square worked_D D_nonzero)
  factor_at (suc (suc (suc zero))) l = F.k_is ∙ ap (λ (d : ℕ). F.T · d) D_is ∙ by_T worked_D worked_D D_nonzero refl
  factor_at (suc (suc (suc (suc i)))) l = absurd (omega arith)

-- ---- what the shifts give
factors : List ℕ
factors = 26 ∷ 243 ∷ 136 ∷ 247 ∷ []

pub every_shift : EveryShift
unfolding factors
every_shift κs a r s l =
    l 26 243 136 247 known
    ∙ ap₂ paired
    (ap₂ (λ (f g : ℕ). (a.0 · f) ⊕ (a.1.0 · g)) (at 0 (omega arith)) (at 1 (omega arith)))
    (ap₂ (λ (f g : ℕ). (a.0 · f) ⊕ (a.1.0 · g)) (at 2 (omega arith)) (at 3 (omega arith)))
  where
    known : Factors built_in 26 243 136 247
    known = built_in_factors 26 243 136 247 refl refl refl refl

    at : (i : ℕ) → i < 4 → byte factors i ≡ byte worked_factors i
    at = factor_at factors known
