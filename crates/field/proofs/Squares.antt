-- Elements squared again and again, in any field.
--
--   squared t a                                 a squared t times: a ^ (2 ^ t)
--   square_add                                  the square of a sum
--   squared_add, squared_mul, squared_zero      of a sum, of a product, of 0
--   squared_additive                            of a sum, by any product whose square is additive
use mathlib.Core.Path.{◌≡◌, refl, ap, ◌∙◌}
use Prim.Native.Nat.{ℕ, zero, suc}
use Rattle.field.specs.Field.{◌⊕◌}
use Rattle.field.proofs.Linear.{Additive, at_zero}
use Rattle.field.proofs.IsField.{IsField}
use Rattle.field.proofs.Ring.{ring}

unfoldable pub squared : (ℕ → ℕ → ℕ) → ℕ → ℕ → ℕ
squared mul zero a = a
squared mul (suc t) a = squared mul t (mul a a)

pub squared_additive : (mul : ℕ → ℕ → ℕ) → Additive (λ a. mul a a) → (t : ℕ) → Additive (squared mul t)
unfolding squared
squared_additive mul h zero a b = refl
squared_additive mul h (suc t) a b = ap (squared mul t) (h a b) ∙ squared_additive mul h t (mul a a) (mul b b)

module _ (w : ℕ) (◌·◌ : ℕ → ℕ → ℕ) (F : IsField w ◌·◌) where
  infixl 70 ◌·◌
  pub square_add : (a b : ℕ) → (a ⊕ b) · (a ⊕ b) ≡ (a · a) ⊕ (b · b)
  square_add a b = simp (ring, F)

  square_mul : (a b : ℕ) → (a · b) · (a · b) ≡ (a · a) · (b · b)
  square_mul a b = simp (ring, F)

  pub squared_add : (t : ℕ) → Additive (squared ◌·◌ t)
  squared_add = squared_additive ◌·◌ square_add

  pub squared_mul : (t a b : ℕ) → squared ◌·◌ t (a · b) ≡ squared ◌·◌ t a · squared ◌·◌ t b
  unfolding squared
  squared_mul zero a b = refl
  squared_mul (suc t) a b = ap (squared ◌·◌ t) (square_mul a b) ∙ squared_mul t (a · a) (b · b)

  pub squared_zero : (t : ℕ) → squared ◌·◌ t 0 ≡ 0
  squared_zero t = at_zero (squared ◌·◌ t) (squared_add t)
