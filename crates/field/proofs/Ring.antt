-- The laws of any field as one set of rewriting rules.
--
--   mul_comm, mul_assoc, mul_left_comm, mul_add, add_mul, mul_zero, zero_mul    the ring laws
--   ring             the set: `simp (ring, F)`, with F the field's laws, sorts both sides of an equation alike
--   zero_divisor     a product is 0 only where a factor is
use mathlib.Core.Logic.{◌≢◌}
use mathlib.Core.Path.{◌≡◌, sym, ap, ap₂, ◌∙◌}
use Prim.Native.Nat.{ℕ, ◌<◌, ◌^◌}
use Rattle.field.specs.Field.{◌⊕◌}
use Rattle.field.proofs.Xor.{sums}
use Rattle.field.proofs.Linear.{at_zero}
use Rattle.field.proofs.IsField.{IsField}

module _ (w : ℕ) (◌·◌ : ℕ → ℕ → ℕ) (F : IsField w ◌·◌) where
  infixl 70 ◌·◌
  pub mul_comm : (a b : ℕ) → a · b ≡ b · a
  mul_comm = F.comm

  pub mul_assoc : (a b c : ℕ) → (a · b) · c ≡ a · (b · c)
  mul_assoc = F.assoc

  pub mul_left_comm : (a b c : ℕ) → a · (b · c) ≡ b · (a · c)
  mul_left_comm a b c = sym (F.assoc a b c) ∙ ap (λ (x : ℕ). x · c) (F.comm a b) ∙ F.assoc b a c

  pub mul_add : (a b c : ℕ) → a · (b ⊕ c) ≡ (a · b) ⊕ (a · c)
  mul_add = F.distrib

  pub add_mul : (a b c : ℕ) → (a ⊕ b) · c ≡ (a · c) ⊕ (b · c)
  add_mul a b c = F.comm (a ⊕ b) c ∙ F.distrib c a b ∙ ap₂ (λ (x y : ℕ). x ⊕ y) (F.comm c a) (F.comm c b)

  pub mul_zero : (a : ℕ) → a · 0 ≡ 0
  mul_zero a = at_zero (λ x. a · x) (F.distrib a)

  pub zero_mul : (a : ℕ) → 0 · a ≡ 0
  zero_mul a = F.comm 0 a ∙ mul_zero a

  pub ruleset ring = (mul_add, add_mul, mul_assoc, mul_comm, mul_left_comm, mul_zero, zero_mul, sums)

  pub zero_divisor : (a b : ℕ) → a < 2 ^ w → b < 2 ^ w → a ≢ 0 → a · b ≡ 0 → b ≡ 0
  zero_divisor a b ha hb ne z =
      sym (F.one b hb) ∙ ap (λ (x : ℕ). x · b) (sym (F.inverse a ha ne) ∙ F.comm a (F.inv a))
      ∙ F.assoc (F.inv a) a b ∙ ap (λ (y : ℕ). F.inv a · y) z ∙ mul_zero (F.inv a)
