-- The field of 256 elements: what its product is, its laws, and its inverses.
--
--   in_rounds                          the product of specs/ is the one in rounds (Product.antt)
--   product_differs, product_only      a · b is the remainder of the product of the polynomials a and b by 0x11D
--   field                              the laws of a field; field .below: a · b is below 256
--   inverse_of, inverse_is             the inverse; it is field .inv
use mathlib.Core.Logic.{◌≢◌}
use mathlib.Core.Path.{◌≡◌, sym, ap, ◌∙◌, subst, fun_ext}
use mathlib.Core.List.{List, [], ◌∷◌}
use Prim.Native.Nat.{ℕ, ◌%◌, ◌<◌, ◌^◌}
use native.Mathlib.Nat.{mod-eq_of_lt}
use lib.Dec.{T, lit<, lit≤}
use Rattle.field.specs.Field.{◌⊕◌, polynomial_product, product, ◌·◌}
use Rattle.field.proofs.Product.{times_x, rounds, mul, mul_comm, x_mul}
use Rattle.field.proofs.Remainder.{Degree, remainder_differs, remainder_only}
use Rattle.field.proofs.InRounds.{product_is_mul}
use Rattle.field.proofs.Inverse.{linear, square, inverse, squared_test, split_test, inverse_lt, is_field, mul_inverse}
use Rattle.field.proofs.IsField.{IsField}
use Rattle.field.proofs.Squares.{squared}

pub m_lt : 0x1D < 2 ^ 8
m_lt = lit< tt

degree : Degree 8 0x11D
degree = (lit≤ tt, lit< tt)

pub in_rounds : (a b : ℕ) → a · b ≡ mul 7 0x1D a b
in_rounds a b = product_is_mul 7 0x11D degree a b

-- ---- a · b differs from the product of the polynomials a and b by a multiple of 0x11D, and nothing else below 256 does
module _ (a b : ℕ) (h : a < 256) where
  reduced_first : polynomial_product 8 (a % 2 ^ 8) b ≡ polynomial_product 8 a b
  reduced_first = ap (λ (x : ℕ). polynomial_product 8 x b) (mod-eq_of_lt h)

  pub product_differs : (q : ℕ) × (q < 256) × (polynomial_product 8 a b ≡ (a · b) ⊕ polynomial_product 8 0x11D q)
  unfolding product
  product_differs =
      let w = remainder_differs 8 0x11D 8 (polynomial_product 8 (a % 2 ^ 8) b) in
      (w.0, w.1, sym reduced_first ∙ w.2)

  pub product_only : (r q : ℕ) → r < 256 → polynomial_product 8 a b ≡ r ⊕ polynomial_product 8 0x11D q → r ≡ a · b
  unfolding product
  product_only r q l e = remainder_only 8 0x11D degree 8 (polynomial_product 8 (a % 2 ^ 8) b) r q l (reduced_first ∙ e)

pub two_mul : (a : ℕ) → a < 2 ^ 8 → 2 · a ≡ times_x 7 0x1D a
two_mul a h = in_rounds 2 a ∙ mul_comm 7 0x1D 2 a ∙ x_mul 7 0x1D m_lt a (lit< tt) h

-- what the linear map of Inverse.antt takes 1, 2, 4, .. to
columns : List ℕ
columns = 214 ∷ 232 ∷ 234 ∷ 44 ∷ 238 ∷ 0 ∷ 36 ∷ 80 ∷ []

squared_passes : T (squared_test 7 0x1D)
unfolding squared square mul rounds times_x ◌⊕◌
squared_passes = tt

split_passes : T (split_test 7 0x1D columns)
unfolding columns linear square mul rounds times_x ◌⊕◌
split_passes = tt

-- ---- inverses
unfoldable pub inverse_of : ℕ → ℕ
inverse_of x = inverse 7 0x1D x

pub inverse_is : (x : ℕ) → x < 2 ^ 8 → x ≢ 0 → x · inverse_of x ≡ 1
unfolding inverse_of
inverse_is x h ne = in_rounds x (inverse 7 0x1D x) ∙ mul_inverse 7 0x1D m_lt columns squared_passes split_passes x h ne

-- ---- the laws; the inverse is the one that can be computed
pub laws : IsField 8 ◌·◌
laws = subst (IsField 8) (sym (fun_ext (λ a. fun_ext (λ b. in_rounds a b)))) (is_field 7 0x1D m_lt columns squared_passes split_passes)

pub inverse_below : (x : ℕ) → inverse_of x < 2 ^ 8
unfolding inverse_of
inverse_below x = inverse_lt 7 0x1D m_lt columns squared_passes split_passes x

unfoldable pub field : IsField 8 ◌·◌
field = record {
  comm = laws.comm;
  assoc = laws.assoc;
  distrib = laws.distrib;
  below = laws.below;
  one_below = laws.one_below;
  one = laws.one;
  inv = inverse_of;
  inv_below = inverse_below;
  inverse = inverse_is;
}
