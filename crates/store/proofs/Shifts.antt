-- Bytes 34 and 35 from the two label sums, by shifts: an additive map of each sum, which is the two products at the powers of 2.
--
--   first, second      the code's map of each sum, not yet reduced
--   solved_is          reduced together, they are the four products
use mathlib.Core.Path.{◌≡◌, sym, ap₂, ◌∙◌}
use Prim.Native.Nat.{ℕ, ◌^◌, ◌<◌}
use lib.Dec.{T, eqb}
use Rattle.base.proofs.Tests.{every}
use Rattle.field.specs.Field.{◌⊕◌, ◌·◌, sum, polynomial_product, remainder, product}
use Rattle.field.proofs.Xor.{sums}
use Rattle.field.proofs.Linear.{Additive}
use Rattle.field.proofs.Gf256.{field}
use Rattle.field.proofs.Ring.{add_mul}
use Rattle.pairs.specs.Words.{paired, reduced}
use Rattle.pairs.specs.Shifts.{up}
use Rattle.pairs.proofs.Points.{agree}
use Rattle.pairs.proofs.Fold.{after, up_add, reduced_add, paired_add}

unfoldable pub first : ℕ → ℕ
first x = up 3 (x ⊕ up 32 x) ⊕ up 1 x ⊕ up 4 x ⊕ up 39 x

unfoldable pub twice : ℕ → ℕ
twice y = (y ⊕ up 32 y) ⊕ up 1 (y ⊕ up 32 y)

unfoldable pub second : ℕ → ℕ
second y = twice y ⊕ up 4 (twice y) ⊕ up 6 (twice y) ⊕ up 34 y

first_add : Additive first
unfolding first
first_add a b = simp (up_add, sums)

twice_add : Additive twice
unfolding twice
twice_add a b = simp (up_add, sums)

second_add : Additive second
unfolding second
second_add a b = simp (twice_add, up_add, sums)

products : ℕ → ℕ → ℕ → ℕ
products f g x = paired (x · f) (x · g)

products_add : (f g : ℕ) → Additive (products f g)
unfolding products
products_add f g a b =
    ap₂ paired (add_mul 8 ◌·◌ field a b f) (add_mul 8 ◌·◌ field a b g) ∙ paired_add (a · f) (b · f) (a · g) (b · g)

first_test : T (every (λ i. eqb (reduced (first (2 ^ i))) (products 26 136 (2 ^ i))) 8)
unfolding up reduced first products product remainder polynomial_product sum ◌⊕◌
first_test = tt

second_test : T (every (λ i. eqb (reduced (second (2 ^ i))) (products 243 247 (2 ^ i))) 8)
unfolding up reduced twice second products product remainder polynomial_product sum ◌⊕◌
second_test = tt

pub solved_is : (x y : ℕ) → x < 2 ^ 8 → y < 2 ^ 8
    → reduced (first x ⊕ second y) ≡ paired ((x · 26) ⊕ (y · 243)) ((x · 136) ⊕ (y · 247))
unfolding products
solved_is x y hx hy =
    reduced_add (first x) (second y)
    ∙ ap₂ (λ (a b : ℕ). a ⊕ b)
    (agree (λ x. reduced (first x)) (products 26 136) (after reduced first reduced_add first_add) (products_add 26 136) 8 first_test x hx)
    (agree (λ y. reduced (second y)) (products 243 247) (after reduced second reduced_add second_add) (products_add 243 247) 8 second_test y hy)
    ∙ sym (paired_add (x · 26) (y · 243) (x · 136) (y · 247))
