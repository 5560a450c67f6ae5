-- An amount that is added to a byte of card 3 and to the byte of card 4 in its row: the rows stay, and a label sum moves by the chip's entry in
-- card 4's reduced matrix times the amount.
--
--   row_kept       every row stays
--   sum_moved      a sum of anything times byte moves by what stands at the two places, times the amount
use mathlib.Core.Logic.{◌≢◌, ◌⊎◌, inl, inr}
use mathlib.Core.Path.{◌≡◌, refl, sym, ap, ap₂, ◌∙◌}
use mathlib.Core.Bool.{Bool, true, false}
use Prim.Native.Nat.{ℕ, ◌<◌}
use native.Mathlib.Omega.{arith}
use lib.Dec.{eqb}
use borrow.Author.Tests.{eq-eqb, ne_eqb}
use Rattle.std.proofs.lemmas.Bool.{cases_eq}
use Rattle.field.specs.Field.{◌⊕◌, ◌·◌, sum}
use Rattle.field.proofs.Xor.{add_assoc, sums}
use Rattle.field.proofs.Gf256.{field}
use Rattle.field.proofs.Ring.{add_mul, mul_zero}
use Rattle.field.proofs.Sum.{sum_add, sum_ext, sum_one}
use Rattle.code.specs.Block.{position}
use Rattle.base.specs.Base.{if}

times_if : (t : Bool) (c e : ℕ) → c · if t e 0 ≡ if t (c · e) 0
times_if true c e = refl
times_if false c e = mul_zero 8 ◌·◌ field c

-- of a chip's five places one is on card j
one_card : (j i r e : ℕ) → j < 5 → i < 9 → r < 9 → sum 5 (λ k. if (eqb (position k i) (position j r)) e 0) ≡ if (eqb i r) e 0
one_card j i r e hj hi hr =
    sum_ext 5 (λ k. if (eqb (position k i) (position j r)) e 0) (λ k. if (eqb k j) (if (eqb i r) e 0) 0) (λ k l. both k (cases_eq k j) (cases_eq i r))
    ∙ sum_one 5 j (λ k. if (eqb i r) e 0) hj
  where
    both : (k : ℕ) → (k ≡ j) ⊎ (k ≢ j) → (i ≡ r) ⊎ (i ≢ r) → if (eqb (position k i) (position j r)) e 0 ≡ if (eqb k j) (if (eqb i r) e 0) 0
    both k (inl p) (inl q) = rw (eq-eqb (position k i) (position j r) (omega arith), eq-eqb k j p, eq-eqb i r q)
    both k (inl p) (inr q) = rw (ne_eqb (position k i) (position j r) (λ z. q (omega arith)), eq-eqb k j p, ne_eqb i r q)
    both k (inr p) o = rw (ne_eqb (position k i) (position j r) (λ z. p (omega arith)), ne_eqb k j p)

module _ (r e : ℕ) (hr : r < 9) (b b' : ℕ → ℕ) (is : (q : ℕ) → b' q ≡ b q ⊕ if (eqb q (position 3 r)) e 0 ⊕ if (eqb q (position 4 r)) e 0) where
  pub row_kept : (i : ℕ) → i < 9 → sum 5 (λ k. b' (position k i)) ≡ sum 5 (λ k. b (position k i))
  row_kept i h =
      sum_ext 5 (λ k. b' (position k i)) (λ k. b (position k i) ⊕ if (eqb (position k i) (position 3 r)) e 0 ⊕ if (eqb (position k i) (position 4 r)) e 0)
      (λ k l. is (position k i))
      ∙ sum_add 5 (λ k. b (position k i) ⊕ if (eqb (position k i) (position 3 r)) e 0) (λ k. if (eqb (position k i) (position 4 r)) e 0)
      ∙ ap₂ (λ (x y : ℕ). x ⊕ y)
      (sum_add 5 (λ k. b (position k i)) (λ k. if (eqb (position k i) (position 3 r)) e 0)
      ∙ ap (λ (x : ℕ). sum 5 (λ k. b (position k i)) ⊕ x) (one_card 3 i r e (omega arith) h hr))
      (one_card 4 i r e (omega arith) h hr)
      ∙ cancel (sum 5 (λ k. b (position k i))) (if (eqb i r) e 0)
    where
      cancel : (x y : ℕ) → x ⊕ y ⊕ y ≡ x
      cancel x y = simp sums

  pub sum_moved : (g : ℕ → ℕ) → sum 45 (λ q. g q · b' q) ≡ sum 45 (λ q. g q · b q) ⊕ ((g (position 3 r) ⊕ g (position 4 r)) · e)
  sum_moved g =
      sum_ext 45 (λ q. g q · b' q) (λ q. (g q · b q) ⊕ if (eqb q (position 3 r)) (g q · e) 0 ⊕ if (eqb q (position 4 r)) (g q · e) 0)
      (λ q l. ap (λ (x : ℕ). g q · x) (is q) ∙ field.distrib (g q) (b q ⊕ if (eqb q (position 3 r)) e 0) (if (eqb q (position 4 r)) e 0)
      ∙ ap₂ (λ (x y : ℕ). x ⊕ y)
      (field.distrib (g q) (b q) (if (eqb q (position 3 r)) e 0) ∙ ap (λ (x : ℕ). (g q · b q) ⊕ x) (times_if (eqb q (position 3 r)) (g q) e))
      (times_if (eqb q (position 4 r)) (g q) e))
      ∙ sum_add 45 (λ q. (g q · b q) ⊕ if (eqb q (position 3 r)) (g q · e) 0) (λ q. if (eqb q (position 4 r)) (g q · e) 0)
      ∙ ap₂ (λ (x y : ℕ). x ⊕ y)
      (sum_add 45 (λ q. g q · b q) (λ q. if (eqb q (position 3 r)) (g q · e) 0)
      ∙ ap (λ (x : ℕ). sum 45 (λ q. g q · b q) ⊕ x) (sum_one 45 (position 3 r) (λ q. g q · e) (omega arith)))
      (sum_one 45 (position 4 r) (λ q. g q · e) (omega arith))
      ∙ add_assoc (sum 45 (λ q. g q · b q)) (g (position 3 r) · e) (g (position 4 r) · e)
      ∙ ap (λ (x : ℕ). sum 45 (λ q. g q · b q) ⊕ x) (sym (add_mul 8 ◌·◌ field (g (position 3 r)) (g (position 4 r)) e))
