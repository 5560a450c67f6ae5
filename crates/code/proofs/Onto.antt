-- Any rows and any label sums are those of some block: the rows go to card 0, and two chips of card 1 make up for the label sums.
--
--   rule_add     a label sum of two blocks added
--   first_card   the rows on card 0, and 0 elsewhere
--   onto         THE STATEMENT
use mathlib.Core.Path.{◌≡◌, sym, ap, ap₂, ◌∙◌}
use mathlib.Core.List.{List, [], ◌∷◌}
use Prim.Native.Nat.{ℕ, ◌/◌, ◌%◌, ◌<◌}
use native.Mathlib.Omega.{arith}
use lib.Dec.{eqb}
use Rattle.base.specs.Base.{if, Few}
use Rattle.base.proofs.Few.{few_in, few_two}
use Rattle.field.specs.Field.{◌⊕◌, ◌·◌}
use Rattle.field.proofs.Gf256.{field}
use Rattle.field.proofs.Linear.{if_below}
use Rattle.field.proofs.Squares.{squared}
use Rattle.field.proofs.Sum.{sum_ext, sum_add, sum_one, sum_below}
use Rattle.field.proofs.Xor.{add_lt, add_zero, sums}
use Rattle.code.specs.Block.{byte, position}
use Rattle.code.specs.Labels.{entry, LabelSet}
use Rattle.code.specs.Reach.{rules}
use Rattle.code.proofs.Blocks.{label_below}
use Rattle.code.proofs.Card.{row, rule, fill, entry_below, row_fill, fill_off, no_share, red_off, red_over}
use Rattle.code.proofs.Eliminate.{fits, values, values_off, values_below, Below, solved}
use Rattle.code.proofs.Few.{few_once}
use Rattle.code.proofs.Reach.{free_columns}

module _ (ls : List ℕ) where
  rule_add : (t : ℕ) (y z : ℕ → ℕ) → rule ◌·◌ ls t (λ p. y p ⊕ z p) ≡ rule ◌·◌ ls t y ⊕ rule ◌·◌ ls t z
  rule_add t y z =
      sum_ext 45 (λ p. squared ◌·◌ t (byte ls p) · (y p ⊕ z p)) (λ p. (squared ◌·◌ t (byte ls p) · y p) ⊕ (squared ◌·◌ t (byte ls p) · z p))
      (λ p l. field.distrib (squared ◌·◌ t (byte ls p)) (y p) (z p))
      ∙ sum_add 45 (λ p. squared ◌·◌ t (byte ls p) · y p) (λ p. squared ◌·◌ t (byte ls p) · z p)

first_card : (ℕ → ℕ) → ℕ → ℕ
first_card ρ p = if (eqb (p / 9) 0) (ρ (p % 9)) 0

first_row : (ρ : ℕ → ℕ) (i : ℕ) → i < 9 → row (first_card ρ) i ≡ ρ i
unfolding first_card
first_row ρ i l =
    sum_ext 5 (λ k. first_card ρ (position k i)) (λ k. if (eqb k 0) (ρ i) 0)
    (λ k h. let q : position k i / 9 ≡ k = omega arith in let r : position k i % 9 ≡ i = omega arith in
    ap₂ (λ (a c : ℕ). if (eqb a 0) (ρ c) 0) q r)
    ∙ sum_one 5 0 (λ k. ρ i) (omega arith)

abbrev pair : List ℕ
pair = 9 ∷ 10 ∷ []

few : Few rules pair
few = few_two 9 10 (omega arith) (omega arith) (λ e. omega arith)

module _ (ls : List ℕ) (ok : LabelSet ls) (ρ σ : ℕ → ℕ) (hρ : Below 8 ρ) (hσ : Below 8 σ) where
  y₀ : ℕ → ℕ
  y₀ = first_card ρ

  -- what the rows on card 0 leave to be made up for
  need : ℕ → ℕ
  need t = σ t ⊕ rule ◌·◌ ls t y₀

  need_below : Below 8 need
  unfolding need
  need_below t = add_lt 8 (σ t) (rule ◌·◌ ls t y₀) (hσ t)
      (sum_below 8 45 (λ p. squared ◌·◌ t (byte ls p) · y₀ p) (λ p. field.below (squared ◌·◌ t (byte ls p)) (y₀ p)))

  v : ℕ → ℕ
  v = values ◌·◌ field.inv (entry ls 0) pair need

  z : ℕ → ℕ
  z = fill 0 v

  made_up : (t : ℕ) → t < rules → rule ◌·◌ ls t z ≡ need t
  unfolding z v fits
  made_up t l =
      sym (no_share 8 ◌·◌ field ls t 0 z (row_fill 0 (omega arith) v))
      ∙ red_off 8 ◌·◌ field ls t 0 z v (λ r h ne. fill_off 0 v r ne)
      ∙ red_over 8 ◌·◌ field ls t 0 pair v (few_in rules pair few) (few_once rules pair few) (values_off 8 ◌·◌ field (entry ls 0) pair need)
      ∙ solved 8 ◌·◌ field rules (entry ls 0) pair need few (entry_below 8 ls (label_below ls ok) 0) need_below
      (free_columns ls ok 0 (omega arith) pair (few, ((λ e. omega arith), ((λ e. omega arith), tt)))) tt t l

  pub onto : (y : ℕ → ℕ) × Below 8 y × ((i : ℕ) → i < 9 → row y i ≡ ρ i) × ((t : ℕ) → t < rules → rule ◌·◌ ls t y ≡ σ t)
  unfolding v z fill y₀ first_card need
  onto = ((λ p. y₀ p ⊕ z p), below, rows, labels)
    where
      z_below : Below 8 z
      z_below p = add_lt 8 (v p) (if (eqb (p / 9) 0) (row v (p % 9)) 0) (values_below 8 ◌·◌ field (entry ls 0) pair need p)
          (if_below 8 (eqb (p / 9) 0) (row v (p % 9)) 0
          (sum_below 8 5 (λ k. v (position k (p % 9))) (λ k. values_below 8 ◌·◌ field (entry ls 0) pair need (position k (p % 9)))) (lib.Pow.pow_pos 8))

      below : Below 8 (λ p. y₀ p ⊕ z p)
      below p = add_lt 8 (y₀ p) (z p) (if_below 8 (eqb (p / 9) 0) (ρ (p % 9)) 0 (hρ (p % 9)) (lib.Pow.pow_pos 8)) (z_below p)

      rows : (i : ℕ) → i < 9 → row (λ p. y₀ p ⊕ z p) i ≡ ρ i
      rows i l =
          sum_add 5 (λ k. y₀ (position k i)) (λ k. z (position k i)) ∙ ap₂ (λ (a c : ℕ). a ⊕ c) (first_row ρ i l) (row_fill 0 (omega arith) v i l)
          ∙ add_zero (ρ i)

      labels : (t : ℕ) → t < rules → rule ◌·◌ ls t (λ p. y₀ p ⊕ z p) ≡ σ t
      labels t l = rule_add ls t y₀ z ∙ ap (λ (x : ℕ). rule ◌·◌ ls t y₀ ⊕ x) (made_up t l) ∙ simp sums
