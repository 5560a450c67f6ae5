-- The reduction to one card, over any field and any number of label rules. A block is the function y of its 45 symbols.
--
--   row y i           the sum of chip i's five symbols
--   rule ls t y       label rule t: the sum of label ^ (2 ^ t) times symbol
--   red ls t j y      the same with the entries of card j's reduced matrix, so that card j drops out
--   Law ls r y        y is lawful, by the rows and by r label rules
--   entry_below       entries are elements
--   fill j y          y with card j made to meet the rows
--   red_sum           the reduced sums come from the label sums and the rows
--   red_off           card j has dropped out; red_add: of a sum; red_over: of symbols that are 0 but at the chips of a list
--   law_red           of a lawful block they are 0
--   fill_law          where they are 0, the filled block is lawful
--   fill_only         and what meets the rows and is y off card j is the filled block
use mathlib.Core.Logic.{◌≢◌, ◌⊎◌, inl, inr}
use mathlib.Core.Path.{◌≡◌, refl, sym, ap, ap₂, ◌∙◌}
use mathlib.Core.Bool.{Bool, true, false}
use mathlib.Core.List.{List}
use Prim.Native.Nat.{ℕ, ◌/◌, ◌%◌, ◌^◌, ◌<◌}
use native.Mathlib.Omega.{arith}
use lib.Dec.{eqb}
use borrow.Author.Tests.{eqb-false, eq-eqb, ne_eqb}
use Rattle.std.proofs.lemmas.Bool.{cases_eq}
use Rattle.base.specs.Base.{if, In}
use Rattle.field.specs.Field.{sum, ◌⊕◌}
use Rattle.field.proofs.Xor.{add_self, zero_add, add_zero, add_lt, sums}
use Rattle.field.proofs.Sum.{sum_ext, sum_zero, sum_add, sum_additive, sum_nest, sum_swap, sum_one, Once, sum_over}
use Rattle.field.proofs.IsField.{IsField}
use Rattle.field.proofs.Ring.{add_mul, mul_zero, zero_mul}
use Rattle.field.proofs.Squares.{squared, squared_add, squared_zero}
use Rattle.code.specs.Block.{byte, position}
use Rattle.code.specs.Labels.{entry}
use Rattle.code.proofs.Eliminate.{dot}

abbrev pub row : (ℕ → ℕ) → ℕ → ℕ
row y i = sum 5 (λ k. y (position k i))

module _ (◌·◌ : ℕ → ℕ → ℕ) (ls : List ℕ) where
  infixl 70 ◌·◌
  abbrev pub rule : ℕ → (ℕ → ℕ) → ℕ
  rule t y = sum 45 (λ p. squared ◌·◌ t (byte ls p) · y p)

  abbrev pub red : ℕ → ℕ → (ℕ → ℕ) → ℕ
  red t j y = sum 45 (λ p. squared ◌·◌ t (entry ls j p) · y p)

  pub record Law (r : ℕ) (y : ℕ → ℕ) : Type 0 where
    pub rows : (i : ℕ) → i < 9 → row y i ≡ 0
    pub labels : (t : ℕ) → t < r → rule t y ≡ 0

unfoldable pub fill : ℕ → (ℕ → ℕ) → ℕ → ℕ
fill j y r = y r ⊕ if (eqb (r / 9) j) (row y (r % 9)) 0

pub entry_below : (w : ℕ) (ls : List ℕ) → ((p : ℕ) → byte ls p < 2 ^ w) → (j p : ℕ) → entry ls j p < 2 ^ w
entry_below w ls h j p = add_lt w (byte ls p) (byte ls (position j (p % 9))) (h p) (h (position j (p % 9)))

-- ---- card j filled from the rows
pub fill_on : (j : ℕ) (y : ℕ → ℕ) (r : ℕ) → r / 9 ≡ j → fill j y r ≡ y r ⊕ row y (r % 9)
unfolding fill
fill_on j y r h = ap (λ (t : Bool). y r ⊕ if t (row y (r % 9)) 0) (eq-eqb (r / 9) j h)

pub fill_off : (j : ℕ) (y : ℕ → ℕ) (r : ℕ) → r / 9 ≢ j → fill j y r ≡ y r
unfolding fill
fill_off j y r ne = ap (λ (t : Bool). y r ⊕ if t (row y (r % 9)) 0) (ne_eqb (r / 9) j ne) ∙ add_zero (y r)

card_of : (k i : ℕ) → i < 9 → position k i / 9 ≡ k
card_of k i l = omega arith

chip_of : (k i : ℕ) → i < 9 → position k i % 9 ≡ i
chip_of k i l = omega arith

pub row_fill : (j : ℕ) → j < 5 → (y : ℕ → ℕ) (i : ℕ) → i < 9 → row (fill j y) i ≡ 0
unfolding fill
row_fill j hj y i l =
    sum_ext 5 (λ k. fill j y (position k i)) (λ k. y (position k i) ⊕ if (eqb k j) (row y i) 0)
    (λ k z. ap₂ (λ (a b : ℕ). y (position k i) ⊕ if (eqb a j) (row y b) 0) (card_of k i l) (chip_of k i l))
    ∙ sum_add 5 (λ k. y (position k i)) (λ k. if (eqb k j) (row y i) 0)
    ∙ ap (λ (x : ℕ). row y i ⊕ x) (sum_one 5 j (λ k. row y i) hj) ∙ add_self (row y i)

-- a row of what agrees off card j
row_off : (j : ℕ) → j < 5 → (x y : ℕ → ℕ) → ((r : ℕ) → r < 45 → r / 9 ≢ j → x r ≡ y r) → (i : ℕ) → i < 9
    → row x i ⊕ row y i ≡ x (position j i) ⊕ y (position j i)
row_off j hj x y off i l =
    sym (sum_add 5 (λ k. x (position k i)) (λ k. y (position k i)))
    ∙ sum_ext 5 (λ k. x (position k i) ⊕ y (position k i)) (λ k. if (eqb k j) (x (position k i) ⊕ y (position k i)) 0) (λ k z. go k z (eqb k j) refl)
    ∙ sum_one 5 j (λ k. x (position k i) ⊕ y (position k i)) hj
  where
    go : (k : ℕ) → k < 5 → (t : Bool) → eqb k j ≡ t → x (position k i) ⊕ y (position k i) ≡ if t (x (position k i) ⊕ y (position k i)) 0
    go k z true e = refl
    go k z false e =
        ap (λ (a : ℕ). a ⊕ y (position k i)) (off (position k i) (omega arith) (λ q. eqb-false k j e (sym (card_of k i l) ∙ q))) ∙ add_self (y (position k i))

pub fill_only : (j : ℕ) → j < 5 → (x y : ℕ → ℕ) → ((i : ℕ) → i < 9 → row x i ≡ 0)
    → ((r : ℕ) → r < 45 → r / 9 ≢ j → x r ≡ y r) → (r : ℕ) → r < 45 → x r ≡ fill j y r
fill_only j hj x y rows off r hr = pick (cases_eq (r / 9) j)
  where
    pick : (r / 9 ≡ j) ⊎ (r / 9 ≢ j) → x r ≡ fill j y r
    pick (inl e) =
        let at : position j (r % 9) ≡ r = omega arith in
        let l : r % 9 < 9 = omega arith in
        let d : row x (r % 9) ⊕ row y (r % 9) ≡ x r ⊕ y r = row_off j hj x y off (r % 9) l ∙ ap (λ (z : ℕ). x z ⊕ y z) at in
        let s : row y (r % 9) ≡ x r ⊕ y r = sym (zero_add (row y (r % 9))) ∙ ap (λ (z : ℕ). z ⊕ row y (r % 9)) (sym (rows (r % 9) l)) ∙ d in
        let t : x r ≡ y r ⊕ (x r ⊕ y r) = simp sums in
        t ∙ ap (λ (z : ℕ). y r ⊕ z) (sym s) ∙ sym (fill_on j y r e)
    pick (inr ne) = off r hr ne ∙ sym (fill_off j y r ne)

-- ---- the reduced sums
module _ (w : ℕ) (◌·◌ : ℕ → ℕ → ℕ) (F : IsField w ◌·◌) (ls : List ℕ) where
  infixl 70 ◌·◌
  pub red_sum : (t j : ℕ) (y : ℕ → ℕ) → red ◌·◌ ls t j y ≡ rule ◌·◌ ls t y ⊕ sum 9 (λ i. squared ◌·◌ t (byte ls (position j i)) · row y i)
  red_sum t j y =
      sum_ext 45 (λ p. squared ◌·◌ t (entry ls j p) · y p) (λ p. (squared ◌·◌ t (byte ls p) · y p) ⊕ (own (p % 9) · y p))
      (λ p l. ap (λ (x : ℕ). x · y p) (squared_add w ◌·◌ F t (byte ls p) (byte ls (position j (p % 9))))
      ∙ add_mul w ◌·◌ F (squared ◌·◌ t (byte ls p)) (own (p % 9)) (y p))
      ∙ sum_add 45 (λ p. squared ◌·◌ t (byte ls p) · y p) (λ p. own (p % 9) · y p)
      ∙ ap (λ (x : ℕ). rule ◌·◌ ls t y ⊕ x)
      (sum_nest 5 9 (λ p. own (p % 9) · y p)
      ∙ sum_swap 5 9 (λ k i. own (position k i % 9) · y (position k i))
      ∙ sum_ext 9 (λ i. sum 5 (λ k. own (position k i % 9) · y (position k i))) (λ i. own i · row y i)
      (λ i l. sum_ext 5 (λ k. own (position k i % 9) · y (position k i)) (λ k. own i · y (position k i))
      (λ k z. ap (λ (a : ℕ). own a · y (position k i)) (chip_of k i l))
      ∙ sym (sum_additive (λ x. own i · x) (F.distrib (own i)) 5 (λ k. y (position k i)))))
    where
      own : ℕ → ℕ
      own i = squared ◌·◌ t (byte ls (position j i))

  -- the rows' share of a reduced sum, where the rows are met
  pub no_share : (t j : ℕ) (y : ℕ → ℕ) → ((i : ℕ) → i < 9 → row y i ≡ 0) → red ◌·◌ ls t j y ≡ rule ◌·◌ ls t y
  no_share t j y rows =
      red_sum t j y
      ∙ ap (λ (x : ℕ). rule ◌·◌ ls t y ⊕ x)
      (sum_zero 9 (λ i. squared ◌·◌ t (byte ls (position j i)) · row y i)
      (λ i l. ap (λ (x : ℕ). squared ◌·◌ t (byte ls (position j i)) · x) (rows i l) ∙ mul_zero w ◌·◌ F (squared ◌·◌ t (byte ls (position j i)))))
      ∙ add_zero (rule ◌·◌ ls t y)

  pub law_red : (r : ℕ) (y : ℕ → ℕ) → Law ◌·◌ ls r y → (t j : ℕ) → t < r → red ◌·◌ ls t j y ≡ 0
  law_red r y law t j l = no_share t j y law.rows ∙ law.labels t l

  pub red_off : (t j : ℕ) (x y : ℕ → ℕ) → ((r : ℕ) → r < 45 → r / 9 ≢ j → x r ≡ y r) → red ◌·◌ ls t j x ≡ red ◌·◌ ls t j y
  red_off t j x y off = sum_ext 45 (λ p. squared ◌·◌ t (entry ls j p) · x p) (λ p. squared ◌·◌ t (entry ls j p) · y p) (λ r l. pick r l (cases_eq (r / 9) j))
    where
      gone : (r z : ℕ) → r / 9 ≡ j → squared ◌·◌ t (entry ls j r) · z ≡ 0
      gone r z e =
          let at : position j (r % 9) ≡ r = omega arith in
          ap (λ (x : ℕ). squared ◌·◌ t (byte ls r ⊕ byte ls x) · z) at ∙ ap (λ (x : ℕ). squared ◌·◌ t x · z) (add_self (byte ls r))
          ∙ ap (λ (x : ℕ). x · z) (squared_zero w ◌·◌ F t) ∙ zero_mul w ◌·◌ F z

      pick : (r : ℕ) → r < 45 → (r / 9 ≡ j) ⊎ (r / 9 ≢ j) → squared ◌·◌ t (entry ls j r) · x r ≡ squared ◌·◌ t (entry ls j r) · y r
      pick r l (inl e) = gone r (x r) e ∙ sym (gone r (y r) e)
      pick r l (inr ne) = ap (λ (z : ℕ). squared ◌·◌ t (entry ls j r) · z) (off r l ne)

  pub red_add : (t j : ℕ) (y v : ℕ → ℕ) → red ◌·◌ ls t j (λ r. y r ⊕ v r) ≡ red ◌·◌ ls t j y ⊕ red ◌·◌ ls t j v
  red_add t j y v =
      sum_ext 45 (λ p. squared ◌·◌ t (entry ls j p) · (y p ⊕ v p)) (λ p. (squared ◌·◌ t (entry ls j p) · y p) ⊕ (squared ◌·◌ t (entry ls j p) · v p))
      (λ p l. F.distrib (squared ◌·◌ t (entry ls j p)) (y p) (v p))
      ∙ sum_add 45 (λ p. squared ◌·◌ t (entry ls j p) · y p) (λ p. squared ◌·◌ t (entry ls j p) · v p)

  pub red_over : (t j : ℕ) (ps : List ℕ) (v : ℕ → ℕ) → ((p : ℕ) → In p ps → p < 45) → Once ps → ((p : ℕ) → (In p ps → ⊥) → v p ≡ 0)
      → red ◌·◌ ls t j v ≡ dot ◌·◌ t (entry ls j) ps v
  red_over t j ps v below once off =
      sum_over 45 ps (λ p. squared ◌·◌ t (entry ls j p) · v p) below once
      (λ p l n. ap (λ (x : ℕ). squared ◌·◌ t (entry ls j p) · x) (off p n) ∙ mul_zero w ◌·◌ F (squared ◌·◌ t (entry ls j p)))

  pub fill_law : (r j : ℕ) → j < 5 → (y : ℕ → ℕ) → ((t : ℕ) → t < r → red ◌·◌ ls t j y ≡ 0) → Law ◌·◌ ls r (fill j y)
  fill_law r j hj y reds = record {
    rows = row_fill j hj y;
    labels = λ t l. sym (no_share t j (fill j y) (row_fill j hj y)) ∙ red_off t j (fill j y) y (λ p z ne. fill_off j y p ne) ∙ reds t l;
  }
