-- A block that two cards fit with no chip beside them is fitted by all five.
--
--   Grid mul ls       card j's labels are those of card 0 times card j's label of chip 0, its head
--   divisor           a product is 0 with a number that is not 0, squared t times, only where the other factor is 0
--   cross, level      two sums on one line, added; a line of slope 0
--   share, line       a reduced sum by the head: the label sum, and the head, squared t times, times a share that is the same for all cards
--   red_line          in a grid the reduced sums are so
--   share_zero        where they are 0 for two heads, the share is 0; reds_zero: so they are 0 for all cards
--   heads_differ      the heads of a label set differ
--   all_fit_grid      of any label set that is a grid; built_in_grid: the built-in labels are one; all_fit: so of these
use mathlib.Core.Logic.{◌≢◌}
use mathlib.Core.Path.{◌≡◌, sym, ap, ap₂, ◌∙◌, subst}
use mathlib.Core.Bool.{Bool}
use mathlib.Core.List.{List, []}
use Prim.Native.Nat.{ℕ, zero, suc, ◌%◌, ◌^◌, ◌<◌}
use native.Mathlib.Omega.{arith}
use lib.Dec.{T, eqb, eqb→eq}
use borrow.Author.Tests.{eq-eqb}
use Rattle.base.proofs.Tests.{every, every_at, every_of}
use Rattle.field.specs.Field.{◌⊕◌, ◌·◌, sum, polynomial_product, remainder, product}
use Rattle.field.proofs.Xor.{add_self, add_lt}
use Rattle.field.proofs.Sum.{sum_ext, sum_additive, sum_below}
use Rattle.field.proofs.IsField.{IsField}
use Rattle.field.proofs.Gf256.{field}
use Rattle.field.proofs.Ring.{ring, zero_divisor}
use Rattle.field.proofs.Squares.{squared, squared_add, squared_mul}
use Rattle.code.specs.Block.{byte, position}
use Rattle.code.specs.Labels.{built_in, LabelSet}
use Rattle.code.specs.Reach.{rules}
use Rattle.code.proofs.BuiltIn.{figures, in_figures, built_in_set}
use Rattle.code.proofs.Eliminate as eliminate
use Rattle.code.proofs.Card.{row, rule, red, red_sum}
use Rattle.code.proofs.Blocks.{label_below}
use Rattle.code.proofs.Reach.{fits}

abbrev pub Grid : (ℕ → ℕ → ℕ) → List ℕ → Type 0
Grid mul ls = (j i : ℕ) → j < 5 → i < 9 → byte ls (position j i) ≡ mul (byte ls (position j 0)) (byte ls i)

-- ---- in any field
module _ (w : ℕ) (◌·◌ : ℕ → ℕ → ℕ) (F : IsField w ◌·◌) where
  infixl 70 ◌·◌
  divisor : (t d s : ℕ) → d < 2 ^ w → s < 2 ^ w → d ≢ 0 → squared ◌·◌ t d · s ≡ 0 → s ≡ 0
  unfolding squared
  divisor zero d s hd hs ne = zero_divisor w ◌·◌ F d s hd hs ne
  divisor (suc t) d s hd hs ne = divisor t (d · d) s (F.below d d) hs (λ z. ne (zero_divisor w ◌·◌ F d d hd hd ne z))

  cross : (x a b s : ℕ) → (a ⊕ b) · s ≡ (x ⊕ (a · s)) ⊕ (x ⊕ (b · s))
  cross x a b s = simp (ring, F)

  level : (x a b s : ℕ) → s ≡ 0 → x ⊕ (a · s) ≡ x ⊕ (b · s)
  level x a b s z = ap (λ (u : ℕ). x ⊕ (a · u)) z ∙ (let e : x ⊕ (a · 0) ≡ x ⊕ (b · 0) = simp (ring, F) in e) ∙ ap (λ (u : ℕ). x ⊕ (b · u)) (sym z)

  module _ (ls : List ℕ) (below : (p : ℕ) → byte ls p < 2 ^ w) (grid : Grid ◌·◌ ls) (t : ℕ) (y : ℕ → ℕ) where
    abbrev share : ℕ
    share = sum 9 (λ i. squared ◌·◌ t (byte ls i) · row y i)

    abbrev line : ℕ → ℕ
    line a = rule ◌·◌ ls t y ⊕ (squared ◌·◌ t a · share)

    red_line : (j : ℕ) → j < 5 → red ◌·◌ ls t j y ≡ line (byte ls (position j 0))
    red_line j hj =
        red_sum w ◌·◌ F ls t j y
        ∙ ap (λ (x : ℕ). rule ◌·◌ ls t y ⊕ x)
        (sum_ext 9 (λ i. squared ◌·◌ t (byte ls (position j i)) · row y i) (λ i. f · (squared ◌·◌ t (byte ls i) · row y i))
        (λ i l. ap (λ (x : ℕ). squared ◌·◌ t x · row y i) (grid j i hj l)
        ∙ ap (λ (x : ℕ). x · row y i) (squared_mul w ◌·◌ F t (byte ls (position j 0)) (byte ls i))
        ∙ F.assoc f (squared ◌·◌ t (byte ls i)) (row y i))
        ∙ sym (sum_additive (λ x. f · x) (F.distrib f) 9 (λ i. squared ◌·◌ t (byte ls i) · row y i)))
      where
        f : ℕ
        f = squared ◌·◌ t (byte ls (position j 0))

    share_zero : (a b : ℕ) → a < 2 ^ w → b < 2 ^ w → a ⊕ b ≢ 0 → line a ≡ 0 → line b ≡ 0 → share ≡ 0
    share_zero a b ha hb ne za zb =
        divisor t (a ⊕ b) share (add_lt w a b ha hb)
        (sum_below w 9 (λ i. squared ◌·◌ t (byte ls i) · row y i) (λ i. F.below (squared ◌·◌ t (byte ls i)) (row y i))) ne
        (ap (λ (x : ℕ). x · share) (squared_add w ◌·◌ F t a b) ∙ cross (rule ◌·◌ ls t y) (squared ◌·◌ t a) (squared ◌·◌ t b) share
        ∙ ap₂ (λ (x z : ℕ). x ⊕ z) za zb ∙ add_self 0)

    reds_zero : (i j k : ℕ) → i < 5 → j < 5 → k < 5 → byte ls (position i 0) ⊕ byte ls (position j 0) ≢ 0
        → red ◌·◌ ls t i y ≡ 0 → red ◌·◌ ls t j y ≡ 0 → red ◌·◌ ls t k y ≡ 0
    reds_zero i j k hi hj hk ne zi zj =
        red_line k hk
        ∙ level (rule ◌·◌ ls t y) (squared ◌·◌ t (byte ls (position k 0))) (squared ◌·◌ t (byte ls (position i 0))) share
        (share_zero (byte ls (position i 0)) (byte ls (position j 0)) (below (position i 0)) (below (position j 0)) ne
        (sym (red_line i hi) ∙ zi) (sym (red_line j hj) ∙ zj))
        ∙ sym (red_line i hi) ∙ zi

-- ---- in the field of 256 elements
module _ (ls : List ℕ) (ok : LabelSet ls) (grid : Grid ◌·◌ ls) (b : List ℕ) where
  heads_differ : (i j : ℕ) → i < 5 → j < 5 → i ≢ j → byte ls (position i 0) ⊕ byte ls (position j 0) ≢ 0
  heads_differ i j hi hj ne z =
      let c : position i 0 % 9 ≡ 0 = omega arith in
      ok.separated.nonzero j (position i 0) hj (omega arith) (λ e. ne (omega arith)) (ap (λ (x : ℕ). byte ls (position i 0) ⊕ byte ls (position j x)) c ∙ z)

  pub all_fit_grid : (i j : ℕ) → i < 5 → j < 5 → i ≢ j → T (fits ls i [] b) → T (fits ls j [] b) → (k : ℕ) → k < 5 → T (fits ls k [] b)
  unfolding fits eliminate.fits
  all_fit_grid i j hi hj ne fi fj k hk =
      every_of (test k) rules
      (λ t l. subst T (sym (eq-eqb (red ◌·◌ ls t k (byte b)) 0 (reds_zero 8 ◌·◌ field ls (label_below ls ok) grid t (byte b) i j k hi hj hk
      (heads_differ i j hi hj ne) (eqb→eq (red ◌·◌ ls t i (byte b)) 0 (every_at (test i) rules fi t l))
      (eqb→eq (red ◌·◌ ls t j (byte b)) 0 (every_at (test j) rules fj t l))))) tt)
    where
      test : ℕ → ℕ → Bool
      test m t = eqb (red ◌·◌ ls t m (byte b)) 0

-- ---- the built-in labels
grid_passes : T (every (λ j. every (λ i. eqb (byte figures (position j i)) (byte figures (position j 0) · byte figures i)) 9) 5)
unfolding figures product remainder polynomial_product sum ◌⊕◌
grid_passes = tt

built_in_grid : Grid ◌·◌ built_in
built_in_grid =
    subst (Grid ◌·◌) (sym in_figures)
    (λ j i hj hi. eqb→eq (byte figures (position j i)) (byte figures (position j 0) · byte figures i)
    (every_at (λ i. eqb (byte figures (position j i)) (byte figures (position j 0) · byte figures i)) 9
    (every_at (λ j. every (λ i. eqb (byte figures (position j i)) (byte figures (position j 0) · byte figures i)) 9) 5 grid_passes j hj) i hi))

pub all_fit : (b : List ℕ) (i j : ℕ) → i < 5 → j < 5 → i ≢ j → T (fits built_in i [] b) → T (fits built_in j [] b)
    → (k : ℕ) → k < 5 → T (fits built_in k [] b)
all_fit b = all_fit_grid built_in built_in_set built_in_grid b
