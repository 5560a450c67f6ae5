-- The rows on one card after the other: what card j + 1 takes, from what card j takes.
--
--   first_gathered    card 0's word of the rows
--   next_is           the code's map is a product in each of the two bytes
--   by_first          the labels of card j + 1 are the label of card 1, chip 0, times those of card j
--   next_taken        so the map leads from card j to card j + 1
--   next_fixed        what two neighbours both take is nothing
use mathlib.Core.Logic.{◌≢◌}
use mathlib.Core.Path.{◌≡◌, refl, sym, ap, ap₂, ◌∙◌}
use mathlib.Core.List.{List}
use Prim.Native.Nat.{ℕ, zero, suc, ◌+◌, ◌*◌, ◌/◌, ◌%◌, ◌^◌, ◌<◌}
use native.Mathlib.Nat.{mod-lt, mod-one, mod-eq_of_lt}
use native.Mathlib.Omega.{arith}
use lib.Bits.{xor_shifted}
use lib.Dec.{T, eqb, eqb→eq}
use lib.ListN.{get_or}
use lib.Pow.{pow_pos, mod-pow-add}
use Rattle.base.proofs.Tests.{every, every_at}
use Rattle.field.specs.Field.{◌⊕◌, ◌·◌, sum, polynomial_product, remainder, product}
use Rattle.field.proofs.Xor.{sums, add_comm, add_self, add_lt, add_shr, eq_of_sum}
use Rattle.field.proofs.Linear.{Additive}
use Rattle.field.proofs.IsField.{IsField}
use Rattle.field.proofs.Gf256.{field}
use Rattle.field.proofs.Ring.{ring, add_mul, zero_divisor}
use Rattle.field.proofs.Sum.{sum_ext}
use Rattle.code.specs.Block.{byte}
use Rattle.code.specs.Labels.{built_in}
use Rattle.code.proofs.BuiltIn.{figures, in_figures}
use Rattle.pairs.specs.Words.{byte_of, spread_of, spread, gathered, at_point, paired, at_both}
use Rattle.pairs.specs.Shifts.{low, part, up}
use Rattle.sums.specs.Maps.{turned, times, settled}
use Rattle.sums.specs.Sums.{rows_of, taken, next}
use Rattle.sums.specs.declared.Sums.{Sums}
use Rattle.pairs.proofs.Points.{through, agree, once_at, squared_at, spread_at, at_point_below}
use Rattle.pairs.proofs.Bytes.{byte_of_add}
use Rattle.sums.proofs.Zero.{low_row, rows_below}
use Rattle.pairs.proofs.Fold.{after, low_add, part_add, up_add, paired_add, no_pair, first_of, second_of, once_from, squared_from}
use Rattle.sums.proofs.Syndrome.{built_in_below}

-- ---- card 0
-- a number is its bytes at their places
from_bytes : (u n : ℕ) → u % 2 ^ (8 * n) ≡ sum n (λ i. byte_of u i * 2 ^ (8 * i))
unfolding sum byte_of ◌⊕◌
from_bytes u zero = mod-one u
from_bytes u (suc n) =
    let e : 8 * suc n ≡ 8 + 8 * n = omega arith in
    ap (λ (k : ℕ). u % 2 ^ k) e ∙ mod-pow-add u 8 (8 * n)
    ∙ sym (xor_shifted (u / 2 ^ (8 * n) % 2 ^ 8) (8 * n) (u % 2 ^ (8 * n)) (mod-lt u (pow_pos (8 * n))))
    ∙ ap (λ (x : ℕ). (u / 2 ^ (8 * n) % 2 ^ 8 * 2 ^ (8 * n)) ⊕ x) (from_bytes u n)

digits_test : T (every (λ i. eqb (get_or (spread figures) i 0) (2 ^ (8 * i))) 8)
unfolding figures spread_of
digits_test = tt

own_digit : (i : ℕ) → i < 8 → get_or (spread built_in) i 0 ≡ 2 ^ (8 * i)
own_digit i l =
    ap (λ (ls : List ℕ). get_or (spread ls) i 0) in_figures
    ∙ eqb→eq (get_or (spread figures) i 0) (2 ^ (8 * i)) (every_at (λ i. eqb (get_or (spread figures) i 0) (2 ^ (8 * i))) 8 digits_test i l)

eighth : get_or (spread built_in) 8 0 ≡ 0x0000000101010001
unfolding figures spread_of
eighth = ap (λ (ls : List ℕ). get_or (spread ls) 8 0) in_figures

pub first_gathered : (s : Sums) → s.low < 2 ^ 64 → s.low ⊕ (s.high * 0x0000000101010001) ≡ gathered (rows_of s) (spread built_in) 0
unfolding gathered sum
first_gathered s h =
    add_comm s.low (s.high * 0x0000000101010001)
    ∙ ap₂ (λ (x y : ℕ). (s.high * x) ⊕ y) (sym eighth)
    (sym (mod-eq_of_lt h) ∙ from_bytes s.low 8
    ∙ sum_ext 8 (λ i. byte_of s.low i * 2 ^ (8 * i)) (λ i. byte (rows_of s) i * get_or (spread built_in) i 0)
    (λ i l. ap₂ (λ (x y : ℕ). x * y) (low_row s i l) (sym (own_digit i l))))

-- ---- the map
turned_add : Additive turned
unfolding turned
turned_add a b = simp (low_add, up_add, sums)

times_add : Additive times
unfolding times
times_add a b = simp (low_add, part_add, add_shr, sums)

settled_add : Additive settled
unfolding settled
settled_add a b = simp (times_add, low_add, up_add, sums)

-- a product in each of the two bytes
scaled_pair : ℕ → ℕ → ℕ → ℕ
scaled_pair c d v = paired (c · byte_of v 0) (d · byte_of v 4)

scaled_pair_add : (c d : ℕ) → Additive (scaled_pair c d)
unfolding scaled_pair
scaled_pair_add c d a b =
    ap₂ paired
    (ap (λ (x : ℕ). c · x) (byte_of_add 0 a b) ∙ field.distrib c (byte_of a 0) (byte_of b 0))
    (ap (λ (x : ℕ). d · x) (byte_of_add 4 a b) ∙ field.distrib d (byte_of a 4) (byte_of b 4))
    ∙ paired_add (c · byte_of a 0) (c · byte_of b 0) (d · byte_of a 4) (d · byte_of b 4)

next_test : T (every (λ i. eqb (settled (turned (2 ^ i))) (scaled_pair 152 78 (2 ^ i))) 64)
unfolding low part up turned times settled scaled_pair byte_of product remainder polynomial_product sum ◌⊕◌
next_test = tt

first_label : byte built_in 9 ≡ 152
unfolding figures
first_label = ap (λ (ls : List ℕ). byte ls 9) in_figures

first_square : 152 · 152 ≡ 78
unfolding product remainder polynomial_product sum ◌⊕◌
first_square = refl

pub next_is : (v : ℕ) → v < 2 ^ 64 → settled (turned v) ≡ next v
unfolding scaled_pair next
next_is v h =
    agree (λ v. settled (turned v)) (scaled_pair 152 78) (after settled turned settled_add turned_add) (scaled_pair_add 152 78) 64 next_test v h
    ∙ ap₂ (λ (c d : ℕ). paired (c · byte_of v 0) (d · byte_of v 4)) (sym first_label)
    (sym (ap₂ (λ (x y : ℕ). x · y) first_label first_label ∙ first_square))

-- ---- the labels
once_test : T (every (λ j. every (λ i. eqb (byte figures (9 * (j + 1) + i)) (152 · byte figures (9 * j + i))) 9) 4)
unfolding figures product remainder polynomial_product sum ◌⊕◌
once_test = tt

pub by_first : (j i : ℕ) → j < 4 → i < 9 → byte built_in (9 * (j + 1) + i) ≡ byte built_in 9 · byte built_in (9 * j + i)
by_first j i l m =
    ap (λ (ls : List ℕ). byte ls (9 * (j + 1) + i)) in_figures
    ∙ eqb→eq (byte figures (9 * (j + 1) + i)) (152 · byte figures (9 * j + i))
    (every_at (λ i. eqb (byte figures (9 * (j + 1) + i)) (152 · byte figures (9 * j + i))) 9
    (every_at (λ j. every (λ i. eqb (byte figures (9 * (j + 1) + i)) (152 · byte figures (9 * j + i))) 9) 4 once_test j l) i m)
    ∙ ap₂ (λ (c x : ℕ). c · x) (sym first_label) (ap (λ (ls : List ℕ). byte ls (9 * j + i)) (sym in_figures))

-- (sorting wants the product as a variable, not as an abbreviation)
module _ (◌∗◌ : ℕ → ℕ → ℕ) (F : IsField 8 ◌∗◌) (c x : ℕ) where
  infixl 70 ◌∗◌
  square_of : (c ∗ x) ∗ (c ∗ x) ≡ (c ∗ c) ∗ (x ∗ x)
  square_of = simp (ring, F)

-- ---- the rows
module _ (s : Sums) (h : s.high < 2 ^ 8) where
  once_over : (j : ℕ) → at_point 2 8 (gathered (rows_of s) (spread built_in) j) ≡ sum 9 (λ i. byte built_in (9 * j + i) · byte (rows_of s) i)
  unfolding gathered
  once_over j =
      once_at 9 (λ i. byte built_in (9 * j + i)) (byte (rows_of s)) (λ i. get_or (spread built_in) (9 * j + i) 0)
      (λ i l. spread_at built_in (9 * j + i)) (λ i l. built_in_below (9 * j + i)) (rows_below s h)

  squared_over : (j : ℕ) → at_point 4 8 (gathered (rows_of s) (spread built_in) j)
      ≡ sum 9 (λ i. (byte built_in (9 * j + i) · byte built_in (9 * j + i)) · byte (rows_of s) i)
  unfolding gathered
  squared_over j =
      squared_at 9 (λ i. byte built_in (9 * j + i)) (byte (rows_of s)) (λ i. get_or (spread built_in) (9 * j + i) 0)
      (λ i l. spread_at built_in (9 * j + i)) (λ i l. built_in_below (9 * j + i)) (rows_below s h)

  -- entries that are c times others
  scaled : (c : ℕ) (f g : ℕ → ℕ) → ((i : ℕ) → i < 9 → g i ≡ c · f i)
      → c · sum 9 (λ i. f i · byte (rows_of s) i) ≡ sum 9 (λ i. g i · byte (rows_of s) i)
  scaled c f g e =
      through (λ x. c · x) (field.distrib c) 9 (λ i. f i · byte (rows_of s) i)
      ∙ sum_ext 9 (λ i. c · (f i · byte (rows_of s) i)) (λ i. g i · byte (rows_of s) i)
      (λ i l. sym (field.assoc c (f i) (byte (rows_of s) i)) ∙ ap (λ (x : ℕ). x · byte (rows_of s) i) (sym (e i l)))

pub next_taken : (s : Sums) (j : ℕ) → s.high < 2 ^ 8 → j < 4 → next (taken s j) ≡ taken s (j + 1)
unfolding next
next_taken s j h l =
    ap₂ paired
    (ap (λ (x : ℕ). c · x) (once_from (u j) ∙ once_over s h j) ∙ scaled s h c (λ i. at j i) (λ i. at (j + 1) i) (λ i m. by_first j i l m)
    ∙ sym (once_over s h (j + 1)))
    (ap (λ (x : ℕ). (c · c) · x) (squared_from (u j) ∙ squared_over s h j)
    ∙ scaled s h (c · c) (λ i. at j i · at j i) (λ i. at (j + 1) i · at (j + 1) i)
    (λ i m. ap (λ (x : ℕ). x · x) (by_first j i l m) ∙ square_of ◌·◌ field c (at j i))
    ∙ sym (squared_over s h (j + 1)))
  where
    c : ℕ
    c = byte built_in 9

    at : ℕ → ℕ → ℕ
    at j i = byte built_in (9 * j + i)

    u : ℕ → ℕ
    u j = gathered (rows_of s) (spread built_in) j

-- ---- different cards take different amounts
fixed : (c a : ℕ) → c < 2 ^ 8 → a < 2 ^ 8 → c ≢ 1 → c · a ≡ a → a ≡ 0
fixed c a hc ha n e =
    zero_divisor 8 ◌·◌ field (c ⊕ 1) a (add_lt 8 c 1 hc (omega arith)) ha (λ z. n (eq_of_sum c 1 z))
    (add_mul 8 ◌·◌ field c 1 a ∙ ap₂ (λ (x y : ℕ). x ⊕ y) e (field.one a ha) ∙ add_self a)

-- what two neighbours both take is nothing
pub next_fixed : (u : ℕ) → next (at_both u) ≡ at_both u → at_both u ≡ 0
unfolding next
next_fixed u e =
    ap₂ paired
    (fixed c a (built_in_below 9) (at_point_below 2 8 u) (λ z. let q : ◌≡◌ {A = ℕ} 152 1 = sym first_label ∙ z in omega (arith, q))
    (ap (λ (x : ℕ). c · x) (sym (once_from u)) ∙ sym (first_of (c · byte_of (at_both u) 0) _ (field.below c (byte_of (at_both u) 0)))
    ∙ ap (λ (v : ℕ). byte_of v 0) e ∙ once_from u))
    (fixed (c · c) b (field.below c c) (at_point_below 4 8 u)
    (λ z. let q : ◌≡◌ {A = ℕ} 78 1 = sym (ap₂ (λ (x y : ℕ). x · y) first_label first_label ∙ first_square) ∙ z in omega (arith, q))
    (ap (λ (x : ℕ). (c · c) · x) (sym (squared_from u))
    ∙ sym (second_of (c · byte_of (at_both u) 0) ((c · c) · byte_of (at_both u) 4) (field.below c (byte_of (at_both u) 0))
    (field.below (c · c) (byte_of (at_both u) 4)))
    ∙ ap (λ (v : ℕ). byte_of v 4) e ∙ squared_from u))
    ∙ no_pair
  where
    c : ℕ
    c = byte built_in 9

    a : ℕ
    a = at_point 2 8 u

    b : ℕ
    b = at_point 4 8 u
