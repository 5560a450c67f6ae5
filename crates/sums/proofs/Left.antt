-- Whether a block is lawful, as the code asks it of many: the rows' words and the pair of label sums, joined by "or".
--
--   or_left, or_right    "or" gives 0 only where both are 0
--   zero_exactly         the cards' words, summed, and the pair are 0 exactly where the 45 bytes from a place on are a lawful block
--   left_exactly         by it: the words and the pair, as the code joins them, are 0 exactly where the block is lawful
--   chunk                of blocks one after the other, block k is the 45 bytes from place 45 k on
--   flag                 a test as a digit
--   Digits               a number whose digits say where something holds; none_passed, one_passed, four_below: as the loop makes it
use mathlib.Core.Logic.{◌≢◌, ◌⊎◌, inl, inr, ◌↔◌}
use mathlib.Core.Path.{◌≡◌, sym, ap, ap₂, ◌∙◌, subst}
use mathlib.Core.List.{List}
use Prim.Native.Nat.{ℕ, zero, suc, ◌+◌, ◌-◌, ◌*◌, ◌/◌, ◌%◌, ◌^◌, ◌<◌}
use native.Mathlib.Nat.{not-suc-le-zero, mod-eq_of_lt, lt_of_lt_of_le}
use native.Mathlib.Omega.{arith}
use native.Mathlib.Decide.{dec_lt}
use lib.Arith.{digits_div, digits_mod}
use lib.Bits.{bit_or, or_add_and, or_shifted_r, and_le_l, and_le_r}
use lib.Dec.{eqb}
use Rattle.sums.specs.Sums.{Word, RowsWord}
use Rattle.sums.proofs.Cards.{five_sum}
use Rattle.field.proofs.Sum.{sum_ext}
use Rattle.field.proofs.Xor.{sums, add_lt}
use lib.Seq.{get_or-take, get_or-drop}
use mathlib.Core.Bool.{Bool, not}
use borrow.Author.Tests.{eq-eqb, ne_eqb}
use mir.Val.{bool_byte}
use lib.ListN.{length, get_or, take, drop}
use Rattle.std.proofs.Common.{drop-drop, zero-add}
use Rattle.std.proofs.lemmas.List.{take_all}
use Rattle.std.specs.Simd.{first_chunks}
use lib.Pow.{field, mod-mod-pow, pow-add, pow_mono, shl_lt}
use Rattle.base.specs.Base.{digit}
use Rattle.std.proofs.lemmas.Bool.{cases_eq}
use Rattle.base.proofs.Tests.{below_suc}
use Rattle.field.specs.Field.{◌⊕◌, ◌·◌, sum}
use Rattle.code.specs.Block.{byte, position, Lawful}
use Rattle.code.specs.Labels.{built_in}
use Rattle.pairs.specs.Words.{byte_of, at_point, paired, at_both}
use Rattle.pairs.proofs.Bytes.{byte_of_add, byte_of_zero, zero_bytes}
use Rattle.pairs.proofs.Fold.{no_pair, once_from, squared_from}

or_left : (a b : ℕ) → bit_or a b ≡ 0 → a ≡ 0
or_left a b e = omega (arith, e, or_add_and a b, and_le_r a b)

or_right : (a b : ℕ) → bit_or a b ≡ 0 → b ≡ 0
or_right a b e = omega (arith, e, or_add_and a b, and_le_l a b)

-- ---- one block
module _ (b : List ℕ) (low high u : ℕ) (low_fits : low < 2 ^ 64) (high_fits : high < 2 ^ 64)
    (low_row : (k : ℕ) → k < 8 → byte_of low k ≡ sum 5 (λ j. byte b (position j k)))
    (high_row : (k : ℕ) → k < 8 → byte_of high k ≡ sum 5 (λ j. byte b (position j (1 + k))))
    (once : at_point 2 8 u ≡ sum 45 (λ p. byte built_in p · byte b p))
    (squared : at_point 4 8 u ≡ sum 45 (λ p. (byte built_in p · byte built_in p) · byte b p)) where
  zero_lawful : low ≡ 0 → high ≡ 0 → at_both u ≡ 0 → Lawful built_in b
  zero_lawful l h z = record {
    chips = λ i m. chip i m (dec_lt i 8);
    once = sym once ∙ sym (once_from u) ∙ ap (λ (v : ℕ). byte_of v 0) z ∙ byte_of_zero 0;
    squared = sym squared ∙ sym (squared_from u) ∙ ap (λ (v : ℕ). byte_of v 4) z ∙ byte_of_zero 4;
  }
    where
      chip : (i : ℕ) → i < 9 → Dec (i < 8) → sum 5 (λ j. byte b (position j i)) ≡ 0
      chip i m (yes n) = sym (low_row i n) ∙ ap (λ (v : ℕ). byte_of v i) l ∙ byte_of_zero i
      chip i m (no n) =
          let e : i ≡ 1 + 7 = omega arith in
          ap (λ (i : ℕ). sum 5 (λ j. byte b (position j i))) e ∙ sym (high_row 7 (omega arith)) ∙ ap (λ (v : ℕ). byte_of v 7) h ∙ byte_of_zero 7

  lawful_zero : Lawful built_in b → (low ≡ 0) × (high ≡ 0) × (at_both u ≡ 0)
  lawful_zero law = (
    zero_bytes 8 low low_fits (λ k m. low_row k m ∙ law.chips k (omega arith)),
    zero_bytes 8 high high_fits (λ k m. high_row k m ∙ law.chips (1 + k) (omega arith)),
    ap₂ paired (once ∙ law.once) (squared ∙ law.squared) ∙ no_pair,
  )

  rows_exactly : ((low ≡ 0) × (high ≡ 0) × (at_both u ≡ 0)) ↔ Lawful built_in b
  rows_exactly = ((λ z. zero_lawful z.0 z.1 z.2), lawful_zero)

-- ---- 45 bytes from a place on, by the words of their cards
five_of : (g : ℕ → ℕ) (i w₀ w₁ w₂ w₃ w₄ : ℕ) → byte_of w₀ i ≡ g 0 → byte_of w₁ i ≡ g 1 → byte_of w₂ i ≡ g 2 → byte_of w₃ i ≡ g 3
    → byte_of w₄ i ≡ g 4 → byte_of (w₀ ⊕ w₁ ⊕ w₂ ⊕ w₃ ⊕ w₄) i ≡ sum 5 g
unfolding sum
five_of g i w₀ w₁ w₂ w₃ w₄ h₀ h₁ h₂ h₃ h₄ = simp (byte_of_add i, h₀, h₁, h₂, h₃, h₄, sums)

five_below : (w₀ w₁ w₂ w₃ w₄ : ℕ) → w₀ < 2 ^ 64 → w₁ < 2 ^ 64 → w₂ < 2 ^ 64 → w₃ < 2 ^ 64 → w₄ < 2 ^ 64 → w₀ ⊕ w₁ ⊕ w₂ ⊕ w₃ ⊕ w₄ < 2 ^ 64
five_below w₀ w₁ w₂ w₃ w₄ h₀ h₁ h₂ h₃ h₄ =
    add_lt 64 (w₀ ⊕ w₁ ⊕ w₂ ⊕ w₃) w₄ (add_lt 64 (w₀ ⊕ w₁ ⊕ w₂) w₃ (add_lt 64 (w₀ ⊕ w₁) w₂ (add_lt 64 w₀ w₁ h₀ h₁) h₂) h₃) h₄

module _ (b : List ℕ) (at : ℕ) where
  abbrev pub at_of : ℕ → ℕ
  at_of p = byte b (at + p)

  abbrev part : List ℕ
  part = take 45 (drop at b)

  in_part : (p : ℕ) → p < 45 → byte part p ≡ at_of p
  in_part p h = get_or-take 45 (drop at b) p 0 h ∙ get_or-drop at b p 0

  row_of : (i : ℕ) → i < 9 → sum 5 (λ j. byte part (position j i)) ≡ sum 5 (λ j. at_of (position j i))
  row_of i h = sum_ext 5 (λ j. byte part (position j i)) (λ j. at_of (position j i)) (λ j g. in_part (position j i) (omega arith))

  sum_of : (c : ℕ → ℕ) → sum 45 (λ p. c p · byte part p) ≡ sum 45 (λ p. c p · at_of p)
  sum_of c = sum_ext 45 (λ p. c p · byte part p) (λ p. c p · at_of p) (λ p h. ap (λ (x : ℕ). c p · x) (in_part p h))

  module _ (w₀ w₉ w₁₈ w₂₇ w₃₆ w₁ w₁₀ w₁₉ w₂₈ w₃₇ u : ℕ)
      (h₀ : Word at_of 0 w₀) (h₉ : Word at_of 9 w₉) (h₁₈ : Word at_of 18 w₁₈) (h₂₇ : Word at_of 27 w₂₇) (h₃₆ : Word at_of 36 w₃₆)
      (h₁ : Word at_of 1 w₁) (h₁₀ : Word at_of 10 w₁₀) (h₁₉ : Word at_of 19 w₁₉) (h₂₈ : Word at_of 28 w₂₈) (h₃₇ : Word at_of 37 w₃₇)
      (once : at_point 2 8 u ≡ sum 45 (λ p. byte built_in p · at_of p))
      (squared : at_point 4 8 u ≡ sum 45 (λ p. (byte built_in p · byte built_in p) · at_of p)) where
    low_row : (i : ℕ) → i < 8 → byte_of (w₀ ⊕ w₉ ⊕ w₁₈ ⊕ w₂₇ ⊕ w₃₆) i ≡ sum 5 (λ j. byte part (position j i))
    low_row i l =
        five_of (λ j. at_of (position j i)) i w₀ w₉ w₁₈ w₂₇ w₃₆ (h₀.1 i l) (h₉.1 i l) (h₁₈.1 i l) (h₂₇.1 i l) (h₃₆.1 i l)
        ∙ sym (row_of i (omega arith))

    high_row : (i : ℕ) → i < 8 → byte_of (w₁ ⊕ w₁₀ ⊕ w₁₉ ⊕ w₂₈ ⊕ w₃₇) i ≡ sum 5 (λ j. byte part (position j (1 + i)))
    high_row i l =
        five_of (λ j. at_of (position j (1 + i))) i w₁ w₁₀ w₁₉ w₂₈ w₃₇
        (h₁.1 i l ∙ ap at_of (let e : 1 + i ≡ 9 * 0 + (1 + i) = omega arith in e))
        (h₁₀.1 i l ∙ ap at_of (let e : 10 + i ≡ 9 * 1 + (1 + i) = omega arith in e))
        (h₁₉.1 i l ∙ ap at_of (let e : 19 + i ≡ 9 * 2 + (1 + i) = omega arith in e))
        (h₂₈.1 i l ∙ ap at_of (let e : 28 + i ≡ 9 * 3 + (1 + i) = omega arith in e))
        (h₃₇.1 i l ∙ ap at_of (let e : 37 + i ≡ 9 * 4 + (1 + i) = omega arith in e))
        ∙ sym (row_of (1 + i) (omega arith))

    pub zero_exactly : ((w₀ ⊕ w₉ ⊕ w₁₈ ⊕ w₂₇ ⊕ w₃₆ ≡ 0) × (w₁ ⊕ w₁₀ ⊕ w₁₉ ⊕ w₂₈ ⊕ w₃₇ ≡ 0) × (at_both u ≡ 0)) ↔ Lawful built_in part
    zero_exactly =
        rows_exactly part (w₀ ⊕ w₉ ⊕ w₁₈ ⊕ w₂₇ ⊕ w₃₆) (w₁ ⊕ w₁₀ ⊕ w₁₉ ⊕ w₂₈ ⊕ w₃₇) u
        (five_below w₀ w₉ w₁₈ w₂₇ w₃₆ h₀.0 h₉.0 h₁₈.0 h₂₇.0 h₃₆.0) (five_below w₁ w₁₀ w₁₉ w₂₈ w₃₇ h₁.0 h₁₀.0 h₁₉.0 h₂₈.0 h₃₇.0)
        low_row high_row (once ∙ sym (sum_of (byte built_in))) (squared ∙ sym (sum_of (λ p. byte built_in p · byte built_in p)))

-- a block, by the words of its cards, as the code joins them
pub left_exactly : (b : List ℕ) (x y v u : ℕ) → length b ≡ 45 → RowsWord (byte b) 0 x → RowsWord (byte b) 1 y → v ≡ at_both u
    → at_point 2 8 u ≡ sum 45 (λ p. byte built_in p · byte b p) → at_point 4 8 u ≡ sum 45 (λ p. (byte built_in p · byte built_in p) · byte b p)
    → (bit_or (bit_or x y) v ≡ 0) ↔ Lawful built_in b
left_exactly b x y v u long low high both once squared = (
  (λ e. let rows : bit_or x y ≡ 0 = or_left (bit_or x y) v e in
      subst (Lawful built_in) whole
      (is.0 (five_sum (at low) ∙ sym low.total ∙ or_left x y rows, five_sum (at high) ∙ sym high.total ∙ or_right x y rows, sym both ∙ or_right (bit_or x y) v e))),
  (λ law. let z = is.1 (subst (Lawful built_in) (sym whole) law) in
      ap₂ bit_or (ap₂ bit_or (low.total ∙ sym (five_sum (at low)) ∙ z.0) (high.total ∙ sym (five_sum (at high)) ∙ z.1)) (both ∙ z.2)),
)
  where
    at : {i w : ℕ} → RowsWord (byte b) i w → ℕ → ℕ
    at rows j = get_or rows.words j 0

    whole : take 45 (drop 0 b) ≡ b
    whole = take_all 45 b (omega (arith, long))

    -- from place 0 on
    from : (k w : ℕ) → Word (byte b) k w → Word (at_of b 0) k w
    from k w word = (word.0, λ i l. word.1 i l ∙ ap (byte b) (sym (zero-add (k + i))))

    over : (c : ℕ → ℕ) → sum 45 (λ p. c p · byte b p) ≡ sum 45 (λ p. c p · at_of b 0 p)
    over c = sum_ext 45 (λ p. c p · byte b p) (λ p. c p · at_of b 0 p) (λ p l. ap (λ (q : ℕ). c p · byte b q) (sym (zero-add p)))

    low_at : (j : ℕ) → j < 5 → Word (at_of b 0) (9 * j + 0) (at low j)
    low_at j h = from (9 * j + 0) (at low j) (low.cards j h)

    high_at : (j : ℕ) → j < 5 → Word (at_of b 0) (9 * j + 1) (at high j)
    high_at j h = from (9 * j + 1) (at high j) (high.cards j h)

    is : ((at low 0 ⊕ at low 1 ⊕ at low 2 ⊕ at low 3 ⊕ at low 4 ≡ 0) × (at high 0 ⊕ at high 1 ⊕ at high 2 ⊕ at high 3 ⊕ at high 4 ≡ 0)
        × (at_both u ≡ 0)) ↔ Lawful built_in (take 45 (drop 0 b))
    is =
        zero_exactly b 0 (at low 0) (at low 1) (at low 2) (at low 3) (at low 4) (at high 0) (at high 1) (at high 2) (at high 3) (at high 4) u
        (low_at 0 (omega arith)) (low_at 1 (omega arith)) (low_at 2 (omega arith)) (low_at 3 (omega arith)) (low_at 4 (omega arith))
        (high_at 0 (omega arith)) (high_at 1 (omega arith)) (high_at 2 (omega arith)) (high_at 3 (omega arith)) (high_at 4 (omega arith))
        (once ∙ over (byte built_in)) (squared ∙ over (λ p. byte built_in p · byte built_in p))

-- ---- blocks one after the other
pub chunk : (n m k : ℕ) (b : List ℕ) (d : List ℕ) → k < m → get_or (first_chunks n m b) k d ≡ take n (drop (n * k) b)
chunk n zero k b d h = absurd (not-suc-le-zero h)
chunk n (suc m) zero b d h = let e : 0 ≡ n * 0 = omega arith in ap (λ (i : ℕ). take n (drop i b)) e
chunk n (suc m) (suc k) b d h =
    let e : n + n * k ≡ n * suc k = omega arith in
    chunk n m k (drop n b) d (omega arith) ∙ ap (take n) (drop-drop (n * k) n b ∙ ap (λ (i : ℕ). drop i b) e)

-- ---- digits
-- a digit above those of a
low_digit : (x k i : ℕ) → i < k → digit (x % 2 ^ k) i ≡ digit x i
low_digit x k i l =
    let d : ℕ = k - (i + 1) in
    let e : k ≡ (k - (i + 1) + 1) + i = omega arith in
    ap (λ (n : ℕ). x % 2 ^ n / 2 ^ i % 2) e ∙ ap (λ (y : ℕ). y % 2) (field x (d + 1) i) ∙ mod-mod-pow (x / 2 ^ i) d 1

-- a test as a digit
pub flag : (x u : ℕ) → x ≡ bool_byte (not (eqb u 0)) → (x < 2) × ((x ≡ 0) ↔ (u ≡ 0))
flag x u e = pick (cases_eq u 0)
  where
    pick : (u ≡ 0) ⊎ (u ≢ 0) → (x < 2) × ((x ≡ 0) ↔ (u ≡ 0))
    pick (inl z) =
        let q : x ≡ 0 = e ∙ ap (λ (t : Bool). bool_byte (not t)) (eq-eqb u 0 z) in
        (omega (arith, q), ((λ y. z), (λ y. q)))
    pick (inr n) =
        let q : x ≡ 1 = e ∙ ap (λ (t : Bool). bool_byte (not t)) (ne_eqb u 0 n) in
        (omega (arith, q), ((λ y. absurd (omega (arith, q, y))), (λ y. absurd (n y))))

-- digit i of r, below k, is 0 exactly where P i holds, and there is no digit from k on
pub record Digits (P : ℕ → Type 0) (k r : ℕ) : Type 0 where
  pub below : r < 2 ^ k
  pub each : (i : ℕ) → i < k → (digit r i ≡ 0) ↔ P i

pub none_passed : (P : ℕ → Type 0) → Digits P 0 0
none_passed P = record { below = omega arith; each = λ i l. absurd (not-suc-le-zero l) }

-- one digit more, as the code puts it above the others
pub one_passed : (P : ℕ → Type 0) (k r f : ℕ) → k < 4 → Digits P k r → f < 2 → (f ≡ 0) ↔ P k → Digits P (k + 1) (bit_or r (f * 2 ^ k % 2 ^ 64))
one_passed P k r f hk d hf is = subst (Digits P (k + 1)) (sym joined) (record {
  below = subst (λ (n : ℕ). f * 2 ^ k + r < n) (sym (pow-add 2 k 1)) (pick (cases_eq f 0));
  each = λ i l. below_suc (λ i. (digit (f * 2 ^ k + r) i ≡ 0) ↔ P i) k
      (subst (λ (x : ℕ). (x ≡ 0) ↔ P k) (sym (ap (λ (y : ℕ). y % 2) (digits_div f d.below) ∙ mod-eq_of_lt hf)) is)
      (λ i m. subst (λ (x : ℕ). (x ≡ 0) ↔ P i) (sym (kept i m)) (d.each i m)) i (omega (arith, l));
})
  where
    small : f * 2 ^ k < 2 ^ 64
    small = lt_of_lt_of_le (shl_lt 1 k hf) (pow_mono {i = 1 + k} {j = 64} (omega arith))

    joined : bit_or r (f * 2 ^ k % 2 ^ 64) ≡ f * 2 ^ k + r
    joined = ap (bit_or r) (mod-eq_of_lt small) ∙ or_shifted_r f k r d.below

    pick : (f ≡ 0) ⊎ (f ≢ 0) → f * 2 ^ k + r < 2 ^ k * 2 ^ 1
    pick (inl e) = rw e (omega (arith, d.below))
    pick (inr n) = let e : f ≡ 1 = omega (arith, hf, n) in rw e (omega (arith, d.below))

    kept : (i : ℕ) → i < k → digit (f * 2 ^ k + r) i ≡ digit r i
    kept i m = sym (low_digit (f * 2 ^ k + r) k i m) ∙ ap (λ (y : ℕ). digit y i) (digits_mod f d.below)

pub four_below : (P : ℕ → Type 0) (r : ℕ) → Digits P 4 r → r < 16
four_below P r d = d.below
