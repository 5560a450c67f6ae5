-- From the gathered word to the two label sums.
--
--   one_more                  the sum of byte times word, one place further
--   through                   an additive map goes through a sum
--   agree                     two additive maps agree where they do at the powers of 2
--   at_point_add              a point's value is additive in the word
--   spread_times_add          a spread number takes sums of bytes to sums
--   once_at, squared_at       bytes gathered by spread labels: at x the sum of label times byte, at x squared that of label squared times byte
--   spread_at, spread_length, spread_small   the words of a list of labels
--   word_fits                 a byte times a word that is small fits 64 bits
use mathlib.Core.Path.{◌≡◌, refl, sym, ap, ap₂, ◌∙◌, subst}
use mathlib.Core.List.{List, [], ◌∷◌}
use Prim.Native.Nat.{ℕ, zero, suc, ◌+◌, ◌*◌, ◌/◌, ◌%◌, ◌^◌, ◌<◌}
use native.Mathlib.Nat.{mod-lt, zero-mul, mul-zero, one-mul, mul_comm, mul_assoc, mul-add, mod-eq_of_lt, lt_of_le_of_lt, mul-le-mul}
use native.Mathlib.Numerals.{add-one}
use native.Mathlib.Omega.{arith}
use lib.Dec.{T, eqb, eqb→eq, lit<}
use lib.Arith.{digits_div, digits_mod}
use lib.ListN.{length, get_or}
use lib.Bits.{xor_shifted}
use lib.Pow.{pow_pos, pow-add}
use Rattle.field.specs.Field.{◌⊕◌, ◌·◌, sum, polynomial_product, remainder, product}
use Rattle.base.proofs.Tests.{every, every_at}
use Rattle.field.proofs.Xor.{add_self, add_lt, add_shr, add_mod, swap}
use Rattle.field.proofs.Linear.{bit_lt, bit_ind, scale_add, Additive, at_zero, additive_ext}
use Rattle.field.proofs.Remainder.{times_pow_add}
use Rattle.field.proofs.Gf256.{field}
use Rattle.field.proofs.Ring.{add_mul, zero_mul as zero_times}
use Rattle.field.proofs.Sum.{sum_ext}
use Rattle.field.proofs.Squares.{square_add}
use Rattle.code.specs.Block.{byte}
use Rattle.pairs.specs.Words.{spread_of, spread, at_point}

-- one byte more
pub one_more : (bytes words : ℕ → ℕ) (p b u : ℕ) → b ≡ bytes p → u ≡ sum p (λ q. bytes q * words q) → (b * words p) ⊕ u ≡ sum (p + 1) (λ q. bytes q * words q)
unfolding sum
one_more bytes words p b u e i = ap₂ (λ (x y : ℕ). (x * words p) ⊕ y) e i ∙ ap (λ (n : ℕ). sum n (λ q. bytes q * words q)) (sym (add-one p))

-- an additive map goes through a sum
pub through : (f : ℕ → ℕ) → Additive f → (n : ℕ) (g : ℕ → ℕ) → f (sum n g) ≡ sum n (λ j. f (g j))
unfolding sum
through f h zero g = at_zero f h
through f h (suc n) g = h (g n) (sum n g) ∙ ap (λ (x : ℕ). f (g n) ⊕ x) (through f h n g)

-- two additive maps agree, by a test at the n powers of 2
pub agree : (f g : ℕ → ℕ) → Additive f → Additive g → (n : ℕ) → T (every (λ i. eqb (f (2 ^ i)) (g (2 ^ i))) n) → (u : ℕ) → u < 2 ^ n → f u ≡ g u
agree f g hf hg n test u h =
    let e : u ≡ u % 2 ^ n = sym (mod-eq_of_lt h) in
    ap f e ∙ additive_ext f g hf hg n (λ i l. eqb→eq (f (2 ^ i)) (g (2 ^ i)) (every_at (λ i. eqb (f (2 ^ i)) (g (2 ^ i))) n test i l)) u ∙ ap g (sym e)

pub at_point_add : (c n : ℕ) → Additive (at_point c n)
unfolding at_point
at_point_add c zero a b = sym (add_self 0)
at_point_add c (suc n) a b =
    ap₂ (λ (x y : ℕ). x ⊕ (c · y)) (add_mod a b 8) (ap (at_point c n) (add_shr a b 8) ∙ at_point_add c n (a / 2 ^ 8) (b / 2 ^ 8))
    ∙ ap (λ (y : ℕ). ((a % 2 ^ 8) ⊕ (b % 2 ^ 8)) ⊕ y) (field.distrib c (at_point c n (a / 2 ^ 8)) (at_point c n (b / 2 ^ 8)))
    ∙ swap (a % 2 ^ 8) (b % 2 ^ 8) (c · at_point c n (a / 2 ^ 8)) (c · at_point c n (b / 2 ^ 8))

pub at_point_below : (c n u : ℕ) → at_point c n u < 2 ^ 8
unfolding at_point
at_point_below c zero u = pow_pos 8
at_point_below c (suc n) u = add_lt 8 (u % 2 ^ 8) (c · at_point c n (u / 2 ^ 8)) (mod-lt u (pow_pos 8)) (field.below c (at_point c n (u / 2 ^ 8)))

-- ---- a byte times a spread label
scale_lt : (x b : ℕ) → x < 2 → b < 2 ^ 8 → x * b < 2 ^ 8
scale_lt x b hx hb = bit_ind (λ (x : ℕ). x * b < 2 ^ 8) (omega arith) (omega arith) x hx

spread_digits : (n b x : ℕ) → b * spread_of (suc n) x ≡ (b * spread_of n (x / 2)) * 2 ^ 8 + x % 2 * b
unfolding spread_of
spread_digits n b x =
    mul-add b (spread_of n (x / 2) * 2 ^ 8) (x % 2)
    ∙ ap₂ (λ (y z : ℕ). y + z) (sym (mul_assoc b (spread_of n (x / 2)) (2 ^ 8))) (mul_comm b (x % 2))

-- a spread number takes sums of bytes to sums: no digit of it meets another's
joined : (a c : ℕ) → c < 2 ^ 8 → a * 2 ^ 8 + c ≡ (a * 2 ^ 8) ⊕ c
unfolding ◌⊕◌
joined a c h = sym (xor_shifted a 8 c h)

pub spread_times_add : (n x a b : ℕ) → a < 2 ^ 8 → b < 2 ^ 8 → (a ⊕ b) * spread_of n x ≡ (a * spread_of n x) ⊕ (b * spread_of n x)
unfolding spread_of
spread_times_add zero x a b ha hb = simp (mul-zero, add_self)
spread_times_add (suc n) x a b ha hb =
    let s : ℕ = spread_of n (x / 2) in
    let d : ℕ = x % 2 in
    spread_digits n (a ⊕ b) x
    ∙ joined ((a ⊕ b) * s) (d * (a ⊕ b)) (scale_lt d (a ⊕ b) (bit_lt x) (add_lt 8 a b ha hb))
    ∙ ap₂ (λ (y z : ℕ). y ⊕ z) (ap (λ (y : ℕ). y * 2 ^ 8) (spread_times_add n (x / 2) a b ha hb) ∙ times_pow_add (a * s) (b * s) 8)
    (scale_add d a b (bit_lt x))
    ∙ swap (a * s * 2 ^ 8) (b * s * 2 ^ 8) (d * a) (d * b)
    ∙ sym (ap₂ (λ (y z : ℕ). y ⊕ z) (spread_digits n a x ∙ joined (a * s) (d * a) (scale_lt d a (bit_lt x) ha))
    (spread_digits n b x ∙ joined (b * s) (d * b) (scale_lt d b (bit_lt x) hb)))

digit_lt : (x : ℕ) → x % 2 < 2 ^ 8
digit_lt x = omega (arith, bit_lt x)

-- a digit is the field's 0 or 1
scaled : (x b : ℕ) → x < 2 → b < 2 ^ 8 → x * b ≡ x · b
scaled x b hx hb =
    bit_ind (λ (x : ℕ). x * b ≡ x · b) (zero-mul b ∙ sym (zero_times 8 ◌·◌ field b)) (one-mul b ∙ sym (field.one b hb)) x hx

module _ (c : ℕ) where
  split : (n x : ℕ) → at_point c (suc n) (spread_of (suc n) x) ≡ (x % 2) ⊕ (c · at_point c n (spread_of n (x / 2)))
  unfolding at_point spread_of
  split n x =
      ap₂ (λ (y z : ℕ). y ⊕ (c · at_point c n z)) (digits_mod (spread_of n (x / 2)) (digit_lt x)) (digits_div (spread_of n (x / 2)) (digit_lt x))

  unspread : (n b x : ℕ) → b < 2 ^ 8 → at_point c n (b * spread_of n x) ≡ at_point c n (spread_of n x) · b
  unfolding at_point
  unspread zero b x hb = sym (zero_times 8 ◌·◌ field b)
  unspread (suc n) b x hb =
      let low = scale_lt (x % 2) b (bit_lt x) hb in
      ap₂ (λ (y z : ℕ). y ⊕ (c · at_point c n z))
      (ap (λ (y : ℕ). y % 2 ^ 8) (spread_digits n b x) ∙ digits_mod (b * spread_of n (x / 2)) low)
      (ap (λ (y : ℕ). y / 2 ^ 8) (spread_digits n b x) ∙ digits_div (b * spread_of n (x / 2)) low)
      ∙ ap₂ (λ (y z : ℕ). y ⊕ (c · z)) (scaled (x % 2) b (bit_lt x) hb) (unspread n b (x / 2) hb)
      ∙ ap (λ (z : ℕ). ((x % 2) · b) ⊕ z) (sym (field.assoc c (at_point c n (spread_of n (x / 2))) b))
      ∙ sym (add_mul 8 ◌·◌ field (x % 2) (c · at_point c n (spread_of n (x / 2))) b)
      ∙ ap (λ (z : ℕ). z · b) (sym (split n x))

  -- what a point makes of a spread number is additive
  spread_add : (n : ℕ) → Additive (λ x. at_point c n (spread_of n x))
  unfolding at_point
  spread_add zero a b = sym (add_self 0)
  spread_add (suc n) a b =
      let f : ℕ → ℕ = λ x. at_point c n (spread_of n x) in
      split n (a ⊕ b)
      ∙ ap₂ (λ (x y : ℕ). x ⊕ (c · y)) (add_mod a b 1) (ap f (add_shr a b 1) ∙ spread_add n (a / 2) (b / 2))
      ∙ ap (λ (x : ℕ). ((a % 2) ⊕ (b % 2)) ⊕ x) (field.distrib c (f (a / 2)) (f (b / 2)))
      ∙ swap (a % 2) (b % 2) (c · f (a / 2)) (c · f (b / 2))
      ∙ sym (ap₂ (λ (x y : ℕ). x ⊕ y) (split n a) (split n b))

-- ---- the two points: x, which gives the label back, and x squared, which gives its square
label_test : T (every (λ i. eqb (at_point 2 8 (spread_of 8 (2 ^ i))) (2 ^ i)) 8)
unfolding at_point spread_of product remainder polynomial_product sum ◌⊕◌
label_test = tt

square_test : T (every (λ i. eqb (at_point 4 8 (spread_of 8 (2 ^ i))) (2 ^ i · 2 ^ i)) 8)
unfolding at_point spread_of product remainder polynomial_product sum ◌⊕◌
square_test = tt

at_x : (x : ℕ) → x < 2 ^ 8 → at_point 2 8 (spread_of 8 x) ≡ x
at_x = agree (λ x. at_point 2 8 (spread_of 8 x)) (λ x. x) (spread_add 2 8) (λ a b. refl) 8 label_test

at_x_squared : (x : ℕ) → x < 2 ^ 8 → at_point 4 8 (spread_of 8 x) ≡ x · x
at_x_squared = agree (λ x. at_point 4 8 (spread_of 8 x)) (λ x. x · x) (spread_add 4 8) (square_add 8 ◌·◌ field) 8 square_test

-- ---- bytes gathered by the spread labels
module _ (n : ℕ) (label bytes words : ℕ → ℕ) (is : (p : ℕ) → p < n → words p ≡ spread_of 8 (label p))
    (hl : (p : ℕ) → p < n → label p < 2 ^ 8) (hb : (p : ℕ) → p < n → bytes p < 2 ^ 8) where
  -- the gathered word at a point is the sum of bytes times what the point makes of the labels
  at_labels : (c : ℕ) (f : ℕ → ℕ) → ((x : ℕ) → x < 2 ^ 8 → at_point c 8 (spread_of 8 x) ≡ f x)
      → at_point c 8 (sum n (λ p. bytes p * words p)) ≡ sum n (λ p. f (label p) · bytes p)
  at_labels c f gives =
      through (at_point c 8) (at_point_add c 8) n (λ p. bytes p * words p)
      ∙ sum_ext n (λ p. at_point c 8 (bytes p * words p)) (λ p. f (label p) · bytes p)
      (λ p l. ap (λ (z : ℕ). at_point c 8 (bytes p * z)) (is p l)
      ∙ unspread c 8 (bytes p) (label p) (hb p l)
      ∙ ap (λ (z : ℕ). z · bytes p) (gives (label p) (hl p l)))

  pub once_at : at_point 2 8 (sum n (λ p. bytes p * words p)) ≡ sum n (λ p. label p · bytes p)
  once_at = at_labels 2 (λ x. x) at_x

  pub squared_at : at_point 4 8 (sum n (λ p. bytes p * words p)) ≡ sum n (λ p. (label p · label p) · bytes p)
  squared_at = at_labels 4 (λ x. x · x) at_x_squared

-- ---- the words of a list of labels
pub spread_at : (labels : List ℕ) (p : ℕ) → get_or (spread labels) p 0 ≡ spread_of 8 (byte labels p)
unfolding spread_of
spread_at [] zero = refl
spread_at [] (suc p) = refl
spread_at (x ∷ labels) zero = refl
spread_at (x ∷ labels) (suc p) = spread_at labels p

pub spread_length : (labels : List ℕ) → length (spread labels) ≡ length labels
spread_length [] = refl
spread_length (x ∷ labels) = ap suc (spread_length labels)

-- eight digits, one to a byte
spread_below : (n x : ℕ) → spread_of n x * 255 < 2 ^ (8 * n)
unfolding spread_of
spread_below zero x = omega arith
spread_below (suc n) x =
    let e : 2 ^ (8 * suc n) ≡ 2 ^ (8 * n) * 2 ^ 8 = ap (λ (k : ℕ). 2 ^ k) (let q : 8 * suc n ≡ 8 * n + 8 = omega arith in q) ∙ pow-add 2 (8 * n) 8 in
    omega (arith, e, spread_below n (x / 2), bit_lt x)

-- 255 times 0x0101010101010101 is the largest number of 64 digits
pub spread_small : (labels : List ℕ) (p : ℕ) → get_or (spread labels) p 0 < 0x0101010101010102
spread_small labels p = subst (λ (w : ℕ). w < 0x0101010101010102) (sym (spread_at labels p)) (omega (arith, spread_below 8 (byte labels p)))

-- a byte times a small word fits 64 bits
pub word_fits : (b w : ℕ) → b < 2 ^ 8 → w < 0x0101010101010102 → b * w < 2 ^ 64
word_fits b w hb hw = lt_of_le_of_lt (mul-le-mul {n₁ = b} {m₁ = w} {n₂ = 255} {m₂ = 0x0101010101010101} (omega arith) (omega arith)) (lit< tt)
