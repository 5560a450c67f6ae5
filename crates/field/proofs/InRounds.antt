-- The product of specs/ is the product that the code makes, in rounds, for every degree and modulus.
--
--   product_is_mul    the product by a modulus p of degree k + 1 is the one in rounds by p's k + 1 low digits
use mathlib.Core.Path.{◌≡◌, refl, sym, ap, ap₂, ◌∙◌, subst}
use Prim.Native.Nat.{ℕ, zero, suc, ◌+◌, ◌-◌, ◌*◌, ◌/◌, ◌%◌, ◌^◌, ◌<◌}
use native.Mathlib.Nat.{add-zero, mod-lt, mul-one, pow-suc, mul_assoc, mul-lt-mul_of_pos_right, mul-div-mul_right}
use native.Mathlib.Omega.{arith}
use lib.Pow.{pow_pos, shl_lt, shr-shr}
use Rattle.field.specs.Field.{◌⊕◌, sum, polynomial_product, remainder, product}
use Rattle.field.proofs.Linear.{bit_lt, double_add, at_scale}
use Rattle.field.proofs.Sum.{sum_ext, sum_additive, sum_first}
use Rattle.field.proofs.Product.{times_x, rounds, mul, pw, x_pw}
use Rattle.field.proofs.Remainder.{Degree, remainder_add, step, step_is, step_lt, remainder_more}

double_lt : (n y : ℕ) → y < 2 ^ n → y * 2 < 2 ^ suc n
double_lt n y h = subst (λ (x : ℕ). y * 2 < x) (sym (pow-suc 2 n)) (mul-lt-mul_of_pos_right h (omega arith))

double_shr : (n y : ℕ) → y * 2 / 2 ^ suc n ≡ y / 2 ^ n
double_shr n y = ap (λ (x : ℕ). y * 2 / x) (pow-suc 2 n) ∙ mul-div-mul_right y (2 ^ n) (omega arith)

-- a shift by one more
shift_suc : (a i : ℕ) → a * 2 ^ suc i ≡ a * 2 ^ i * 2
shift_suc a i = ap (λ (x : ℕ). a * x) (pow-suc 2 i) ∙ sym (mul_assoc a (2 ^ i) 2)

-- the rounds as a sum over the digits of b
rounds_sum : (k m n a b : ℕ) → rounds k m n a b ≡ sum n (λ i. b / 2 ^ i % 2 * pw k m i a)
unfolding rounds pw sum
rounds_sum k m zero a b = refl
rounds_sum k m (suc n) a b =
    ap (λ (x : ℕ). (b % 2 * a) ⊕ x)
    (rounds_sum k m n (times_x k m a) (b / 2)
    ∙ sum_ext n (λ i. b / 2 / 2 ^ i % 2 * pw k m i (times_x k m a)) (λ i. b / 2 ^ suc i % 2 * pw k m (suc i) a)
    (λ i l. ap (λ (x : ℕ). x % 2 * pw k m i (times_x k m a)) (shr-shr b 1 i ∙ ap (λ (x : ℕ). b / 2 ^ x) (native.Mathlib.Numerals.one-add i))))
    ∙ ap (λ (x : ℕ). (x % 2 * a) ⊕ sum n (λ i. b / 2 ^ suc i % 2 * pw k m (suc i) a)) (sym (native.Mathlib.Nat.div-one b))
    ∙ sym (sum_first n (λ i. b / 2 ^ i % 2 * pw k m i a))

module _ (k p : ℕ) (degree : Degree (suc k) p) where
  -- the modulus below its top digit
  abbrev m : ℕ
  m = p % 2 ^ suc k

  step_double : (j y : ℕ) → step (suc k) p (suc j) (y * 2) ≡ step (suc k) p j y * 2
  unfolding step
  step_double j y =
      let e : suc k + suc j ≡ suc (suc k + j) = omega arith in
      ap₂ (λ (x z : ℕ). (y * 2) ⊕ (y * 2 / 2 ^ x % 2 * z)) e (shift_suc p j)
      ∙ ap (λ (x : ℕ). (y * 2) ⊕ (x % 2 * (p * 2 ^ j * 2))) (double_shr (suc k + j) y)
      ∙ ap (λ (x : ℕ). (y * 2) ⊕ x) (sym (mul_assoc (y / 2 ^ (suc k + j) % 2) (p * 2 ^ j) 2))
      ∙ sym (double_add y (y / 2 ^ (suc k + j) % 2 * (p * 2 ^ j)))

  base : (y : ℕ) → y < 2 ^ suc k → step (suc k) p 0 (y * 2) ≡ times_x k m y
  unfolding times_x
  base y h =
      step_is (suc k) p degree 0 (y * 2) (subst (λ (x : ℕ). y * 2 < 2 ^ suc x) (sym (add-zero (suc k))) (double_lt (suc k) y h))
      ∙ ap (λ (x : ℕ). (y * 2 % 2 ^ x) ⊕ (y * 2 / 2 ^ x % 2 * (m * 2 ^ 0))) (add-zero (suc k))
      ∙ ap₂ (λ (x z : ℕ). (y * 2 % 2 ^ suc k) ⊕ (x % 2 * z)) (double_shr k y) (mul-one m)

  -- the remainder of x times y is x times the remainder of y
  remainder_double : (j y : ℕ) → y < 2 ^ (suc k + j) → remainder (suc k) p (suc j) (y * 2) ≡ times_x k m (remainder (suc k) p j y)
  unfolding remainder step
  remainder_double zero y h = base y (subst (λ (x : ℕ). y < 2 ^ x) (add-zero (suc k)) h)
  remainder_double (suc j) y h =
      let e : suc k + suc j ≡ suc (suc k + j) = omega arith in
      ap (remainder (suc k) p (suc j)) (step_double j y)
      ∙ remainder_double j (step (suc k) p j y) (step_lt (suc k) p degree j y (subst (λ (x : ℕ). y < 2 ^ x) e h))

  remainder_power : (i a : ℕ) → a < 2 ^ suc k → remainder (suc k) p i (a * 2 ^ i) ≡ pw k m i a
  unfolding pw remainder
  remainder_power zero a h = mul-one a
  remainder_power (suc i) a h =
      ap (remainder (suc k) p (suc i)) (shift_suc a i)
      ∙ remainder_double i (a * 2 ^ i) (shl_lt (suc k) i h) ∙ ap (times_x k m) (remainder_power i a h) ∙ sym (x_pw k m i a)

  pub product_is_mul : (a b : ℕ) → product (suc k) p a b ≡ mul k m a b
  unfolding product mul polynomial_product
  product_is_mul a b =
      sum_additive R (remainder_add (suc k) p (suc k)) (suc k) (λ i. b / 2 ^ i % 2 * (low * 2 ^ i))
      ∙ sum_ext (suc k) (λ i. R (b / 2 ^ i % 2 * (low * 2 ^ i))) (λ i. b / 2 ^ i % 2 * pw k m i low)
      (λ i l. at_scale R (remainder_add (suc k) p (suc k)) (b / 2 ^ i % 2) (low * 2 ^ i) (bit_lt (b / 2 ^ i))
      ∙ ap (λ (x : ℕ). b / 2 ^ i % 2 * x) (shifted i l))
      ∙ sym (rounds_sum k m (suc k) low b)
    where
      R : ℕ → ℕ
      R = remainder (suc k) p (suc k)

      low : ℕ
      low = a % 2 ^ suc k

      shifted : (i : ℕ) → i < suc k → R (low * 2 ^ i) ≡ pw k m i low
      shifted i l =
          let h : low < 2 ^ suc k = mod-lt a (pow_pos (suc k)) in
          let e : suc k ≡ (suc k - i) + i = omega arith in
          ap (λ (x : ℕ). remainder (suc k) p x (low * 2 ^ i)) e
          ∙ remainder_more (suc k) p (suc k - i) i (low * 2 ^ i) (shl_lt (suc k) i h) ∙ remainder_power i low h
