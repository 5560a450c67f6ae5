-- The remainder of specs/ is the remainder of polynomials over bits, for every modulus p of any degree k.
--
--   Degree k p           the polynomial p has degree k
--   times_pow_add        a shift is additive
--   remainder_add        so is the remainder
--   remainder_more       more steps than digits change nothing
--   remainder_below      the remainder is below 2 ^ k: its degree is below the modulus'
--   remainder_differs    a polynomial and its remainder differ by a multiple of the modulus
--   remainder_only       what is below 2 ^ k and differs by a multiple of the modulus is the remainder
use mathlib.Core.Path.{◌≡◌, refl, sym, ap, ap₂, ◌∙◌, subst}
use Prim.Native.Nat.{ℕ, zero, suc, ◌+◌, ◌-◌, ◌*◌, ◌/◌, ◌%◌, ◌^◌, ◌≤◌, ◌<◌}
use native.Mathlib.Nat.{mod-lt, zero-mul, mul-zero, one-mul, mul-one, pow-suc, mod-eq_of_lt}
use native.Mathlib.Nat.{div-eq_of_lt, div-eq_of_lt-le, mul_assoc, lt_of_lt_of_le, mul-div-mul_right, mul-div_cancel, mul-mod_left}
use native.Mathlib.Omega.{arith}
use lib.Pow.{pow_pos, pow-lt, pow_mono, pow-add, shl_lt}
use Rattle.field.specs.Field.{◌⊕◌, sum, polynomial_product, remainder}
use Rattle.field.proofs.Xor.{add_self, zero_add, add_zero, add_lt, add_shr, add_mod, swap, sums}
use Rattle.field.proofs.Linear.{bit_lt, scale_add, add_scale, scale_lt, double_add, Additive, at_zero, at_scale, top_digit}
use Rattle.field.proofs.Sum.{sum_ext, sum_zero, sum_additive}

abbrev pub Degree : ℕ → ℕ → Type 0
Degree k p = (2 ^ k ≤ p) × (p < 2 ^ suc k)

-- a number of n + 1 digits
pub split_top : (n y : ℕ) → y < 2 ^ suc n → y ≡ (y / 2 ^ n % 2 * 2 ^ n) ⊕ (y % 2 ^ n)
split_top n y h = sym (mod-eq_of_lt h) ∙ top_digit n y

pub times_pow_add : (a b j : ℕ) → (a ⊕ b) * 2 ^ j ≡ (a * 2 ^ j) ⊕ (b * 2 ^ j)
times_pow_add a b zero = mul-one (a ⊕ b) ∙ sym (ap₂ (λ (x y : ℕ). x ⊕ y) (mul-one a) (mul-one b))
times_pow_add a b (suc j) =
    shift (a ⊕ b) ∙ ap (λ (x : ℕ). x * 2) (times_pow_add a b j) ∙ double_add (a * 2 ^ j) (b * 2 ^ j)
    ∙ sym (ap₂ (λ (x y : ℕ). x ⊕ y) (shift a) (shift b))
  where
    shift : (x : ℕ) → x * 2 ^ suc j ≡ x * 2 ^ j * 2
    shift x = ap (λ (y : ℕ). x * y) (pow-suc 2 j) ∙ sym (mul_assoc x (2 ^ j) 2)

-- c where digit s is set
abbrev where_set : ℕ → ℕ → ℕ → ℕ
where_set s c y = y / 2 ^ s % 2 * c

where_set_add : (s c : ℕ) → Additive (where_set s c)
where_set_add s c a b =
    ap (λ (x : ℕ). x % 2 * c) (add_shr a b s) ∙ ap (λ (x : ℕ). x * c) (add_mod (a / 2 ^ s) (b / 2 ^ s) 1)
    ∙ add_scale (a / 2 ^ s % 2) (b / 2 ^ s % 2) c (bit_lt (a / 2 ^ s)) (bit_lt (b / 2 ^ s))

pub remainder_add : (k p n : ℕ) → Additive (remainder k p n)
unfolding remainder
remainder_add k p zero a b = refl
remainder_add k p (suc n) a b =
    ap (λ (x : ℕ). remainder k p n ((a ⊕ b) ⊕ x)) (where_set_add (k + n) (p * 2 ^ n) a b)
    ∙ ap (remainder k p n) (swap a b (where_set (k + n) (p * 2 ^ n) a) (where_set (k + n) (p * 2 ^ n) b))
    ∙ remainder_add k p n (a ⊕ where_set (k + n) (p * 2 ^ n) a) (b ⊕ where_set (k + n) (p * 2 ^ n) b)

module _ (k p : ℕ) where
  -- one step of the remainder: the modulus is taken away under digit k + j
  unfoldable pub step : ℕ → ℕ → ℕ
  step j y = y ⊕ where_set (k + j) (p * 2 ^ j) y

  -- a step further up does nothing to a number that is below it
  pub step_low : (j y : ℕ) → y < 2 ^ (k + j) → step j y ≡ y
  unfolding step
  step_low j y h =
      ap (λ (x : ℕ). y ⊕ (x % 2 * (p * 2 ^ j))) (div-eq_of_lt h) ∙ ap (λ (x : ℕ). y ⊕ x) (zero-mul (p * 2 ^ j)) ∙ add_zero y

  pub remainder_more : (n i y : ℕ) → y < 2 ^ (k + i) → remainder k p (n + i) y ≡ remainder k p i y
  unfolding remainder step
  remainder_more zero i y h = ap (λ (x : ℕ). remainder k p x y) (native.Mathlib.Nat.zero-add i)
  remainder_more (suc n) i y h =
      ap (λ (x : ℕ). remainder k p x y) (native.Mathlib.Nat.suc-add n i)
      ∙ ap (remainder k p (n + i)) (step_low (n + i) y (lt_of_lt_of_le h (pow_mono (omega arith))))
      ∙ remainder_more n i y h

  remainder_low : (n y : ℕ) → y < 2 ^ k → remainder k p n y ≡ y
  unfolding remainder
  remainder_low n y h =
      ap (λ (x : ℕ). remainder k p x y) (sym (native.Mathlib.Nat.add-zero n))
      ∙ remainder_more n 0 y (subst (λ (x : ℕ). y < 2 ^ x) (sym (native.Mathlib.Nat.add-zero k)) h)

  -- ---- a multiple of the modulus: a digit more of the factor q is one more shift of the modulus
  digit_below : (t n q i : ℕ) → i < n → ((t * 2 ^ n) ⊕ q) / 2 ^ i % 2 ≡ q / 2 ^ i % 2
  digit_below t n q i l =
      ap (λ (x : ℕ). x % 2) (add_shr (t * 2 ^ n) q i) ∙ add_mod (t * 2 ^ n / 2 ^ i) (q / 2 ^ i) 1
      ∙ ap (λ (x : ℕ). x ⊕ (q / 2 ^ i % 2)) even ∙ zero_add (q / 2 ^ i % 2)
    where
      even : t * 2 ^ n / 2 ^ i % 2 ≡ 0
      even =
          let e : n ≡ suc (n - suc i) + i = omega arith in
          ap (λ (x : ℕ). t * 2 ^ x / 2 ^ i % 2) e
          ∙ ap (λ (x : ℕ). t * x / 2 ^ i % 2) (pow-add 2 (suc (n - suc i)) i) ∙ ap (λ (x : ℕ). x / 2 ^ i % 2) (sym (mul_assoc t (2 ^ suc (n - suc i)) (2 ^ i)))
          ∙ ap (λ (x : ℕ). x % 2) (mul-div_cancel (t * 2 ^ suc (n - suc i)) (pow_pos i))
          ∙ ap (λ (x : ℕ). x % 2) (ap (λ (x : ℕ). t * x) (pow-suc 2 (n - suc i)) ∙ sym (mul_assoc t (2 ^ (n - suc i)) 2)) ∙ mul-mod_left (t * 2 ^ (n - suc i)) 2

  digit_at : (t n q : ℕ) → t < 2 → q < 2 ^ n → ((t * 2 ^ n) ⊕ q) / 2 ^ n % 2 ≡ t
  digit_at t n q ht hq =
      ap (λ (x : ℕ). x % 2) (add_shr (t * 2 ^ n) q n ∙ ap₂ (λ (x y : ℕ). x ⊕ y) (mul-div_cancel t (pow_pos n)) (div-eq_of_lt hq) ∙ add_zero t)
      ∙ mod-eq_of_lt ht

  one_more : (t n q : ℕ) → t < 2 → q < 2 ^ n → polynomial_product (suc n) p ((t * 2 ^ n) ⊕ q) ≡ (t * (p * 2 ^ n)) ⊕ polynomial_product n p q
  unfolding polynomial_product sum
  one_more t n q ht hq =
      ap₂ (λ (x y : ℕ). x ⊕ y) (ap (λ (x : ℕ). x * (p * 2 ^ n)) (digit_at t n q ht hq))
      (sum_ext n (λ i. ((t * 2 ^ n) ⊕ q) / 2 ^ i % 2 * (p * 2 ^ i)) (λ i. q / 2 ^ i % 2 * (p * 2 ^ i))
      (λ i l. ap (λ (x : ℕ). x * (p * 2 ^ i)) (digit_below t n q i l)))

  pub remainder_differs : (n y : ℕ) → (q : ℕ) × (q < 2 ^ n) × (y ≡ remainder k p n y ⊕ polynomial_product n p q)
  unfolding remainder step polynomial_product sum
  remainder_differs zero y = (0, pow_pos 0, sym (add_zero y))
  remainder_differs (suc n) y = more (remainder_differs n (step n y))
    where
      t : ℕ
      t = y / 2 ^ (k + n) % 2

      more : ((q : ℕ) × (q < 2 ^ n) × (step n y ≡ remainder k p n (step n y) ⊕ polynomial_product n p q))
          → (q : ℕ) × (q < 2 ^ suc n) × (y ≡ remainder k p n (step n y) ⊕ polynomial_product (suc n) p q)
      more (q, hq, e) = (
        (t * 2 ^ n) ⊕ q,
        add_lt (suc n) (t * 2 ^ n) q
            (scale_lt t (2 ^ n) (suc n) (bit_lt (y / 2 ^ (k + n))) (pow-lt (omega arith))) (lt_of_lt_of_le hq (pow_mono (omega arith))),
        back y (t * (p * 2 ^ n)) ∙ ap (λ (x : ℕ). x ⊕ (t * (p * 2 ^ n))) e
            ∙ turn (remainder k p n (step n y)) (polynomial_product n p q) (t * (p * 2 ^ n))
            ∙ ap (λ (x : ℕ). remainder k p n (step n y) ⊕ x) (sym (one_more t n q (bit_lt (y / 2 ^ (k + n))) hq)),
      )
        where
          back : (a b : ℕ) → a ≡ (a ⊕ b) ⊕ b
          back a b = sym (simp sums)

          turn : (a b c : ℕ) → (a ⊕ b) ⊕ c ≡ a ⊕ (c ⊕ b)
          turn a b c = simp sums

  module _ (degree : Degree k p) where
    top : p / 2 ^ k ≡ 1
    top = div-eq_of_lt-le (2 ^ k) (omega (arith, degree.0)) (omega (arith, degree.1, pow-suc 2 k))

    -- the modulus is its top digit and the digits below
    pub modulus_parts : p ≡ 2 ^ k ⊕ (p % 2 ^ k)
    modulus_parts = split_top k p degree.1 ∙ ap (λ (x : ℕ). (x % 2 * 2 ^ k) ⊕ (p % 2 ^ k)) top ∙ ap (λ (x : ℕ). x ⊕ (p % 2 ^ k)) (one-mul (2 ^ k))

    -- a step takes digit k + j away
    pub step_is : (j y : ℕ) → y < 2 ^ suc (k + j) → step j y ≡ (y % 2 ^ (k + j)) ⊕ (y / 2 ^ (k + j) % 2 * (p % 2 ^ k * 2 ^ j))
    unfolding step
    step_is j y h =
        ap₂ (λ (x z : ℕ). x ⊕ (t * z)) (split_top (k + j) y h)
        (ap (λ (x : ℕ). x * 2 ^ j) modulus_parts ∙ times_pow_add (2 ^ k) (p % 2 ^ k) j ∙ ap (λ (x : ℕ). x ⊕ (p % 2 ^ k * 2 ^ j)) (sym (pow-add 2 k j)))
        ∙ ap (λ (x : ℕ). ((t * 2 ^ (k + j)) ⊕ (y % 2 ^ (k + j))) ⊕ x) (scale_add t (2 ^ (k + j)) (p % 2 ^ k * 2 ^ j) (bit_lt (y / 2 ^ (k + j))))
        ∙ cancel (t * 2 ^ (k + j)) (y % 2 ^ (k + j)) (t * (p % 2 ^ k * 2 ^ j))
      where
        t : ℕ
        t = y / 2 ^ (k + j) % 2

        cancel : (a b c : ℕ) → (a ⊕ b) ⊕ (a ⊕ c) ≡ b ⊕ c
        cancel a b c = simp sums

    pub step_lt : (j y : ℕ) → y < 2 ^ suc (k + j) → step j y < 2 ^ (k + j)
    step_lt j y h =
        subst (λ (x : ℕ). x < 2 ^ (k + j)) (sym (step_is j y h))
        (add_lt (k + j) (y % 2 ^ (k + j)) (y / 2 ^ (k + j) % 2 * (p % 2 ^ k * 2 ^ j)) (mod-lt y (pow_pos (k + j)))
        (scale_lt (y / 2 ^ (k + j) % 2) (p % 2 ^ k * 2 ^ j) (k + j) (bit_lt (y / 2 ^ (k + j))) (shl_lt k j (mod-lt p (pow_pos k)))))

    pub remainder_below : (n y : ℕ) → y < 2 ^ (k + n) → remainder k p n y < 2 ^ k
    unfolding remainder step
    remainder_below zero y h = subst (λ (x : ℕ). y < 2 ^ x) (native.Mathlib.Nat.add-zero k) h
    remainder_below (suc n) y h =
        let e : k + suc n ≡ suc (k + n) = omega arith in
        remainder_below n (step n y) (step_lt n y (subst (λ (x : ℕ). y < 2 ^ x) e h))

    -- ---- a multiple of the modulus has the remainder 0
    step_self : (j : ℕ) → step j (p * 2 ^ j) ≡ 0
    unfolding step
    step_self j =
        ap (λ (x : ℕ). (p * 2 ^ j) ⊕ (x % 2 * (p * 2 ^ j))) (ap (λ (x : ℕ). p * 2 ^ j / x) (pow-add 2 k j) ∙ mul-div-mul_right p (2 ^ k) (pow_pos j) ∙ top)
        ∙ ap (λ (x : ℕ). (p * 2 ^ j) ⊕ x) (one-mul (p * 2 ^ j)) ∙ add_self (p * 2 ^ j)

    remainder_shifted : (n i : ℕ) → i < n → remainder k p n (p * 2 ^ i) ≡ 0
    unfolding remainder step
    remainder_shifted n i l =
        let e : n ≡ (n - suc i) + suc i = omega arith in
        let w : suc k + i ≡ k + suc i = omega arith in
        ap (λ (x : ℕ). remainder k p x (p * 2 ^ i)) e
        ∙ remainder_more (n - suc i) (suc i) (p * 2 ^ i) (subst (λ (x : ℕ). p * 2 ^ i < 2 ^ x) w (shl_lt (suc k) i degree.1))
        ∙ ap (remainder k p i) (step_self i) ∙ at_zero (remainder k p i) (remainder_add k p i)

    remainder_multiple : (n q : ℕ) → remainder k p n (polynomial_product n p q) ≡ 0
    unfolding polynomial_product
    remainder_multiple n q =
        sum_additive (remainder k p n) (remainder_add k p n) n (λ i. q / 2 ^ i % 2 * (p * 2 ^ i))
        ∙ sum_zero n (λ i. remainder k p n (q / 2 ^ i % 2 * (p * 2 ^ i)))
        (λ i l. at_scale (remainder k p n) (remainder_add k p n) (q / 2 ^ i % 2) (p * 2 ^ i) (bit_lt (q / 2 ^ i))
        ∙ ap (λ (x : ℕ). q / 2 ^ i % 2 * x) (remainder_shifted n i l) ∙ mul-zero (q / 2 ^ i % 2))

    pub remainder_only : (n y r q : ℕ) → r < 2 ^ k → y ≡ r ⊕ polynomial_product n p q → r ≡ remainder k p n y
    unfolding remainder
    remainder_only n y r q h e = sym (
        ap (remainder k p n) e ∙ remainder_add k p n r (polynomial_product n p q)
        ∙ ap₂ (λ (x y : ℕ). x ⊕ y) (remainder_low n r h) (remainder_multiple n q) ∙ add_zero r)
