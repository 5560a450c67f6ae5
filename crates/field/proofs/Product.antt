-- The product as the code makes it, in rounds, and the laws of a commutative ring, for every degree k + 1 and modulus x ^ (k + 1) + m.
--
--   times_x a     x times a, reduced
--   rounds n a b  the sum of x ^ i times a over the n lowest digits i of b that are set
--   mul a b       the product; InRounds.antt shows that it is the one of specs/
--   pw i a        x ^ i times a, reduced
--   mul_comm, mul_assoc', mul_add, add_mul, mul_zero', zero_mul', one_mul', mul_lt    the laws
use mathlib.Core.Path.{◌≡◌, refl, sym, ap, ap₂, ◌∙◌}
use Prim.Native.Nat.{ℕ, zero, suc, ◌+◌, ◌*◌, ◌/◌, ◌%◌, ◌^◌, ◌≤◌, ◌<◌}
use native.Mathlib.Nat.{mod-lt, le_of_suc-le-suc, not-suc-le-zero, zero-lt-suc, zero-mul}
use native.Mathlib.Nat.{one-mul, pow-suc, mod-eq_of_lt, div-eq_of_lt, mul-div_cancel, mul-mod_left}
use native.Mathlib.Omega.{arith}
use lib.Arith.{digits_div, digits_mod, mod-mul}
use lib.Pow.{pow_pos, pow-lt}
use Rattle.field.specs.Field.{◌⊕◌}
use Rattle.field.proofs.Xor.{add_self, zero_add, add_zero, add_lt, add_shr, add_mod, swap}
use Rattle.field.proofs.Linear.{bit_lt, scale_add, add_scale, scale_lt, double_add, Additive, at_zero, at_scale, additive_ext}

two_pos : zero < 2
two_pos = zero-lt-suc 1

module _ (k m : ℕ) where
  unfoldable pub times_x : ℕ → ℕ
  times_x a = (a * 2 % 2 ^ suc k) ⊕ (a / 2 ^ k % 2 * m)

  unfoldable pub rounds : ℕ → ℕ → ℕ → ℕ
  rounds zero a b = 0
  rounds (suc n) a b = (b % 2 * a) ⊕ rounds n (times_x a) (b / 2)

  unfoldable pub mul : ℕ → ℕ → ℕ
  mul a b = rounds (suc k) (a % 2 ^ suc k) b

module _ (k m : ℕ) where
  pub x_add : Additive (times_x k m)
  unfolding times_x
  x_add a b =
      ap₂ (λ (x y : ℕ). (x % 2 ^ suc k) ⊕ (y % 2 * m)) (double_add a b) (add_shr a b k)
      ∙ ap₂ (λ (x y : ℕ). x ⊕ (y * m)) (add_mod (a * 2) (b * 2) (suc k)) (add_mod (a / 2 ^ k) (b / 2 ^ k) 1)
      ∙ ap (λ (y : ℕ). ((a * 2 % 2 ^ suc k) ⊕ (b * 2 % 2 ^ suc k)) ⊕ y) (add_scale (a / 2 ^ k % 2) (b / 2 ^ k % 2) m (bit_lt (a / 2 ^ k)) (bit_lt (b / 2 ^ k)))
      ∙ swap (a * 2 % 2 ^ suc k) (b * 2 % 2 ^ suc k) (a / 2 ^ k % 2 * m) (b / 2 ^ k % 2 * m)

  left_add : (n b : ℕ) → Additive (λ a. rounds k m n a b)
  unfolding rounds
  left_add zero b a a' = sym (add_self 0)
  left_add (suc n) b a a' =
      ap₂ (λ (x y : ℕ). x ⊕ y) (scale_add (b % 2) a a' (bit_lt b))
      (ap (λ (x : ℕ). rounds k m n x (b / 2)) (x_add a a') ∙ left_add n (b / 2) (times_x k m a) (times_x k m a'))
      ∙ swap (b % 2 * a) (b % 2 * a') (rounds k m n (times_x k m a) (b / 2)) (rounds k m n (times_x k m a') (b / 2))

  right_add : (n a : ℕ) → Additive (λ b. rounds k m n a b)
  unfolding rounds
  right_add zero a b b' = sym (add_self 0)
  right_add (suc n) a b b' =
      ap₂ (λ (x y : ℕ). (x * a) ⊕ rounds k m n (times_x k m a) y) (add_mod b b' 1) (add_shr b b' 1)
      ∙ ap₂ (λ (x y : ℕ). x ⊕ y) (add_scale (b % 2) (b' % 2) a (bit_lt b) (bit_lt b')) (right_add n (times_x k m a) (b / 2) (b' / 2))
      ∙ swap (b % 2 * a) (b' % 2 * a) (rounds k m n (times_x k m a) (b / 2)) (rounds k m n (times_x k m a) (b' / 2))

  -- times x passes through a mul
  pub x_rounds : (n a b : ℕ) → rounds k m n (times_x k m a) b ≡ times_x k m (rounds k m n a b)
  unfolding rounds
  x_rounds zero a b = sym (at_zero (times_x k m) x_add)
  x_rounds (suc n) a b =
      ap₂ (λ (x y : ℕ). x ⊕ y) (sym (at_scale (times_x k m) x_add (b % 2) a (bit_lt b))) (x_rounds n (times_x k m a) (b / 2))
      ∙ sym (x_add (b % 2 * a) (rounds k m n (times_x k m a) (b / 2)))

  -- x ^ i times a
  unfoldable pub pw : ℕ → ℕ → ℕ
  pw zero a = a
  pw (suc i) a = pw i (times_x k m a)

  pub x_pw : (i a : ℕ) → pw (suc i) a ≡ times_x k m (pw i a)
  unfolding pw
  x_pw zero a = refl
  x_pw (suc i) a = x_pw i (times_x k m a)

  pw_rounds : (i n a b : ℕ) → rounds k m n (pw i a) b ≡ pw i (rounds k m n a b)
  unfolding pw
  pw_rounds zero n a b = refl
  pw_rounds (suc i) n a b = pw_rounds i n (times_x k m a) b ∙ ap (pw i) (x_rounds n a b)

  -- only the n low digits count
  rounds_mod : (n a b : ℕ) → rounds k m n a (b % 2 ^ n) ≡ rounds k m n a b
  unfolding rounds
  rounds_mod zero a b = refl
  rounds_mod (suc n) a b =
      ap₂ (λ (x y : ℕ). (x * a) ⊕ rounds k m n (times_x k m a) y)
      (ap (λ (x : ℕ). x % 2) low ∙ digits_mod (b / 2 % 2 ^ n) (bit_lt b))
      (ap (λ (x : ℕ). x / 2) low ∙ digits_div (b / 2 % 2 ^ n) (bit_lt b))
      ∙ ap (λ (y : ℕ). (b % 2 * a) ⊕ y) (rounds_mod n (times_x k m a) (b / 2))
    where
      low : b % 2 ^ suc n ≡ (b / 2 % 2 ^ n) * 2 + b % 2
      low = ap (λ (x : ℕ). b % x) (pow-suc 2 n) ∙ mod-mul b (pow_pos n) two_pos

  rounds_basis : (n i a : ℕ) → i < n → rounds k m n a (2 ^ i) ≡ pw i a
  unfolding rounds pw
  rounds_basis zero i a h = absurd (not-suc-le-zero h)
  rounds_basis (suc n) zero a h =
      ap₂ (λ (x y : ℕ). x ⊕ y) (one-mul a) (at_zero (λ b. rounds k m n (times_x k m a) b) (right_add n (times_x k m a))) ∙ add_zero a
  rounds_basis (suc n) (suc i) a h =
      ap (λ (y : ℕ). (y % 2 * a) ⊕ rounds k m n (times_x k m a) (y / 2)) (pow-suc 2 i)
      ∙ ap₂ (λ (x y : ℕ). (x * a) ⊕ rounds k m n (times_x k m a) y) (mul-mod_left (2 ^ i) 2) (mul-div_cancel (2 ^ i) two_pos)
      ∙ ap (λ (x : ℕ). x ⊕ rounds k m n (times_x k m a) (2 ^ i)) (zero-mul a) ∙ zero_add (rounds k m n (times_x k m a) (2 ^ i))
      ∙ rounds_basis n i (times_x k m a) (le_of_suc-le-suc h)

  x_pow : (j : ℕ) → j < k → times_x k m (2 ^ j) ≡ 2 ^ suc j
  unfolding times_x
  x_pow j h =
      ap₂ (λ (x y : ℕ). (x % 2 ^ suc k) ⊕ (y % 2 * m)) (sym (pow-suc 2 j)) (div-eq_of_lt (pow-lt h))
      ∙ ap₂ (λ (x y : ℕ). x ⊕ y) (mod-eq_of_lt (pow-lt {i = suc j} {j = suc k} (omega arith))) (zero-mul m)
      ∙ add_zero (2 ^ suc j)

  pw_pow : (i j : ℕ) → i + j ≤ k → pw i (2 ^ j) ≡ 2 ^ (i + j)
  unfolding pw
  pw_pow zero j h = ap (λ (x : ℕ). 2 ^ x) (sym (native.Mathlib.Nat.zero-add j))
  pw_pow (suc i) j h =
      ap (pw i) (x_pow j (omega arith)) ∙ pw_pow i (suc j) (omega arith)
      ∙ ap (λ (x : ℕ). 2 ^ x) (omega arith)

  pw_one : (i : ℕ) → i < suc k → pw i 1 ≡ 2 ^ i
  pw_one i h = pw_pow i 0 (omega arith) ∙ ap (λ (x : ℕ). 2 ^ x) (native.Mathlib.Nat.add-zero i)

  id_add : Additive (λ a. a)
  id_add a b = refl

  one_rounds : (b : ℕ) → rounds k m (suc k) 1 (b % 2 ^ suc k) ≡ b % 2 ^ suc k
  one_rounds b =
      additive_ext (λ b. rounds k m (suc k) 1 b) (λ b. b) (right_add (suc k) 1) id_add (suc k)
      (λ i l. rounds_basis (suc k) i 1 l ∙ pw_one i l) b

  rounds_comm : (a b : ℕ) → rounds k m (suc k) (a % 2 ^ suc k) (b % 2 ^ suc k) ≡ rounds k m (suc k) (b % 2 ^ suc k) (a % 2 ^ suc k)
  rounds_comm a b =
      additive_ext (λ a. rounds k m (suc k) a (b % 2 ^ suc k)) (λ a. rounds k m (suc k) (b % 2 ^ suc k) a)
      (left_add (suc k) (b % 2 ^ suc k)) (right_add (suc k) (b % 2 ^ suc k)) (suc k)
      (λ i l. ap (λ (x : ℕ). rounds k m (suc k) x (b % 2 ^ suc k)) (sym (pw_one i l))
      ∙ pw_rounds i (suc k) 1 (b % 2 ^ suc k) ∙ ap (pw i) (one_rounds b) ∙ sym (rounds_basis (suc k) i (b % 2 ^ suc k) l)) a

  pub mul_comm : (a b : ℕ) → mul k m a b ≡ mul k m b a
  unfolding mul
  mul_comm a b =
      sym (rounds_mod (suc k) (a % 2 ^ suc k) b) ∙ rounds_comm a b ∙ rounds_mod (suc k) (b % 2 ^ suc k) a

  pub mul_add : (a b c : ℕ) → mul k m a (b ⊕ c) ≡ mul k m a b ⊕ mul k m a c
  unfolding mul
  mul_add a b c = right_add (suc k) (a % 2 ^ suc k) b c

  pub add_mul : (a b c : ℕ) → mul k m (a ⊕ b) c ≡ mul k m a c ⊕ mul k m b c
  add_mul a b c = mul_comm (a ⊕ b) c ∙ mul_add c a b ∙ ap₂ (λ (x y : ℕ). x ⊕ y) (mul_comm c a) (mul_comm c b)

  pub mul_zero' : (a : ℕ) → mul k m a 0 ≡ 0
  mul_zero' a = at_zero (λ b. mul k m a b) (mul_add a)

  pub zero_mul' : (a : ℕ) → mul k m 0 a ≡ 0
  zero_mul' a = mul_comm 0 a ∙ mul_zero' a

  pub one_mul' : (b : ℕ) → mul k m 1 b ≡ b % 2 ^ suc k
  unfolding mul
  one_mul' b =
      ap (λ (x : ℕ). rounds k m (suc k) x b) (mod-eq_of_lt (pow-lt {i = 0} {j = suc k} (omega arith)))
      ∙ sym (rounds_mod (suc k) 1 b) ∙ one_rounds b

  -- the modulus' low part has the width's digits: so do products
  module _ (hm : m < 2 ^ suc k) where
    pub x_lt : (a : ℕ) → times_x k m a < 2 ^ suc k
    unfolding times_x
    x_lt a = add_lt (suc k) _ _ (mod-lt (a * 2) (pow_pos (suc k))) (scale_lt (a / 2 ^ k % 2) m (suc k) (bit_lt (a / 2 ^ k)) hm)

    rounds_lt : (n a b : ℕ) → a < 2 ^ suc k → rounds k m n a b < 2 ^ suc k
    unfolding rounds
    rounds_lt zero a b ha = pow_pos (suc k)
    rounds_lt (suc n) a b ha = add_lt (suc k) _ _ (scale_lt (b % 2) a (suc k) (bit_lt b) ha) (rounds_lt n (times_x k m a) (b / 2) (x_lt a))

    -- x itself is the number 2
    pub x_mul : (a : ℕ) → 0 < k → a < 2 ^ suc k → mul k m a 2 ≡ times_x k m a
    unfolding mul pw
    x_mul a hk h = ap (λ (x : ℕ). rounds k m (suc k) x 2) (mod-eq_of_lt h) ∙ rounds_basis (suc k) 1 a (omega arith)

    pub mul_lt : (a b : ℕ) → mul k m a b < 2 ^ suc k
    unfolding mul
    mul_lt a b = rounds_lt (suc k) (a % 2 ^ suc k) b (mod-lt a (pow_pos (suc k)))

    below_comm : (a b : ℕ) → a < 2 ^ suc k → b < 2 ^ suc k → rounds k m (suc k) a b ≡ rounds k m (suc k) b a
    below_comm a b ha hb = ap₂ (rounds k m (suc k)) (sym (mod-eq_of_lt ha)) (sym (mod-eq_of_lt hb)) ∙ rounds_comm a b
        ∙ ap₂ (rounds k m (suc k)) (mod-eq_of_lt hb) (mod-eq_of_lt ha)

    x_right : (a b : ℕ) → a < 2 ^ suc k → b < 2 ^ suc k → rounds k m (suc k) a (times_x k m b) ≡ times_x k m (rounds k m (suc k) a b)
    x_right a b ha hb =
        below_comm a (times_x k m b) ha (x_lt b) ∙ x_rounds (suc k) b a ∙ ap (times_x k m) (below_comm b a hb ha)

    rounds_assoc : (n a b c : ℕ) → a < 2 ^ suc k → b < 2 ^ suc k
        → rounds k m n (rounds k m (suc k) a b) c ≡ rounds k m (suc k) a (rounds k m n b c)
    unfolding rounds
    rounds_assoc zero a b c ha hb = sym (at_zero (λ y. rounds k m (suc k) a y) (right_add (suc k) a))
    rounds_assoc (suc n) a b c ha hb =
        ap₂ (λ (x y : ℕ). x ⊕ rounds k m n y (c / 2))
        (sym (at_scale (λ y. rounds k m (suc k) a y) (right_add (suc k) a) (c % 2) b (bit_lt c)))
        (sym (x_right a b ha hb))
        ∙ ap (λ (y : ℕ). rounds k m (suc k) a (c % 2 * b) ⊕ y) (rounds_assoc n a (times_x k m b) (c / 2) ha (x_lt b))
        ∙ sym (right_add (suc k) a (c % 2 * b) (rounds k m n (times_x k m b) (c / 2)))

    pub mul_assoc' : (a b c : ℕ) → mul k m (mul k m a b) c ≡ mul k m a (mul k m b c)
    unfolding mul
    mul_assoc' a b c =
        ap (λ (x : ℕ). rounds k m (suc k) x c)
        (mod-eq_of_lt (mul_lt a b) ∙ sym (rounds_mod (suc k) (a % 2 ^ suc k) b))
        ∙ rounds_assoc (suc k) (a % 2 ^ suc k) (b % 2 ^ suc k) c (mod-lt a (pow_pos (suc k))) (mod-lt b (pow_pos (suc k)))
