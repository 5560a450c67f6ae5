-- Every nonzero element has an inverse, at every width and modulus that pass two tests on the w powers of x below x ^ w: squaring w times
-- is the identity, and a given linear map takes e * e + e to e without its lowest digit, so that 0 and 1 are the only e with e * e = e.
--
--   linear cs        the linear map that takes 1, 2, 4, .. to the numbers cs
--   square a         a times a; powers n x: x ^ (2 ^ n - 1); inverse x: x ^ (2 ^ w - 2)
--   squared_test, split_test   the two tests
--   mul_inverse      x times its inverse is 1, for x not 0; inverse_lt: it is an element
--   is_field         so the product in rounds makes a field
use mathlib.Core.Logic.{◌≢◌}
use mathlib.Core.Path.{◌≡◌, refl, sym, ap, ap₂, ◌∙◌}
use mathlib.Core.Bool.{Bool}
use mathlib.Core.List.{List, [], ◌∷◌}
use Prim.Native.Nat.{ℕ, zero, suc, ◌*◌, ◌/◌, ◌%◌, ◌^◌, ◌<◌}
use native.Mathlib.Nat.{mod-eq_of_lt}
use native.Mathlib.Omega.{arith}
use lib.Dec.{T, eqb, eqb→eq}
use lib.Pow.{pow-lt}
use Rattle.field.specs.Field.{◌⊕◌}
use Rattle.field.proofs.Xor.{add_self, add_shr, add_mod, swap, sums, eq_of_sum}
use Rattle.field.proofs.Linear.{bit_lt, bit_ind, add_scale, Additive, at_zero, additive_ext}
use Rattle.base.proofs.Tests.{every, every_at}
use Rattle.field.proofs.IsField.{IsField}
use Rattle.field.proofs.Squares.{squared, squared_additive}
use Rattle.field.proofs.Product.{mul, mul_comm, mul_add, add_mul, mul_zero', one_mul', mul_lt, mul_assoc'}

-- ---- a linear map, given by what it takes 1, 2, 4, .. to
unfoldable pub linear : List ℕ → ℕ → ℕ
linear [] x = 0
linear (c ∷ cs) x = (x % 2 * c) ⊕ linear cs (x / 2)

pub linear_add : (cs : List ℕ) → Additive (linear cs)
unfolding linear
linear_add [] a b = sym (add_self 0)
linear_add (c ∷ cs) a b =
    ap₂ (λ (x y : ℕ). (x * c) ⊕ linear cs y) (add_mod a b 1) (add_shr a b 1)
    ∙ ap₂ (λ (x y : ℕ). x ⊕ y) (add_scale (a % 2) (b % 2) c (bit_lt a) (bit_lt b)) (linear_add cs (a / 2) (b / 2))
    ∙ swap (a % 2 * c) (b % 2 * c) (linear cs (a / 2)) (linear cs (b / 2))

module _ (k m : ℕ) where
  unfoldable pub square : ℕ → ℕ
  square a = mul k m a a

  -- x ^ (2 ^ n - 1)
  unfoldable pub powers : ℕ → ℕ → ℕ
  powers zero x = 1
  powers (suc n) x = mul k m x (powers n (square x))

  -- x ^ (2 ^ (k + 1) - 2)
  unfoldable pub inverse : ℕ → ℕ
  inverse x = powers k (square x)

  -- the two tests
  abbrev pub squared_test : Bool
  squared_test = every (λ i. eqb (squared (mul k m) (suc k) (2 ^ i)) (2 ^ i)) (suc k)

  abbrev pub split_test : List ℕ → Bool
  split_test cs = every (λ i. eqb (linear cs (square (2 ^ i) ⊕ 2 ^ i)) ((2 ^ i) ⊕ (2 ^ i % 2))) (suc k)

  module _ (hm : m < 2 ^ suc k) where
    pub mul_left_comm' : (a b c : ℕ) → mul k m a (mul k m b c) ≡ mul k m b (mul k m a c)
    mul_left_comm' a b c = sym (mul_assoc' k m hm a b c) ∙ ap (λ (x : ℕ). mul k m x c) (mul_comm k m a b) ∙ mul_assoc' k m hm b a c

    pub square_add : Additive square
    unfolding square
    square_add a b = simp (mul_add k m, add_mul k m, mul_comm k m, sums)

    pub square_mul : (a b : ℕ) → square (mul k m a b) ≡ mul k m (square a) (square b)
    unfolding square
    square_mul a b = simp (mul_assoc' k m hm, mul_left_comm')

    one_lt : 1 < 2 ^ suc k
    one_lt = pow-lt {i = 0} {j = suc k} (omega arith)

    square_powers : (n x : ℕ) → square (powers n x) ≡ powers n (square x)
    unfolding powers square
    square_powers zero x = one_mul' k m 1 ∙ mod-eq_of_lt one_lt
    square_powers (suc n) x = square_mul x (powers n (square x)) ∙ ap (λ (y : ℕ). mul k m (square x) y) (square_powers n (square x))

    shift_powers : (n x : ℕ) → mul k m (powers n x) (squared (mul k m) n x) ≡ mul k m x (powers n (square x))
    unfolding powers squared square
    shift_powers zero x = mul_comm k m 1 x
    shift_powers (suc n) x =
        mul_assoc' k m hm x (powers n (square x)) (squared (mul k m) n (square x)) ∙ ap (λ (y : ℕ). mul k m x y) (shift_powers n (square x))

    squared_powers : (n x : ℕ) → x < 2 ^ suc k → squared (mul k m) n x ≡ mul k m x (powers n x)
    unfolding powers squared square
    squared_powers zero x h = sym (mul_comm k m x 1 ∙ one_mul' k m x ∙ mod-eq_of_lt h)
    squared_powers (suc n) x h =
        squared_powers n (square x) (mul_lt k m hm x x) ∙ mul_assoc' k m hm x x (powers n (square x))

    module _ (cs : List ℕ) (test₁ : T squared_test) (test₂ : T (split_test cs)) where
      pub squared_id : (x : ℕ) → x < 2 ^ suc k → squared (mul k m) (suc k) x ≡ x
      unfolding squared square
      squared_id x h =
          ap (squared (mul k m) (suc k)) (sym (mod-eq_of_lt h))
          ∙ additive_ext (squared (mul k m) (suc k)) (λ a. a) (squared_additive (mul k m) square_add (suc k)) (λ a b. refl) (suc k)
          (λ i l. eqb→eq (squared (mul k m) (suc k) (2 ^ i)) (2 ^ i) (every_at (λ i. eqb (squared (mul k m) (suc k) (2 ^ i)) (2 ^ i)) (suc k) test₁ i l)) x
          ∙ mod-eq_of_lt h

      image_add : Additive (λ e. linear cs (square e ⊕ e))
      image_add a b =
          ap (linear cs) (ap (λ (x : ℕ). x ⊕ (a ⊕ b)) (square_add a b) ∙ swap (square a) (square b) a b)
          ∙ linear_add cs (square a ⊕ a) (square b ⊕ b)

      high_add : Additive (λ e. e ⊕ (e % 2))
      high_add a b = ap (λ (x : ℕ). (a ⊕ b) ⊕ x) (add_mod a b 1) ∙ swap a b (a % 2) (b % 2)

      split : (e : ℕ) → e < 2 ^ suc k → linear cs (square e ⊕ e) ≡ e ⊕ (e % 2)
      split e h =
          ap (λ (e : ℕ). linear cs (square e ⊕ e)) (sym (mod-eq_of_lt h))
          ∙ additive_ext (λ e. linear cs (square e ⊕ e)) (λ e. e ⊕ (e % 2)) image_add high_add (suc k)
          (λ i l. eqb→eq (linear cs (square (2 ^ i) ⊕ 2 ^ i)) ((2 ^ i) ⊕ (2 ^ i % 2))
          (every_at (λ i. eqb (linear cs (square (2 ^ i) ⊕ 2 ^ i)) ((2 ^ i) ⊕ (2 ^ i % 2))) (suc k) test₂ i l)) e
          ∙ ap (λ (e : ℕ). e ⊕ (e % 2)) (mod-eq_of_lt h)

      -- an e with e * e = e is 0 or 1
      digit : (e : ℕ) → e < 2 ^ suc k → square e ≡ e → e ≡ e % 2
      digit e h q =
          eq_of_sum e (e % 2)
          (sym (split e h) ∙ ap (linear cs) (ap (λ (x : ℕ). x ⊕ e) q ∙ add_self e) ∙ at_zero (linear cs) (linear_add cs))

      idempotent : (x : ℕ) → x < 2 ^ suc k → square (mul k m x (inverse x)) ≡ mul k m x (inverse x)
      unfolding inverse squared square
      idempotent x h =
          square_mul x (powers k (square x))
          ∙ ap (λ (y : ℕ). mul k m (square x) y) (square_powers k (square x))
          ∙ sym (shift_powers k (square x))
          ∙ ap (λ (y : ℕ). mul k m (powers k (square x)) y) (squared_id x h)
          ∙ mul_comm k m (powers k (square x)) x

      pub mul_inverse : (x : ℕ) → x < 2 ^ suc k → x ≢ 0 → mul k m x (inverse x) ≡ 1
      unfolding inverse powers
      mul_inverse x h ne = pick (e % 2) (bit_lt e) (digit e (mul_lt k m hm x (inverse x)) (idempotent x h))
        where
          e : ℕ
          e = mul k m x (inverse x)

          none : e ≡ 0 → x ≡ 0
          none z = sym (squared_id x h) ∙ squared_powers (suc k) x h ∙ ap (λ (y : ℕ). mul k m x y) z ∙ mul_zero' k m x

          pick : (d : ℕ) → d < 2 → e ≡ d → e ≡ 1
          pick d l = bit_ind (λ (d : ℕ). e ≡ d → e ≡ 1) (λ q. absurd (ne (none q))) (λ q. q) d l

      -- no zero divisors
      pub no_zero_divisors : (a b : ℕ) → a < 2 ^ suc k → b < 2 ^ suc k → a ≢ 0 → mul k m a b ≡ 0 → b ≡ 0
      no_zero_divisors a b ha hb ne z =
          sym (one_mul' k m b ∙ mod-eq_of_lt hb)
          ∙ ap (λ (x : ℕ). mul k m x b) (sym (mul_inverse a ha ne) ∙ mul_comm k m a (inverse a))
          ∙ mul_assoc' k m hm (inverse a) a b ∙ ap (λ (y : ℕ). mul k m (inverse a) y) z ∙ mul_zero' k m (inverse a)

      powers_lt : (n x : ℕ) → powers n x < 2 ^ suc k
      unfolding powers
      powers_lt zero x = one_lt
      powers_lt (suc n) x = mul_lt k m hm x (powers n (square x))

      pub inverse_lt : (x : ℕ) → inverse x < 2 ^ suc k
      unfolding inverse
      inverse_lt x = powers_lt k (square x)

      pub is_field : IsField (suc k) (mul k m)
      is_field = record {
        comm = mul_comm k m;
        assoc = mul_assoc' k m hm;
        distrib = mul_add k m;
        below = mul_lt k m hm;
        one_below = one_lt;
        one = λ a h. one_mul' k m a ∙ mod-eq_of_lt h;
        inv = inverse;
        inv_below = inverse_lt;
        inverse = mul_inverse;
      }
