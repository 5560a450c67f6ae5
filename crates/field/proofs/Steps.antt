-- The steps of the product's code, at every width.
--
--   x_clear, x_set            x times a, as the code makes it: the top bit is clear, or set
--   round_set, round_clear    one round: the lowest digit of y is set, or clear
--   rounds_start, rounds_end  before the first round, and after the last
use mathlib.Core.Path.{◌≡◌, refl, sym, ap, ap₂, ◌∙◌}
use Prim.Native.Nat.{ℕ, zero, suc, ◌+◌, ◌-◌, ◌*◌, ◌/◌, ◌%◌, ◌^◌, ◌≤◌, ◌<◌}
use native.Mathlib.Nat.{zero-mul, one-mul, not-suc-le-zero, mod-eq_of_lt}
use native.Mathlib.Omega.{arith}
use lib.Bits.{bit_and, and_mask, and_high}
use lib.Pow.{pow_pos}
use Rattle.field.specs.Field.{◌⊕◌}
use Rattle.field.proofs.Product.{times_x, rounds, mul}
use Rattle.field.proofs.Xor.{add_zero, zero_add, add_assoc}
use Rattle.field.proofs.Linear.{bit_lt, bit_ind}

module _ (k m : ℕ) where
  pub x_clear : (a : ℕ) → bit_and a (2 ^ (1 + k) - 2 ^ k) ≡ 0 → a * 2 % 2 ^ suc k ≡ times_x k m a
  unfolding times_x
  x_clear a h =
      bit_ind (λ (d : ℕ). d * 2 ^ k ≡ 0 → a * 2 % 2 ^ suc k ≡ (a * 2 % 2 ^ suc k) ⊕ (d * m))
      (λ q. sym (ap (λ (x : ℕ). (a * 2 % 2 ^ suc k) ⊕ x) (zero-mul m) ∙ add_zero (a * 2 % 2 ^ suc k)))
      (λ q. absurd (no q))
      (a / 2 ^ k % 2) (bit_lt (a / 2 ^ k)) (sym (and_high a 1 k) ∙ h)
    where
      no : 1 * 2 ^ k ≡ 0 → ⊥
      no q = omega (arith, pow_pos k)

  pub x_set : (a : ℕ) → (bit_and a (2 ^ (1 + k) - 2 ^ k) ≡ 0 → ⊥) → (a * 2 % 2 ^ suc k) ⊕ m ≡ times_x k m a
  unfolding times_x
  x_set a h =
      bit_ind (λ (d : ℕ). (d * 2 ^ k ≡ 0 → ⊥) → (a * 2 % 2 ^ suc k) ⊕ m ≡ (a * 2 % 2 ^ suc k) ⊕ (d * m))
      (λ q. absurd (q (zero-mul (2 ^ k))))
      (λ q. sym (ap (λ (x : ℕ). (a * 2 % 2 ^ suc k) ⊕ x) (one-mul m)))
      (a / 2 ^ k % 2) (bit_lt (a / 2 ^ k)) (λ e. h (and_high a 1 k ∙ e))

  round : (n n' x y : ℕ) → n ≡ suc n' → rounds k m n x y ≡ (y % 2 * x) ⊕ rounds k m n' (times_x k m x) (y / 2)
  unfolding rounds
  round n n' x y e = ap (λ (j : ℕ). rounds k m j x y) e

  pub round_set : (n n' x y r r' x' : ℕ) → n ≡ suc n' → bit_and y 1 ≡ 1 → r' ≡ r ⊕ x → x' ≡ times_x k m x
      → r' ⊕ rounds k m n' x' (y / 2) ≡ r ⊕ rounds k m n x y
  round_set n n' x y r r' x' e b er ex =
      ap₂ (λ (r' x' : ℕ). r' ⊕ rounds k m n' x' (y / 2)) er ex
      ∙ add_assoc r x (rounds k m n' (times_x k m x) (y / 2))
      ∙ ap (λ (d : ℕ). r ⊕ (d ⊕ rounds k m n' (times_x k m x) (y / 2))) (sym (one-mul x))
      ∙ ap (λ (d : ℕ). r ⊕ ((d * x) ⊕ rounds k m n' (times_x k m x) (y / 2))) (sym b ∙ and_mask y 1)
      ∙ ap (λ (z : ℕ). r ⊕ z) (sym (round n n' x y e))

  pub round_clear : (n n' x y r r' x' : ℕ) → n ≡ suc n' → (bit_and y 1 ≡ 1 → ⊥) → r' ≡ r → x' ≡ times_x k m x
      → r' ⊕ rounds k m n' x' (y / 2) ≡ r ⊕ rounds k m n x y
  round_clear n n' x y r r' x' e b er ex =
      ap₂ (λ (r' x' : ℕ). r' ⊕ rounds k m n' x' (y / 2)) er ex
      ∙ ap (λ (z : ℕ). r ⊕ z)
      (sym (zero_add (rounds k m n' (times_x k m x) (y / 2)))
      ∙ ap (λ (d : ℕ). d ⊕ rounds k m n' (times_x k m x) (y / 2)) (sym (zero-mul x))
      ∙ ap (λ (d : ℕ). (d * x) ⊕ rounds k m n' (times_x k m x) (y / 2)) (sym clear)
      ∙ sym (round n n' x y e))
    where
      clear : y % 2 ≡ 0
      clear = bit_ind (λ (d : ℕ). (d ≡ 1 → ⊥) → d ≡ 0) (λ q. refl) (λ q. absurd (q refl)) (y % 2) (bit_lt y) (λ e. b (and_mask y 1 ∙ e))

  pub rounds_start : (a b : ℕ) → a < 2 ^ suc k → 0 ⊕ rounds k m (suc k) a b ≡ mul k m a b
  unfolding mul
  rounds_start a b h = zero_add (rounds k m (suc k) a b) ∙ ap (λ (x : ℕ). rounds k m (suc k) x b) (sym (mod-eq_of_lt h))

  pub rounds_end : (n x y r : ℕ) → n ≤ 0 → r ≡ r ⊕ rounds k m n x y
  unfolding rounds
  rounds_end zero x y r h = sym (add_zero r)
  rounds_end (suc n) x y r h = absurd (not-suc-le-zero h)
