-- Additive maps on numbers, by their binary digits.
--
--   bit_ind             a number below 2 is 0 or 1; bit_lt: a remainder by 2 is such a number
--   scale_add, add_scale, scale_lt    a digit times a number: of a sum, of a sum of digits, its size
--   if_below            the size of a conditional
--   double_add          twice a sum
--   Additive f          f takes sums to sums; at-zero, at_scale: its value at 0, and at a digit times a number
--   top_digit           a number's top digit and the digits below
--   additive_ext        additive maps that agree at 1, 2, 4, .. agree; additive_below: and have values of k digits
use mathlib.Core.Path.{◌≡◌, sym, ap, ap₂, ◌∙◌, subst}
use mathlib.Core.Bool.{Bool, true, false}
use Prim.Native.Nat.{ℕ, zero, suc, ◌*◌, ◌/◌, ◌%◌, ◌^◌, ◌<◌}
use native.Mathlib.Nat.{mod-lt, le_of_suc-le-suc, not-suc-le-zero, zero-mul, one-mul, mod-one, lt-suc_self, lt_trans}
use native.Mathlib.Numerals.{one-add}
use lib.Bits.{bit_xor, xor_block, xor_shifted}
use lib.Pow.{mod-pow-add, pow_pos}
use Rattle.base.specs.Base.{if}
use Rattle.field.specs.Field.{◌⊕◌}
pub use Rattle.field.proofs.Xor.{bit_lt}
use Rattle.field.proofs.Xor.{add_self, zero_add, add_zero, add_self_left, add_lt}

pub bit_ind : (P : ℕ → Type 0) → P 0 → P 1 → (x : ℕ) → x < 2 → P x
bit_ind P p q zero h = p
bit_ind P p q (suc zero) h = q
bit_ind P p q (suc (suc x)) h = absurd (not-suc-le-zero (le_of_suc-le-suc (le_of_suc-le-suc h)))

-- a digit times a sum, and a sum of digits times a number
pub scale_add : (x a b : ℕ) → x < 2 → x * (a ⊕ b) ≡ (x * a) ⊕ (x * b)
scale_add x a b =
    bit_ind (λ (x : ℕ). x * (a ⊕ b) ≡ (x * a) ⊕ (x * b))
    (simp (zero-mul, add_self))
    (simp one-mul) x

pub add_scale : (x y a : ℕ) → x < 2 → y < 2 → (x ⊕ y) * a ≡ (x * a) ⊕ (y * a)
add_scale x y a hx hy =
    bit_ind (λ (x : ℕ). (x ⊕ y) * a ≡ (x * a) ⊕ (y * a))
    (simp (zero-mul, zero_add))
    (bit_ind (λ (y : ℕ). (1 ⊕ y) * a ≡ (1 * a) ⊕ (y * a)) (simp (zero-mul, add_zero, one-mul)) (simp (add_self, zero-mul)) y hy)
    x hx

pub scale_lt : (x a n : ℕ) → x < 2 → a < 2 ^ n → x * a < 2 ^ n
scale_lt x a n hx ha =
    bit_ind (λ (x : ℕ). x * a < 2 ^ n) (subst (λ (y : ℕ). y < 2 ^ n) (sym (zero-mul a)) (pow_pos n))
    (subst (λ (y : ℕ). y < 2 ^ n) (sym (one-mul a)) ha) x hx

pub if_below : (n : ℕ) (t : Bool) (a b : ℕ) → a < 2 ^ n → b < 2 ^ n → if t a b < 2 ^ n
if_below n true a b h g = h
if_below n false a b h g = g

pub double_add : (a b : ℕ) → (a ⊕ b) * 2 ≡ (a * 2) ⊕ (b * 2)
unfolding ◌⊕◌
double_add a b = sym (
    ap₂ bit_xor (sym (native.Mathlib.Nat.add-zero (a * 2))) (sym (native.Mathlib.Nat.add-zero (b * 2)))
    ∙ xor_block 1 a b 0 0 (pow_pos 1) (pow_pos 1)
    ∙ native.Mathlib.Nat.add-zero (bit_xor a b * 2))

abbrev pub Additive : (ℕ → ℕ) → Type 0
Additive f = (a b : ℕ) → f (a ⊕ b) ≡ f a ⊕ f b

pub at_zero : (f : ℕ → ℕ) → Additive f → f 0 ≡ 0
at_zero f h = sym (add_self_left (f 0) (f 0)) ∙ ap (λ (x : ℕ). f 0 ⊕ x) (sym (h 0 0) ∙ ap f (add_self 0)) ∙ add_self (f 0)

pub at_scale : (f : ℕ → ℕ) → Additive f → (x a : ℕ) → x < 2 → f (x * a) ≡ x * f a
at_scale f h x a =
    bit_ind (λ (x : ℕ). f (x * a) ≡ x * f a)
    (ap f (zero-mul a) ∙ at_zero f h ∙ sym (zero-mul (f a)))
    (ap f (one-mul a) ∙ sym (one-mul (f a))) x

-- a number's n + 1 low digits: the digit n, and the n low ones
pub top_digit : (n a : ℕ) → a % 2 ^ suc n ≡ (a / 2 ^ n % 2 * 2 ^ n) ⊕ (a % 2 ^ n)
unfolding ◌⊕◌
top_digit n a =
    ap (λ (x : ℕ). a % 2 ^ x) (sym (one-add n)) ∙ mod-pow-add a 1 n
    ∙ sym (xor_shifted (a / 2 ^ n % 2) n (a % 2 ^ n) (mod-lt a (pow_pos n)))

-- two additive maps that agree at 1, 2, 4, .., 2 ^ (n - 1) agree at all numbers of n digits
pub additive_ext : (f g : ℕ → ℕ) → Additive f → Additive g → (n : ℕ) → ((i : ℕ) → i < n → f (2 ^ i) ≡ g (2 ^ i))
    → (a : ℕ) → f (a % 2 ^ n) ≡ g (a % 2 ^ n)
additive_ext f g hf hg zero h a = ap f (mod-one a) ∙ at_zero f hf ∙ sym (at_zero g hg) ∙ ap g (sym (mod-one a))
additive_ext f g hf hg (suc n) h a =
    ap f (top_digit n a) ∙ hf (a / 2 ^ n % 2 * 2 ^ n) (a % 2 ^ n)
    ∙ ap₂ (λ (x y : ℕ). x ⊕ y)
    (at_scale f hf (a / 2 ^ n % 2) (2 ^ n) (bit_lt (a / 2 ^ n)) ∙ ap (λ (x : ℕ). a / 2 ^ n % 2 * x) (h n (lt-suc_self n))
    ∙ sym (at_scale g hg (a / 2 ^ n % 2) (2 ^ n) (bit_lt (a / 2 ^ n))))
    (additive_ext f g hf hg n (λ i l. h i (lt_trans l (lt-suc_self n))) a)
    ∙ sym (ap g (top_digit n a) ∙ hg (a / 2 ^ n % 2 * 2 ^ n) (a % 2 ^ n))

-- an additive map that is below 2 ^ k at 1, 2, 4, .., 2 ^ (n - 1) is so at all numbers of n digits
pub additive_below : (f : ℕ → ℕ) → Additive f → (k n : ℕ) → ((i : ℕ) → i < n → f (2 ^ i) < 2 ^ k) → (a : ℕ) → f (a % 2 ^ n) < 2 ^ k
additive_below f hf k zero h a = subst (λ (x : ℕ). x < 2 ^ k) (sym (ap f (mod-one a) ∙ at_zero f hf)) (pow_pos k)
additive_below f hf k (suc n) h a =
    subst (λ (x : ℕ). x < 2 ^ k) (sym (ap f (top_digit n a) ∙ hf (a / 2 ^ n % 2 * 2 ^ n) (a % 2 ^ n)))
    (add_lt k (f (a / 2 ^ n % 2 * 2 ^ n)) (f (a % 2 ^ n))
    (subst (λ (y : ℕ). y < 2 ^ k) (sym (at_scale f hf (a / 2 ^ n % 2) (2 ^ n) (bit_lt (a / 2 ^ n))))
    (scale_lt (a / 2 ^ n % 2) (f (2 ^ n)) k (bit_lt (a / 2 ^ n)) (h n (lt-suc_self n))))
    (additive_below f hf k n (λ i l. h i (lt_trans l (lt-suc_self n))) a))
