-- Bits of numbers, one at a time.
--
--   bit_by             what an operation on the bits gives at each bit; and_at, with_at, without_at: of the three that are used
--   share_true, share_found   a bit that is set in both
--   share_is           the test that the code makes
use Prim.Native.Nat.{ℕ, zero, suc, ◌/◌, ◌%◌, ◌^◌, ◌<◌}
use mathlib.Core.Path.{◌≡◌, refl, sym, ap, ap₂, ◌∙◌, subst}
use mathlib.Core.Bool.{Bool, true, false, ◌&&◌, ◌||◌, not, false≢true, true≢false}
use mathlib.Core.Logic.{◌⊎◌, inl, inr}
use native.Mathlib.Nat.{zero-div, div-lt_iff_lt-mul, pow-succ', one-mul, lt-suc_self, lt_trans, eq-or-lt_of_le, le_of_suc-le-suc}
use native.Mathlib.Omega.{arith}
use lib.Bits.{bit_and, bit_or, bit_xor, and_shr, and_mod, or_shr, or_mod, xor_shr, xor_mod, and_lt}
use lib.Dec.{eqb}
use lib.Pow.{pow_pos}
use borrow.Author.Tests.{eqb-false, eq-eqb, ne_eqb}
use Rattle.std.proofs.lemmas.Bool.{or_parts}
use Rattle.registers.specs.Registers.{is_set, with_bits, without_bits, share}

-- ---- each bit by itself
module _ (op : ℕ → ℕ → ℕ) (f : Bool → Bool → Bool) (shift : (a b k : ℕ) → op a b / 2 ^ k ≡ op (a / 2 ^ k) (b / 2 ^ k))
    (low : (a b k : ℕ) → op a b % 2 ^ k ≡ op (a % 2 ^ k) (b % 2 ^ k))
    (digits : (p q : ℕ) → p < 2 → q < 2 → eqb (op p q) 1 ≡ f (eqb p 1) (eqb q 1)) where
  pub bit_by : (i x y : ℕ) → is_set i (op x y) ≡ f (is_set i x) (is_set i y)
  bit_by i x y =
      ap (λ (n : ℕ). eqb (n % 2) 1) (shift x y i) ∙ ap (λ (n : ℕ). eqb n 1) (low (x / 2 ^ i) (y / 2 ^ i) 1)
      ∙ digits (x / 2 ^ i % 2) (y / 2 ^ i % 2) (omega arith) (omega arith)

-- two digits, each 0 or 1
at_digits : (P : ℕ → ℕ → Type 0) → P 0 0 → P 0 1 → P 1 0 → P 1 1 → (p q : ℕ) → p < 2 → q < 2 → P p q
at_digits P a b c d zero zero h i = a
at_digits P a b c d zero (suc zero) h i = b
at_digits P a b c d (suc zero) zero h i = c
at_digits P a b c d (suc zero) (suc zero) h i = d
at_digits P a b c d zero (suc (suc q)) h i = absurd (omega arith)
at_digits P a b c d (suc zero) (suc (suc q)) h i = absurd (omega arith)
at_digits P a b c d (suc (suc p)) q h i = absurd (omega arith)

pub and_at : (i x y : ℕ) → is_set i (bit_and x y) ≡ (is_set i x && is_set i y)
and_at = bit_by bit_and (λ s t. s && t) and_shr and_mod (at_digits (λ p q. eqb (bit_and p q) 1 ≡ (eqb p 1 && eqb q 1)) refl refl refl refl)

pub with_at : (i x v : ℕ) → is_set i (with_bits x v) ≡ (is_set i x || is_set i v)
unfolding with_bits
with_at = bit_by bit_or (λ s t. s || t) or_shr or_mod (at_digits (λ p q. eqb (bit_or p q) 1 ≡ (eqb p 1 || eqb q 1)) refl refl refl refl)

abbrev other : Bool → Bool → Bool
other s true = not s
other s false = s

xor_at : (i x y : ℕ) → is_set i (bit_xor x y) ≡ other (is_set i x) (is_set i y)
xor_at = bit_by bit_xor other xor_shr xor_mod (at_digits (λ p q. eqb (bit_xor p q) 1 ≡ other (eqb p 1) (eqb q 1)) refl refl refl refl)

pub without_at : (i x v : ℕ) → is_set i (without_bits x v) ≡ (is_set i x && not (is_set i v))
unfolding without_bits
without_at i x v = xor_at i x (bit_and x v) ∙ ap (other (is_set i x)) (and_at i x v) ∙ turned (is_set i x) (is_set i v)
  where
    turned : (s t : Bool) → other s (s && t) ≡ (s && not t)
    turned true true = refl
    turned true false = refl
    turned false true = refl
    turned false false = refl

-- ---- a bit that is set in both
pub share_true : (n x y : ℕ) → share n x y ≡ true → (i : ℕ) × (i < n) × (is_set i x ≡ true) × (is_set i y ≡ true)
share_true zero x y e = absurd (false≢true e)
share_true (suc n) x y e = go (is_set n x) (is_set n y) refl refl e (λ z. share_true n x y z)
  where
    later : (i : ℕ) × (i < n) × (is_set i x ≡ true) × (is_set i y ≡ true) → (i : ℕ) × (i < suc n) × (is_set i x ≡ true) × (is_set i y ≡ true)
    later w = (w.0, lt_trans w.1 (lt-suc_self n), w.2, w.3)

    go : (s t : Bool) → is_set n x ≡ s → is_set n y ≡ t → (s && t) || share n x y ≡ true
        → (share n x y ≡ true → (i : ℕ) × (i < n) × (is_set i x ≡ true) × (is_set i y ≡ true))
        → (i : ℕ) × (i < suc n) × (is_set i x ≡ true) × (is_set i y ≡ true)
    go true true p q e r = (n, lt-suc_self n, p, q)
    go true false p q e r = later (r e)
    go false t p q e r = later (r e)

or_true : (s : Bool) → s || true ≡ true
or_true true = refl
or_true false = refl

pub share_found : (n x y i : ℕ) → i < n → is_set i x ≡ true → is_set i y ≡ true → share n x y ≡ true
share_found zero x y i h p q = absurd (omega arith)
share_found (suc n) x y i h p q = pick (eq-or-lt_of_le (le_of_suc-le-suc h)) (λ l. share_found n x y i l p q)
  where
    pick : (i ≡ n) ⊎ (i < n) → (i < n → share n x y ≡ true) → (is_set n x && is_set n y) || share n x y ≡ true
    pick (inl e) r =
        let a : is_set n x ≡ true = subst (λ (k : ℕ). is_set k x ≡ true) e p in
        let b : is_set n y ≡ true = subst (λ (k : ℕ). is_set k y ≡ true) e q in
        ap₂ (λ (s : Bool) (t : Bool). (s && t) || share n x y) a b
    pick (inr l) r = ap (λ (t : Bool). (is_set n x && is_set n y) || t) (r l) ∙ or_true (is_set n x && is_set n y)

-- ---- the code's test: the bits in common make a number other than 0
nothing_set : (i : ℕ) → is_set i 0 ≡ false
nothing_set i = ap (λ (n : ℕ). eqb (n % 2) 1) (zero-div (2 ^ i))

-- a number below 2 ^ n with no bit set below n is 0
share_none : (n x y : ℕ) → bit_and x y < 2 ^ n → share n x y ≡ false → bit_and x y ≡ 0
share_none zero x y h e = omega arith
share_none (suc n) x y h e = share_none n x y below rest.1
  where
    rest : ((is_set n x && is_set n y) ≡ false) × (share n x y ≡ false)
    rest = or_parts (is_set n x && is_set n y) (share n x y) e

    top : bit_and x y / 2 ^ n < 2
    top = (div-lt_iff_lt-mul (pow_pos n)).1 (subst (λ (m : ℕ). bit_and x y < m) (pow-succ' 2 n) h)

    low : bit_and x y / 2 ^ n ≡ 0
    low = let ne = eqb-false (bit_and x y / 2 ^ n % 2) 1 (and_at n x y ∙ rest.0) in omega (arith, top, ne)

    below : bit_and x y < 2 ^ n
    below = subst (λ (m : ℕ). bit_and x y < m) (one-mul (2 ^ n)) ((div-lt_iff_lt-mul {k = 2 ^ n} {x = bit_and x y} {y = 1} (pow_pos n)).0 (omega (arith, low)))

pub share_is : (x y : ℕ) → x < 256 → y < 256 → not (eqb (bit_and x y) 0) ≡ share 8 x y
share_is x y hx hy = go (share 8 x y) refl
  where
    go : (t : Bool) → share 8 x y ≡ t → not (eqb (bit_and x y) 0) ≡ t
    go false e = ap not (eq-eqb (bit_and x y) 0 (share_none 8 x y (and_lt 8 x y hx hy) e))
    go true e =
        let w = share_true 8 x y e in
        ap not (ne_eqb (bit_and x y) 0 (λ z. true≢false (
        sym (and_at w.0 x y ∙ ap₂ (λ (s : Bool) (t : Bool). s && t) w.2 w.3) ∙ ap (is_set w.0) z ∙ nothing_set w.0
        )))
