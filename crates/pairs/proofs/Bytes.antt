-- The bytes of a word.
--
--   byte_of_add      byte i of a sum of words is the sum of their bytes i
--   byte_of_next     byte i + 1 is byte i of what is above the lowest byte
--   byte_of_zero     every byte of 0 is 0
--   same_bytes       words of n bytes that are the same are the same; zero_bytes: a word of n bytes that are all 0 is 0
--   placed           n bytes, each shifted to its place
use mathlib.Core.Logic.{◌≢◌, ◌⊎◌, inl, inr}
use mathlib.Core.Path.{◌≡◌, sym, ap, ◌∙◌, subst}
use mathlib.Core.Bool.{Bool}
use Prim.Native.Nat.{ℕ, zero, suc, ◌+◌, ◌*◌, ◌-◌, ◌/◌, ◌%◌, ◌^◌, ◌<◌}
use native.Mathlib.Nat.{mod-lt, mod-eq_of_lt, div-eq_of_lt, lt_of_lt_of_le, mul_assoc, mul-mod_left}
use native.Mathlib.Decide.{dec_lt}
use native.Mathlib.Omega.{arith}
use lib.Dec.{eqb}
use lib.Pow.{pow_pos, pow-add, pow_mono, shl_lt, shl-shr, shr-shr, shr_lt}
use borrow.Author.Tests.{eq-eqb, ne_eqb}
use Rattle.std.proofs.lemmas.Bool.{cases_eq}
use Rattle.field.specs.Field.{sum}
use Rattle.field.proofs.Xor.{add_shr, add_mod}
use Rattle.field.proofs.Linear.{Additive, at_zero}
use Rattle.field.proofs.Sum.{sum_ext, sum_one}
use Rattle.base.specs.Base.{if}
use Rattle.pairs.specs.Words.{byte_of}
use Rattle.pairs.proofs.Points.{through}

pub byte_of_add : (i : ℕ) → Additive (λ u. byte_of u i)
unfolding byte_of
byte_of_add i a b = ap (λ (x : ℕ). x % 2 ^ 8) (add_shr a b (8 * i)) ∙ add_mod (a / 2 ^ (8 * i)) (b / 2 ^ (8 * i)) 8

pub byte_of_below : (u i : ℕ) → byte_of u i < 2 ^ 8
unfolding byte_of
byte_of_below u i = mod-lt (u / 2 ^ (8 * i)) (pow_pos 8)

pub byte_of_zero : (i : ℕ) → byte_of 0 i ≡ 0
byte_of_zero i = at_zero (λ u. byte_of u i) (byte_of_add i)

pub byte_of_next : (u i : ℕ) → byte_of u (suc i) ≡ byte_of (u / 2 ^ 8) i
unfolding byte_of
byte_of_next u i =
    let e : 8 * suc i ≡ 8 + 8 * i = omega arith in
    ap (λ (x : ℕ). x % 2 ^ 8) (ap (λ (k : ℕ). u / 2 ^ k) e ∙ sym (shr-shr u 8 (8 * i)))

pub same_bytes : (n u v : ℕ) → u < 2 ^ (8 * n) → v < 2 ^ (8 * n) → ((i : ℕ) → i < n → byte_of u i ≡ byte_of v i) → u ≡ v
unfolding byte_of
same_bytes zero u v h g z = omega arith
same_bytes (suc n) u v h g z =
    let e : 8 * suc n ≡ 8 * n + 8 = omega arith in
    let above : u / 2 ^ 8 ≡ v / 2 ^ 8 =
    same_bytes n (u / 2 ^ 8) (v / 2 ^ 8) (shr_lt (8 * n) 8 (subst (λ (k : ℕ). u < 2 ^ k) e h)) (shr_lt (8 * n) 8 (subst (λ (k : ℕ). v < 2 ^ k) e g))
    (λ i l. sym (byte_of_next u i) ∙ z (suc i) (omega arith) ∙ byte_of_next v i) in
    let lowest : u / 2 ^ 0 % 2 ^ 8 ≡ v / 2 ^ 0 % 2 ^ 8 = z 0 (omega arith) in
    omega arith

pub zero_bytes : (n u : ℕ) → u < 2 ^ (8 * n) → ((i : ℕ) → i < n → byte_of u i ≡ 0) → u ≡ 0
zero_bytes n u h z = same_bytes n u 0 h (pow_pos (8 * n)) (λ i l. z i l ∙ sym (byte_of_zero i))

-- ---- one byte, shifted to place i
module _ (x : ℕ) (h : x < 2 ^ 8) where
  here : (i : ℕ) → byte_of (x * 2 ^ (8 * i)) i ≡ x
  unfolding byte_of
  here i = ap (λ (y : ℕ). y % 2 ^ 8) (shl-shr x (8 * i)) ∙ mod-eq_of_lt h

  above : (i k : ℕ) → i < k → byte_of (x * 2 ^ (8 * i)) k ≡ 0
  unfolding byte_of
  above i k l = ap (λ (y : ℕ). y % 2 ^ 8) (div-eq_of_lt (lt_of_lt_of_le (shl_lt 8 (8 * i) h) (pow_mono {i = 8 + 8 * i} {j = 8 * k} (omega arith))))

  below : (i k : ℕ) → k < i → byte_of (x * 2 ^ (8 * i)) k ≡ 0
  unfolding byte_of
  below i k l =
      let d : ℕ = i - suc k in
      let e : 8 * i ≡ (8 * (i - suc k) + 8) + 8 * k = omega arith in
      ap (λ (n : ℕ). x * 2 ^ n / 2 ^ (8 * k) % 2 ^ 8) e
      ∙ ap (λ (y : ℕ). x * y / 2 ^ (8 * k) % 2 ^ 8) (pow-add 2 (8 * (i - suc k) + 8) (8 * k))
      ∙ ap (λ (y : ℕ). y / 2 ^ (8 * k) % 2 ^ 8) (sym (mul_assoc x (2 ^ (8 * (i - suc k) + 8)) (2 ^ (8 * k))))
      ∙ ap (λ (y : ℕ). y % 2 ^ 8) (shl-shr (x * 2 ^ (8 * (i - suc k) + 8)) (8 * k))
      ∙ ap (λ (y : ℕ). x * y % 2 ^ 8) (pow-add 2 (8 * (i - suc k)) 8)
      ∙ ap (λ (y : ℕ). y % 2 ^ 8) (sym (mul_assoc x (2 ^ (8 * (i - suc k))) (2 ^ 8)))
      ∙ mul-mod_left (x * 2 ^ (8 * (i - suc k))) (2 ^ 8)

  shifted : (i k : ℕ) → byte_of (x * 2 ^ (8 * i)) k ≡ if (eqb i k) x 0
  shifted i k = pick (cases_eq i k) (dec_lt i k)
    where
      pick : (i ≡ k) ⊎ (i ≢ k) → Dec (i < k) → byte_of (x * 2 ^ (8 * i)) k ≡ if (eqb i k) x 0
      pick (inl e) d = ap (λ (n : ℕ). byte_of (x * 2 ^ (8 * n)) k) e ∙ here k ∙ sym (ap (λ (t : Bool). if t x 0) (eq-eqb i k e))
      pick (inr n) (yes l) = above i k l ∙ sym (ap (λ (t : Bool). if t x 0) (ne_eqb i k n))
      pick (inr n) (no l) = below i k (omega arith) ∙ sym (ap (λ (t : Bool). if t x 0) (ne_eqb i k n))

-- n bytes, each at its place
pub placed : (n : ℕ) (f : ℕ → ℕ) → ((i : ℕ) → f i < 2 ^ 8) → (k : ℕ) → k < n → byte_of (sum n (λ i. f i * 2 ^ (8 * i))) k ≡ f k
placed n f h k l =
    through (λ u. byte_of u k) (byte_of_add k) n (λ i. f i * 2 ^ (8 * i))
    ∙ sum_ext n (λ i. byte_of (f i * 2 ^ (8 * i)) k) (λ i. if (eqb i k) (f i) 0) (λ i z. shifted (f i) (h i) i k)
    ∙ sum_one n k f l
