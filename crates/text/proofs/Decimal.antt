-- The digits that `io::decimal` writes are those of the specification.
--
--   written      the fewest digits that hold n, as `io` has them, are `decimal n`
--   one_or_more  what holds of one digit, and of more, holds of the digits of every number
--   short        a number below 10 ^ k has at most k digits, for k = 1 or more
use Prim.Native.Nat.{ℕ, zero, suc, ◌+◌, ◌*◌, ◌-◌, ◌/◌, ◌%◌, ◌^◌, ◌≤◌, ◌<◌}
use mathlib.Core.Path.{◌≡◌, sym, ap, ◌∙◌}
use mathlib.Core.Logic.{⊎_elim}
use mathlib.Core.List.{List, [], ◌∷◌, ◌++◌}
use native.Mathlib.Nat.{mod-lt, mod-eq_of_lt, pow-suc, one-le-pow, eq-zero-or-pos, div-lt_iff_lt-mul, le-div_iff_mul-le}
use native.Mathlib.Numerals.{unary_clauses}
use native.Mathlib.Omega.{arith}
use borrow.Author.Tests.{lt-ltb, le-ltb}
use lib.Dec.{lit<}
use lib.ListN.{length, length-append}
use Rattle.io.specs.Digits.{hex_digit_ascii, last_digits, IsDigitCount}
use Rattle.text.specs.Text.{digit, digits_up_to, decimal}

-- the code of a decimal digit
glyph_below : (d : ℕ) → d < 10 → hex_digit_ascii d ≡ 48 + d
glyph_below d h = simp (lt-ltb d 10 h)

one_digit : (most n : ℕ) → n < 10 → digits_up_to (suc most) n ≡ (48 + n) ∷ []
unfolding digits_up_to
one_digit most n h = simp (lt-ltb n 10 h)

more_digits : (most n : ℕ) → 10 ≤ n → digits_up_to (suc most) n ≡ digits_up_to most (n / 10) ++ ((48 + n % 10) ∷ [])
unfolding digits_up_to
more_digits most n h = simp (le-ltb n 10 h)

-- where n has two digits or more, the first is not 0
leading : (n j : ℕ) → IsDigitCount 10 1 n (suc (suc j)) → 10 ^ j * 10 ≤ n
leading n j h = simp unary_clauses at (h.2 (omega arith))

-- without the last digit there is one fewer
fewer : (n j : ℕ) → IsDigitCount 10 1 n (suc (suc j)) → IsDigitCount 10 1 (n / 10) (suc j)
fewer n j h = (
  omega arith,
  (div-lt_iff_lt-mul (lit< tt)).1 (rw (← pow-suc 10 (suc j)) h.1),
  λ _. simp unary_clauses ((le-div_iff_mul-le (lit< tt)).1 (leading n j h)),
)

at_least_ten : (n j : ℕ) → IsDigitCount 10 1 n (suc (suc j)) → 10 ≤ n
at_least_ten n j h = omega (arith, leading n j h, one-le-pow j 10 (lit< tt))

same_digits : (most n k : ℕ) → n < most → IsDigitCount 10 1 n k → last_digits 10 k n ≡ digits_up_to most n
same_digits zero n k l h = absurd (omega arith)
same_digits (suc most) n zero l h = absurd (omega arith)
same_digits (suc most) n (suc zero) l h =
    let b : n < 10 = h.1 in
    ap (λ (d : ℕ). d ∷ []) (glyph_below (n % 10) (mod-lt n (lit< tt)) ∙ ap (λ (d : ℕ). 48 + d) (mod-eq_of_lt b))
    ∙ sym (one_digit most n b)
same_digits (suc most) n (suc (suc j)) l h =
    let t = at_least_ten n j h in
    ap (λ (s : List ℕ). s ++ (hex_digit_ascii (n % 10) ∷ [])) (same_digits most (n / 10) (suc j) (omega arith) (fewer n j h))
    ∙ ap (λ (d : ℕ). digits_up_to most (n / 10) ++ (d ∷ [])) (glyph_below (n % 10) (mod-lt n (lit< tt)))
    ∙ sym (more_digits most n t)

pub written : (n k : ℕ) → IsDigitCount 10 1 n k → last_digits 10 k n ≡ decimal n
unfolding decimal
written n k h = same_digits (suc n) n k (omega arith) h

-- ---- how many digits
-- n has one digit, or is one digit behind n / 10
pub one_or_more : (most n : ℕ) (P : List ℕ → Type 0) → (n < 10 → P (digit n)) → (10 ≤ n → P (digits_up_to most (n / 10) ++ digit (n % 10)))
    → P (digits_up_to (suc most) n)
one_or_more most n P f g =
    ⊎_elim
    (λ z. let l : 10 ≤ n = omega arith in rw (more_digits most n l) (g l))
    (λ z. let l : n < 10 = omega arith in rw (one_digit most n l) (f l))
    (eq-zero-or-pos (10 - n))

up_to : (k most n : ℕ) → n < 10 ^ suc k → length (digits_up_to most n) ≤ suc k
unfolding digits_up_to
up_to k zero n h = omega arith
up_to zero (suc most) n h = one_or_more most n (λ (s : List ℕ). length s ≤ 1) (λ l. omega arith) (λ l. absurd (omega (arith, h)))
up_to (suc k) (suc most) n h =
    one_or_more most n (λ (s : List ℕ). length s ≤ suc (suc k))
    (λ l. omega arith)
    (λ l.
    simp length-append
    (omega (arith, up_to k most (n / 10) ((div-lt_iff_lt-mul (lit< tt)).1 (rw (← pow-suc 10 (suc k)) h)))))

pub short : (k n : ℕ) → n < 10 ^ suc k → length (decimal n) ≤ suc k
unfolding decimal
short k n h = up_to k (suc n) n h
