-- When a number is the one that `Rounds` means.
--
--   scaled       equal numbers, times n; scaled_0: a number, times 0
--   around       a / n is the whole number below it and a rest of less than 1
--   near         a number that is at most a half away is a nearest
--   of_nothing   0, where n is 0
--   within       a number that is at most a half away, and even where it is a half away
--   lower, upper, middle   by the rest: under a half, over it, and an exact half
use mathlib.Core.Path.{◌≡◌, ap, ◌∙◌}
use mathlib.Core.Logic.{⊎_elim}
use Prim.Native.Nat.{ℕ, ◌+◌, ◌*◌, ◌/◌, ◌%◌, ◌≤◌, ◌<◌}
use native.Mathlib.Nat.{mul-zero, mul-le-mul_right, div-add-mod', mod-lt}
use native.Mathlib.Omega.{arith}
use Rattle.std.proofs.lemmas.Bool.{cases_lt}
use Rattle.rounding.specs.Rounding.{off, Rounds}

pub scaled : (n : ℕ) {p q : ℕ} → p ≡ q → p * n ≡ q * n
scaled n e = ap (λ (x : ℕ). x * n) e

pub scaled_0 : (p : ℕ) {n : ℕ} → n ≡ 0 → p * n ≡ 0
scaled_0 p e = ap (λ (x : ℕ). p * x) e ∙ mul-zero p

pub around : (a n : ℕ) → 1 ≤ n → (a / n * n + a % n ≡ a) × (a % n < n)
around a n h = (div-add-mod' a n, mod-lt a (omega arith))

-- a number below q is off by as much at least, and so is one above it
pub near : (a n q : ℕ) → 2 * off a n q ≤ n → (p : ℕ) → off a n q ≤ off a n p
near a n q h p = ⊎_elim below (λ l. ⊎_elim above (λ g. omega (arith, same l g)) (cases_lt q p)) (cases_lt p q)
  where
    below : p < q → off a n q ≤ off a n p
    below l = omega (arith, mul-le-mul_right {m = p + 1} {n = q} n (omega arith))

    above : q < p → off a n q ≤ off a n p
    above l = omega (arith, mul-le-mul_right {m = q + 1} {n = p} n (omega arith))

    same : q ≤ p → p ≤ q → p * n ≡ q * n
    same l g = scaled n (omega arith)

pub of_nothing : (a n : ℕ) → n ≡ 0 → Rounds a n 0
of_nothing a n e = record {
  nearest = λ p. omega (arith, scaled_0 p e);
  even = λ g. omega arith;
  nothing = λ g. omega arith;
}

pub within : (a n q : ℕ) → 1 ≤ n → 2 * off a n q ≤ n → (2 * off a n q ≡ n → q % 2 ≡ 0) → Rounds a n q
within a n q h l f = record { nearest = near a n q l; even = f; nothing = λ e. absurd (omega arith) }

module _ (a n q : ℕ) (h : 1 ≤ n) where
  pub lower : q ≡ a / n → 2 * (a % n) < n → Rounds a n q
  lower e l =
      let d = around a n h in
      let g = scaled n e in
      within a n q h (omega arith) (λ z. absurd (omega arith))

  pub upper : q ≡ a / n + 1 → n < 2 * (a % n) → Rounds a n q
  upper e l =
      let d = around a n h in
      let g = scaled n e in
      within a n q h (omega arith) (λ z. absurd (omega arith))

  -- the number below and the one above are as near
  pub middle : a / n ≤ q → q ≤ a / n + 1 → q % 2 ≡ 0 → 2 * (a % n) ≡ n → Rounds a n q
  middle b t e l =
      let d = around a n h in
      within a n q h (omega (arith, mul-le-mul_right {m = a / n} {n = q} n b, mul-le-mul_right {m = q} {n = a / n + 1} n t)) (λ z. e)
