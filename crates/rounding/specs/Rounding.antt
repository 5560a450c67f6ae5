-- Rounding to the nearest whole number, ties to even. Document 02, order 7.
--
--   off a n q      how far the whole number q is from a / n, counted in n-ths
--   Rounds a n q   q is a / n, rounded so
use Rattle.std.specs.Prelude.{◌≡◌, ℕ, ◌+◌, ◌*◌, ◌-◌, ◌%◌, ◌≤◌}

-- one of the two differences is 0
abbrev pub off : ℕ → ℕ → ℕ → ℕ
off a n q = (a - q * n) + (q * n - a)

pub record Rounds (a n q : ℕ) : Type 0 where
  -- "goes to the nearest whole number": none is nearer
  pub nearest : (p : ℕ) → off a n q ≤ off a n p
  -- "and at an exact half to the even one"
  pub even : 2 * off a n q ≡ n → q % 2 ≡ 0
  -- where there is nothing to divide by, it is 0
  pub nothing : n ≡ 0 → q ≡ 0
