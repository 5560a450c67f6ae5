-- What the rounding comes to, beside the rule that it replaces.
--
--   RoundsDecided   for every a and n there is one such number
--   TwoAtHalves     another whole number is as near at an exact half, and only there
--   HalvesUp        the rule as it was: at an exact half the upper one
--   AsItWas         a number is that by this rule exactly where it is the quotient that the definition had
--   OnlyOddHalves   the two rules differ exactly where the number by the old one is odd and a half away; it is 1 less now
use Rattle.std.specs.Prelude.{◌≡◌, ◌≢◌, ◌↔◌, ℕ, ◌+◌, ◌*◌, ◌/◌, ◌%◌, ◌≤◌, eqb}
use Rattle.base.specs.Base.{if}
use Rattle.rounding.specs.Rounding.{off, Rounds}

abbrev pub RoundsDecided : Type 0
RoundsDecided = (a n : ℕ) → (q : ℕ) × Rounds a n q × ((p : ℕ) → Rounds a n p → p ≡ q)

abbrev pub TwoAtHalves : Type 0
TwoAtHalves = (a n q : ℕ) → 1 ≤ n → Rounds a n q → ((p : ℕ) × (p ≢ q) × (off a n p ≡ off a n q)) ↔ (2 * off a n q ≡ n)

-- ---- the rule as it was: "rounded to the nearest, halves up"; 0 where there was nothing to divide by
pub record HalvesUp (a n q : ℕ) : Type 0 where
  pub nearest : (p : ℕ) → off a n q ≤ off a n p
  pub up : 2 * off a n q ≡ n → a ≤ q * n
  pub nothing : n ≡ 0 → q ≡ 0

abbrev pub AsItWas : Type 0
AsItWas = (a n q : ℕ) → HalvesUp a n q ↔ q ≡ if (eqb n 0) 0 ((2 * a + n) / (2 * n))

abbrev pub OnlyOddHalves : Type 0
OnlyOddHalves = (a n p q : ℕ) → HalvesUp a n p → Rounds a n q → (p ≢ q ↔ ((2 * off a n p ≡ n) × (p % 2 ≡ 1))) × (p ≢ q → p ≡ q + 1)
