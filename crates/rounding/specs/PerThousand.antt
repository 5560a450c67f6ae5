-- The per-thousand figure of the bank program. Document 02, order 7.
--
--   PerThousand s n q   q is s per thousand of n, rounded to the nearest, ties to even
--   Worked       the figures that order 7 gives
--   Sixteenths   an exact half comes only where 16 divides the number of all, and wherever it does, for some part of them
--   AtMostAll    of no more than all it is at most 1,000
--   AllOrNone    1,000 is said only of all, and 0 only of none, exactly where all are under 2,000, as the blocks of a bank are
--   AddUp        a part and the rest are 1,000 together
use Rattle.std.specs.Prelude.{◌≡◌, ◌↔◌, ℕ, ◌+◌, ◌*◌, ◌%◌, ◌≤◌, ◌<◌}
use Rattle.rounding.specs.Rounding.{off, Rounds}

abbrev pub PerThousand : ℕ → ℕ → ℕ → Type 0
PerThousand s n q = Rounds (1000 * s) n q

-- "one sound block of 16 gives 62, three of 16 give 188"
abbrev pub Worked : Type 0
Worked = PerThousand 1 16 62 × PerThousand 3 16 188

abbrev pub Sixteenths : Type 0
Sixteenths = (n : ℕ) → ((s q : ℕ) → 2 * off (1000 * s) n q ≡ n → n % 16 ≡ 0)
    × (n % 16 ≡ 0 → (s : ℕ) × (q : ℕ) × (s ≤ n) × (2 * off (1000 * s) n q ≡ n))

abbrev pub AtMostAll : Type 0
AtMostAll = (s n q : ℕ) → s ≤ n → PerThousand s n q → q ≤ 1000

abbrev pub AllOrNone : Type 0
AllOrNone = (n : ℕ) → 1 ≤ n → n < 2000 ↔ ((s q : ℕ) → s ≤ n → PerThousand s n q → (q ≡ 1000 ↔ s ≡ n) × (q ≡ 0 ↔ s ≡ 0))

abbrev pub AddUp : Type 0
AddUp = (s t n p q : ℕ) → 1 ≤ n → s + t ≡ n → PerThousand s n p → PerThousand t n q → p + q ≡ 1000
