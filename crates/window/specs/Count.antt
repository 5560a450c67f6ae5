-- What the loops that count and seek have found.
--
--   NextOften c p q   q is the first position from p on that is counted four times or more, if there is one
--   Counts l c        c has for each of the 256 bytes how often it stands in l
use Rattle.std.specs.Prelude.{◌≡◌, List, ℕ, ◌<◌, ◌≤◌, length, get_or, Some, None}
use Rattle.std.specs.declared.option.Option.{Option}
use Rattle.window.specs.Window.{times}

pub record Counts (l c : List ℕ) : Type 0 where
  pub long : length c ≡ 256
  pub each : (p : ℕ) → p < 256 → get_or c p 0 ≡ times p l

abbrev pub NextOften : List ℕ → ℕ → Option ℕ → Type 0
NextOften c p (Some q) = (p ≤ q) × (q < 45) × (4 ≤ get_or c q 0) × ((i : ℕ) → p ≤ i → i < q → get_or c i 0 < 4)
NextOften c p None = (i : ℕ) → p ≤ i → i < 45 → get_or c i 0 < 4
