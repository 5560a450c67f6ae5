-- Powers and logarithms undo each other. Document 02, order 12: "at every entry"; document 01: "Let g be 2; its powers run through all 255
-- nonzero values."
--
--   LogOfPower    the logarithm of the k-th power is k, for every k that is printed
--   PowerOfLog    the power at the logarithm of a is a, for every a that is printed
--   ZeroHasNone   0 is none of the powers, and its logarithm is 255
--   AllNonzero    each power that is printed is a nonzero value, and each nonzero value is one of them, and is so once
use Rattle.std.specs.Prelude.{ℕ, ◌<◌, ◌≡◌}
use Rattle.field.specs.Field.{power}
use Rattle.sheet.specs.Sheet.{log}

abbrev pub LogOfPower : Type 0
LogOfPower = (k : ℕ) → k < 255 → log (power 2 k) ≡ k

abbrev pub PowerOfLog : Type 0
PowerOfLog = (a : ℕ) → 0 < a → a < 256 → (log a < 255) × (power 2 (log a) ≡ a)

abbrev pub ZeroHasNone : Type 0
ZeroHasNone = log 0 ≡ 255

pub record AllNonzero : Type 0 where
  pub nonzero : (k : ℕ) → k < 255 → (0 < power 2 k) × (power 2 k < 256)
  pub met : (a : ℕ) → 0 < a → a < 256 → (k : ℕ) × (k < 255) × (power 2 k ≡ a)
  pub once : (k l : ℕ) → k < 255 → l < 255 → power 2 k ≡ power 2 l → k ≡ l
