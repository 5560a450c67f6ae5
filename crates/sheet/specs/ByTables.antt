-- How the printed tables are used: products and inverses of nonzero values, by adding and taking away logarithms.
--
--   logs_product a b   the power at the sum of the two logarithms
--   logs_inverse a     the power at 255 less the logarithm
--   LogsMultiply, LogsInvert   they are the field's product and inverse, of all nonzero values
use Rattle.std.specs.Prelude.{ℕ, ◌+◌, ◌-◌, ◌%◌, ◌<◌, ◌≡◌}
use Rattle.field.specs.Field.{◌·◌, power}
use Rattle.sheet.specs.Sheet.{log}

-- (255 powers are printed, from 0 to 254)
abbrev pub logs_product : ℕ → ℕ → ℕ
logs_product a b = power 2 ((log a + log b) % 255)

abbrev pub logs_inverse : ℕ → ℕ
logs_inverse a = power 2 ((255 - log a) % 255)

abbrev pub LogsMultiply : Type 0
LogsMultiply = (a b : ℕ) → 0 < a → a < 256 → 0 < b → b < 256 → logs_product a b ≡ a · b

abbrev pub LogsInvert : Type 0
LogsInvert = (a : ℕ) → 0 < a → a < 256 → a · logs_inverse a ≡ 1
