-- Products and inverses by the printed tables.
--
--   logs_multiply   the power at the sum of two logarithms is the product
--   logs_invert     the power at 255 less a logarithm is the inverse
use mathlib.Core.Path.{◌≡◌, sym, ap, ap₂, ◌∙◌}
use Prim.Native.Nat.{ℕ, ◌+◌, ◌-◌}
use native.Mathlib.Omega.{arith}
use Rattle.field.specs.Field.{◌·◌, power}
use Rattle.field.proofs.Powers.{power_add, round, modulo}
use Rattle.sheet.specs.Sheet.{log}
use Rattle.sheet.specs.ByTables.{LogsMultiply, LogsInvert}
use Rattle.sheet.proofs.Logs.{power_of_log}

pub logs_multiply : LogsMultiply
logs_multiply a b pa ha pb hb =
    modulo (log a + log b) ∙ power_add (log a) (log b) ∙ ap₂ (λ (x y : ℕ). x · y) (power_of_log a pa ha).1 (power_of_log b pb hb).1

pub logs_invert : LogsInvert
logs_invert a p h =
    let w = power_of_log a p h in
    let e : log a + (255 - log a) ≡ 255 = omega (arith, w.0) in
    ap₂ (λ (x y : ℕ). x · y) (sym w.1) (modulo (255 - log a)) ∙ sym (power_add (log a) (255 - log a)) ∙ ap (power 2) e ∙ round
