-- A byte, and a byte shifted by 32, which fits.
use Rattle.std.proofs.Common.{ℕ, ◌*◌, ◌%◌, ◌^◌, ap, ap₂, ◌∙◌, arith}
use lib.Pow.{shl_exact}
use Rattle.field.specs.Field.{◌⊕◌}
use Rattle.sums.proofs.both.Goals as goal

pub returns : goal.returns
unfolding ◌⊕◌
returns c =
    ap₂ (λ (x y : ℕ). x ⊕ y) c.from.ensures
    (ap (λ (x : ℕ). x * 2 ^ 32 % 2 ^ 64) c.from-2.ensures ∙ shl_exact 8 32 64 (omega arith) (omega arith))
