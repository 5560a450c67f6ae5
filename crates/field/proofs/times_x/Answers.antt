-- The top bit, tested by a mask, decides whether the modulus is taken away.
use mathlib.Core.Path.{sym, ◌∙◌}
use native.Mathlib.Omega.{arith}
use Rattle.field.specs.Field.{◌⊕◌}
use Rattle.field.proofs.Gf256.{two_mul}
use Rattle.field.proofs.Steps.{x_clear, x_set}
use Rattle.field.proofs.times_x.Goals as goal

pub returns-then-a-eq0 : goal.returns-then-a-eq0
returns-then-a-eq0 c = x_clear 7 0x1D c.before.args.a c.if-a-eq0.true ∙ sym (two_mul c.before.args.a (omega arith))

pub returns-else-a-eq0 : goal.returns-else-a-eq0
unfolding ◌⊕◌
returns-else-a-eq0 c = x_set 7 0x1D c.before.args.a c.if-a-eq0.false ∙ sym (two_mul c.before.args.a (omega arith))
