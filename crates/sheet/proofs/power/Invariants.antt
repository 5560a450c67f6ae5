-- The loop's invariant: v is the i-th power.
use Rattle.std.proofs.Common.{◌≡◌}
use Rattle.field.specs.Field.{power}
use Rattle.sheet.proofs.power.Given as goal

abbrev pub invariant-loop-i : goal.invariant-loop-i
invariant-loop-i l = l.v ≡ power 2 l._i
