-- The loop's invariant: `met` is the k-th power, and none before it is a.
use Rattle.std.proofs.Common.{◌≡◌}
use Rattle.field.specs.Field.{power}
use Rattle.sheet.proofs.Steps.{NotBefore}
use Rattle.sheet.proofs.log.Given as goal

abbrev pub invariant-loop-k : goal.invariant-loop-k
invariant-loop-k l = record { power : l.met ≡ power 2 l.k; not_before : NotBefore l.a l.k }
