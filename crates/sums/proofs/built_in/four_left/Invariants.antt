-- Invariant: the digits below k are those of the blocks passed.
use Rattle.std.proofs.Common.{[], get_or}
use Rattle.code.specs.Block.{Lawful}
use Rattle.code.specs.Labels.{built_in}
use Rattle.sums.proofs.Left.{Digits}
use Rattle.sums.proofs.built_in.four_left.Given as goal

abbrev pub invariant-loop-k : goal.invariant-loop-k
invariant-loop-k l = Digits (λ i. Lawful built_in (get_or l.block-items i [])) l.k l.left
