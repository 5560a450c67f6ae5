-- The loops' invariants: the blocks so far are counted, first four for each piece of 180 bytes, then one for each of 45.
use Rattle.std.proofs.Common.{◌+◌, ◌*◌, ◌/◌, length}
use Rattle.bank.specs.Count.{five, CountedBlocks}
use Rattle.bank.proofs.count_blocks.Given as goal

abbrev pub invariant-loop-four : goal.invariant-loop-four
invariant-loop-four l = CountedBlocks l.bank l.m (4 * l.four-index) (five l.t)

abbrev pub invariant-loop-b : goal.invariant-loop-b
invariant-loop-b l = CountedBlocks l.bank l.m (4 * (length l.bank / 180) + l.b-index) (five l.t)
