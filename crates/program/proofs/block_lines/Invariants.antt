-- The loop's invariant: the lines of the first k blocks are put, each as its block reads.
use Rattle.program.specs.Parts.{BlocksPut}
use Rattle.program.proofs.block_lines.Given as goal

abbrev pub invariant-loop-k : goal.invariant-loop-k
invariant-loop-k l = BlocksPut l.bank l.m l.k l.initial.text l.text
