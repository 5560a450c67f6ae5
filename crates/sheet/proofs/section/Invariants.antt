-- The loop's invariant: the lines of the first k numbers are put.
use Rattle.text.specs.Put.{Added}
use Rattle.sheet.specs.Sheet.{number_lines}
use Rattle.sheet.proofs.section.Given as goal

abbrev pub invariant-loop-k : goal.invariant-loop-k
invariant-loop-k g l = Added (number_lines g.values l.first l.k) l.initial.text l.text
