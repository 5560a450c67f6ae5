-- A loop that counts. Invariant: n is how many of the rows passed are strays.
use mathlib.Core.Path.{◌≡◌}
use Rattle.base.specs.Base.{tally}
use Rattle.marks.specs.Marks.{marked_chips}
use Rattle.decode.specs.Search.{stray}
use Rattle.decode.proofs.chips.count_strays.Given as goal

abbrev pub invariant-loop-i : goal.invariant-loop-i
invariant-loop-i l = l.n ≡ tally l.i (stray l.d (marked_chips l.m))
