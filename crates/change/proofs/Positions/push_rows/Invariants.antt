-- Nine rows by a loop. Invariant: the rows passed are listed after those that were there.
use Prim.Native.Nat.{◌*◌}
use Rattle.base.specs.Base.{those}
use Rattle.change.specs.Change.{row_test, Pushed}
use Rattle.change.proofs.Positions.push_rows.Given as goal

abbrev pub invariant-loop-i : goal.invariant-loop-i
invariant-loop-i l = Pushed (those (9 * l.j) l.i (row_test l.fn.rows)) l.initial.self l.self
