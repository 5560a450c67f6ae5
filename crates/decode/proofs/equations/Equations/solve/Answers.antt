-- By the number of chips.
use mathlib.Core.Path.{sym, subst}
use mathlib.Core.List.{[]}
use Rattle.decode.specs.Equations.{Solves}
use Rattle.decode.proofs.Describe.{solves_none}
use Rattle.decode.proofs.Steps.{one_fits}
use Rattle.decode.proofs.equations.Equations.solve.Goals as goal

pub returns-in-Zero : goal.returns-in-Zero
returns-in-Zero c =
    let e = c.args.self.now in
    rw c.in-Zero.is (subst (Solves e.labels.now e.rows e.card [] e.once e.squared) (sym c.alone.ensures)
    (solves_none e.labels.now e.rows e.card e.of_card e.once e.squared (rw c.in-Zero.is at c.requires.fit)))

pub with_one-requires-clause-fit : goal.with_one-requires-clause-fit
with_one-requires-clause-fit c = one_fits _ _ _ _ _ (rw c.in-One.is at c.requires.fit)
