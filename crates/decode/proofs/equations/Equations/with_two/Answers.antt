-- Two unknowns by three quotients, and the rows take both.
use mathlib.Core.Path.{◌≡◌}
use lib.ListN.{length}
use native.Mathlib.Omega.{arith}
use borrow.Author.Rules.{rules}
use Rattle.decode.proofs.Describe.{solves_two}
use Rattle.decode.proofs.Steps.{first_by, second_by, by_entries}
use Rattle.decode.proofs.equations.Equations.with_two.Goals as goal

pub returns : goal.returns
returns c =
    let s = c.args.self.now in
    let nine : length s.rows ≡ 9 = search rules in
    let first = first_by _ _ _ _ _ _ _ _ _ c.divide-share.ensures c.add.ensures c.mul.ensures c.add-2.ensures c.divide-e.ensures in
    let second = second_by _ _ _ _ _ _ _ c.divide-f.ensures c.add-3.ensures c.divide-e.ensures in
    let known = by_entries _ _ _ _ _ _ _ _ c.entry_at-c.ensures c.entry_at-d.ensures first second in
    solves_two _ _ _ s.of_card _ _ nine _ c.divide-e.result _ (omega arith) c.bumped-first.ensures _ c.divide-f.result _ c.requires
    (omega arith) known.0 known.1 c.bumped-both.ensures
