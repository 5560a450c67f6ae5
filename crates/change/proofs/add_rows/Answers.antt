use mathlib.Core.Path.{refl, subst}
use Prim.Native.Nat.{ℕ, ◌+◌, ◌*◌}
use lib.ListN.{get_or, set}
use native.Mathlib.Omega.{arith}
use Rattle.change.specs.Change.{AddedAt}
use Rattle.change.proofs.Made.{added, rows_start, rows_more, no_card}
use Rattle.change.proofs.add_rows.Goals as goal

pub returns-then-j-gt4 : goal.returns-then-j-gt4
returns-then-j-gt4 c = no_card c.args.block.now c.args.j c.args.rows c.requires c.if-j-gt4.true

pub loop-row-init : goal.loop-row-init
loop-row-init c = rows_start _ _ _ c.requires

pub loop-row-preserved : goal.loop-row-preserved
loop-row-preserved c =
    let b = c.loop-row.block in
    let i = c.loop-row.row in
    let x = get_or c.args.rows i 0 in
    rows_more _ _ _ i x b _ c.loop-row-test.true refl
    (subst (λ (j : ℕ). AddedAt (9 * j + i) x b (set b (9 * c.from-start.result + i) c.add.result)) c.from-start.ensures
    (added b _ x c.add.result (omega (arith, c.loop-row.invariant.long, c.if-j-gt4.false, c.from-start.ensures, c.loop-row-test.true)) c.add.ensures))
    c.loop-row.invariant
