use mathlib.Core.Path.{refl, ◌∙◌}
use native.Mathlib.Omega.{arith}
use Rattle.base.specs.Base.{tally}
use Rattle.base.proofs.Tally.{count_more, at_most, one_le}
use Rattle.change.specs.Change.{nonzero_at}
use Rattle.change.proofs.Weight.{bit_of}
use Rattle.change.proofs.count_rows.Goals as goal

pub loop-row-init : goal.loop-row-init
unfolding tally
loop-row-init c = refl

pub overflow_add-n : goal.overflow_add-n
overflow_add-n c =
    let t = nonzero_at c.args.rows c.loop-row.row-index in
    omega (arith, at_most c.loop-row.row-index (nonzero_at c.args.rows) _ c.loop-row.invariant, c.from-n.ensures, bit_of t, one_le t)

pub loop-row-preserved : goal.loop-row-preserved
loop-row-preserved c =
    let i = c.loop-row.row-index in
    count_more (nonzero_at c.args.rows) i _ _ _ c.loop-row.invariant (c.from-n.ensures ∙ bit_of (nonzero_at c.args.rows i)) refl
