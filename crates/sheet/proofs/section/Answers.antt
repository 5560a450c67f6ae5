-- The heading, and one line more each time.
use Rattle.std.proofs.Common.{◌≡◌, ◌∙◌, arith}
use Rattle.text.proofs.Pieces.{added, nothing_added}
use Rattle.sheet.specs.Sheet.{number_lines}
use Rattle.sheet.proofs.Sections.{one_more}
use Rattle.sheet.proofs.section.Goals as goal

pub loop-k-init : goal.loop-k-init
unfolding number_lines
loop-k-init g c = nothing_added _

pub loop-k-preserved : goal.loop-k-preserved
loop-k-preserved g c =
    one_more g.values c.args.first c.loop-k.k c.from.result c.loop-k.invariant
    (c.from.ensures ∙ c.requires.1.1.1 _ _ (omega arith) c.f.ensures)
    c.number_line.ensures

pub returns : goal.returns
returns g c = let e : c.loop-k.k ≡ c.args.n = omega arith in rw e at (added c.put.ensures c.loop-k.invariant)
