use mathlib.Core.Path.{refl, ap, ◌∙◌}
use native.Mathlib.Omega.{arith}
use Rattle.base.specs.Base.{bit, tally}
use Rattle.base.proofs.Tally.{count_more, at_most, one_le}
use Rattle.marks.specs.Marks.{marked_chips}
use Rattle.change.proofs.Weight.{bit_of}
use Rattle.decode.specs.Search.{stray}
use Rattle.decode.proofs.Marked.{is_stray}
use Rattle.decode.proofs.chips.count_strays.Goals as goal

pub loop-i-init : goal.loop-i-init
unfolding tally
loop-i-init c = refl

pub overflow_add-n : goal.overflow_add-n
overflow_add-n c =
    omega (
      arith,
      at_most c.loop-i.i (stray c.args.d (marked_chips c.args.m)) _ c.loop-i.invariant,
      c.from-n.ensures,
      bit_of c.is_stray.result,
      one_le c.is_stray.result,
    )

pub loop-i-preserved : goal.loop-i-preserved
loop-i-preserved c =
    count_more (stray c.args.d (marked_chips c.args.m)) c.loop-i.i _ _ _ c.loop-i.invariant
    (c.from-n.ensures ∙ bit_of c.is_stray.result ∙ ap bit (is_stray c.args.d c.args.m c.loop-i.i _ (rw c.from.ensures at c.is_stray.ensures))) refl
