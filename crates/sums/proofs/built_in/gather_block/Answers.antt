-- Ten words of the block, five from chip 0 on and five from chip 1 on, are all of it.
use Rattle.std.proofs.Common.{◌∙◌, arith}
use Rattle.code.specs.Block.{byte}
use Rattle.sums.proofs.Whole.{cards_are}
use Rattle.sums.proofs.built_in.gather_block.Goals as goal

pub returns : goal.returns
returns c =
    c.wrap.ensures
    ∙ cards_are (byte c.args.b.now) (λ p. omega (arith, c.fits-b p)) _ _ _ _ _ _ _ _ _ _ _ _
    (omega arith, c.word.ensures) (omega arith, c.word-2.ensures) (omega arith, c.word-3.ensures) (omega arith, c.word-4.ensures)
    (omega arith, c.word-5.ensures) (omega arith, c.word-6.ensures) (omega arith, c.word-7.ensures) (omega arith, c.word-8.ensures)
    (omega arith, c.word-9.ensures) (omega arith, c.word-10.ensures) c.below-low.ensures c.above-high.ensures
