-- The sum of the five cards' words.
use Rattle.std.proofs.Common.{arith}
use Rattle.field.specs.Field.{◌⊕◌}
use Rattle.code.specs.Block.{byte}
use Rattle.sums.proofs.Cards.{rows_word}
use Rattle.sums.proofs.rows_from.Goals as goal

pub returns : goal.returns
unfolding ◌⊕◌
returns c =
    rows_word (byte c.args.b.now) c.args.i _ _ _ _ _ (omega arith, c.word.ensures) (omega arith, c.word-2.ensures) (omega arith, c.word-3.ensures)
    (omega arith, c.word-4.ensures) (omega arith, c.word-5.ensures)
