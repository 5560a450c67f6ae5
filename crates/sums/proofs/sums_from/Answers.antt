-- The sum of the four cards' words.
use Rattle.field.specs.Field.{◌⊕◌}
use Rattle.sums.proofs.Begun.{four_sums}
use Rattle.sums.proofs.sums_from.Goals as goal

pub returns : goal.returns
unfolding ◌⊕◌
returns c = four_sums c.args.rec.now c.args.i _ _ _ _ c.word.ensures c.word-2.ensures c.word-3.ensures c.third_card.ensures
