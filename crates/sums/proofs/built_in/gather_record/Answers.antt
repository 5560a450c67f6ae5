-- Ten words of the block begun: eight of the record, and its chip sums from chip 0 on and from chip 1 on.
use Rattle.std.proofs.Common.{◌∙◌, arith}
use Rattle.sums.specs.Sums.{begun}
use Rattle.sums.proofs.Whole.{cards_are}
use Rattle.sums.proofs.Begun.{begun_below, front_word, card_word}
use Rattle.sums.proofs.built_in.gather_record.Goals as goal

pub returns : goal.returns
returns c =
    let rec = c.args.rec.now in
    c.wrap.ensures
    ∙ cards_are (begun rec) (begun_below rec (λ p. omega (arith, c.fits-rec p))) _ _ _ _ _ _ _ _ _ _ _ _
    (front_word rec 0 _ (omega arith) (omega arith, c.word.ensures)) (front_word rec 9 _ (omega arith) (omega arith, c.word-2.ensures))
    (front_word rec 18 _ (omega arith) (omega arith, c.word-3.ensures)) (front_word rec 27 _ (omega arith) (omega arith, c.third_card.ensures))
    (card_word rec 0 _ (omega arith) c.sums_from.ensures)
    (front_word rec 1 _ (omega arith) (omega arith, c.word-4.ensures)) (front_word rec 10 _ (omega arith) (omega arith, c.word-5.ensures))
    (front_word rec 19 _ (omega arith) (omega arith, c.word-6.ensures)) (front_word rec 28 _ (omega arith) (omega arith, c.third_card-2.ensures))
    (card_word rec 1 _ (omega arith) c.sums_from-2.ensures)
    c.below-low.ensures c.above-high.ensures
