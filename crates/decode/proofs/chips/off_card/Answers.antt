-- Each return is a case of the count and of the two chips' cards.
use Rattle.decode.proofs.Marked.{none_marked, second_on, first_on, both_off}
use Rattle.decode.proofs.chips.off_card.Goals as goal

pub returns-then-n-eq0 : goal.returns-then-n-eq0
returns-then-n-eq0 c = none_marked _ _ _ _ c.if-n-eq0.true

pub returns-then-b-j : goal.returns-then-b-j
returns-then-b-j c = second_on _ _ _ _ c.if-n-eq0.false c.if-n-eq1.false _ c.if-b-j.true c.one_off-then-b-j.ensures

pub returns-then-a-j : goal.returns-then-a-j
returns-then-a-j c = first_on _ _ _ _ c.if-n-eq0.false c.if-n-eq1.false _ c.if-a-j.true c.one_off-then-a-j.ensures

pub returns : goal.returns
returns c = both_off _ _ _ _ c.if-n-eq0.false c.if-n-eq1.false c.if-a-j.false c.if-b-j.false
