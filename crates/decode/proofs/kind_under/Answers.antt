-- A byte of the card is changed exactly where one of its rows is not 0.
use mathlib.Core.Path.{ap, ◌∙◌}
use Rattle.change.specs.Change.{weight}
use Rattle.decode.proofs.Answer.{alone_counted}
use Rattle.decode.proofs.Kind.{no_card, some_card}
use Rattle.decode.proofs.kind_under.Goals as goal

pub returns-then-own-eq0 : goal.returns-then-own-eq0
returns-then-own-eq0 c =
    no_card _ _ _ _ _ _ c.if-own-eq0.true (c.count-own.ensures.weight ∙ ap weight c.alone.ensures ∙ alone_counted _ _) c.count-n.ensures.weight
    c.chips_kind.ensures

pub returns : goal.returns
returns c =
    some_card _ _ _ _ _ c.if-own-eq0.false (c.count-own.ensures.weight ∙ ap weight c.alone.ensures ∙ alone_counted _ _) c.count-n.ensures.weight
