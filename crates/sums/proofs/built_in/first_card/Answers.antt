-- Card 0's words are one digit each, so that the rows' word gathers itself; chip 8's is in figures.
use Rattle.std.proofs.Common.{ℕ, ◌*◌, ap, ◌∙◌, arith}
use Rattle.field.specs.Field.{◌⊕◌}
use Rattle.pairs.specs.Words.{at_both}
use Rattle.sums.proofs.Next.{first_gathered}
use Rattle.sums.proofs.built_in.first_card.Goals as goal

pub returns : goal.returns
unfolding ◌⊕◌
returns c =
    let s = c.args.s in
    c.pair.ensures
    ∙ ap at_both (ap (λ (x : ℕ). s.low ⊕ (x * 0x0000000101010001)) c.from.ensures ∙ first_gathered s (omega arith))
