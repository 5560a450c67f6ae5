-- Invariant: the word is the sum of byte times word over the places passed.
use Rattle.std.proofs.Common.{◌≡◌, ◌+◌, ◌*◌, get_or}
use Rattle.field.specs.Field.{sum}
use Rattle.code.specs.Labels.{built_in}
use Rattle.pairs.specs.Words.{spread}
use Rattle.sums.proofs.built_in.gather_card.Given as goal

abbrev pub invariant-loop-i : goal.invariant-loop-i
invariant-loop-i l = l.u ≡ sum l.i (λ q. get_or l.row-items q 0 * get_or (spread built_in) (9 * l.j + q) 0)
