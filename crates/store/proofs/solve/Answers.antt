-- The code's shifts and sums are the maps', and the factors of the built-in labels are one set.
use Rattle.std.proofs.Common.{ℕ, ap₂, ◌∙◌, arith}
use Rattle.field.specs.Field.{◌⊕◌, ◌·◌}
use Rattle.pairs.specs.Words.{paired}
use Rattle.pairs.specs.Shifts.{up}
use Rattle.store.proofs.Shifts.{first, twice, second, solved_is}
use Rattle.store.proofs.Solved.{by_figures}
use Rattle.store.proofs.solve.Goals as goal

pub returns : goal.returns
unfolding up first twice second ◌⊕◌
returns c f g h k F =
    let one = c.from-one in
    let two = c.from-two in
    c.reduce_pair.ensures ∙ solved_is one.result two.result (omega (arith, one.ensures)) (omega (arith, two.ensures))
    ∙ by_figures one.result two.result f g h k F
    ∙ ap₂ (λ (s t : ℕ). paired ((s · f) ⊕ (t · g)) ((s · h) ⊕ (t · k))) one.ensures two.ensures
