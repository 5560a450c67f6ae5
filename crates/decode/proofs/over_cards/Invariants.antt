-- Five cards, each with the marked chips. Invariant: the cards below j have been looked at, and at most one of them reaches a block, which
-- is not of the chip kind; the change that reaches it is held. What card j takes of the label sums is at hand.
use mathlib.Core.Path.{◌≡◌}
use Prim.Native.Nat.{◌<◌}
use Rattle.marks.specs.Marks.{marked_chips}
use Rattle.sums.specs.Sums.{taken}
use Rattle.decode.specs.Search.{Held}
use Rattle.decode.proofs.over_cards.Given as goal

abbrev pub invariant-cards : goal.invariant-cards
invariant-cards l = (l.j < 5 → l.own ≡ taken l.s l.j) × Held l.labels l.s (marked_chips l.m) l.j l.held
