-- The chips are sought for an entry that the quotient of the sums asks for. Invariant: none of those passed has it.
use mathlib.Core.Logic.{◌≢◌}
use Prim.Native.Nat.{ℕ, ◌+◌, ◌*◌, ◌<◌}
use Rattle.code.specs.Labels.{entry}
use Rattle.decode.proofs.equations.Equations.further_chip.Given as goal

abbrev pub invariant-chips : goal.invariant-chips
invariant-chips l = (k : ℕ) → k < l.i → (m : ℕ) → m < 5 → entry l.self.labels.now l.self.card (9 * m + k) ≢ l.v

abbrev pub invariant-cards : goal.invariant-cards
invariant-cards l = (m : ℕ) → m < l.other → entry l.self.labels.now l.self.card (9 * m + l.i) ≢ l.v
