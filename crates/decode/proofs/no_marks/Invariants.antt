-- Five cards alone. Invariant: the cards below j have been looked at, and at most one of them fits; it takes two rows or more. What
-- card j takes of the label sums is at hand.
use mathlib.Core.Path.{◌≡◌}
use mathlib.Core.Bool.{true}
use mathlib.Core.List.{List, []}
use Prim.Native.Nat.{ℕ, ◌≤◌, ◌<◌}
use Rattle.std.specs.Prelude.{Option, Some, None}
use Rattle.code.specs.Labels.{built_in}
use Rattle.sums.specs.Sums.{taken}
use Rattle.sums.specs.declared.Sums.{Sums}
use Rattle.decode.specs.Search.{Known, Alone, Looked}
use Rattle.decode.proofs.no_marks.Given as goal

-- n rows are not 0
abbrev pub Fitting : Sums → ℕ → Option ℕ → Type 0
Fitting s n None = Unit {0}
Fitting s n (Some card) = (card < 5) × (2 ≤ n) × Alone built_in s card true

abbrev pub Looking : Sums → ℕ → ℕ → Option ℕ → Type 0
Looking s n j fitting = Fitting s n fitting × ((b : List ℕ) → Known built_in b s → Looked built_in [] b j fitting)

abbrev pub invariant-five : goal.invariant-five
invariant-five l = (l.j < 5 → l.own ≡ taken l.s l.j) × Looking l.s l.n l.j l.fitting
