-- The quotient is what the chip takes, and the rows take it too.
use mathlib.Core.Path.{◌≡◌, sym, subst}
use mathlib.Core.Logic.{◌≢◌}
use mathlib.Core.List.{[], ◌∷◌}
use Prim.Native.Nat.{ℕ}
use lib.ListN.{length}
use Rattle.field.specs.Field.{◌·◌}
use native.Mathlib.Omega.{arith}
use borrow.Author.Rules.{rules}
use Rattle.change.specs.declared.Change.{Change}
use Rattle.decode.specs.Equations.{Solves}
use Rattle.decode.proofs.Describe.{solves_one}
use Rattle.decode.proofs.equations.Equations.with_one.Goals as goal

pub returns : goal.returns
returns c =
    let s = c.args.self.now in
    let p = c.args.p in
    let e = c.divide-e.result in
    let nine : length s.rows ≡ 9 = search rules in
    subst (λ (d : Change). Solves s.labels.now s.rows s.card (p ∷ []) s.once s.squared (record { card = d.card; rows = d.rows; p = p; e = e; q = d.q; f = d.f }))
    (sym c.alone.ensures)
    (solves_one s.labels.now s.rows s.card s.of_card s.once s.squared nine p e c.bumped-added.result (omega arith) c.bumped-added.ensures
    c.requires.off c.requires.fit (subst (λ (x : ℕ). x ≢ 0 → x · e ≡ s.once) c.entry_at.ensures c.divide-e.ensures))
