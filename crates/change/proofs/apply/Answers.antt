-- The change made in three steps, each by its contract: `applied_end` puts them together.
use mathlib.Core.Path.{◌≡◌, subst}
use mathlib.Core.List.{List}
use Prim.Native.Nat.{ℕ}
use Rattle.change.specs.Change.{AddedAt}
use Rattle.change.proofs.Made.{applied_end, not_applied}
use Rattle.change.proofs.apply.Goals as goal

pub returns-then-block-ne45 : goal.returns-then-block-ne45
returns-then-block-ne45 c = not_applied c.args.block.now _ c.if-block-ne45.true

-- added at a position that is another number's
at : (p q x : ℕ) (b b' : List ℕ) → p ≡ q → AddedAt p x b b' → AddedAt q x b b'
at p q x b b' e h = subst (λ (i : ℕ). AddedAt i x b b') e h

pub returns : goal.returns
returns c =
    let d = c.args.d in
    applied_end c.args.block.now d c.if-block-ne45.false c.add_rows.new.block c.add_at.new.block c.add_at-2.new.block
    c.add_rows.ensures (at c.from.result d.p d.e c.add_rows.new.block c.add_at.new.block c.from.ensures c.add_at.ensures)
    (at c.from-2.result d.q d.f c.add_at.new.block c.add_at-2.new.block c.from-2.ensures c.add_at-2.ensures)
