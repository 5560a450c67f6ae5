-- The test by the number of chips.
use mathlib.Core.Path.{refl, ap, ◌∙◌}
use Prim.Native.Nat.{ℕ}
use lib.Dec.{eqb}
use Rattle.field.specs.Field.{◌·◌}
use Rattle.decode.specs.Equations.{fits_by}
use Rattle.decode.proofs.Steps.{and_first, and_not}
use Rattle.decode.proofs.equations.Equations.fits.Goals as goal

pub returns-then-self-eq0 : goal.returns-then-self-eq0
unfolding fits_by
returns-then-self-eq0 c = rw c.in-Zero.is (and_first _ _ c.if-self-eq0.true)

pub returns-else-self-eq0 : goal.returns-else-self-eq0
unfolding fits_by
returns-else-self-eq0 c = rw c.in-Zero.is (and_not _ _ c.if-self-eq0.false)

pub returns-in-One : goal.returns-in-One
unfolding fits_by
returns-in-One c =
    let s = c.args.self.now in
    rw c.in-One.is (ap (eqb s.squared) (c.mul.ensures ∙ ap (λ (x : ℕ). x · s.once) c.entry_at.ensures))

pub returns-in-Two : goal.returns-in-Two
unfolding fits_by
returns-in-Two c = rw c.in-Two.is refl
