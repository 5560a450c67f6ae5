-- From one power of g to the next, and the search for a logarithm.
--
--   first_power, next_power   the 0th power is 1, and the next is 2 times the last
--   NotBefore a k    no power before the k-th is a
--   found, not_found the search ends at the logarithm: where the power is met, or behind the last
use mathlib.Core.Logic.{◌≢◌}
use mathlib.Core.Path.{◌≡◌, refl, sym, ap, ◌∙◌}
use Prim.Native.Nat.{ℕ, ◌+◌, ◌<◌}
use native.Mathlib.Numerals.{add-one}
use native.Mathlib.Omega.{arith}
use lib.Dec.{eqb}
use borrow.Author.Tests.{eq-eqb, ne_eqb}
use Rattle.base.proofs.Those.{least_one}
use Rattle.field.specs.Field.{◌·◌, power}
use Rattle.sheet.specs.Sheet.{log}

pub first_power : 1 ≡ power 2 0
unfolding power
first_power = refl

pub next_power : (v i r : ℕ) → v ≡ power 2 i → r ≡ 2 · v → r ≡ power 2 (i + 1)
unfolding power
next_power v i r e f = f ∙ ap (λ (x : ℕ). 2 · x) e ∙ ap (power 2) (sym (add-one i))

abbrev pub NotBefore : ℕ → ℕ → Type 0
NotBefore a k = (i : ℕ) → i < k → power 2 i ≢ a

pub found : (a k v : ℕ) → k < 255 → NotBefore a k → v ≡ power 2 k → v ≡ a → k ≡ log a
unfolding log
found a k v h none e f =
    least_one 255 (λ k. eqb (power 2 k) a) k
    (record { most = omega arith; passes = λ l. eq-eqb (power 2 k) a (sym e ∙ f); below = λ i l. ne_eqb (power 2 i) a (none i l) })

pub not_found : (a k : ℕ) → k ≡ 255 → NotBefore a k → 255 ≡ log a
unfolding log
not_found a k e none =
    least_one 255 (λ k. eqb (power 2 k) a) 255
    (record { most = omega arith; passes = λ l. absurd (omega arith); below = λ i l. ne_eqb (power 2 i) a (none i (omega arith)) })
