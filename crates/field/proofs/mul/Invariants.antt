-- Invariant: the result so far, and what the rounds left will add, make the product.
use Rattle.std.proofs.Common.{◌≡◌, ◌-◌}
use Rattle.field.specs.Field.{◌⊕◌, ◌·◌}
use Rattle.field.proofs.Product.{rounds}
use Rattle.field.proofs.mul.Given as goal

abbrev pub invariant-loop : goal.invariant-loop
invariant-loop l = l.r ⊕ rounds 7 0x1D (8 - l.counter) l.x l.y ≡ l.a · l.b
