-- The address decides: the command, one register, or the number of the refusal.
use mathlib.Core.Path.{refl}
use native.Mathlib.Omega.{arith}
use Rattle.registers.proofs.Writes.{OneRegister, six, low, above_11, read_13, write_refused, write_plain, write_cleared}
use Rattle.registers.proofs.write.Goals as goal
use Rattle.registers.proofs.write.Goals.{in-6-1, in_default+then-a-lt4}

pub returns-in-7 : goal.returns-in-7
returns-in-7 c = rw c.in-7.is (write_cleared _ _ _ _ _ _ _ _ refl refl c.without.ensures)

pub returns-in-4-to-5 : goal.returns-in-4-to-5
returns-in-4-to-5 c =
    write_refused _ _ _ _ _ _ 13 _ _ refl refl (read_13 _ _ _ (omega arith) (omega arith) (λ z. omega arith) (λ z. omega arith)) (λ z. omega arith)

pub returns-in_default : goal.returns-in_default
returns-in_default c = write_refused _ _ _ _ _ _ 12 _ _ refl refl (above_11 _ _ _ (omega arith)) (λ z. omega arith)

pub returns-in-1-to-3 : goal.returns-in-1-to-3
returns-in-1-to-3 c =
    let one : OneRegister c.args.a =
    elim c.in-1-to-3-1.branch [ in-6-1 w ↦ six (omega arith) | in_default+then-a-lt4 w ↦ low (λ z. omega arith) (omega arith) ] in
    write_plain _ _ _ _ _ _ _ _ refl refl one
