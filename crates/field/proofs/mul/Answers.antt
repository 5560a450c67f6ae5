use Rattle.std.proofs.Common.{◌≡◌, ◌+◌, ◌-◌, suc, sym, ◌∙◌, arith}
use Rattle.field.specs.Field.{◌⊕◌}
use Rattle.field.proofs.Gf256.{in_rounds, two_mul}
use Rattle.field.proofs.Steps.{round_set, round_clear, rounds_start, rounds_end}
use Rattle.field.proofs.mul.Goals as goal
use Rattle.field.proofs.mul.Goals.{then-y-eq1, else-y-eq1}

pub loop-init : goal.loop-init
loop-init c = rounds_start 7 0x1D c.args.a c.args.b (omega arith) ∙ sym (in_rounds c.args.a c.args.b)

pub loop-preserved : goal.loop-preserved
unfolding ◌⊕◌
loop-preserved c =
    let l = c.loop in
    let x = c.times_x-x.ensures ∙ two_mul l.x (omega arith) in
    let one : 8 - l.counter ≡ suc (8 - (l.counter + 1)) = omega (arith, c.loop-test.true) in
    elim c.if-y-eq1.branch [
      | then-y-eq1 w ↦ round_set 7 0x1D _ _ l.x l.y l.r c.if-y-eq1.r _ one w.if-y-eq1.true w.r-is x ∙ l.invariant
      | else-y-eq1 w ↦ round_clear 7 0x1D _ _ l.x l.y l.r c.if-y-eq1.r _ one w.if-y-eq1.false w.r-is x ∙ l.invariant
    ]

pub returns : goal.returns
returns c = rounds_end 7 0x1D (8 - c.loop.counter) c.loop.x c.loop.y c.loop.r (omega (arith, c.loop-test.false)) ∙ c.loop.invariant
