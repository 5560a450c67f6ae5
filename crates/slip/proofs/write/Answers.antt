-- The causes in their order; then the slip that was made is put there.
use Prim.Native.Nat.{◌+◌}
use mathlib.Core.Path.{sym, subst, ◌∙◌}
use borrow.Author.Tests.{ltb-true, ltb-false}
use native.Mathlib.Omega.{arith}
use Rattle.reading.specs.Reading.{reading_answer}
use Rattle.slip.specs.Calls.{WriteSlipDone}
use Rattle.slip.specs.Wrote.{Next}
use Rattle.slip.proofs.Writing.{made_size, write_refused, write_full, write_done}
use Rattle.slip.proofs.write.Goals as goal
use Rattle.slip.proofs.write.Goals.{then-at-slips, else-at-slips}

pub returns-in_err-made : goal.returns-in_err-made
returns-in_err-made c = write_refused _ _ _ _ _ c.in_err-made.field-0.0 c.from_residual.ensures.1 c.in_err-made.ensures

pub returns-then-full : goal.returns-then-full
returns-then-full c =
    let (h, m) = c.in_ok-made.ensures in
    write_full _ _ _ _ h
    (elim c.if-at-slips.branch [
      | then-at-slips w ↦ omega (arith, w.if-at-slips.true)
      | else-at-slips w ↦ omega (arith, ltb-true _ _ (sym w.full-is ∙ c.if-full.true), w.if-at-slips.false, (made_size _ _ _ m h).0, m.size)
    ])

pub put-requires : goal.put-requires
put-requires c =
    let (h, m) = c.in_ok-made.ensures in
    let n = made_size _ _ _ m h in (
      n.0,
      n.1,
      n.2,
      elim c.if-at-slips.branch [
        | then-at-slips w ↦ omega (arith, ltb-false _ _ (sym w.full-is ∙ c.if-full.false), w.if-at-slips.true)
        | else-at-slips w ↦ omega (arith, ltb-false _ _ (sym w.full-is ∙ c.if-full.false), w.if-at-slips.false)
      ],
    )

pub returns : goal.returns
returns c =
    let (h, m) = c.in_ok-made.ensures in
    subst (WriteSlipDone c.args.slips.now c.args.at c.args.k (reading_answer c.args.r) (Next (c.args.at + c.in_ok-made.made.size)))
    (sym c.put.ensures.slips_after)
    (write_done _ _ _ _ _ m h (elim c.if-at-slips.branch [
      | then-at-slips w ↦ omega (arith, ltb-false _ _ (sym w.full-is ∙ c.if-full.false), w.if-at-slips.true)
      | else-at-slips w ↦ omega (arith, ltb-false _ _ (sym w.full-is ∙ c.if-full.false), w.if-at-slips.false)
    ]))
