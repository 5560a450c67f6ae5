-- A record that fits the only lawful block that begins with it: what storing says of block k is what put says of the bank.
use mathlib.Core.Path.{sym, ◌∙◌}
use native.Mathlib.Omega.{arith}
use Rattle.answer.proofs.Causes.{refusal_said, number_given}
use Rattle.bank.proofs.Causes.{put_3, put_is, store_none}
use Rattle.bank.proofs.Done.{part_length, part_is, back_is, put_refused, put_done}
use Rattle.bank.proofs.put.Goals as goal

pub returns-then-rec-ne34 : goal.returns-then-rec-ne34
returns-then-rec-ne34 c = put_refused _ _ _ 3 (put_3 _ _ _ c.if-rec-ne34.true) (λ z. omega arith)

pub returns-in_err-check_place : goal.returns-in_err-check_place
returns-in_err-check_place c =
    let e = c.in_err-check_place.field-0.0 in
    rw (refusal_said _ e c.from_residual.ensures.1)
    (put_refused _ _ _ _ (put_is _ _ _ c.if-rec-ne34.false ∙ sym c.in_err-check_place.ensures.cause) (number_given e))

pub returns : goal.returns
returns c =
    let bank = c.args.bank.now in
    let k = c.args.k in
    let e = sym c.in_ok-check_place.ensures.cause in
    let rec = c.if-rec-ne34.false in
    put_done bank k _ (part_is bank k) _ _ _ _ _ (put_is _ _ _ rec ∙ e ∙ sym (store_none _ _ (part_length bank k c.in_ok-check_place.ensures.room) rec))
    c.store.ensures (back_is bank k c.store.new.out)
