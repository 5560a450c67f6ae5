-- A chip that is there leaves the record as it is. Else the count says which place is free: the first of none, the second after one.
use mathlib.Core.Path.{sym, ap, ◌∙◌}
use native.Mathlib.Omega.{arith}
use Rattle.base.proofs.Lists.{is_in_in}
use Rattle.base.proofs.Tally.{passes, fails}
use Rattle.marks.specs.Marks.{is_marked, marked_chips}
use Rattle.marks.specs.declared.MarkCall.TheVariants.{PlaceChip}
use Rattle.marks.proofs.Chips.{place_first, place_second}
use Rattle.marks.proofs.Laws.{can, room_for, chips_counted}
use Rattle.marks.proofs.Again.{already_same}
use Rattle.marks.proofs.calls.with_chip.Goals as goal

pub returns-then-has_chip : goal.returns-then-has_chip
unfolding is_marked
returns-then-has_chip c =
    let m = c.args.m in
    let p = c.args.p in
    let there = c.has_chip.ensures ∙ ap (is_marked m) c.from.ensures in
    sym (already_same m (PlaceChip p) (can m (PlaceChip p) c.requires).lawful (is_in_in p (marked_chips m) (passes there c.if-has_chip.true)))

pub returns-then-m-eq0 : goal.returns-then-m-eq0
returns-then-m-eq0 c =
    let there = c.has_chip.ensures ∙ ap (is_marked c.args.m) c.from.ensures in
    c.one_chip.ensures ∙ sym (place_first _ _ (fails there c.if-has_chip.false) c.if-m-eq0.true)

pub returns : goal.returns
returns c =
    let new = fails (c.has_chip.ensures ∙ ap (is_marked c.args.m) c.from.ensures) c.if-has_chip.false in
    let h = can c.args.m (PlaceChip c.args.p) c.requires in
    sym (place_second _ _ new (omega (arith, room_for c.args.m c.args.p h new, chips_counted c.args.m h.lawful, c.if-m-eq0.false)))
