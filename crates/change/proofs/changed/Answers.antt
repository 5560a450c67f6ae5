-- The five parts of `places` are listed one after the other. p and q stand before the card's chips or after them, so there is room for all.
use mathlib.Core.Path.{ap, ◌∙◌}
use Rattle.change.specs.Change.{places, filled}
use Rattle.change.specs.declared.Change.{Change}
use Rattle.change.proofs.Listed.{room_again, room_last, all_pushed, listed_end}
use Rattle.change.proofs.changed.Goals as goal

pub push-requires-3 : goal.push-requires-3
push-requires-3 c = room_again c.in_order-o.result c.is_before-p_before.result c.is_before-q_before.result _ _ _ c.push.ensures c.push-2.ensures
    c.push_rows.ensures

pub push-requires-4 : goal.push-requires-4
push-requires-4 c = room_last c.in_order-o.result c.is_before-p_before.result c.is_before-q_before.result _ _ _ c.push.ensures c.push-2.ensures
    c.push_rows.ensures _ c.push-3.ensures

pub returns : goal.returns
returns c =
    listed_end c.args.d c.push-4.new.self
    (all_pushed c.in_order-o.result c.is_before-p_before.result c.is_before-q_before.result _ _ _ c.push.ensures c.push-2.ensures c.push_rows.ensures
    _ c.push-3.ensures _ c.push-4.ensures
    c.is_before-p_before.ensures c.is_before-q_before.ensures
    ∙ ap (λ (e : Change). filled (places e)) c.in_order-o.ensures)
