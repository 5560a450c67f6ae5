-- Three times sixteen bytes come down, each from where nothing has been written yet; and then the last sixteen, with what is added behind them.
use mathlib.Core.Path.{refl, ◌∙◌}
use native.Mathlib.Omega.{arith}
use Rattle.window.proofs.Moved.{down_more, all_moved}
use Rattle.window.proofs.move_on.Goals as goal

pub returns : goal.returns
returns c =
    let w = c.args.w.now in
    let n = c.args.n in
    let h16 = c.move_down.ensures ∙ down_more w w 0 n c.told-w (omega (arith, c.requires)) refl in
    let h32 = c.move_down-2.ensures ∙ down_more w c.move_down.new.w 16 n c.told-w (omega (arith, c.requires)) h16 in
    let h48 = c.move_down-3.ensures ∙ down_more w c.move_down-2.new.w 32 n c.told-w (omega (arith, c.requires)) h32 in
    all_moved w c.args.at.now c.move_down-3.new.w c.move_last.new.last n c.told-w c.told-at c.requires h48 c.move_last.ensures
