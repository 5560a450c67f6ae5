-- The sixteen, and behind them the eleven; then the sixteen after the first n are copied back.
use mathlib.Core.Path.{refl}
use lib.ListN.{replicate}
use Rattle.window.proofs.Moved.{put_behind, back_moved}
use Rattle.window.proofs.move_last.Goals as goal

pub returns : goal.returns
returns c =
    let w = c.args.last.now in
    let at = c.args.at.now in
    let whole =
    put_behind w (replicate 11 0) at c.copy_from_slice.new.self c.copy_from_slice-2.new.self c.requires.0 refl c.copy_from_slice.ensures.after
    c.copy_from_slice-2.ensures.after in
    back_moved w at _ c.copy_from_slice-3.new.self c.args.n c.requires.0 c.told-at c.requires.1 whole c.copy_from_slice-3.ensures.after
