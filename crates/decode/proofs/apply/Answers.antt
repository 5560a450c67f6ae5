-- A fault changes nothing.
use mathlib.Core.Path.{sym}
use Rattle.change.proofs.Made.{applied_none}
use Rattle.decode.proofs.apply.Goals as goal

pub returns-in_default : goal.returns-in_default
returns-in_default c = rw c.in_default.is (sym (applied_none c.args.block.now))
