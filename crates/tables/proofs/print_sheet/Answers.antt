-- The output has room for the text, so what is written of it is the text.
use Rattle.std.proofs.Common.{arith}
use Rattle.sheet.proofs.Said.{written}
use Rattle.tables.proofs.print_sheet.Goals as goal

pub returns : goal.returns
returns g c = rw (written _ _ _ (omega arith) c.say-said.ensures) at c.write_all.ensures.bytes
