-- The bytes read are the input's front, and what is said of them is said of the whole input.
use Rattle.std.proofs.Common.{arith}
use Rattle.cabinet.proofs.Whole.{front, answered}
use Rattle.cabinet.proofs.print_reading.Goals as goal

pub returns : goal.returns
returns g c =
    answered _ _ c.write_all.result (omega arith) c.say-said.ensures (g.R.Read.remaining c.args.from)
    (front g.R.Read.remaining c.args.from c.take.result _ _ _ c.take.ensures.limit c.take.ensures.inner c.new-input.ensures c.deref.ensures.0
    c.in_ok-copy.ensures.bytes)
    c.write_all.ensures.bytes
