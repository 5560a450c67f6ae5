-- The word of the eight bytes.
use Rattle.std.proofs.Common.{arith}
use Rattle.sums.proofs.Cards.{loaded}
use Rattle.sums.proofs.word.Goals as goal

pub returns : goal.returns
returns c =
    let whole = rw c.unwrap.ensures at c.as_array.ensures.cases in
    loaded c.args.b.now _ c.args.at _ (λ p. omega (arith, c.type_inv.b p)) c.requires whole.same c.from_le_bytes.ensures
