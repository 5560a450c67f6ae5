-- The digits that `io::decimal` gives are those of `decimal`.
use Rattle.std.proofs.Common.{◌∙◌}
use Rattle.text.proofs.Decimal.{written}
use Rattle.text.proofs.Text.number.Goals as goal

pub returns : goal.returns
returns c = rw (c.decimal-k.ensures.digits ∙ written _ _ c.decimal-k.ensures.len) at c.put.ensures
