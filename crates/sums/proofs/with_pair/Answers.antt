-- The pair has the label sums, the rows' words the rows.
use Rattle.std.proofs.Common.{refl, arith}
use Rattle.code.specs.Labels.{built_in}
use Rattle.pairs.specs.Words.{byte_of}
use Rattle.sums.specs.declared.Sums.{Sums}
use Rattle.sums.proofs.Syndrome.{built_in_below, nine_rows, pair_once, pair_squared}
use Rattle.sums.proofs.with_pair.Goals as goal

pub returns : goal.returns
unfolding byte_of
returns c b row u bytes is low high both =
    let s : Sums = record { low = c.args.low; high = c.part.result; once = c.once.result; squared = c.squared.result } in
    record {
      rows = nine_rows s _ _ row refl c.part.ensures low high;
      eight = omega arith;
      once = pair_once built_in b built_in_below bytes u is _ _ both c.once.ensures;
      squared = pair_squared built_in b built_in_below bytes u is _ _ both c.squared.ensures;
    }
