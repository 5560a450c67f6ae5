-- The two sums of the card's reduced matrix against 0: what the card takes of the label sums is all of them.
use mathlib.Core.Path.{sym, ap₂, subst}
use native.Mathlib.Omega.{arith}
use lib.Dec.{eqb}
use Rattle.code.specs.Labels.{built_in}
use Rattle.decode.specs.Search.{Alone}
use Rattle.decode.proofs.Alone.{alone_at}
use Rattle.decode.proofs.fits_alone.Goals as goal

pub returns : goal.returns
returns c =
    subst (Alone built_in c.args.s c.args.j) (sym (ap₂ eqb c.requires.1 c.both.ensures)) (alone_at c.args.s (omega arith) c.args.j c.requires.0)
