-- Spreading the labels in figures gives each card's words; above card 4 there are none, as of a list's entries past its end.
use mathlib.Core.Path.{refl}
use native.Mathlib.Omega.{arith}
use Rattle.code.proofs.BuiltIn.{figures}
use Rattle.pairs.specs.Words.{spread_of}
use Rattle.sums.proofs.Syndrome.{in_part, no_part}
use Rattle.sums.proofs.words.card_words.Goals as goal

pub returns-in-0 : goal.returns-in-0
unfolding figures spread_of
returns-in-0 c = in_part _ 0 c.before.args.j (omega arith) refl

pub returns-in-1 : goal.returns-in-1
unfolding figures spread_of
returns-in-1 c = in_part _ 1 c.before.args.j (omega arith) refl

pub returns-in-2 : goal.returns-in-2
unfolding figures spread_of
returns-in-2 c = in_part _ 2 c.before.args.j (omega arith) refl

pub returns-in-3 : goal.returns-in-3
unfolding figures spread_of
returns-in-3 c = in_part _ 3 c.before.args.j (omega arith) refl

pub returns-in-4 : goal.returns-in-4
unfolding figures spread_of
returns-in-4 c = in_part _ 4 c.before.args.j (omega arith) refl

pub returns-in_default : goal.returns-in_default
returns-in_default c = no_part c.before.args.j (omega arith)
