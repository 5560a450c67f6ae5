-- What every caller of `further` gets.
-- `..-tied`: what the caller learns; `..-asks`: the caller owes nothing. Where a contract is changed, this file is refused.
use contract.Lifetimes
use borrow.Fn.Kinds
use borrow.Fn.World
use denote.Triple.Clauses
use mathlib.Core.Path.{◌≡◌}
use Rattle.reading.specs.Allowed.{further}
use Rattle.reading.specs.contracts.further as further_fn
use Rattle.reading.proofs.further.Kinds as further_kinds
use Rattle.reading.proofs.further.Reads as further_reads

pub further_tied : (κs : Lifetimes.Lfts 0) (a : World.ArgsD further_fn.signature κs) (r : World.ResD further_fn.signature κs)
    (s : Clauses.AtExit (Kinds.ended_of 0 further_kinds.ps further_kinds.r) κs) → further_reads.Learnt κs a r s → r ≡ further a.0
further_tied κs a r s l = l

pub further_asks : (κs : Lifetimes.Lfts 0) (a : World.ArgsD further_fn.signature κs) → further_reads.Asked κs a
further_asks κs a = tt
