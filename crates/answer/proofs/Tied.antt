-- What every caller of a refusal's number gets. `..-tied`: what the caller learns; `..-asks`: the caller owes nothing. Where a contract is
-- changed, this file is refused.
use contract.Lifetimes
use borrow.Fn.Kinds
use borrow.Fn.World
use denote.Triple.Clauses
use mathlib.Core.Path.{◌≡◌}
use Rattle.answer.specs.Answer.{refusal_number}
use Rattle.answer.specs.contracts.Refusal.number as number
use Rattle.answer.proofs.Refusal.number.Kinds as number_kinds
use Rattle.answer.proofs.Refusal.number.Reads as number_reads

pub number_tied : (κs : Lifetimes.Lfts 0) (a : World.ArgsD number.signature κs) (r : World.ResD number.signature κs)
    (s : Clauses.AtExit (Kinds.ended_of 0 number_kinds.ps number_kinds.r) κs) → number_reads.Learnt κs a r s → r ≡ refusal_number a.0
number_tied κs a r s l = l

pub number_asks : (κs : Lifetimes.Lfts 0) (a : World.ArgsD number.signature κs) → number_reads.Asked κs a
number_asks κs a = tt
