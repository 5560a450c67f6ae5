-- What every caller of the maps of words gets.
-- `..-tied`: what the caller learns; `..-asks`: the caller owes nothing. Where a contract is changed, this file is refused.
use contract.Lifetimes
use borrow.Fn.Kinds
use borrow.Fn.World
use denote.Triple.Clauses
use mathlib.Core.Path.{◌≡◌}
use Prim.Native.Nat.{◌/◌, ◌%◌, ◌^◌}
use Rattle.pairs.specs.Words.{byte_of, at_both, reduced}
use Rattle.pairs.specs.contracts.part as part
use Rattle.pairs.proofs.part.Kinds as part_kinds
use Rattle.pairs.proofs.part.Reads as part_reads
use Rattle.pairs.specs.contracts.reduce_pair as reduce_pair
use Rattle.pairs.proofs.reduce_pair.Kinds as reduce_pair_kinds
use Rattle.pairs.proofs.reduce_pair.Reads as reduce_pair_reads
use Rattle.pairs.specs.contracts.pair as pair
use Rattle.pairs.proofs.pair.Kinds as pair_kinds
use Rattle.pairs.proofs.pair.Reads as Pair-reads
use Rattle.pairs.specs.contracts.once as once
use Rattle.pairs.proofs.once.Kinds as once_kinds
use Rattle.pairs.proofs.once.Reads as once_reads
use Rattle.pairs.specs.contracts.squared as squared
use Rattle.pairs.proofs.squared.Kinds as squared_kinds
use Rattle.pairs.proofs.squared.Reads as squared_reads

pub part_tied : (κs : Lifetimes.Lfts 0) (a : World.ArgsD part.signature κs) (r : World.ResD part.signature κs)
    (s : Clauses.AtExit (Kinds.ended_of 0 part_kinds.ps part_kinds.r) κs) → part_reads.Learnt κs a r s
    → r ≡ a.0 / 2 ^ a.1.0 % 2 ^ 8
part_tied κs a r s l = l

pub part_asks : (κs : Lifetimes.Lfts 0) (a : World.ArgsD part.signature κs) → part_reads.Asked κs a
part_asks κs a = tt

pub reduce_pair_tied : (κs : Lifetimes.Lfts 0) (a : World.ArgsD reduce_pair.signature κs) (r : World.ResD reduce_pair.signature κs)
    (s : Clauses.AtExit (Kinds.ended_of 0 reduce_pair_kinds.ps reduce_pair_kinds.r) κs) → reduce_pair_reads.Learnt κs a r s
    → r ≡ reduced a.0
reduce_pair_tied κs a r s l = l

pub reduce_pair_asks : (κs : Lifetimes.Lfts 0) (a : World.ArgsD reduce_pair.signature κs) → reduce_pair_reads.Asked κs a
reduce_pair_asks κs a = tt

pub pair_tied : (κs : Lifetimes.Lfts 0) (a : World.ArgsD pair.signature κs) (r : World.ResD pair.signature κs)
    (s : Clauses.AtExit (Kinds.ended_of 0 pair_kinds.ps pair_kinds.r) κs) → Pair-reads.Learnt κs a r s
    → r ≡ at_both a.0
pair_tied κs a r s l = l

pub pair_asks : (κs : Lifetimes.Lfts 0) (a : World.ArgsD pair.signature κs) → Pair-reads.Asked κs a
pair_asks κs a = tt

pub once_tied : (κs : Lifetimes.Lfts 0) (a : World.ArgsD once.signature κs) (r : World.ResD once.signature κs)
    (s : Clauses.AtExit (Kinds.ended_of 0 once_kinds.ps once_kinds.r) κs) → once_reads.Learnt κs a r s
    → r ≡ byte_of a.0 0
once_tied κs a r s l = l

pub once_asks : (κs : Lifetimes.Lfts 0) (a : World.ArgsD once.signature κs) → once_reads.Asked κs a
once_asks κs a = tt

pub squared_tied : (κs : Lifetimes.Lfts 0) (a : World.ArgsD squared.signature κs) (r : World.ResD squared.signature κs)
    (s : Clauses.AtExit (Kinds.ended_of 0 squared_kinds.ps squared_kinds.r) κs) → squared_reads.Learnt κs a r s
    → r ≡ byte_of a.0 4
squared_tied κs a r s l = l

pub squared_asks : (κs : Lifetimes.Lfts 0) (a : World.ArgsD squared.signature κs) → squared_reads.Asked κs a
squared_asks κs a = tt
