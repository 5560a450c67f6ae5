-- What every caller of `labels` gets.
-- `..-tied`: what the caller learns; `..-asks`: the caller owes nothing. Where a contract is changed, this file is refused.
use contract.Lifetimes
use borrow.Fn.Kinds
use borrow.Fn.World
use denote.Triple.Clauses
use mathlib.Core.Path.{◌≡◌}
use Rattle.code.specs.Labels.{built_in}
use Rattle.code.specs.contracts.labels as labels
use Rattle.code.proofs.labels.Kinds as labels_kinds
use Rattle.code.proofs.labels.Reads as labels_reads

pub labels_tied : (κs : Lifetimes.Lfts 0) (a : World.ArgsD labels.signature κs) (r : World.ResD labels.signature κs)
    (s : Clauses.AtExit (Kinds.ended_of 0 labels_kinds.ps labels_kinds.r) κs) → labels_reads.Learnt κs a r s → r ≡ built_in
labels_tied κs a r s l = l

pub labels_asks : (κs : Lifetimes.Lfts 0) (a : World.ArgsD labels.signature κs) → labels_reads.Asked κs a
labels_asks κs a = tt
