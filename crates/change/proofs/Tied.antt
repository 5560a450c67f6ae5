-- What every caller of the functions on a change gets.
-- `..-tied`: what the caller learns; `..-asks`: the caller owes nothing. Where a contract is changed, this file is refused.
use contract.Lifetimes
use borrow.Fn.Kinds
use borrow.Fn.World
use denote.Triple.Clauses
use mathlib.Core.Path.{◌≡◌}
use Rattle.change.specs.Change.{applied, no_change, Counted, Listed}
use Rattle.change.specs.contracts.no_change as no_change_made
use Rattle.change.proofs.no_change.Kinds as no_change_made_kinds
use Rattle.change.proofs.no_change.Reads as no_change_made_reads
use Rattle.change.specs.contracts.count as count
use Rattle.change.proofs.count.Kinds as count_kinds
use Rattle.change.proofs.count.Reads as count_reads
use Rattle.change.specs.contracts.changed as changed
use Rattle.change.proofs.changed.Kinds as changed_kinds
use Rattle.change.proofs.changed.Reads as changed_reads
use Rattle.change.specs.contracts.apply as apply
use Rattle.change.proofs.apply.Kinds as apply_kinds
use Rattle.change.proofs.apply.Reads as apply_reads

pub no_change_made_tied : (κs : Lifetimes.Lfts 0) (a : World.ArgsD no_change_made.signature κs) (r : World.ResD no_change_made.signature κs)
    (s : Clauses.AtExit (Kinds.ended_of 0 no_change_made_kinds.ps no_change_made_kinds.r) κs) → no_change_made_reads.Learnt κs a r s → r ≡ no_change
no_change_made_tied κs a r s l = l

pub no_change_made_asks : (κs : Lifetimes.Lfts 0) (a : World.ArgsD no_change_made.signature κs) → no_change_made_reads.Asked κs a
no_change_made_asks κs a = tt

pub count_tied : (κs : Lifetimes.Lfts 0) (a : World.ArgsD count.signature κs) (r : World.ResD count.signature κs)
    (s : Clauses.AtExit (Kinds.ended_of 0 count_kinds.ps count_kinds.r) κs) → count_reads.Learnt κs a r s → Counted a.0 r
count_tied κs a r s l = l

pub count_asks : (κs : Lifetimes.Lfts 0) (a : World.ArgsD count.signature κs) → count_reads.Asked κs a
count_asks κs a = tt

pub changed_tied : (κs : Lifetimes.Lfts 0) (a : World.ArgsD changed.signature κs) (r : World.ResD changed.signature κs)
    (s : Clauses.AtExit (Kinds.ended_of 0 changed_kinds.ps changed_kinds.r) κs) → changed_reads.Learnt κs a r s → Listed a.0 r
changed_tied κs a r s l = l

pub changed_asks : (κs : Lifetimes.Lfts 0) (a : World.ArgsD changed.signature κs) → changed_reads.Asked κs a
changed_asks κs a = tt

pub apply_tied : (κs : Lifetimes.Lfts 1) (a : World.ArgsD apply.signature κs) (r : World.ResD apply.signature κs)
    (s : Clauses.AtExit (Kinds.ended_of 1 apply_kinds.ps apply_kinds.r) κs) → apply_reads.Learnt κs a r s → s.0.now ≡ applied a.0.now a.1.0
apply_tied κs a r s l = l

pub apply_asks : (κs : Lifetimes.Lfts 1) (a : World.ArgsD apply.signature κs) → apply_reads.Asked κs a
apply_asks κs a = tt
