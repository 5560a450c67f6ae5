-- What every caller of the functions on a mark record gets is what specs/ says: `..-tied`: what the caller learns; `..-asks`: the caller
-- owes nothing, for any value of the record, any bytes and any call. Where a contract is changed, this file is refused.
use contract.Lifetimes
use borrow.Fn.Kinds
use borrow.Fn.World
use denote.Triple.Clauses
use mathlib.Core.Path.{◌≡◌}
use Rattle.answer.specs.Answer.{outcome_answer, cause_number}
use Rattle.marks.specs.Marks.{fresh_marks, bytes, marks_in, marks_cause, is_marked}
use Rattle.marks.specs.Mark.{MarkDone}
use Rattle.marks.specs.contracts.mark as mark
use Rattle.marks.proofs.mark.Kinds as mark_kinds
use Rattle.marks.proofs.mark.Reads as mark_reads
use Rattle.marks.specs.contracts.fresh as fresh
use Rattle.marks.proofs.fresh.Kinds as fresh_kinds
use Rattle.marks.proofs.fresh.Reads as fresh_reads
use Rattle.marks.specs.contracts.from_slice as from_slice
use Rattle.marks.proofs.from_slice.Kinds as from_slice_kinds
use Rattle.marks.proofs.from_slice.Reads as from_slice_reads
use Rattle.marks.specs.contracts.to_bytes as to_bytes
use Rattle.marks.proofs.to_bytes.Kinds as to_bytes_kinds
use Rattle.marks.proofs.to_bytes.Reads as to_bytes_reads
use Rattle.marks.specs.contracts.check as check
use Rattle.marks.proofs.check.Kinds as check_kinds
use Rattle.marks.proofs.check.Reads as check_reads
use Rattle.marks.specs.contracts.is_marked as is_there
use Rattle.marks.proofs.is_marked.Kinds as is_there_kinds
use Rattle.marks.proofs.is_marked.Reads as is_there_reads

-- mark: the relation that the book is made of
pub mark_tied : (κs : Lifetimes.Lfts 1) (a : World.ArgsD mark.signature κs) (r : World.ResD mark.signature κs)
    (s : Clauses.AtExit (Kinds.ended_of 1 mark_kinds.ps mark_kinds.r) κs)
    → mark_reads.Learnt κs a r s → MarkDone a.0.now a.1.0 (outcome_answer r) s.0.now
mark_tied κs a r s l = l

pub mark_asks : (κs : Lifetimes.Lfts 1) (a : World.ArgsD mark.signature κs) → mark_reads.Asked κs a
mark_asks κs a = tt

pub fresh_tied : (κs : Lifetimes.Lfts 0) (a : World.ArgsD fresh.signature κs) (r : World.ResD fresh.signature κs)
    (s : Clauses.AtExit (Kinds.ended_of 0 fresh_kinds.ps fresh_kinds.r) κs) → fresh_reads.Learnt κs a r s → r ≡ fresh_marks
fresh_tied κs a r s l = l

pub fresh_asks : (κs : Lifetimes.Lfts 0) (a : World.ArgsD fresh.signature κs) → fresh_reads.Asked κs a
fresh_asks κs a = tt

pub from_slice_tied : (κs : Lifetimes.Lfts 1) (a : World.ArgsD from_slice.signature κs) (r : World.ResD from_slice.signature κs)
    (ws : Clauses.Lasts (Kinds.ended_of 1 from_slice_kinds.ps from_slice_kinds.r) κs a)
    → let s = Clauses.at_exit (Kinds.ended_of 1 from_slice_kinds.ps from_slice_kinds.r) κs a ws in from_slice_reads.Learnt κs a r s
    → (r ≡ marks_in a.0.now) × (s.0.now ≡ a.0.now)
from_slice_tied κs a r ws l = l

pub from_slice_asks : (κs : Lifetimes.Lfts 1) (a : World.ArgsD from_slice.signature κs) → from_slice_reads.Asked κs a
from_slice_asks κs a = tt

pub to_bytes_tied : (κs : Lifetimes.Lfts 0) (a : World.ArgsD to_bytes.signature κs) (r : World.ResD to_bytes.signature κs)
    (s : Clauses.AtExit (Kinds.ended_of 0 to_bytes_kinds.ps to_bytes_kinds.r) κs) → to_bytes_reads.Learnt κs a r s → r ≡ bytes a.0
to_bytes_tied κs a r s l = l

pub to_bytes_asks : (κs : Lifetimes.Lfts 0) (a : World.ArgsD to_bytes.signature κs) → to_bytes_reads.Asked κs a
to_bytes_asks κs a = tt

-- the check of a record
pub marks_cause_tied : (κs : Lifetimes.Lfts 0) (a : World.ArgsD check.signature κs) (r : World.ResD check.signature κs)
    (s : Clauses.AtExit (Kinds.ended_of 0 check_kinds.ps check_kinds.r) κs) → check_reads.Learnt κs a r s → cause_number r ≡ marks_cause a.0
marks_cause_tied κs a r s l = l

pub marks_cause_asks : (κs : Lifetimes.Lfts 0) (a : World.ArgsD check.signature κs) → check_reads.Asked κs a
marks_cause_asks κs a = tt

pub is_marked_tied : (κs : Lifetimes.Lfts 0) (a : World.ArgsD is_there.signature κs) (r : World.ResD is_there.signature κs)
    (s : Clauses.AtExit (Kinds.ended_of 0 is_there_kinds.ps is_there_kinds.r) κs) → is_there_reads.Learnt κs a r s → r ≡ is_marked a.0 a.1.0
is_marked_tied κs a r s l = l

pub is_marked_asks : (κs : Lifetimes.Lfts 0) (a : World.ArgsD is_there.signature κs) → is_there_reads.Asked κs a
is_marked_asks κs a = tt
