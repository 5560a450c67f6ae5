-- What every caller of the functions on a block gets is the relations of specs/Read.antt:
-- `..-tied`: what the caller learns is that relation, of the bytes at entry and at exit; `..-asks`: the caller owes nothing.
-- Where a contract is changed, this file is refused.
use contract.Lifetimes
use borrow.Fn.Kinds
use borrow.Fn.World
use denote.Triple.Clauses
use mathlib.Core.Path.{◌≡◌}
use Rattle.reading.specs.Reading.{reading_answer}
use Rattle.block.specs.Read.{ReadDone, NotedDone, MendDone, LookDone, FourUnclean, record_in}
use Rattle.block.specs.contracts.read as read
use Rattle.block.proofs.read.Kinds as read_kinds
use Rattle.block.proofs.read.Reads as read_reads
use Rattle.block.specs.contracts.read_noted as read_noted
use Rattle.block.proofs.read_noted.Kinds as read_noted_kinds
use Rattle.block.proofs.read_noted.Reads as read_noted_reads
use Rattle.block.specs.contracts.mend as mend
use Rattle.block.proofs.mend.Kinds as mend_kinds
use Rattle.block.proofs.mend.Reads as mend_reads
use Rattle.block.specs.contracts.four_unclean as four_unclean
use Rattle.block.proofs.four_unclean.Kinds as four_unclean_kinds
use Rattle.block.proofs.four_unclean.Reads as four_unclean_reads
use Rattle.block.specs.contracts.look as look
use Rattle.block.proofs.look.Kinds as look_kinds
use Rattle.block.proofs.look.Reads as look_reads
use Rattle.block.specs.contracts.record_part as record_part
use Rattle.block.proofs.record_part.Kinds as record_part_kinds
use Rattle.block.proofs.record_part.Reads as record_part_reads

-- read: received block, marks, output
pub read_tied : (κs : Lifetimes.Lfts 2) (a : World.ArgsD read.signature κs) (r : World.ResD read.signature κs)
    (ws : Clauses.Lasts (Kinds.ended_of 2 read_kinds.ps read_kinds.r) κs a)
    → let s = Clauses.at_exit (Kinds.ended_of 2 read_kinds.ps read_kinds.r) κs a ws in read_reads.Learnt κs a r s
    → ReadDone a.0.now a.1.0 a.1.1.0.now (reading_answer r) s.0.now s.1.1.0.now
read_tied κs a r ws l = l

pub read_asks : (κs : Lifetimes.Lfts 2) (a : World.ArgsD read.signature κs) → read_reads.Asked κs a
read_asks κs a = tt

-- read_noted: received block, marks, output, window
pub read_noted_tied : (κs : Lifetimes.Lfts 3) (a : World.ArgsD read_noted.signature κs) (r : World.ResD read_noted.signature κs)
    (ws : Clauses.Lasts (Kinds.ended_of 3 read_noted_kinds.ps read_noted_kinds.r) κs a)
    → let s = Clauses.at_exit (Kinds.ended_of 3 read_noted_kinds.ps read_noted_kinds.r) κs a ws in read_noted_reads.Learnt κs a r s
    → NotedDone a.0.now a.1.0 a.1.1.0.now a.1.1.1.0.now (reading_answer r) s.0.now s.1.1.0.now s.1.1.1.0.now
read_noted_tied κs a r ws l = l

pub read_noted_asks : (κs : Lifetimes.Lfts 3) (a : World.ArgsD read_noted.signature κs) → read_noted_reads.Asked κs a
read_noted_asks κs a = tt

-- mend: block, marks, window
pub mend_tied : (κs : Lifetimes.Lfts 2) (a : World.ArgsD mend.signature κs) (r : World.ResD mend.signature κs)
    (s : Clauses.AtExit (Kinds.ended_of 2 mend_kinds.ps mend_kinds.r) κs) → mend_reads.Learnt κs a r s
    → MendDone a.0.now a.1.0 a.1.1.0.now (reading_answer r) s.0.now s.1.1.0.now
mend_tied κs a r s l = l

pub mend_asks : (κs : Lifetimes.Lfts 2) (a : World.ArgsD mend.signature κs) → mend_reads.Asked κs a
mend_asks κs a = tt

-- look: block, marks
pub look_tied : (κs : Lifetimes.Lfts 1) (a : World.ArgsD look.signature κs) (r : World.ResD look.signature κs)
    (ws : Clauses.Lasts (Kinds.ended_of 1 look_kinds.ps look_kinds.r) κs a)
    → let s = Clauses.at_exit (Kinds.ended_of 1 look_kinds.ps look_kinds.r) κs a ws in look_reads.Learnt κs a r s
    → LookDone a.0.now a.1.0 (reading_answer r) s.0.now
look_tied κs a r ws l = l

pub look_asks : (κs : Lifetimes.Lfts 1) (a : World.ArgsD look.signature κs) → look_reads.Asked κs a
look_asks κs a = tt

-- four_unclean: four blocks
pub four_unclean_tied : (κs : Lifetimes.Lfts 1) (a : World.ArgsD four_unclean.signature κs) (r : World.ResD four_unclean.signature κs)
    (ws : Clauses.Lasts (Kinds.ended_of 1 four_unclean_kinds.ps four_unclean_kinds.r) κs a)
    → let s = Clauses.at_exit (Kinds.ended_of 1 four_unclean_kinds.ps four_unclean_kinds.r) κs a ws in four_unclean_reads.Learnt κs a r s
    → FourUnclean a.0.now r s.0.now
four_unclean_tied κs a r ws l = l

pub four_unclean_asks : (κs : Lifetimes.Lfts 1) (a : World.ArgsD four_unclean.signature κs) → four_unclean_reads.Asked κs a
four_unclean_asks κs a = tt

-- record_part: output, reading; the part is of that same output, not a copy
pub record_part_tied : (κs : Lifetimes.Lfts 1) (a : World.ArgsD record_part.signature κs) (r : World.ResD record_part.signature κs)
    (ws : Clauses.Lasts (Kinds.ended_of 1 record_part_kinds.ps record_part_kinds.r) κs a)
    → let s = Clauses.at_exit (Kinds.ended_of 1 record_part_kinds.ps record_part_kinds.r) κs a ws in record_part_reads.Learnt κs a r s
    → (r.now ≡ record_in a.0.now (reading_answer a.1.0)) × (r.ref_ptr ≡ a.0.ref_ptr) × (s.0.now ≡ a.0.now)
record_part_tied κs a r ws l = l

pub record_part_asks : (κs : Lifetimes.Lfts 1) (a : World.ArgsD record_part.signature κs) → record_part_reads.Asked κs a
record_part_asks κs a = tt
