-- What every caller of the two calls gets is their relation of specs/Calls.antt, and he owes nothing.
--
--   write_tied, read_tied   what the caller learns is that relation, of the bytes at entry and at exit
--   write_asks, read_asks   the caller owes nothing
use contract.Lifetimes
use borrow.Fn.Kinds
use borrow.Fn.World
use denote.Triple.Clauses
use Rattle.reading.specs.Reading.{reading_answer}
use Rattle.slip.specs.Wrote.{wrote_said}
use Rattle.slip.specs.Found.{found_said}
use Rattle.slip.specs.Calls.{WriteSlipDone, ReadSlipDone}
use Rattle.slip.specs.contracts.write as write
use Rattle.slip.proofs.write.Kinds as write_kinds
use Rattle.slip.proofs.write.Reads as write_reads
use Rattle.slip.specs.contracts.read as read
use Rattle.slip.proofs.read.Kinds as read_kinds
use Rattle.slip.proofs.read.Reads as read_reads

-- write: slice, offset, block number, reading
pub write_tied : (κs : Lifetimes.Lfts 1) (a : World.ArgsD write.signature κs) (r : World.ResD write.signature κs)
    (s : Clauses.AtExit (Kinds.ended_of 1 write_kinds.ps write_kinds.r) κs)
    → write_reads.Learnt κs a r s
    → WriteSlipDone a.0.now a.1.0 a.1.1.0 (reading_answer a.1.1.1.0) (wrote_said r) s.0.now
write_tied κs a r s l = l

pub write_asks : (κs : Lifetimes.Lfts 1) (a : World.ArgsD write.signature κs) → write_reads.Asked κs a
write_asks κs a = tt

-- read: slice, offset
pub read_tied : (κs : Lifetimes.Lfts 1) (a : World.ArgsD read.signature κs) (r : World.ResD read.signature κs)
    (ws : Clauses.Lasts (Kinds.ended_of 1 read_kinds.ps read_kinds.r) κs a)
    → let s = Clauses.at_exit (Kinds.ended_of 1 read_kinds.ps read_kinds.r) κs a ws in read_reads.Learnt κs a r s
    → ReadSlipDone a.0.now a.1.0 (found_said r) s.0.now
read_tied κs a r ws l = l

pub read_asks : (κs : Lifetimes.Lfts 1) (a : World.ArgsD read.signature κs) → read_reads.Asked κs a
read_asks κs a = tt
