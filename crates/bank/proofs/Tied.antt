-- What every caller of the bank's functions gets is the relations of specs/Calls.antt, which the book is made of:
-- `..-tied`: what the caller learns is that relation, of the bytes at entry and at exit; `..-asks`: the caller owes nothing.
-- Where a contract is changed, this file is refused.
use contract.Lifetimes
use borrow.Fn.Kinds
use borrow.Fn.World
use denote.Triple.Clauses
use Rattle.answer.specs.Answer.{outcome_answer}
use Rattle.reading.specs.Reading.{reading_answer}
use Rattle.bank.specs.Calls.{ClearDone, PutDone, GetDone, PatrolDone, ReportDone, report_answer}
use Rattle.bank.specs.contracts.clear as clear
use Rattle.bank.proofs.clear.Kinds as clear_kinds
use Rattle.bank.proofs.clear.Reads as clear_reads
use Rattle.bank.specs.contracts.put as put
use Rattle.bank.proofs.put.Kinds as put_kinds
use Rattle.bank.proofs.put.Reads as put_reads
use Rattle.bank.specs.contracts.get as get
use Rattle.bank.proofs.get.Kinds as get_kinds
use Rattle.bank.proofs.get.Reads as get_reads
use Rattle.bank.specs.contracts.patrol as patrol
use Rattle.bank.proofs.patrol.Kinds as patrol_kinds
use Rattle.bank.proofs.patrol.Reads as patrol_reads
use Rattle.bank.specs.contracts.report as report
use Rattle.bank.proofs.report.Kinds as report_kinds
use Rattle.bank.proofs.report.Reads as report_reads

-- clear
pub clear_tied : (κs : Lifetimes.Lfts 1) (a : World.ArgsD clear.signature κs) (r : World.ResD clear.signature κs)
    (s : Clauses.AtExit (Kinds.ended_of 1 clear_kinds.ps clear_kinds.r) κs) → clear_reads.Learnt κs a r s
    → ClearDone a.0.now (outcome_answer r) s.0.now
clear_tied κs a r s l = l

pub clear_asks : (κs : Lifetimes.Lfts 1) (a : World.ArgsD clear.signature κs) → clear_reads.Asked κs a
clear_asks κs a = tt

-- put: bank, block number, record
pub put_tied : (κs : Lifetimes.Lfts 2) (a : World.ArgsD put.signature κs) (r : World.ResD put.signature κs)
    (ws : Clauses.Lasts (Kinds.ended_of 2 put_kinds.ps put_kinds.r) κs a)
    → let s = Clauses.at_exit (Kinds.ended_of 2 put_kinds.ps put_kinds.r) κs a ws in put_reads.Learnt κs a r s
    → PutDone a.0.now a.1.0 a.1.1.0.now (outcome_answer r) s.0.now s.1.1.0.now
put_tied κs a r ws l = l

pub put_asks : (κs : Lifetimes.Lfts 2) (a : World.ArgsD put.signature κs) → put_reads.Asked κs a
put_asks κs a = tt

-- get: bank, block number, marks, output, window
pub get_tied : (κs : Lifetimes.Lfts 3) (a : World.ArgsD get.signature κs) (r : World.ResD get.signature κs)
    (ws : Clauses.Lasts (Kinds.ended_of 3 get_kinds.ps get_kinds.r) κs a)
    → let s = Clauses.at_exit (Kinds.ended_of 3 get_kinds.ps get_kinds.r) κs a ws in get_reads.Learnt κs a r s
    → GetDone a.0.now a.1.0 a.1.1.0 a.1.1.1.0.now a.1.1.1.1.0.now (reading_answer r) s.0.now s.1.1.1.0.now
    s.1.1.1.1.0.now
get_tied κs a r ws l = l

pub get_asks : (κs : Lifetimes.Lfts 3) (a : World.ArgsD get.signature κs) → get_reads.Asked κs a
get_asks κs a = tt

-- patrol: bank, block number, marks, window
pub patrol_tied : (κs : Lifetimes.Lfts 2) (a : World.ArgsD patrol.signature κs) (r : World.ResD patrol.signature κs)
    (s : Clauses.AtExit (Kinds.ended_of 2 patrol_kinds.ps patrol_kinds.r) κs) → patrol_reads.Learnt κs a r s
    → PatrolDone a.0.now a.1.0 a.1.1.0 a.1.1.1.0.now (reading_answer r) s.0.now s.1.1.1.0.now
patrol_tied κs a r s l = l

pub patrol_asks : (κs : Lifetimes.Lfts 2) (a : World.ArgsD patrol.signature κs) → patrol_reads.Asked κs a
patrol_asks κs a = tt

-- report: bank, marks
pub report_tied : (κs : Lifetimes.Lfts 1) (a : World.ArgsD report.signature κs) (r : World.ResD report.signature κs)
    (ws : Clauses.Lasts (Kinds.ended_of 1 report_kinds.ps report_kinds.r) κs a)
    → let s = Clauses.at_exit (Kinds.ended_of 1 report_kinds.ps report_kinds.r) κs a ws in report_reads.Learnt κs a r s
    → ReportDone a.0.now a.1.0 (report_answer r) s.0.now
report_tied κs a r ws l = l

pub report_asks : (κs : Lifetimes.Lfts 1) (a : World.ArgsD report.signature κs) → report_reads.Asked κs a
report_asks κs a = tt
