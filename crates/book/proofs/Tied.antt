-- A call of a function is an entry of the list: what every caller learns of it is the entry's relation, with what is lent and handed back
-- taken from the contract, and what the function is not handed left alone.
--
--   ..-called         for each function
--   interrupt_called, propose_called   what these calls say after an entry is what is seen
--   hit_done          a hit may set any byte of the bank to any value
--
-- w are the registers where the function is not handed them; where it is handed the marks alone, f are bytes 0 to 7. win is the window where
-- the function is not handed it.
use contract.Lifetimes
use borrow.Fn.Kinds
use borrow.Fn.World
use denote.Triple.Clauses
use Prim.Native.Nat.{ℕ, ◌<◌}
use mathlib.Core.Path.{◌≡◌, refl}
use mathlib.Core.List.{List, []}
use lib.ListN.{length, set}
use Rattle.answer.specs.Answer.{done, outcome_answer}
use Rattle.window.specs.Window.{proposal_of}
use Rattle.reading.specs.Reading.{reading_answer}
use Rattle.bank.specs.Calls.{report_answer}
use Rattle.marks.specs.declared.Marks.{Marks}
use Rattle.book.specs.Book.{Call, Entry, hit, Rest, State, Said, says, nothing_said, state, seen, rest_of, CallDone, EntryDone}
use Rattle.bank.specs.contracts.clear as clear
use Rattle.bank.proofs.clear.Kinds as clear_kinds
use Rattle.bank.proofs.clear.Reads as clear_reads
use Rattle.bank.specs.contracts.put as put
use Rattle.bank.proofs.put.Kinds as put_kinds
use Rattle.bank.proofs.put.Reads as put_reads
use Rattle.bank.specs.contracts.get as get
use Rattle.bank.proofs.get.Kinds as get_kinds
use Rattle.bank.proofs.get.Reads as get_reads
use Rattle.bank.specs.contracts.patrol as patrol
use Rattle.bank.proofs.patrol.Kinds as patrol_kinds
use Rattle.bank.proofs.patrol.Reads as patrol_reads
use Rattle.bank.specs.contracts.report as report
use Rattle.bank.proofs.report.Kinds as report_kinds
use Rattle.bank.proofs.report.Reads as report_reads
use Rattle.registers.specs.contracts.write as write
use Rattle.registers.proofs.write.Kinds as write_kinds
use Rattle.registers.proofs.write.Reads as write_reads
use Rattle.registers.specs.contracts.interrupt as interrupt
use Rattle.registers.proofs.interrupt.Kinds as interrupt_kinds
use Rattle.registers.proofs.interrupt.Reads as interrupt_reads
use Rattle.window.specs.contracts.clear as clear_window
use Rattle.window.proofs.clear.Kinds as clear_window_kinds
use Rattle.window.proofs.clear.Reads as clear_window_reads
use Rattle.window.specs.contracts.propose as propose
use Rattle.window.proofs.propose.Kinds as propose_kinds
use Rattle.window.proofs.propose.Reads as propose_reads
use Rattle.marks.specs.contracts.mark as mark
use Rattle.marks.proofs.mark.Kinds as mark_kinds
use Rattle.marks.proofs.mark.Reads as mark_reads
use Rattle.bank.proofs.Tied.{clear_tied, get_tied, patrol_tied, report_tied}
use Rattle.marks.proofs.Tied.{mark_tied}
use Rattle.window.proofs.Tied.{clear_tied as clear_window_tied, propose_tied}
use Rattle.registers.proofs.Tied.{write_tied, interrupt_tied}

-- registers with the mark record m
abbrev pub with_marks_of : List ℕ → Marks → Rest
with_marks_of f m = rest_of (record { front = f; marks = m })

pub clear_called : (κs : Lifetimes.Lfts 1) (a : World.ArgsD clear.signature κs) (r : World.ResD clear.signature κs)
    (s : Clauses.AtExit (Kinds.ended_of 1 clear_kinds.ps clear_kinds.r) κs) (w : Rest) (win : List ℕ) → clear_reads.Learnt κs a r s
    → CallDone (state a.0.now w win) (Call.clear)
    (seen (says (outcome_answer r)) [] (state s.0.now w win))
clear_called κs a r s w win l = (outcome_answer r, s.0.now, clear_tied κs a r s l, refl)

pub put_called : (κs : Lifetimes.Lfts 2) (a : World.ArgsD put.signature κs) (r : World.ResD put.signature κs)
    (s : Clauses.AtExit (Kinds.ended_of 2 put_kinds.ps put_kinds.r) κs) (w : Rest) (win : List ℕ) → put_reads.Learnt κs a r s
    → CallDone (state a.0.now w win) (Call.put a.1.0 a.1.1.0.now)
    (seen (says (outcome_answer r)) [] (state s.0.now w win))
put_called κs a r s w win l = (outcome_answer r, s.0.now, a.1.1.0.now, l, refl)

pub get_called : (κs : Lifetimes.Lfts 3) (a : World.ArgsD get.signature κs) (r : World.ResD get.signature κs)
    (ws : Clauses.Lasts (Kinds.ended_of 3 get_kinds.ps get_kinds.r) κs a) (f : List ℕ)
    → let s = Clauses.at_exit (Kinds.ended_of 3 get_kinds.ps get_kinds.r) κs a ws in get_reads.Learnt κs a r s
    → CallDone (state a.0.now (with_marks_of f a.1.1.0) a.1.1.1.1.0.now) (Call.get a.1.0 a.1.1.1.0.now)
    (seen (says (reading_answer r)) s.1.1.1.0.now (state s.0.now (with_marks_of f a.1.1.0) s.1.1.1.1.0.now))
get_called κs a r ws f l =
    let s = Clauses.at_exit (Kinds.ended_of 3 get_kinds.ps get_kinds.r) κs a ws in
    (reading_answer r, s.0.now, s.1.1.1.0.now, s.1.1.1.1.0.now, get_tied κs a r ws l, refl)

pub patrol_called : (κs : Lifetimes.Lfts 2) (a : World.ArgsD patrol.signature κs) (r : World.ResD patrol.signature κs)
    (s : Clauses.AtExit (Kinds.ended_of 2 patrol_kinds.ps patrol_kinds.r) κs) (f : List ℕ) → patrol_reads.Learnt κs a r s
    → CallDone (state a.0.now (with_marks_of f a.1.1.0) a.1.1.1.0.now) (Call.patrol a.1.0)
    (seen (says (reading_answer r)) [] (state s.0.now (with_marks_of f a.1.1.0) s.1.1.1.0.now))
patrol_called κs a r s f l = (reading_answer r, s.0.now, s.1.1.1.0.now, patrol_tied κs a r s l, refl)

pub report_called : (κs : Lifetimes.Lfts 1) (a : World.ArgsD report.signature κs) (r : World.ResD report.signature κs)
    (ws : Clauses.Lasts (Kinds.ended_of 1 report_kinds.ps report_kinds.r) κs a) (f win : List ℕ)
    → let s = Clauses.at_exit (Kinds.ended_of 1 report_kinds.ps report_kinds.r) κs a ws in report_reads.Learnt κs a r s
    → CallDone (state a.0.now (with_marks_of f a.1.0) win) (Call.report)
    (seen (says (report_answer r)) [] (state s.0.now (with_marks_of f a.1.0) win))
report_called κs a r ws f win l =
    let s = Clauses.at_exit (Kinds.ended_of 1 report_kinds.ps report_kinds.r) κs a ws in
    (report_answer r, s.0.now, report_tied κs a r ws l, refl)

pub mark_called : (κs : Lifetimes.Lfts 1) (a : World.ArgsD mark.signature κs) (r : World.ResD mark.signature κs)
    (s : Clauses.AtExit (Kinds.ended_of 1 mark_kinds.ps mark_kinds.r) κs) (bank f win : List ℕ) → mark_reads.Learnt κs a r s
    → CallDone (state bank (with_marks_of f a.0.now) win) (Call.mark a.1.0)
    (seen (says (outcome_answer r)) [] (state bank (with_marks_of f s.0.now) win))
mark_called κs a r s bank f win l = (outcome_answer r, s.0.now, mark_tied κs a r s l, refl)

pub clear_window_called : (κs : Lifetimes.Lfts 1) (a : World.ArgsD clear_window.signature κs) (r : World.ResD clear_window.signature κs)
    (s : Clauses.AtExit (Kinds.ended_of 1 clear_window_kinds.ps clear_window_kinds.r) κs) (bank : List ℕ) (w : Rest) → clear_window_reads.Learnt κs a r s
    → CallDone (state bank w a.0.now) (Call.clear_window) (seen (says done) [] (state bank w s.0.now))
clear_window_called κs a r s bank w l = (done, s.0.now, clear_window_tied κs a r s l, refl)

pub write_called : (κs : Lifetimes.Lfts 4) (a : World.ArgsD write.signature κs) (r : World.ResD write.signature κs)
    (s : Clauses.AtExit (Kinds.ended_of 4 write_kinds.ps write_kinds.r) κs) → write_reads.Learnt κs a r s
    → EntryDone (state a.1.1.1.0.now (rest_of a.0.now) a.1.1.1.1.1.0.now)
    (Entry.write a.1.0 a.1.1.0 a.1.1.1.1.0.now)
    (seen (says (outcome_answer r)) s.1.1.1.1.0.now (state s.1.1.1.0.now (rest_of s.0.now) s.1.1.1.1.1.0.now))
write_called κs a r s l =
    (outcome_answer r, s.0.now, s.1.1.1.0.now, s.1.1.1.1.0.now, s.1.1.1.1.1.0.now, write_tied κs a r s l, refl)

pub interrupt_called : (κs : Lifetimes.Lfts 0) (a : World.ArgsD interrupt.signature κs) (r : World.ResD interrupt.signature κs)
    (s : Clauses.AtExit (Kinds.ended_of 0 interrupt_kinds.ps interrupt_kinds.r) κs) (said : Said) (out bank win : List ℕ) → interrupt_reads.Learnt κs a r s
    → r ≡ (seen said out (state bank (rest_of a.0) win)).interrupt
interrupt_called κs a r s said out bank win l = interrupt_tied κs a r s l

pub propose_called : (κs : Lifetimes.Lfts 1) (a : World.ArgsD propose.signature κs) (r : World.ResD propose.signature κs)
    (ws : Clauses.Lasts (Kinds.ended_of 1 propose_kinds.ps propose_kinds.r) κs a) (said : Said) (out bank f : List ℕ)
    → let s = Clauses.at_exit (Kinds.ended_of 1 propose_kinds.ps propose_kinds.r) κs a ws in propose_reads.Learnt κs a r s
    → (proposal_of r ≡ (seen said out (state bank (with_marks_of f a.1.0) a.0.now)).proposal) × (s.0.now ≡ a.0.now)
propose_called κs a r ws said out bank f l = let d = propose_tied κs a r ws l in (d.proposed, d.kept)

pub hit_done : (σ : State) (i x : ℕ) → i < length σ.bank → x < 256 → EntryDone σ (hit i x)
    (seen nothing_said [] (state (set σ.bank i x) σ.rest σ.window))
hit_done σ i x h v = (h, v, refl)
