-- What every caller of the window's calls gets.
-- `..-tied`: what the caller learns; `..-asks`: the caller owes nothing. Where a contract is changed, this file is refused.
use contract.Lifetimes
use borrow.Fn.Kinds
use borrow.Fn.World
use denote.Triple.Clauses
use mathlib.Core.Path.{◌≡◌}
use Rattle.answer.specs.Answer.{done}
use Rattle.change.specs.Change.{positions}
use Rattle.window.specs.Window.{proposal_of, fresh_window, added, ClearWindowDone, ProposeDone}
use Rattle.window.specs.contracts.fresh as fresh
use Rattle.window.proofs.fresh.Kinds as fresh_kinds
use Rattle.window.proofs.fresh.Reads as fresh_reads
use Rattle.window.specs.contracts.clear as clear
use Rattle.window.proofs.clear.Kinds as clear_kinds
use Rattle.window.proofs.clear.Reads as clear_reads
use Rattle.window.specs.contracts.add as add
use Rattle.window.proofs.add.Kinds as add_kinds
use Rattle.window.proofs.add.Reads as add_reads
use Rattle.window.specs.contracts.propose as propose
use Rattle.window.proofs.propose.Kinds as propose_kinds
use Rattle.window.proofs.propose.Reads as propose_reads

pub fresh_tied : (κs : Lifetimes.Lfts 0) (a : World.ArgsD fresh.signature κs) (r : World.ResD fresh.signature κs)
    (s : Clauses.AtExit (Kinds.ended_of 0 fresh_kinds.ps fresh_kinds.r) κs) → fresh_reads.Learnt κs a r s → r ≡ fresh_window
fresh_tied κs a r s l = l

pub fresh_asks : (κs : Lifetimes.Lfts 0) (a : World.ArgsD fresh.signature κs) → fresh_reads.Asked κs a
fresh_asks κs a = tt

pub clear_tied : (κs : Lifetimes.Lfts 1) (a : World.ArgsD clear.signature κs) (r : World.ResD clear.signature κs)
    (s : Clauses.AtExit (Kinds.ended_of 1 clear_kinds.ps clear_kinds.r) κs) → clear_reads.Learnt κs a r s → ClearWindowDone done s.0.now
clear_tied κs a r s l = l

pub clear_asks : (κs : Lifetimes.Lfts 1) (a : World.ArgsD clear.signature κs) → clear_reads.Asked κs a
clear_asks κs a = tt

pub add_tied : (κs : Lifetimes.Lfts 1) (a : World.ArgsD add.signature κs) (r : World.ResD add.signature κs)
    (s : Clauses.AtExit (Kinds.ended_of 1 add_kinds.ps add_kinds.r) κs) → add_reads.Learnt κs a r s → s.0.now ≡ added a.0.now (positions a.1.0)
add_tied κs a r s l = l

pub add_asks : (κs : Lifetimes.Lfts 1) (a : World.ArgsD add.signature κs) → add_reads.Asked κs a
add_asks κs a = tt

pub propose_tied : (κs : Lifetimes.Lfts 1) (a : World.ArgsD propose.signature κs) (r : World.ResD propose.signature κs)
    (ws : Clauses.Lasts (Kinds.ended_of 1 propose_kinds.ps propose_kinds.r) κs a)
    → let s = Clauses.at_exit (Kinds.ended_of 1 propose_kinds.ps propose_kinds.r) κs a ws in propose_reads.Learnt κs a r s
    → ProposeDone a.0.now a.1.0 (proposal_of r) s.0.now
propose_tied κs a r ws l = l

pub propose_asks : (κs : Lifetimes.Lfts 1) (a : World.ArgsD propose.signature κs) → propose_reads.Asked κs a
propose_asks κs a = tt
