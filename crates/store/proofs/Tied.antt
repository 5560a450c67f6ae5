-- What every caller of `store` gets is the relation of specs/Store.antt.
--
--   store_tied    what the caller learns is that relation, of the bytes at entry and at exit
--   store_asks    the caller owes nothing
--   store_says    the same of what the code itself returns: done exactly where there is no cause, and then the only lawful block that begins with
--                 the record; else the refusal that has the cause's number, and the output as it was. The record stays either way
--
-- Where the contract is changed, this file is refused.
use contract.Lifetimes
use borrow.Fn.Kinds
use borrow.Fn.World
use denote.Triple.Clauses
use mathlib.Core.Path.{◌≡◌}
use Rattle.answer.specs.Answer.{outcome_answer}
use Rattle.answer.specs.Said.{Says}
use Rattle.answer.proofs.Said.{says_by}
use Rattle.code.specs.Block.{OneMember, Stored}
use Rattle.code.specs.Labels.{built_in}
use Rattle.store.specs.Store.{store_cause, StoreDone}
use Rattle.store.specs.contracts.store as store
use Rattle.store.proofs.store.Kinds as store_kinds
use Rattle.store.proofs.store.Reads as store_reads

-- record, output
pub store_tied : (κs : Lifetimes.Lfts 2) (a : World.ArgsD store.signature κs) (r : World.ResD store.signature κs)
    (ws : Clauses.Lasts (Kinds.ended_of 2 store_kinds.ps store_kinds.r) κs a)
    → let s = Clauses.at_exit (Kinds.ended_of 2 store_kinds.ps store_kinds.r) κs a ws in store_reads.Learnt κs a r s → StoreDone a.0.now a.1.0.now (outcome_answer r) s.0.now s.1.0.now
store_tied κs a r ws l = l

pub store_asks : (κs : Lifetimes.Lfts 2) (a : World.ArgsD store.signature κs) → store_reads.Asked κs a
store_asks κs a = tt

pub store_says : (κs : Lifetimes.Lfts 2) (a : World.ArgsD store.signature κs) (r : World.ResD store.signature κs)
    (ws : Clauses.Lasts (Kinds.ended_of 2 store_kinds.ps store_kinds.r) κs a)
    → let s = Clauses.at_exit (Kinds.ended_of 2 store_kinds.ps store_kinds.r) κs a ws in store_reads.Learnt κs a r s
    → (s.0.now ≡ a.0.now)
    × Says (store_cause a.0.now a.1.0.now) (s.1.0.now ≡ a.1.0.now) (OneMember (Stored built_in a.0.now) s.1.0.now) r
store_says κs a r ws l = let w = store_tied κs a r ws l in (w.record_kept, says_by _ r _ _ w.by_cause)
