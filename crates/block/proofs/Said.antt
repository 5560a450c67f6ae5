-- What the calls on one block return, in the code's own words, from what the contracts say of the answer.
--
--   read_said, look_said    from the relations of specs/Read.antt
--   read_says, look_says    of what every caller gets
use contract.Lifetimes
use borrow.Fn.Kinds
use borrow.Fn.World
use denote.Triple.Clauses
use Prim.Native.Nat.{ℕ}
use mathlib.Core.List.{List, []}
use lib.ListN.{length}
use Rattle.marks.specs.declared.Marks.{Marks}
use Rattle.reading.specs.Reading.{Reading, reading_answer}
use Rattle.reading.proofs.Said.{reads_as, reading_says_by}
use Rattle.block.specs.Read.{read_cause, mend_cause, ReadDone, LookDone}
use Rattle.block.specs.Said.{ReadSays, LookSays}
use Rattle.block.specs.contracts.read as read
use Rattle.block.proofs.read.Kinds as read_kinds
use Rattle.block.proofs.read.Reads as read_reads
use Rattle.block.specs.contracts.look as look
use Rattle.block.proofs.look.Kinds as look_kinds
use Rattle.block.proofs.look.Reads as look_reads
use Rattle.block.proofs.Tied.{read_tied, look_tied}

pub read_said : (b : List ℕ) (m : Marks) (out : List ℕ) (r : Reading) (b' out' : List ℕ) → ReadDone b m out (reading_answer r) b' out'
    → ReadSays b m out r out'
read_said b m out r b' out' w = reading_says_by (read_cause (length b) m (length out)) r _ _ _ (λ z d. reads_as m b out r out' d) w.output

pub read_says : (κs : Lifetimes.Lfts 2) (a : World.ArgsD read.signature κs) (r : World.ResD read.signature κs)
    (ws : Clauses.Lasts (Kinds.ended_of 2 read_kinds.ps read_kinds.r) κs a)
    → let s = Clauses.at_exit (Kinds.ended_of 2 read_kinds.ps read_kinds.r) κs a ws in read_reads.Learnt κs a r s
    → ReadSays a.0.now a.1.0 a.1.1.0.now r s.1.1.0.now
read_says κs a r ws l = read_said _ _ _ r _ _ (read_tied κs a r ws l)

pub look_said : (b : List ℕ) (m : Marks) (r : Reading) (b' : List ℕ) → LookDone b m (reading_answer r) b' → LookSays b m r
look_said b m r b' w = reading_says_by (mend_cause (length b) m) r _ _ _ (λ z d. (d.0, reads_as m b [] r d.0 d.1)) w.answer

pub look_says : (κs : Lifetimes.Lfts 1) (a : World.ArgsD look.signature κs) (r : World.ResD look.signature κs)
    (ws : Clauses.Lasts (Kinds.ended_of 1 look_kinds.ps look_kinds.r) κs a)
    → let s = Clauses.at_exit (Kinds.ended_of 1 look_kinds.ps look_kinds.r) κs a ws in look_reads.Learnt κs a r s → LookSays a.0.now a.1.0 r
look_says κs a r ws l = look_said _ _ r _ (look_tied κs a r ws l)
