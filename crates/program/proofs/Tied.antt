-- What every caller of `say` gets is `SayDone` of specs/Program.antt, of the bytes at entry and at exit, and the caller owes nothing.
-- Where the contract is changed, this file is refused.
use contract.Lifetimes
use borrow.Fn.Kinds
use borrow.Fn.World
use denote.Triple.Clauses
use Rattle.program.specs.Program.{SayDone}
use Rattle.program.specs.contracts.say as say
use Rattle.program.proofs.say.Kinds as say_kinds
use Rattle.program.proofs.say.Reads as say_reads

-- input, output
pub say_tied : (κs : Lifetimes.Lfts 2) (a : World.ArgsD say.signature κs) (r : World.ResD say.signature κs)
    (ws : Clauses.Lasts (Kinds.ended_of 2 say_kinds.ps say_kinds.r) κs a)
    → let s = Clauses.at_exit (Kinds.ended_of 2 say_kinds.ps say_kinds.r) κs a ws in say_reads.Learnt κs a r s
    → SayDone a.0.now a.1.0.now r s.0.now s.1.0.now
say_tied κs a r ws l = l

pub say_asks : (κs : Lifetimes.Lfts 2) (a : World.ArgsD say.signature κs) → say_reads.Asked κs a
say_asks κs a = tt
