-- What every caller of `say` gets.
-- `say_tied`: what the caller learns; `say_asks`: the caller owes nothing. Where the contract is changed, this file is refused.
use contract.Lifetimes
use borrow.Fn.Kinds
use borrow.Fn.World
use denote.Triple.Clauses
use Rattle.sheet.specs.Sheet.{SheetDone}
use Rattle.sheet.specs.contracts.say as say
use Rattle.sheet.proofs.say.Kinds as say_kinds
use Rattle.sheet.proofs.say.Reads as say_reads

-- output
pub say_tied : (κs : Lifetimes.Lfts 1) (a : World.ArgsD say.signature κs) (r : World.ResD say.signature κs)
    (s : Clauses.AtExit (Kinds.ended_of 1 say_kinds.ps say_kinds.r) κs) → say_reads.Learnt κs a r s → SheetDone a.0.now r s.0.now
say_tied κs a r s l = l

pub say_asks : (κs : Lifetimes.Lfts 1) (a : World.ArgsD say.signature κs) → say_reads.Asked κs a
say_asks κs a = tt
