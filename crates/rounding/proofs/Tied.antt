-- What every caller of `per_thousand` gets is `PerThousand` of specs/PerThousand.antt, for any two numbers of 32 bits, and the caller owes nothing.
-- Where the contract is changed, this file is refused.
use contract.Lifetimes
use borrow.Fn.Kinds
use borrow.Fn.World
use denote.Triple.Clauses
use Rattle.rounding.specs.PerThousand.{PerThousand}
use Rattle.rounding.specs.contracts.per_thousand as per_thousand
use Rattle.rounding.proofs.per_thousand.Kinds as per_thousand_kinds
use Rattle.rounding.proofs.per_thousand.Reads as per_thousand_reads

-- the part, and all
pub per_thousand_tied : (κs : Lifetimes.Lfts 0) (a : World.ArgsD per_thousand.signature κs) (r : World.ResD per_thousand.signature κs)
    (s : Clauses.AtExit (Kinds.ended_of 0 per_thousand_kinds.ps per_thousand_kinds.r) κs) → per_thousand_reads.Learnt κs a r s
    → PerThousand a.0 a.1.0 r
per_thousand_tied κs a r s l = l

pub per_thousand_asks : (κs : Lifetimes.Lfts 0) (a : World.ArgsD per_thousand.signature κs) → per_thousand_reads.Asked κs a
per_thousand_asks κs a = tt
