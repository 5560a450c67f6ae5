-- What every caller of the field's sum, product and inverse gets.
-- `..-tied`: what the caller learns; `..-asks`: the caller owes nothing. Where a contract is changed, this file is refused.
use contract.Lifetimes
use borrow.Fn.Kinds
use borrow.Fn.World
use denote.Triple.Clauses
use mathlib.Core.Path.{◌≡◌}
use mathlib.Core.Logic.{◌≢◌}
use Rattle.field.specs.Field.{◌⊕◌, ◌·◌}
use Rattle.field.specs.contracts.add as add
use Rattle.field.proofs.add.Kinds as add_kinds
use Rattle.field.proofs.add.Reads as add_reads
use Rattle.field.specs.contracts.mul as mul
use Rattle.field.proofs.mul.Kinds as mul_kinds
use Rattle.field.proofs.mul.Reads as mul_reads
use Rattle.field.specs.contracts.invert as invert
use Rattle.field.proofs.invert.Kinds as invert_kinds
use Rattle.field.proofs.invert.Reads as invert_reads

pub add_tied : (κs : Lifetimes.Lfts 0) (a : World.ArgsD add.signature κs) (r : World.ResD add.signature κs)
    (s : Clauses.AtExit (Kinds.ended_of 0 add_kinds.ps add_kinds.r) κs) → add_reads.Learnt κs a r s → r ≡ a.0 ⊕ a.1.0
add_tied κs a r s l = l

pub add_asks : (κs : Lifetimes.Lfts 0) (a : World.ArgsD add.signature κs) → add_reads.Asked κs a
add_asks κs a = tt

pub mul_tied : (κs : Lifetimes.Lfts 0) (a : World.ArgsD mul.signature κs) (r : World.ResD mul.signature κs)
    (s : Clauses.AtExit (Kinds.ended_of 0 mul_kinds.ps mul_kinds.r) κs) → mul_reads.Learnt κs a r s → r ≡ a.0 · a.1.0
mul_tied κs a r s l = l

pub mul_asks : (κs : Lifetimes.Lfts 0) (a : World.ArgsD mul.signature κs) → mul_reads.Asked κs a
mul_asks κs a = tt

pub invert_tied : (κs : Lifetimes.Lfts 0) (a : World.ArgsD invert.signature κs) (r : World.ResD invert.signature κs)
    (s : Clauses.AtExit (Kinds.ended_of 0 invert_kinds.ps invert_kinds.r) κs) → invert_reads.Learnt κs a r s → (a.0 ≡ 0 → r ≡ 0) × (a.0 ≢ 0 → a.0 · r ≡ 1)
invert_tied κs a r s l = l

pub invert_asks : (κs : Lifetimes.Lfts 0) (a : World.ArgsD invert.signature κs) → invert_reads.Asked κs a
invert_asks κs a = tt
