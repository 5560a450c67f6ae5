-- What every caller of the decoder gets.
-- `..-tied`: what the caller learns; `..-asks`: the caller owes nothing. Where a contract is changed, this file is refused.
use contract.Lifetimes
use borrow.Fn.Kinds
use borrow.Fn.World
use denote.Triple.Clauses
use mathlib.Core.Path.{◌≡◌}
use Rattle.change.specs.Change.{applied, Listed}
use Rattle.decode.specs.Decode.{Decodes, change_of}
use Rattle.decode.specs.contracts.decode as decode
use Rattle.decode.proofs.decode.Kinds as decode_kinds
use Rattle.decode.proofs.decode.Reads as decode_reads
use Rattle.decode.specs.contracts.changed as changed
use Rattle.decode.proofs.changed.Kinds as changed_kinds
use Rattle.decode.proofs.changed.Reads as changed_reads
use Rattle.decode.specs.contracts.apply as apply
use Rattle.decode.proofs.apply.Kinds as apply_kinds
use Rattle.decode.proofs.apply.Reads as apply_reads
use Rattle.decode.specs.contracts.Correction.apply as correction_apply
use Rattle.decode.proofs.Correction.apply.Kinds as correction_apply_kinds
use Rattle.decode.proofs.Correction.apply.Reads as correction_apply_reads
use Rattle.decode.specs.contracts.Correction.changed as correction_changed
use Rattle.decode.proofs.Correction.changed.Kinds as correction_changed_kinds
use Rattle.decode.proofs.Correction.changed.Reads as correction_changed_reads

pub decode_tied : (κs : Lifetimes.Lfts 0) (a : World.ArgsD decode.signature κs) (r : World.ResD decode.signature κs)
    (s : Clauses.AtExit (Kinds.ended_of 0 decode_kinds.ps decode_kinds.r) κs) → decode_reads.Learnt κs a r s → Decodes a.0 a.1.0 r
decode_tied κs a r s l = l

pub decode_asks : (κs : Lifetimes.Lfts 0) (a : World.ArgsD decode.signature κs) → decode_reads.Asked κs a
decode_asks κs a = tt

pub changed_tied : (κs : Lifetimes.Lfts 0) (a : World.ArgsD changed.signature κs) (r : World.ResD changed.signature κs)
    (s : Clauses.AtExit (Kinds.ended_of 0 changed_kinds.ps changed_kinds.r) κs) → changed_reads.Learnt κs a r s → Listed (change_of a.0) r
changed_tied κs a r s l = l

pub changed_asks : (κs : Lifetimes.Lfts 0) (a : World.ArgsD changed.signature κs) → changed_reads.Asked κs a
changed_asks κs a = tt

pub apply_tied : (κs : Lifetimes.Lfts 1) (a : World.ArgsD apply.signature κs) (r : World.ResD apply.signature κs)
    (s : Clauses.AtExit (Kinds.ended_of 1 apply_kinds.ps apply_kinds.r) κs) → apply_reads.Learnt κs a r s
    → s.1.0.now ≡ applied a.1.0.now (change_of a.0)
apply_tied κs a r s l = l

pub apply_asks : (κs : Lifetimes.Lfts 1) (a : World.ArgsD apply.signature κs) → apply_reads.Asked κs a
apply_asks κs a = tt

-- of a correction itself
pub correction_apply_tied : (κs : Lifetimes.Lfts 1) (a : World.ArgsD correction_apply.signature κs) (r : World.ResD correction_apply.signature κs)
    (s : Clauses.AtExit (Kinds.ended_of 1 correction_apply_kinds.ps correction_apply_kinds.r) κs) → correction_apply_reads.Learnt κs a r s
    → s.1.0.now ≡ applied a.1.0.now a.0.change
correction_apply_tied κs a r s l = l

pub correction_apply_asks : (κs : Lifetimes.Lfts 1) (a : World.ArgsD correction_apply.signature κs) → correction_apply_reads.Asked κs a
correction_apply_asks κs a = tt

pub correction_changed_tied : (κs : Lifetimes.Lfts 0) (a : World.ArgsD correction_changed.signature κs)
    (r : World.ResD correction_changed.signature κs)
    (s : Clauses.AtExit (Kinds.ended_of 0 correction_changed_kinds.ps correction_changed_kinds.r) κs) → correction_changed_reads.Learnt κs a r s
    → Listed a.0.change r
correction_changed_tied κs a r s l = l

pub correction_changed_asks : (κs : Lifetimes.Lfts 0) (a : World.ArgsD correction_changed.signature κs) → correction_changed_reads.Asked κs a
correction_changed_asks κs a = tt
