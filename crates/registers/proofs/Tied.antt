-- What every caller of the functions on registers gets is what specs/ says: `..-tied`: what the caller learns; `..-asks`: the caller owes
-- nothing, for any registers, address, value, bank, output and window. Where a contract is changed, this file is refused.
use contract.Lifetimes
use borrow.Fn.Kinds
use borrow.Fn.World
use denote.Triple.Clauses
use mathlib.Core.Path.{◌≡◌}
use Rattle.answer.specs.Answer.{outcome_answer}
use Rattle.registers.specs.Registers.{fresh_registers, register_bytes, registers_in, raised}
use Rattle.registers.specs.Write.{WriteDone, value_said, read_value}
use Rattle.registers.specs.contracts.write as write
use Rattle.registers.proofs.write.Kinds as write_kinds
use Rattle.registers.proofs.write.Reads as write_reads
use Rattle.registers.specs.contracts.read as read
use Rattle.registers.proofs.read.Kinds as read_kinds
use Rattle.registers.proofs.read.Reads as read_reads
use Rattle.registers.specs.contracts.interrupt as interrupt
use Rattle.registers.proofs.interrupt.Kinds as interrupt_kinds
use Rattle.registers.proofs.interrupt.Reads as interrupt_reads
use Rattle.registers.specs.contracts.fresh as fresh
use Rattle.registers.proofs.fresh.Kinds as fresh_kinds
use Rattle.registers.proofs.fresh.Reads as fresh_reads
use Rattle.registers.specs.contracts.from_bytes as from_bytes
use Rattle.registers.proofs.from_bytes.Kinds as from_bytes_kinds
use Rattle.registers.proofs.from_bytes.Reads as from_bytes_reads
use Rattle.registers.specs.contracts.to_bytes as to_bytes
use Rattle.registers.proofs.to_bytes.Kinds as to_bytes_kinds
use Rattle.registers.proofs.to_bytes.Reads as to_bytes_reads

pub write_tied : (κs : Lifetimes.Lfts 4) (a : World.ArgsD write.signature κs) (r : World.ResD write.signature κs)
    (s : Clauses.AtExit (Kinds.ended_of 4 write_kinds.ps write_kinds.r) κs) → write_reads.Learnt κs a r s
    → WriteDone a.0.now a.1.0 a.1.1.0 a.1.1.1.0.now a.1.1.1.1.0.now a.1.1.1.1.1.0.now (outcome_answer r)
    s.0.now s.1.1.1.0.now s.1.1.1.1.0.now s.1.1.1.1.1.0.now
write_tied κs a r s l = l

pub write_asks : (κs : Lifetimes.Lfts 4) (a : World.ArgsD write.signature κs) → write_reads.Asked κs a
write_asks κs a = tt

pub read_tied : (κs : Lifetimes.Lfts 0) (a : World.ArgsD read.signature κs) (r : World.ResD read.signature κs)
    (s : Clauses.AtExit (Kinds.ended_of 0 read_kinds.ps read_kinds.r) κs) → read_reads.Learnt κs a r s
    → value_said r ≡ read_value a.0 a.1.0
read_tied κs a r s l = l

pub read_asks : (κs : Lifetimes.Lfts 0) (a : World.ArgsD read.signature κs) → read_reads.Asked κs a
read_asks κs a = tt

pub interrupt_tied : (κs : Lifetimes.Lfts 0) (a : World.ArgsD interrupt.signature κs) (r : World.ResD interrupt.signature κs)
    (s : Clauses.AtExit (Kinds.ended_of 0 interrupt_kinds.ps interrupt_kinds.r) κs) → interrupt_reads.Learnt κs a r s
    → r ≡ raised a.0
interrupt_tied κs a r s l = l

pub interrupt_asks : (κs : Lifetimes.Lfts 0) (a : World.ArgsD interrupt.signature κs) → interrupt_reads.Asked κs a
interrupt_asks κs a = tt

pub fresh_tied : (κs : Lifetimes.Lfts 0) (a : World.ArgsD fresh.signature κs) (r : World.ResD fresh.signature κs)
    (s : Clauses.AtExit (Kinds.ended_of 0 fresh_kinds.ps fresh_kinds.r) κs) → fresh_reads.Learnt κs a r s
    → r ≡ fresh_registers
fresh_tied κs a r s l = l

pub fresh_asks : (κs : Lifetimes.Lfts 0) (a : World.ArgsD fresh.signature κs) → fresh_reads.Asked κs a
fresh_asks κs a = tt

pub from_bytes_tied : (κs : Lifetimes.Lfts 1) (a : World.ArgsD from_bytes.signature κs) (r : World.ResD from_bytes.signature κs)
    (ws : Clauses.Lasts (Kinds.ended_of 1 from_bytes_kinds.ps from_bytes_kinds.r) κs a)
    → let s = Clauses.at_exit (Kinds.ended_of 1 from_bytes_kinds.ps from_bytes_kinds.r) κs a ws in from_bytes_reads.Learnt κs a r s
    → (r ≡ registers_in a.0.now) × (s.0.now ≡ a.0.now)
from_bytes_tied κs a r ws l = l

pub from_bytes_asks : (κs : Lifetimes.Lfts 1) (a : World.ArgsD from_bytes.signature κs) → from_bytes_reads.Asked κs a
from_bytes_asks κs a = tt

pub to_bytes_tied : (κs : Lifetimes.Lfts 0) (a : World.ArgsD to_bytes.signature κs) (r : World.ResD to_bytes.signature κs)
    (s : Clauses.AtExit (Kinds.ended_of 0 to_bytes_kinds.ps to_bytes_kinds.r) κs) → to_bytes_reads.Learnt κs a r s
    → r ≡ register_bytes a.0
to_bytes_tied κs a r s l = l

pub to_bytes_asks : (κs : Lifetimes.Lfts 0) (a : World.ArgsD to_bytes.signature κs) → to_bytes_reads.Asked κs a
to_bytes_asks κs a = tt
