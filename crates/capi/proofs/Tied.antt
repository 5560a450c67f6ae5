-- What every caller of an export gets is its relation of specs/Exports.antt.
--
--   .._tied    what the caller learns is that relation, of the bytes at entry and at exit
--   .._asks    the caller owes nothing
--
-- Where a contract is changed, this file is refused; what the relations tell is in Told.antt.
use contract.Lifetimes
use borrow.Fn.Kinds
use borrow.Fn.World
use denote.Triple.Clauses
use Rattle.marks.specs.declared.MarkCall.TheVariants.{PlaceChip, LiftChip, PlaceCard, LiftCard}
use Rattle.capi.specs.Exports.{StoreCoded, ReadCoded, ClearCoded, PutCoded, GetCoded, PatrolCoded, ReportCoded, MarkCoded}
use Rattle.capi.specs.Exports.{WriteCoded, RegisterCoded, InterruptCoded, ClearWindowCoded, ProposeCoded, WriteSlipCoded, ReadSlipCoded}
use Rattle.capi.specs.contracts.livomashen_store as store
use Rattle.capi.proofs.livomashen_store.Kinds as store_kinds
use Rattle.capi.proofs.livomashen_store.Reads as store_reads
use Rattle.capi.specs.contracts.livomashen_read as read
use Rattle.capi.proofs.livomashen_read.Kinds as read_kinds
use Rattle.capi.proofs.livomashen_read.Reads as read_reads
use Rattle.capi.specs.contracts.livomashen_clear as clear
use Rattle.capi.proofs.livomashen_clear.Kinds as clear_kinds
use Rattle.capi.proofs.livomashen_clear.Reads as clear_reads
use Rattle.capi.specs.contracts.livomashen_put as put
use Rattle.capi.proofs.livomashen_put.Kinds as put_kinds
use Rattle.capi.proofs.livomashen_put.Reads as put_reads
use Rattle.capi.specs.contracts.livomashen_get as get
use Rattle.capi.proofs.livomashen_get.Kinds as get_kinds
use Rattle.capi.proofs.livomashen_get.Reads as get_reads
use Rattle.capi.specs.contracts.livomashen_patrol as patrol
use Rattle.capi.proofs.livomashen_patrol.Kinds as patrol_kinds
use Rattle.capi.proofs.livomashen_patrol.Reads as patrol_reads
use Rattle.capi.specs.contracts.livomashen_report as report
use Rattle.capi.proofs.livomashen_report.Kinds as report_kinds
use Rattle.capi.proofs.livomashen_report.Reads as report_reads
use Rattle.capi.specs.contracts.livomashen_place_chip as place_chip
use Rattle.capi.proofs.livomashen_place_chip.Kinds as place_chip_kinds
use Rattle.capi.proofs.livomashen_place_chip.Reads as place_chip_reads
use Rattle.capi.specs.contracts.livomashen_lift_chip as lift_chip
use Rattle.capi.proofs.livomashen_lift_chip.Kinds as lift_chip_kinds
use Rattle.capi.proofs.livomashen_lift_chip.Reads as lift_chip_reads
use Rattle.capi.specs.contracts.livomashen_place_card as place_card
use Rattle.capi.proofs.livomashen_place_card.Kinds as place_card_kinds
use Rattle.capi.proofs.livomashen_place_card.Reads as place_card_reads
use Rattle.capi.specs.contracts.livomashen_lift_card as lift_card
use Rattle.capi.proofs.livomashen_lift_card.Kinds as lift_card_kinds
use Rattle.capi.proofs.livomashen_lift_card.Reads as lift_card_reads
use Rattle.capi.specs.contracts.livomashen_write_register as write_register
use Rattle.capi.proofs.livomashen_write_register.Kinds as write_register_kinds
use Rattle.capi.proofs.livomashen_write_register.Reads as write_register_reads
use Rattle.capi.specs.contracts.livomashen_read_register as read_register
use Rattle.capi.proofs.livomashen_read_register.Kinds as read_register_kinds
use Rattle.capi.proofs.livomashen_read_register.Reads as read_register_reads
use Rattle.capi.specs.contracts.livomashen_interrupt as interrupt
use Rattle.capi.proofs.livomashen_interrupt.Kinds as interrupt_kinds
use Rattle.capi.proofs.livomashen_interrupt.Reads as interrupt_reads
use Rattle.capi.specs.contracts.livomashen_clear_window as clear_window
use Rattle.capi.proofs.livomashen_clear_window.Kinds as clear_window_kinds
use Rattle.capi.proofs.livomashen_clear_window.Reads as clear_window_reads
use Rattle.capi.specs.contracts.livomashen_propose as propose
use Rattle.capi.proofs.livomashen_propose.Kinds as propose_kinds
use Rattle.capi.proofs.livomashen_propose.Reads as propose_reads
use Rattle.capi.specs.contracts.livomashen_write_slip as write_slip
use Rattle.capi.proofs.livomashen_write_slip.Kinds as write_slip_kinds
use Rattle.capi.proofs.livomashen_write_slip.Reads as write_slip_reads
use Rattle.capi.specs.contracts.livomashen_read_slip as read_slip
use Rattle.capi.proofs.livomashen_read_slip.Kinds as read_slip_kinds
use Rattle.capi.proofs.livomashen_read_slip.Reads as read_slip_reads

-- store: record, output
pub store_tied : (κs : Lifetimes.Lfts 2) (a : World.ArgsD store.signature κs) (r : World.ResD store.signature κs)
    (ws : Clauses.Lasts (Kinds.ended_of 2 store_kinds.ps store_kinds.r) κs a)
    → let s = Clauses.at_exit (Kinds.ended_of 2 store_kinds.ps store_kinds.r) κs a ws in store_reads.Learnt κs a r s
    → StoreCoded a.0.now a.1.0.now r s.0.now s.1.0.now
store_tied κs a r ws l = l

pub store_asks : (κs : Lifetimes.Lfts 2) (a : World.ArgsD store.signature κs) → store_reads.Asked κs a
store_asks κs a = tt

-- read: block, marks, output
pub read_tied : (κs : Lifetimes.Lfts 3) (a : World.ArgsD read.signature κs) (r : World.ResD read.signature κs)
    (ws : Clauses.Lasts (Kinds.ended_of 3 read_kinds.ps read_kinds.r) κs a)
    → let s = Clauses.at_exit (Kinds.ended_of 3 read_kinds.ps read_kinds.r) κs a ws in read_reads.Learnt κs a r s
    → ReadCoded a.0.now a.1.0.now a.1.1.0.now r s.0.now s.1.0.now s.1.1.0.now
read_tied κs a r ws l = l

pub read_asks : (κs : Lifetimes.Lfts 3) (a : World.ArgsD read.signature κs) → read_reads.Asked κs a
read_asks κs a = tt

-- clear: bank
pub clear_tied : (κs : Lifetimes.Lfts 1) (a : World.ArgsD clear.signature κs) (r : World.ResD clear.signature κs)
    (s : Clauses.AtExit (Kinds.ended_of 1 clear_kinds.ps clear_kinds.r) κs)
    → clear_reads.Learnt κs a r s
    → ClearCoded a.0.now r s.0.now
clear_tied κs a r s l = l

pub clear_asks : (κs : Lifetimes.Lfts 1) (a : World.ArgsD clear.signature κs) → clear_reads.Asked κs a
clear_asks κs a = tt

-- put: bank, block number, record
pub put_tied : (κs : Lifetimes.Lfts 2) (a : World.ArgsD put.signature κs) (r : World.ResD put.signature κs)
    (ws : Clauses.Lasts (Kinds.ended_of 2 put_kinds.ps put_kinds.r) κs a)
    → let s = Clauses.at_exit (Kinds.ended_of 2 put_kinds.ps put_kinds.r) κs a ws in put_reads.Learnt κs a r s
    → PutCoded a.0.now a.1.0 a.1.1.0.now r s.0.now s.1.1.0.now
put_tied κs a r ws l = l

pub put_asks : (κs : Lifetimes.Lfts 2) (a : World.ArgsD put.signature κs) → put_reads.Asked κs a
put_asks κs a = tt

-- get: bank, block number, marks, output, window
pub get_tied : (κs : Lifetimes.Lfts 4) (a : World.ArgsD get.signature κs) (r : World.ResD get.signature κs)
    (ws : Clauses.Lasts (Kinds.ended_of 4 get_kinds.ps get_kinds.r) κs a)
    → let s = Clauses.at_exit (Kinds.ended_of 4 get_kinds.ps get_kinds.r) κs a ws in get_reads.Learnt κs a r s
    → GetCoded a.0.now a.1.0 a.1.1.0.now a.1.1.1.0.now a.1.1.1.1.0.now r s.0.now s.1.1.0.now
    s.1.1.1.0.now s.1.1.1.1.0.now
get_tied κs a r ws l = l

pub get_asks : (κs : Lifetimes.Lfts 4) (a : World.ArgsD get.signature κs) → get_reads.Asked κs a
get_asks κs a = tt

-- patrol: bank, block number, marks, window
pub patrol_tied : (κs : Lifetimes.Lfts 3) (a : World.ArgsD patrol.signature κs) (r : World.ResD patrol.signature κs)
    (ws : Clauses.Lasts (Kinds.ended_of 3 patrol_kinds.ps patrol_kinds.r) κs a)
    → let s = Clauses.at_exit (Kinds.ended_of 3 patrol_kinds.ps patrol_kinds.r) κs a ws in patrol_reads.Learnt κs a r s
    → PatrolCoded a.0.now a.1.0 a.1.1.0.now a.1.1.1.0.now r s.0.now s.1.1.0.now s.1.1.1.0.now
patrol_tied κs a r ws l = l

pub patrol_asks : (κs : Lifetimes.Lfts 3) (a : World.ArgsD patrol.signature κs) → patrol_reads.Asked κs a
patrol_asks κs a = tt

-- report: bank, marks
pub report_tied : (κs : Lifetimes.Lfts 2) (a : World.ArgsD report.signature κs) (r : World.ResD report.signature κs)
    (ws : Clauses.Lasts (Kinds.ended_of 2 report_kinds.ps report_kinds.r) κs a)
    → let s = Clauses.at_exit (Kinds.ended_of 2 report_kinds.ps report_kinds.r) κs a ws in report_reads.Learnt κs a r s
    → ReportCoded a.0.now a.1.0.now r s.0.now s.1.0.now
report_tied κs a r ws l = l

pub report_asks : (κs : Lifetimes.Lfts 2) (a : World.ArgsD report.signature κs) → report_reads.Asked κs a
report_asks κs a = tt

-- place chip: marks, position
pub place_chip_tied : (κs : Lifetimes.Lfts 1) (a : World.ArgsD place_chip.signature κs) (r : World.ResD place_chip.signature κs)
    (s : Clauses.AtExit (Kinds.ended_of 1 place_chip_kinds.ps place_chip_kinds.r) κs)
    → place_chip_reads.Learnt κs a r s
    → MarkCoded a.0.now (PlaceChip a.1.0) r s.0.now
place_chip_tied κs a r s l = l

pub place_chip_asks : (κs : Lifetimes.Lfts 1) (a : World.ArgsD place_chip.signature κs) → place_chip_reads.Asked κs a
place_chip_asks κs a = tt

-- lift chip: marks, position
pub lift_chip_tied : (κs : Lifetimes.Lfts 1) (a : World.ArgsD lift_chip.signature κs) (r : World.ResD lift_chip.signature κs)
    (s : Clauses.AtExit (Kinds.ended_of 1 lift_chip_kinds.ps lift_chip_kinds.r) κs)
    → lift_chip_reads.Learnt κs a r s
    → MarkCoded a.0.now (LiftChip a.1.0) r s.0.now
lift_chip_tied κs a r s l = l

pub lift_chip_asks : (κs : Lifetimes.Lfts 1) (a : World.ArgsD lift_chip.signature κs) → lift_chip_reads.Asked κs a
lift_chip_asks κs a = tt

-- place card: marks, card
pub place_card_tied : (κs : Lifetimes.Lfts 1) (a : World.ArgsD place_card.signature κs) (r : World.ResD place_card.signature κs)
    (s : Clauses.AtExit (Kinds.ended_of 1 place_card_kinds.ps place_card_kinds.r) κs)
    → place_card_reads.Learnt κs a r s
    → MarkCoded a.0.now (PlaceCard a.1.0) r s.0.now
place_card_tied κs a r s l = l

pub place_card_asks : (κs : Lifetimes.Lfts 1) (a : World.ArgsD place_card.signature κs) → place_card_reads.Asked κs a
place_card_asks κs a = tt

-- lift card: marks
pub lift_card_tied : (κs : Lifetimes.Lfts 1) (a : World.ArgsD lift_card.signature κs) (r : World.ResD lift_card.signature κs)
    (s : Clauses.AtExit (Kinds.ended_of 1 lift_card_kinds.ps lift_card_kinds.r) κs)
    → lift_card_reads.Learnt κs a r s
    → MarkCoded a.0.now LiftCard r s.0.now
lift_card_tied κs a r s l = l

pub lift_card_asks : (κs : Lifetimes.Lfts 1) (a : World.ArgsD lift_card.signature κs) → lift_card_reads.Asked κs a
lift_card_asks κs a = tt

-- write register: registers, address, value, bank, output, window
pub write_register_tied : (κs : Lifetimes.Lfts 4) (a : World.ArgsD write_register.signature κs) (r : World.ResD write_register.signature κs)
    (s : Clauses.AtExit (Kinds.ended_of 4 write_register_kinds.ps write_register_kinds.r) κs)
    → write_register_reads.Learnt κs a r s
    → WriteCoded a.0.now a.1.0 a.1.1.0 a.1.1.1.0.now a.1.1.1.1.0.now a.1.1.1.1.1.0.now r s.0.now
    s.1.1.1.0.now s.1.1.1.1.0.now s.1.1.1.1.1.0.now
write_register_tied κs a r s l = l

pub write_register_asks : (κs : Lifetimes.Lfts 4) (a : World.ArgsD write_register.signature κs) → write_register_reads.Asked κs a
write_register_asks κs a = tt

-- read register: registers, address
pub read_register_tied : (κs : Lifetimes.Lfts 1) (a : World.ArgsD read_register.signature κs) (r : World.ResD read_register.signature κs)
    (ws : Clauses.Lasts (Kinds.ended_of 1 read_register_kinds.ps read_register_kinds.r) κs a)
    → let s = Clauses.at_exit (Kinds.ended_of 1 read_register_kinds.ps read_register_kinds.r) κs a ws in read_register_reads.Learnt κs a r s
    → RegisterCoded a.0.now a.1.0 r s.0.now
read_register_tied κs a r ws l = l

pub read_register_asks : (κs : Lifetimes.Lfts 1) (a : World.ArgsD read_register.signature κs) → read_register_reads.Asked κs a
read_register_asks κs a = tt

-- interrupt: registers
pub interrupt_tied : (κs : Lifetimes.Lfts 1) (a : World.ArgsD interrupt.signature κs) (r : World.ResD interrupt.signature κs)
    (ws : Clauses.Lasts (Kinds.ended_of 1 interrupt_kinds.ps interrupt_kinds.r) κs a)
    → let s = Clauses.at_exit (Kinds.ended_of 1 interrupt_kinds.ps interrupt_kinds.r) κs a ws in interrupt_reads.Learnt κs a r s
    → InterruptCoded a.0.now r s.0.now
interrupt_tied κs a r ws l = l

pub interrupt_asks : (κs : Lifetimes.Lfts 1) (a : World.ArgsD interrupt.signature κs) → interrupt_reads.Asked κs a
interrupt_asks κs a = tt

-- clear window: window
pub clear_window_tied : (κs : Lifetimes.Lfts 1) (a : World.ArgsD clear_window.signature κs) (r : World.ResD clear_window.signature κs)
    (s : Clauses.AtExit (Kinds.ended_of 1 clear_window_kinds.ps clear_window_kinds.r) κs)
    → clear_window_reads.Learnt κs a r s
    → ClearWindowCoded r s.0.now
clear_window_tied κs a r s l = l

pub clear_window_asks : (κs : Lifetimes.Lfts 1) (a : World.ArgsD clear_window.signature κs) → clear_window_reads.Asked κs a
clear_window_asks κs a = tt

-- propose: window, marks
pub propose_tied : (κs : Lifetimes.Lfts 2) (a : World.ArgsD propose.signature κs) (r : World.ResD propose.signature κs)
    (ws : Clauses.Lasts (Kinds.ended_of 2 propose_kinds.ps propose_kinds.r) κs a)
    → let s = Clauses.at_exit (Kinds.ended_of 2 propose_kinds.ps propose_kinds.r) κs a ws in propose_reads.Learnt κs a r s
    → ProposeCoded a.0.now a.1.0.now r s.0.now s.1.0.now
propose_tied κs a r ws l = l

pub propose_asks : (κs : Lifetimes.Lfts 2) (a : World.ArgsD propose.signature κs) → propose_reads.Asked κs a
propose_asks κs a = tt

-- write slip: slips, offset, block number, code of the reading
pub write_slip_tied : (κs : Lifetimes.Lfts 1) (a : World.ArgsD write_slip.signature κs) (r : World.ResD write_slip.signature κs)
    (s : Clauses.AtExit (Kinds.ended_of 1 write_slip_kinds.ps write_slip_kinds.r) κs)
    → write_slip_reads.Learnt κs a r s
    → WriteSlipCoded a.0.now a.1.0 a.1.1.0 a.1.1.1.0 r s.0.now
write_slip_tied κs a r s l = l

pub write_slip_asks : (κs : Lifetimes.Lfts 1) (a : World.ArgsD write_slip.signature κs) → write_slip_reads.Asked κs a
write_slip_asks κs a = tt

-- read slip: slips, offset
pub read_slip_tied : (κs : Lifetimes.Lfts 1) (a : World.ArgsD read_slip.signature κs) (r : World.ResD read_slip.signature κs)
    (ws : Clauses.Lasts (Kinds.ended_of 1 read_slip_kinds.ps read_slip_kinds.r) κs a)
    → let s = Clauses.at_exit (Kinds.ended_of 1 read_slip_kinds.ps read_slip_kinds.r) κs a ws in read_slip_reads.Learnt κs a r s
    → ReadSlipCoded a.0.now a.1.0 r s.0.now
read_slip_tied κs a r ws l = l

pub read_slip_asks : (κs : Lifetimes.Lfts 1) (a : World.ArgsD read_slip.signature κs) → read_slip_reads.Asked κs a
read_slip_asks κs a = tt
