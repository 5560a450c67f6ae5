-- What every caller of the sums of a block gets.
-- `..-tied`: what the caller learns; `..-asks`: the caller owes nothing. Where a contract is changed, this file is refused.
use contract.Lifetimes
use borrow.Fn.Kinds
use borrow.Fn.World
use denote.Triple.Clauses
use mathlib.Core.Path.{◌≡◌}
use Rattle.code.specs.Labels.{built_in}
use Rattle.pairs.specs.Words.{spread, gathered, paired, at_both}
use Rattle.sums.specs.Sums.{rows_of, all_zero, BlockSums, RecordSums, taken, next, FourLeft}
use Rattle.sums.specs.contracts.of_block as of_block
use Rattle.sums.proofs.of_block.Kinds as of_block_kinds
use Rattle.sums.proofs.of_block.Reads as of_block_reads
use Rattle.sums.specs.contracts.of_record as of_record
use Rattle.sums.proofs.of_record.Kinds as of_record_kinds
use Rattle.sums.proofs.of_record.Reads as of_record_reads
use Rattle.sums.specs.contracts.both as both
use Rattle.sums.proofs.both.Kinds as both_kinds
use Rattle.sums.proofs.both.Reads as both_reads
use Rattle.sums.specs.contracts.is_zero as is_zero
use Rattle.sums.proofs.is_zero.Kinds as is_zero_kinds
use Rattle.sums.proofs.is_zero.Reads as is_zero_reads
use Rattle.sums.specs.contracts.rows as rows
use Rattle.sums.proofs.rows.Kinds as rows_kinds
use Rattle.sums.proofs.rows.Reads as rows_reads
use Rattle.sums.specs.contracts.built_in.on_card as on_card
use Rattle.sums.proofs.built_in.on_card.Kinds as on_card_kinds
use Rattle.sums.proofs.built_in.on_card.Reads as on_card_reads
use Rattle.sums.specs.contracts.built_in.first_card as first_card
use Rattle.sums.proofs.built_in.first_card.Kinds as first_card_kinds
use Rattle.sums.proofs.built_in.first_card.Reads as first_card_reads
use Rattle.sums.specs.contracts.built_in.next_card as next_card
use Rattle.sums.proofs.built_in.next_card.Kinds as next_card_kinds
use Rattle.sums.proofs.built_in.next_card.Reads as next_card_reads
use Rattle.sums.specs.contracts.built_in.four_left as four_left
use Rattle.sums.proofs.built_in.four_left.Kinds as four_left_kinds
use Rattle.sums.proofs.built_in.four_left.Reads as four_left_reads

pub of_block_tied : (κs : Lifetimes.Lfts 1) (a : World.ArgsD of_block.signature κs) (r : World.ResD of_block.signature κs)
    (ws : Clauses.Lasts (Kinds.ended_of 1 of_block_kinds.ps of_block_kinds.r) κs a)
    → let s = Clauses.at_exit (Kinds.ended_of 1 of_block_kinds.ps of_block_kinds.r) κs a ws in of_block_reads.Learnt κs a r s
    → BlockSums a.0.now r s.0.now
of_block_tied κs a r ws l = l

pub of_block_asks : (κs : Lifetimes.Lfts 1) (a : World.ArgsD of_block.signature κs) → of_block_reads.Asked κs a
of_block_asks κs a = tt

pub of_record_tied : (κs : Lifetimes.Lfts 1) (a : World.ArgsD of_record.signature κs) (r : World.ResD of_record.signature κs)
    (ws : Clauses.Lasts (Kinds.ended_of 1 of_record_kinds.ps of_record_kinds.r) κs a)
    → let s = Clauses.at_exit (Kinds.ended_of 1 of_record_kinds.ps of_record_kinds.r) κs a ws in of_record_reads.Learnt κs a r s
    → RecordSums a.0.now r s.0.now
of_record_tied κs a r ws l = l

pub of_record_asks : (κs : Lifetimes.Lfts 1) (a : World.ArgsD of_record.signature κs) → of_record_reads.Asked κs a
of_record_asks κs a = tt

pub both_tied : (κs : Lifetimes.Lfts 0) (a : World.ArgsD both.signature κs) (r : World.ResD both.signature κs)
    (s : Clauses.AtExit (Kinds.ended_of 0 both_kinds.ps both_kinds.r) κs) → both_reads.Learnt κs a r s
    → r ≡ paired a.0.once a.0.squared
both_tied κs a r s l = l

pub both_asks : (κs : Lifetimes.Lfts 0) (a : World.ArgsD both.signature κs) → both_reads.Asked κs a
both_asks κs a = tt

pub is_zero_tied : (κs : Lifetimes.Lfts 0) (a : World.ArgsD is_zero.signature κs) (r : World.ResD is_zero.signature κs)
    (s : Clauses.AtExit (Kinds.ended_of 0 is_zero_kinds.ps is_zero_kinds.r) κs) → is_zero_reads.Learnt κs a r s
    → r ≡ all_zero a.0
is_zero_tied κs a r s l = l

pub is_zero_asks : (κs : Lifetimes.Lfts 0) (a : World.ArgsD is_zero.signature κs) → is_zero_reads.Asked κs a
is_zero_asks κs a = tt

pub rows_tied : (κs : Lifetimes.Lfts 0) (a : World.ArgsD rows.signature κs) (r : World.ResD rows.signature κs)
    (s : Clauses.AtExit (Kinds.ended_of 0 rows_kinds.ps rows_kinds.r) κs) → rows_reads.Learnt κs a r s
    → r ≡ rows_of a.0
rows_tied κs a r s l = l

pub rows_asks : (κs : Lifetimes.Lfts 0) (a : World.ArgsD rows.signature κs) → rows_reads.Asked κs a
rows_asks κs a = tt

pub on_card_tied : (κs : Lifetimes.Lfts 0) (a : World.ArgsD on_card.signature κs) (r : World.ResD on_card.signature κs)
    (s : Clauses.AtExit (Kinds.ended_of 0 on_card_kinds.ps on_card_kinds.r) κs) → on_card_reads.Learnt κs a r s
    → r ≡ at_both (gathered a.0 (spread built_in) a.1.0)
on_card_tied κs a r s l = l

pub on_card_asks : (κs : Lifetimes.Lfts 0) (a : World.ArgsD on_card.signature κs) → on_card_reads.Asked κs a
on_card_asks κs a = tt

pub first_card_tied : (κs : Lifetimes.Lfts 0) (a : World.ArgsD first_card.signature κs) (r : World.ResD first_card.signature κs)
    (s : Clauses.AtExit (Kinds.ended_of 0 first_card_kinds.ps first_card_kinds.r) κs) → first_card_reads.Learnt κs a r s
    → r ≡ taken a.0 0
first_card_tied κs a r s l = l

pub first_card_asks : (κs : Lifetimes.Lfts 0) (a : World.ArgsD first_card.signature κs) → first_card_reads.Asked κs a
first_card_asks κs a = tt

pub next_card_tied : (κs : Lifetimes.Lfts 0) (a : World.ArgsD next_card.signature κs) (r : World.ResD next_card.signature κs)
    (s : Clauses.AtExit (Kinds.ended_of 0 next_card_kinds.ps next_card_kinds.r) κs) → next_card_reads.Learnt κs a r s
    → r ≡ next a.0
next_card_tied κs a r s l = l

pub next_card_asks : (κs : Lifetimes.Lfts 0) (a : World.ArgsD next_card.signature κs) → next_card_reads.Asked κs a
next_card_asks κs a = tt

pub four_left_tied : (κs : Lifetimes.Lfts 1) (a : World.ArgsD four_left.signature κs) (r : World.ResD four_left.signature κs)
    (ws : Clauses.Lasts (Kinds.ended_of 1 four_left_kinds.ps four_left_kinds.r) κs a)
    → let s = Clauses.at_exit (Kinds.ended_of 1 four_left_kinds.ps four_left_kinds.r) κs a ws in four_left_reads.Learnt κs a r s
    → FourLeft a.0.now r s.0.now
four_left_tied κs a r ws l = l

pub four_left_asks : (κs : Lifetimes.Lfts 1) (a : World.ArgsD four_left.signature κs) → four_left_reads.Asked κs a
four_left_asks κs a = tt
