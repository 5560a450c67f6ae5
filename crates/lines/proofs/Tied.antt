-- The caller of a line owes nothing: it may be of any numbers, and be put at any place of any output.
use contract.Lifetimes
use borrow.Fn.World
use Rattle.lines.specs.contracts.count_line as count_line
use Rattle.lines.proofs.count_line.Reads as count_line_reads
use Rattle.lines.specs.contracts.chips_line as chips_line
use Rattle.lines.proofs.chips_line.Reads as chips_line_reads
use Rattle.lines.specs.contracts.card_line as card_line
use Rattle.lines.proofs.card_line.Reads as card_line_reads
use Rattle.lines.specs.contracts.none_line as none_line
use Rattle.lines.proofs.none_line.Reads as none_line_reads
use Rattle.lines.specs.contracts.several_line as several_line
use Rattle.lines.proofs.several_line.Reads as several_line_reads
use Rattle.lines.specs.contracts.totals_line as totals_line
use Rattle.lines.proofs.totals_line.Reads as totals_line_reads
use Rattle.lines.specs.contracts.sound_line as sound_line
use Rattle.lines.proofs.sound_line.Reads as sound_line_reads
use Rattle.lines.specs.contracts.refused_line as refused_line
use Rattle.lines.proofs.refused_line.Reads as refused_line_reads

pub count_line_asks : (κs : Lifetimes.Lfts 2) (a : World.ArgsD count_line.signature κs) → count_line_reads.Asked κs a
count_line_asks κs a = tt

pub chips_line_asks : (κs : Lifetimes.Lfts 2) (a : World.ArgsD chips_line.signature κs) → chips_line_reads.Asked κs a
chips_line_asks κs a = tt

pub card_line_asks : (κs : Lifetimes.Lfts 2) (a : World.ArgsD card_line.signature κs) → card_line_reads.Asked κs a
card_line_asks κs a = tt

pub none_line_asks : (κs : Lifetimes.Lfts 2) (a : World.ArgsD none_line.signature κs) → none_line_reads.Asked κs a
none_line_asks κs a = tt

pub several_line_asks : (κs : Lifetimes.Lfts 2) (a : World.ArgsD several_line.signature κs) → several_line_reads.Asked κs a
several_line_asks κs a = tt

pub totals_line_asks : (κs : Lifetimes.Lfts 2) (a : World.ArgsD totals_line.signature κs) → totals_line_reads.Asked κs a
totals_line_asks κs a = tt

pub sound_line_asks : (κs : Lifetimes.Lfts 2) (a : World.ArgsD sound_line.signature κs) → sound_line_reads.Asked κs a
sound_line_asks κs a = tt

pub refused_line_asks : (κs : Lifetimes.Lfts 2) (a : World.ArgsD refused_line.signature κs) → refused_line_reads.Asked κs a
refused_line_asks κs a = tt
