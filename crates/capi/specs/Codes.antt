-- Answers as codes, for C, and the codes taken apart as the functions of livomashen.h do.
--
--   code a      bits 0 to 7 the number; 8 to 15 the kind (0 clean, 1 chips, 2 card); 16 to 23 the card; 24 to 31 n.
--               Of a report: bits 0 to 7 the number; from bit 8 the totals, 11 bits each: clean, chips, card, none, several
--   value_code  of a register that is read: bits 0 to 7 the number, 8 to 15 the byte
--   proposal_code   of a proposal: bits 0 to 7 the number, 8 to 15 the chip, 255 for none
--   wrote_code i  of a slip written at i: bits 0 to 7 the number, 8 to 15 the slip's length
--   found_code i  of a slip read at i: bits 0 to 7 the number; 8 to 15 the slip's length, with 16 how far its cause is behind i; 16 to 31 the
--               block number; 32 to 63 the code of the reading
--   bits i l c  the l bits of c from bit i on: C's shift by i, and its mask
--   number_in, kind_in, card_in, n_in                        livomashen_split_answer; packed: livomashen_join_answer
--   number_in, clean_in, chips_in, cards_in, none_in, several_in   livomashen_split_report
--   number_in, byte_in                                       livomashen_split_register
--   number_in, chip_in                                       livomashen_split_proposal
--   number_in, length_in                                     livomashen_split_written, livomashen_split_slip
--   block_in, answer_code_in                                 livomashen_split_slip
--   outcome_in, reading_in, report_in, value_in, proposal_in   what the parts of a code tell: of a call that is done or refused, of a reading,
--               of a report, of a register, of a proposal; wrote_in: of a slip written; FoundIn: of one read
--   asked_in    the reading that the code handed to the writer is the code of
use Rattle.std.specs.Prelude.{◌≡◌, ◌≢◌, ℕ, ◌+◌, ◌-◌, ◌*◌, ◌/◌, ◌%◌, ◌^◌, eqb}
use Rattle.base.specs.Base.{if}
use Rattle.window.specs.Window.{Proposal}
use Rattle.window.specs.Window.{Chip, Nothing, Refused as RefusedWith}
use Rattle.registers.specs.Write.{Value}
use Rattle.registers.specs.Write.{Byte, Refused}
use Rattle.reading.specs.Reading.{reading_answer}
use Rattle.slip.specs.Wrote.{Wrote}
use Rattle.slip.specs.Wrote.{Next, Refused as NotWritten}
use Rattle.slip.specs.Found.{Found}
use Rattle.slip.specs.Found.{Slip, Refused as RefusedAt}
use Rattle.answer.specs.Answer.{Answer, done, clean, in_chips, in_card, counted, refused, refused_card}

-- ---- the code of an answer
abbrev pub packed : ℕ → ℕ → ℕ → ℕ → ℕ
packed number kind card n = number + 2 ^ 8 * kind + 2 ^ 16 * card + 2 ^ 24 * n

abbrev pub packed_totals : ℕ → ℕ → ℕ → ℕ → ℕ → ℕ
packed_totals v w x y z = 2 ^ 8 * v + 2 ^ 19 * w + 2 ^ 30 * x + 2 ^ 41 * y + 2 ^ 52 * z

-- a part that the answer has not is 0
abbrev pub code : Answer → ℕ
code done = packed 0 0 0 0
code clean = packed 0 0 0 0
code (in_chips n) = packed 0 1 0 n
code (in_card j n) = packed 0 2 j n
code (counted v w x y z) = packed_totals v w x y z
code (refused n) = packed n 0 0 0
code (refused_card n j) = packed n 0 j 0

abbrev pub value_code : Value → ℕ
value_code (Byte x) = 2 ^ 8 * x
value_code (Refused n) = n

abbrev pub proposal_code : Proposal → ℕ
proposal_code (Chip p) = 2 ^ 8 * p
proposal_code Nothing = 2 ^ 8 * 255
proposal_code (RefusedWith n) = n

abbrev pub wrote_code : ℕ → Wrote → ℕ
wrote_code i (Next n) = 2 ^ 8 * (n - i)
wrote_code i (NotWritten n) = n

-- with 15 the offset is the slice's length, which the caller has
abbrev pub found_code : ℕ → Found → ℕ
found_code i (Slip k r n) = 2 ^ 8 * (n - i) + 2 ^ 16 * k + 2 ^ 32 * code (reading_answer r)
found_code i (RefusedAt c p) = c + 2 ^ 8 * if (eqb c 15) 0 (p - i)

-- ---- a code taken apart
abbrev pub bits : ℕ → ℕ → ℕ → ℕ
bits i l c = c / 2 ^ i % 2 ^ l

abbrev pub number_in : ℕ → ℕ
number_in c = bits 0 8 c

abbrev pub kind_in : ℕ → ℕ
kind_in c = bits 8 8 c

abbrev pub card_in : ℕ → ℕ
card_in c = bits 16 8 c

abbrev pub n_in : ℕ → ℕ
n_in c = bits 24 8 c

abbrev pub byte_in : ℕ → ℕ
byte_in c = bits 8 8 c

abbrev pub chip_in : ℕ → ℕ
chip_in c = bits 8 8 c

abbrev pub length_in : ℕ → ℕ
length_in c = bits 8 8 c

abbrev pub block_in : ℕ → ℕ
block_in c = bits 16 16 c

abbrev pub answer_code_in : ℕ → ℕ
answer_code_in c = bits 32 32 c

abbrev pub clean_in : ℕ → ℕ
clean_in c = bits 8 11 c

abbrev pub chips_in : ℕ → ℕ
chips_in c = bits 19 11 c

abbrev pub cards_in : ℕ → ℕ
cards_in c = bits 30 11 c

abbrev pub none_in : ℕ → ℕ
none_in c = bits 41 11 c

abbrev pub several_in : ℕ → ℕ
several_in c = bits 52 11 c

-- ---- the answer that the parts tell
-- what is told where the number is 0, and where it is not
unfoldable pub by_number : ℕ → Answer → Answer → Answer
by_number n a b = if (eqb n 0) a b

unfoldable pub corrected_as : ℕ → ℕ → ℕ → Answer
corrected_as kind j n = if (eqb kind 0) clean (if (eqb kind 1) (in_chips n) (in_card j n))

-- "with 11, the lowest that fits"
unfoldable pub refused_as : ℕ → ℕ → Answer
refused_as n j = if (eqb n 11) (refused_card n j) (refused n)

unfoldable pub outcome_in : ℕ → Answer
outcome_in c = by_number (number_in c) done (refused (number_in c))

unfoldable pub reading_in : ℕ → Answer
reading_in c = by_number (number_in c) (corrected_as (kind_in c) (card_in c) (n_in c)) (refused_as (number_in c) (card_in c))

unfoldable pub report_in : ℕ → Answer
report_in c = by_number (number_in c) (counted (clean_in c) (chips_in c) (cards_in c) (none_in c) (several_in c)) (refused (number_in c))

unfoldable pub value_in : ℕ → Value
value_in c = if (eqb (number_in c) 0) (Byte (byte_in c)) (Refused (number_in c))

unfoldable pub proposal_in : ℕ → Proposal
proposal_in c = if (eqb (number_in c) 0) (if (eqb (chip_in c) 255) Nothing (Chip (chip_in c))) (RefusedWith (number_in c))

-- i is the offset, and l the slice's length
unfoldable pub wrote_in : ℕ → ℕ → Wrote
wrote_in i c = if (eqb (number_in c) 0) (Next (i + length_in c)) (NotWritten (number_in c))

abbrev pub FoundIn : ℕ → ℕ → ℕ → Found → Type 0
FoundIn i l c (Slip k r n) =
    (number_in c ≡ 0) × (k ≡ block_in c) × (reading_answer r ≡ reading_in (answer_code_in c)) × (n ≡ i + length_in c)
FoundIn i l c (RefusedAt n p) = (number_in c ≡ n) × (n ≢ 0) × (p ≡ if (eqb n 15) l (i + length_in c))

-- the reading of which c is the code; `done`, which has no slip, where c is no reading's code
unfoldable pub asked_in : ℕ → Answer
asked_in c = if (eqb (code (reading_in c)) c) (reading_in c) done
