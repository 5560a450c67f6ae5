-- Answers as document 01 gives them: their numbers, and what is returned with them.
--
--   Answer            every answer of every call
--   number            01's number of a refusal, 0 where nothing is refused
--   refusal_number    01's and 02's number of a refusal
--   outcome_answer    what is done or refused; cause_number: what a check gives
--   By                what a call does, by its cause: a refused call says the number, and leaves what it was lent as it was
--
-- Each type of the code that is an answer has such a definition; contracts speak of what it gives.
use Rattle.std.specs.Prelude.{ℕ, zero, suc, ◌≡◌}
use Rattle.std.specs.Prelude.{Ok, Err}
use Rattle.std.specs.declared.result.Result.{Result}
use Rattle.answer.specs.declared.Refusal.{Refusal}
use Rattle.answer.specs.declared.Refusal.TheVariants.{BlockLength, OutputLength, RecordLength, BankLength, BlockNumber, MarkRange, EqualMarks}
use Rattle.answer.specs.declared.Refusal.TheVariants.{TooManyMarks, NotMarked, NoLawfulBlock, RegisterAddress, ReadOnlyRegister, UnknownCommand}
use Rattle.answer.specs.declared.Refusal.TheVariants.{SlipCutOff, NoSuchSlip, NoRoom}

pub data Answer : Type 0 where
  -- nothing is refused, and nothing more is said
  done : Answer
  -- a block is corrected: no byte changed; n bytes in chips; n bytes, on card j
  clean : Answer
  in_chips : (n : ℕ) → Answer
  in_card : (j n : ℕ) → Answer
  -- how many blocks read as each
  counted : (clean chips card none several : ℕ) → Answer
  -- "nothing more" is returned with the number
  refused : (number : ℕ) → Answer
  -- a card is
  refused_card : (number j : ℕ) → Answer

abbrev pub number : Answer → ℕ
number done = 0
number clean = 0
number (in_chips n) = 0
number (in_card j n) = 0
number (counted a b c d e) = 0
number (refused n) = n
number (refused_card n j) = n

-- ---- as the code says them
abbrev pub refusal_number : Refusal → ℕ
refusal_number BlockLength = 1
refusal_number OutputLength = 2
refusal_number RecordLength = 3
refusal_number BankLength = 4
refusal_number BlockNumber = 5
refusal_number MarkRange = 6
refusal_number EqualMarks = 7
refusal_number TooManyMarks = 8
refusal_number NotMarked = 9
refusal_number NoLawfulBlock = 10
refusal_number RegisterAddress = 12
refusal_number ReadOnlyRegister = 13
refusal_number UnknownCommand = 14
refusal_number SlipCutOff = 15
refusal_number NoSuchSlip = 16
refusal_number NoRoom = 17

abbrev pub outcome_answer : Result (Unit {0}) Refusal → Answer
outcome_answer (Ok u) = done
outcome_answer (Err r) = refused (refusal_number r)

-- what a check gives: 0 where nothing is refused
abbrev pub cause_number : Result (Unit {0}) Refusal → ℕ
cause_number (Ok u) = 0
cause_number (Err r) = refusal_number r

-- ---- a call, by its cause: 0 where it is not refused, and then `did` says the answer too
abbrev pub By : ℕ → Answer → Type 0 → Type 0 → Type 0
By zero a unchanged did = did
By (suc n) a unchanged did = (a ≡ refused (suc n)) × unchanged
