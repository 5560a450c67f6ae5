-- What the code itself returns, in plain words: none of these cites the definition of the answer that it stands for.
--
--   RefusalNumbers   each refusal with its number; RefusalsApart: no two have the same
--   Says n U D r     done exactly where n is 0, and then D; else the refusal that has the number n, and U
use Rattle.std.specs.Prelude.{ℕ, ◌≡◌, ◌≢◌, Ok, Err}
use Rattle.std.specs.declared.result.Result.{Result}
use Rattle.answer.specs.Answer.{refusal_number}
use Rattle.answer.specs.declared.Refusal.{Refusal}
use Rattle.answer.specs.declared.Refusal.TheVariants.{BlockLength, OutputLength, RecordLength, BankLength, BlockNumber, MarkRange, EqualMarks}
use Rattle.answer.specs.declared.Refusal.TheVariants.{TooManyMarks, NotMarked, NoLawfulBlock, RegisterAddress, ReadOnlyRegister, UnknownCommand}
use Rattle.answer.specs.declared.Refusal.TheVariants.{SlipCutOff, NoSuchSlip, NoRoom}

-- documents 01 and 02
pub record RefusalNumbers : Type 0 where
  pub block : refusal_number BlockLength ≡ 1
  pub output : refusal_number OutputLength ≡ 2
  pub rec : refusal_number RecordLength ≡ 3
  pub bank : refusal_number BankLength ≡ 4
  pub place : refusal_number BlockNumber ≡ 5
  pub marks : refusal_number MarkRange ≡ 6
  pub equal : refusal_number EqualMarks ≡ 7
  pub many : refusal_number TooManyMarks ≡ 8
  pub absent : refusal_number NotMarked ≡ 9
  pub none : refusal_number NoLawfulBlock ≡ 10
  pub address : refusal_number RegisterAddress ≡ 12
  pub read_only : refusal_number ReadOnlyRegister ≡ 13
  pub command : refusal_number UnknownCommand ≡ 14
  pub cut_off : refusal_number SlipCutOff ≡ 15
  pub no_slip : refusal_number NoSuchSlip ≡ 16
  pub no_room : refusal_number NoRoom ≡ 17

abbrev pub RefusalsApart : Type 0
RefusalsApart = (r r' : Refusal) → refusal_number r ≡ refusal_number r' → r ≡ r'

abbrev pub Says : ℕ → Type 0 → Type 0 → Result (Unit {0}) Refusal → Type 0
Says n unchanged did (Ok u) = (n ≡ 0) × did
Says n unchanged did (Err r) = (n ≢ 0) × (refusal_number r ≡ n) × unchanged
