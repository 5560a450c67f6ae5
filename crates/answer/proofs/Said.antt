-- What the code itself returns, in plain words.
--
--   refusal_numbers, refusals_apart   the refusals and their numbers
--   says_by         a call by its causes says so
use Prim.Native.Nat.{ℕ, zero, suc}
use mathlib.Core.Path.{◌≡◌, refl, sym, ap, ◌∙◌}
use native.Mathlib.Omega.{arith}
use lib.Dec.{eqb}
use Rattle.base.specs.Base.{if}
use Rattle.std.specs.declared.result.Result.{Result}
use Rattle.std.specs.Prelude.{Ok, Err}
use Rattle.answer.specs.Answer.{done, number, By, refusal_number, outcome_answer}
use Rattle.answer.specs.Said.{RefusalNumbers, RefusalsApart, Says}
use Rattle.answer.specs.declared.Refusal.{Refusal}
use Rattle.answer.specs.declared.Refusal.TheVariants.{BlockLength, OutputLength, RecordLength, BankLength, BlockNumber, MarkRange, EqualMarks}
use Rattle.answer.specs.declared.Refusal.TheVariants.{TooManyMarks, NotMarked, NoLawfulBlock, RegisterAddress, ReadOnlyRegister, UnknownCommand}
use Rattle.answer.specs.declared.Refusal.TheVariants.{SlipCutOff, NoSuchSlip, NoRoom}
use Rattle.answer.proofs.Causes.{number_given}

pub refusal_numbers : RefusalNumbers
refusal_numbers = record {
  block = refl;
  output = refl;
  rec = refl;
  bank = refl;
  place = refl;
  marks = refl;
  equal = refl;
  many = refl;
  absent = refl;
  none = refl;
  address = refl;
  read_only = refl;
  command = refl;
  cut_off = refl;
  no_slip = refl;
  no_room = refl;
}

-- the refusal that has a number, where one has
by_number : ℕ → Refusal
by_number n =
    if (eqb n 1) BlockLength
    (if (eqb n 2) OutputLength
    (if (eqb n 3) RecordLength
    (if (eqb n 4) BankLength
    (if (eqb n 5) BlockNumber
    (if (eqb n 6) MarkRange
    (if (eqb n 7) EqualMarks
    (if (eqb n 8) TooManyMarks
    (if (eqb n 9) NotMarked
    (if (eqb n 10) NoLawfulBlock
    (if (eqb n 12) RegisterAddress
    (if (eqb n 13) ReadOnlyRegister
    (if (eqb n 14) UnknownCommand
    (if (eqb n 15) SlipCutOff
    (if (eqb n 16) NoSuchSlip NoRoom))))))))))))))

found : (r : Refusal) → by_number (refusal_number r) ≡ r
unfolding by_number
found BlockLength = refl
found OutputLength = refl
found RecordLength = refl
found BankLength = refl
found BlockNumber = refl
found MarkRange = refl
found EqualMarks = refl
found TooManyMarks = refl
found NotMarked = refl
found NoLawfulBlock = refl
found RegisterAddress = refl
found ReadOnlyRegister = refl
found UnknownCommand = refl
found SlipCutOff = refl
found NoSuchSlip = refl
found NoRoom = refl

pub refusals_apart : RefusalsApart
refusals_apart r r' e = sym (found r) ∙ ap by_number e ∙ found r'

pub says_by : (n : ℕ) (r : Result (Unit {0}) Refusal) (unchanged did : Type 0)
    → By n (outcome_answer r) unchanged ((outcome_answer r ≡ done) × did) → Says n unchanged did r
says_by zero (Ok u) unchanged did (e, d) = (refl, d)
says_by (suc n) (Ok u) unchanged did (e, k) = absurd (omega (arith, ap number e))
says_by zero (Err r) unchanged did (e, d) = absurd (number_given r (ap number e))
says_by (suc n) (Err r) unchanged did (e, k) = ((λ z. omega (arith, z)), ap number e, k)
