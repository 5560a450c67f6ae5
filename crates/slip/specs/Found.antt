-- What the reader finds.
--
--   Found        the block number, its reading and the offset after the slip; or the number of a refusal and its cause's offset
--   found_said   as the code says it
--   FoundApart   results that say the same are the same
use Rattle.std.specs.Prelude.{ℕ, ◌≡◌, Ok, Err}
use Rattle.std.specs.declared.result.Result.{Result}
use Rattle.answer.specs.Answer.{refusal_number}
use Rattle.reading.specs.Reading.{Reading}
use Rattle.slip.specs.declared.SlipRead.{SlipRead}
use Rattle.slip.specs.declared.NoSlip.{NoSlip}

pub data Found : Type 0 where
  Slip : (k : ℕ) (r : Reading) (n : ℕ) → Found
  Refused : (number at : ℕ) → Found

abbrev pub found_said : Result SlipRead NoSlip → Found
found_said (Ok s) = Slip s.block s.reading s.next
found_said (Err e) = Refused (refusal_number e.refusal) e.at

abbrev pub FoundApart : Type 0
FoundApart = (r r' : Result SlipRead NoSlip) → found_said r ≡ found_said r' → r ≡ r'
