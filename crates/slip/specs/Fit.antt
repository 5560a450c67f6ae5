-- How large the numbers of the two answers are, i being the offset that the call was given.
--
--   WroteFits i w     the slip has four to six bytes, or the number is 16 or 17
--   FoundFits i f     the slip has four to six bytes, and its block number and reading have a slip; or the number is 15, or 16 with a cause among
--                     the slip's six bytes
use Rattle.std.specs.Prelude.{ℕ, ◌+◌, ◌≤◌, ◌<◌, ◌≡◌, ◌⊎◌}
use Rattle.reading.specs.Reading.{reading_answer}
use Rattle.slip.specs.Slip.{HasSlip}
use Rattle.slip.specs.Wrote.{Wrote}
use Rattle.slip.specs.Wrote.{Next, Refused}
use Rattle.slip.specs.Found.{Found}
use Rattle.slip.specs.Found.{Slip, Refused as RefusedAt}

abbrev pub WroteFits : ℕ → Wrote → Type 0
WroteFits i (Next n) = (i + 4 ≤ n) × (n ≤ i + 6)
WroteFits i (Refused n) = (n ≡ 16) ⊎ (n ≡ 17)

abbrev pub FoundFits : ℕ → Found → Type 0
FoundFits i (Slip k r n) = HasSlip k (reading_answer r) × (i + 4 ≤ n) × (n ≤ i + 6)
FoundFits i (RefusedAt n p) = (n ≡ 15) ⊎ ((n ≡ 16) × (i ≤ p) × (p < i + 6))
