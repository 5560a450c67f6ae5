-- What the writer says.
--
--   Wrote        the offset after the slip, or the number of a refusal
--   wrote_said   as the code says it
--   WroteApart   results that say the same are the same
use Rattle.std.specs.Prelude.{ℕ, ◌≡◌, Ok, Err}
use Rattle.std.specs.declared.result.Result.{Result}
use Rattle.answer.specs.Answer.{refusal_number}
use Rattle.answer.specs.declared.Refusal.{Refusal}

pub data Wrote : Type 0 where
  Next : (n : ℕ) → Wrote
  Refused : (number : ℕ) → Wrote

abbrev pub wrote_said : Result ℕ Refusal → Wrote
wrote_said (Ok n) = Next n
wrote_said (Err r) = Refused (refusal_number r)

abbrev pub WroteApart : Type 0
WroteApart = (r r' : Result ℕ Refusal) → wrote_said r ≡ wrote_said r' → r ≡ r'
