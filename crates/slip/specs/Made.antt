-- A slip as the writer makes it: bytes of its own, of which the first are the slip.
--
--   MadeSlip k a m    the slip of block k, read as a, in the bytes of m
--   Makes k a o       that is what o says; or NoSuchSlip, if there is none
use Rattle.std.specs.Prelude.{ℕ, ◌≡◌, length, take, Ok, Err}
use Rattle.std.specs.declared.result.Result.{Result}
use Rattle.answer.specs.Answer.{Answer}
use Rattle.answer.specs.declared.Refusal.{Refusal}
use Rattle.answer.specs.declared.Refusal.TheVariants.{NoSuchSlip}
use Rattle.slip.specs.Slip.{HasSlip, slip}
use Rattle.slip.specs.declared.make.Made.{Made}

pub record MadeSlip (k : ℕ) (a : Answer) (m : Made) : Type 0 where
  pub bytes : take m.size m.bytes ≡ slip k a
  pub size : m.size ≡ length (slip k a)

abbrev pub Makes : ℕ → Answer → Result Made Refusal → Type 0
Makes k a (Ok m) = HasSlip k a × MadeSlip k a m
Makes k a (Err e) = (e ≡ NoSuchSlip) × (HasSlip k a → ⊥)
