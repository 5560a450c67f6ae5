-- How large the numbers of the two answers are.
--
--   slip_length    a slip has four to six bytes
--   write_fits, read_fits   the answers of the two calls
use Prim.Native.Nat.{ℕ, ◌+◌, ◌-◌, ◌≤◌, ◌<◌}
use mathlib.Core.Path.{ap}
use mathlib.Core.Logic.{inl, inr}
use mathlib.Core.List.{List, ◌∷◌}
use native.Mathlib.Omega.{arith}
use lib.ListN.{length, drop, length-append, length-take, length-drop}
use Rattle.answer.specs.Answer.{Answer, done, clean, in_chips, in_card, counted, refused, refused_card}
use Rattle.reading.specs.Reading.{reading_answer}
use Rattle.slip.specs.Slip.{HasSlip, slip}
use Rattle.slip.specs.Calls.{WriteSlipDone, Against, ReadSlipDone, from_to}
use Rattle.slip.specs.Fit.{WroteFits, FoundFits}
use Rattle.slip.specs.Wrote.{Wrote}
use Rattle.slip.specs.Wrote.{Next, Refused}
use Rattle.slip.specs.Found.{Found}
use Rattle.slip.specs.Found.{Slip, Refused as RefusedAt}

pub slip_length : (k : ℕ) (a : Answer) → HasSlip k a → (4 ≤ length (slip k a)) × (length (slip k a) ≤ 6)
unfolding slip
slip_length k clean h = (omega arith, omega arith)
slip_length k (in_chips n) h = (omega arith, omega arith)
slip_length k (in_card j n) h = (omega arith, omega arith)
slip_length k (refused r) h = (omega arith, omega arith)
slip_length k (refused_card r j) h = (omega arith, omega arith)
slip_length k done h = absurd h.1
slip_length k (counted v w x y z) h = absurd h.1

pub write_fits : (s : List ℕ) (i k : ℕ) (a : Answer) (w : Wrote) (s' : List ℕ) → WriteSlipDone s i k a w s' → WroteFits i w
unfolding WriteSlipDone
write_fits s i k a (Next n) s' (h, e, l, b) = (omega (arith, e, slip_length k a h), omega (arith, e, slip_length k a h))
write_fits s i k a (Refused n) s' (inl (e, h), b) = inl e
write_fits s i k a (Refused n) s' (inr (e, h, l), b) = inr e

-- a cause of 16 is one of the six bytes
cause_near : (s : List ℕ) (i p : ℕ) → Against s i p → p < i + 6
cause_near s i p g =
    let f = g.so_far.1 in
    omega (
      arith,
      ap length f.begins,
      length-append (from_to s i p) (g.so_far.0 ∷ f.rest),
      length-take (p - i) (drop i s),
      length-drop i s,
      slip_length f.block f.answer f.has,
      g.from,
      g.below,
    )

pub read_fits : (s : List ℕ) (i : ℕ) (f : Found) (s' : List ℕ) → ReadSlipDone s i f s' → FoundFits i f
unfolding ReadSlipDone
read_fits s i (Slip k r n) s' ((h, e, b), z) =
    let l = slip_length k (reading_answer r) h in
    (h, omega (arith, e, l), omega (arith, e, l))
read_fits s i (RefusedAt n p) s' (inl (e, g), z) = inl e
read_fits s i (RefusedAt n p) s' (inr (e, g), z) = inr (e, g.from, cause_near s i p g)
