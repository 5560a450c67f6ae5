-- What the writer leaves, by its cause.
--
--   made_size     a slip that was made has four to six bytes, and they are there
--   refused_as    a refusal that is handed on
--   write_bad     a reading without a slip: 16; write_refused: as the code says it
--   write_full    no space: 17
--   write_done    the slip stands from the offset on
use Prim.Native.Nat.{ℕ, ◌+◌, ◌≤◌, ◌<◌}
use mathlib.Core.Path.{◌≡◌, refl, sym, ap, ◌∙◌, subst}
use mathlib.Core.Logic.{inl, inr}
use mathlib.Core.List.{List, ◌++◌}
use native.Mathlib.Omega.{arith}
use lib.ListN.{length, take, drop, length-take}
use Rattle.std.specs.Prelude.{IsErrAnd, Ok, Err}
use Rattle.std.specs.declared.result.Result.{Result}
use Rattle.answer.specs.Answer.{Answer}
use Rattle.answer.specs.declared.Refusal.{Refusal}
use Rattle.answer.specs.declared.Refusal.TheVariants.{NoSuchSlip}
use Rattle.slip.specs.Slip.{HasSlip, slip}
use Rattle.slip.specs.Calls.{WriteSlipDone}
use Rattle.slip.specs.Made.{MadeSlip}
use Rattle.slip.specs.declared.make.Made.{Made}
use Rattle.slip.specs.Wrote.{wrote_said}
use Rattle.slip.specs.Wrote.{Next, Refused}
use Rattle.slip.proofs.Fit.{slip_length}

-- four to six bytes, and as many are there
pub made_size : (k : ℕ) (a : Answer) (m : Made) → MadeSlip k a m → HasSlip k a → (4 ≤ m.size) × (m.size ≤ 6) × (m.size ≤ length m.bytes)
made_size k a m d h =
    let n = slip_length k a h in
    (omega (arith, n, d.size), omega (arith, n, d.size), omega (arith, ap length d.bytes, d.size, length-take m.size m.bytes))

refused_as : (r : Result ℕ Refusal) (e : Refusal) → IsErrAnd r (λ (x : Refusal). x ≡ e) → r ≡ Err e
refused_as (Ok n) e h = absurd h
refused_as (Err x) e h = ap Err h

module _ (s : List ℕ) (i k : ℕ) (a : Answer) where
  pub write_bad : (HasSlip k a → ⊥) → WriteSlipDone s i k a (Refused 16) s
  unfolding WriteSlipDone
  write_bad n = (inl (refl, n), refl)

  -- by a refusal that was handed on
  pub write_refused : (r : Result ℕ Refusal) (e : Refusal) → IsErrAnd r (λ (x : Refusal). x ≡ e) → (e ≡ NoSuchSlip) × (HasSlip k a → ⊥)
      → WriteSlipDone s i k a (wrote_said r) s
  write_refused r e h (is, n) = subst (λ (x : Result ℕ Refusal). WriteSlipDone s i k a (wrote_said x) s) (sym (refused_as r e h ∙ ap Err is)) (write_bad n)

  pub write_full : HasSlip k a → length s < i + length (slip k a) → WriteSlipDone s i k a (Refused 17) s
  unfolding WriteSlipDone
  write_full h l = (inr (refl, h, l), refl)

  -- m is the slip that was made, and its bytes stand from the offset on
  pub write_done : (m : Made) → MadeSlip k a m → HasSlip k a → i + m.size ≤ length s
      → WriteSlipDone s i k a (Next (i + m.size)) (take i s ++ (take m.size m.bytes ++ drop (i + m.size) s))
  unfolding WriteSlipDone
  write_done m d h l = (h, ap (λ (n : ℕ). i + n) d.size, l, ap (λ (b : List ℕ). take i s ++ (b ++ drop (i + m.size) s)) d.bytes)
