-- A reading that hands on why a check refuses it.
--
--   fault_said   what it says
--   by_handed    a call that says so, by its causes
use Prim.Native.Nat.{ℕ}
use mathlib.Core.Path.{◌≡◌, ap, subst, sym}
use Rattle.std.specs.Prelude.{Ok, Err, IsErrAnd}
use Rattle.answer.specs.Answer.{refused, By, refusal_number}
use Rattle.answer.specs.declared.Refusal.{Refusal}
use Rattle.answer.proofs.Causes.{by_check}
use Rattle.reading.specs.Reading.{Reading, reading_answer}
use Rattle.reading.specs.declared.Fault.{Fault}
use Rattle.reading.specs.declared.Fault.TheVariants.{Refused}

pub fault_said : (r : Reading) (e : Refusal) → IsErrAnd r (λ (f : Fault). f ≡ Refused (refusal_number e)) → reading_answer r ≡ refused (refusal_number e)
fault_said (Ok k) e h = absurd h
fault_said (Err f) e h = ap (λ (x : Fault). reading_answer (Err x)) h

pub by_handed : (r : Reading) (e : Refusal) (n : ℕ) (unchanged did : Type 0) → IsErrAnd r (λ (f : Fault). f ≡ Refused (refusal_number e))
    → refusal_number e ≡ n → unchanged → By n (reading_answer r) unchanged did
by_handed (Ok k) e n unchanged did h q u = absurd h
by_handed (Err f) e n unchanged did h q u =
    subst (λ (x : Fault). By n (reading_answer (Err x)) unchanged did) (sym h) (by_check e n unchanged did q u)
