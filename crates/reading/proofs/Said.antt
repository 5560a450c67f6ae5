-- What a reading says in the code's own words, from what the contracts say of its answer.
--
--   reads_as           a reading where nothing is refused
--   reading_says_by    a call by its causes, whose answer is a reading
use Prim.Native.Nat.{ℕ, zero, suc}
use mathlib.Core.Path.{◌≡◌, refl, ap}
use mathlib.Core.Logic.{inl, inr}
use mathlib.Core.List.{List}
use native.Mathlib.Omega.{arith}
use Rattle.std.specs.Prelude.{Ok, Err}
use Rattle.answer.specs.Answer.{Answer, done, clean, in_chips, in_card, counted, refused, refused_card, number, By}
use Rattle.marks.specs.declared.Marks.{Marks}
use Rattle.reading.specs.Reading.{Reading, reading_answer, ReadsUnder}
use Rattle.reading.specs.Said.{ReadsAs, ReadingSays}
use Rattle.reading.specs.declared.Kind.{Kind}
use Rattle.reading.specs.declared.Kind.TheVariants.{Clean, Chips, OneCard}
use Rattle.reading.specs.declared.Fault.TheVariants.{Several, Refused}

pub reads_as : (m : Marks) (b out : List ℕ) (r : Reading) (out' : List ℕ) → ReadsUnder m b out (reading_answer r) out' → ReadsAs m b out r out'
reads_as m b out (Ok Clean) out' d = d
reads_as m b out (Ok (Chips n)) out' d = d
reads_as m b out (Ok (OneCard j n)) out' d = d
reads_as m b out (Err (Several j)) out' d = (d.1, d.2, d.3)
reads_as m b out (Err (Refused n)) out' d = d

corrected : (k : Kind) → number (reading_answer (Ok k)) ≡ 0
corrected Clean = refl
corrected (Chips n) = refl
corrected (OneCard j n) = refl

-- the card that is told with "several"; a refusal of the arguments tells none
named : Answer → ℕ
named (refused_card n j) = 1
named (refused n) = 0
named done = 0
named clean = 0
named (in_chips n) = 0
named (in_card j n) = 0
named (counted v w x y z) = 0

pub reading_says_by : (n : ℕ) (r : Reading) (unchanged did said : Type 0) → (n ≡ 0 → did → said) → By n (reading_answer r) unchanged did
    → ReadingSays n unchanged said r
unfolding named
reading_says_by zero (Ok k) unchanged did said f d = (refl, f refl d)
reading_says_by zero (Err (Several j)) unchanged did said f d = (refl, f refl d)
reading_says_by zero (Err (Refused c)) unchanged did said f d = inl (refl, f refl d)
reading_says_by (suc n) (Ok k) unchanged did said f (e, u) = absurd (omega (arith, ap number e, corrected k))
reading_says_by (suc n) (Err (Several j)) unchanged did said f (e, u) = absurd (omega (arith, ap named e))
reading_says_by (suc n) (Err (Refused c)) unchanged did said f (e, u) = inr ((λ z. omega (arith, z)), ap number e, u)
