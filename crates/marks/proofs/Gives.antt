-- Which answers a call that places or lifts a mark can give.
--
--   mark_numbers   the numbers of its refusals: 8 is of placing, and 9 of lifting
--   mark_gives     it is done, or refused with one of them
--   marks_number   an unlawful record is refused with 6 or 7
use Prim.Native.Nat.{ℕ}
use mathlib.Core.Logic.{◌≢◌, ◌⊎◌, inl, inr}
use mathlib.Core.Path.{◌≡◌, refl, sym, subst}
use mathlib.Core.Bool.{Bool, true, false, not, false≢true}
use mathlib.Core.List.{List, [], ◌∷◌}
use native.Mathlib.Omega.{arith}
use Rattle.base.specs.Base.{In}
use Rattle.answer.specs.Answer.{Answer}
use Rattle.answer.specs.Cause.{cause, lowest}
use Rattle.answer.proofs.Causes.{Holds}
use Rattle.answer.proofs.Gives.{Outcomes, was_done, was_refused, by_holds}
use Rattle.marks.specs.Marks.{in_range, two_equal, marks_cause}
use Rattle.marks.specs.Mark.{mark_cause, MarkDone}
use Rattle.marks.specs.declared.Marks.{Marks}
use Rattle.marks.specs.declared.MarkCall.{MarkCall}
use Rattle.marks.specs.declared.MarkCall.TheVariants.{PlaceChip, LiftChip, PlaceCard, LiftCard}
use Rattle.marks.proofs.Laws.{mark_causes}

abbrev pub mark_numbers : MarkCall → List ℕ
mark_numbers (PlaceChip p) = 6 ∷ 7 ∷ 8 ∷ []
mark_numbers (LiftChip p) = 6 ∷ 7 ∷ 9 ∷ []
mark_numbers (PlaceCard j) = 6 ∷ 7 ∷ 8 ∷ []
mark_numbers LiftCard = 6 ∷ 7 ∷ 9 ∷ []

placing : (n : ℕ) (s t u : Bool) → Holds n (cause 6 s ∷ cause 7 t ∷ cause 8 u ∷ cause 9 false ∷ []) → In n (6 ∷ 7 ∷ 8 ∷ [])
placing n s t u (inl h) = inl h.0
placing n s t u (inr (inl h)) = inr (inl h.0)
placing n s t u (inr (inr (inl h))) = inr (inr (inl h.0))
placing n s t u (inr (inr (inr (inl h)))) = absurd (false≢true h.1)
placing n s t u (inr (inr (inr (inr h)))) = absurd h

lifting : (n : ℕ) (s t u : Bool) → Holds n (cause 6 s ∷ cause 7 t ∷ cause 8 false ∷ cause 9 u ∷ []) → In n (6 ∷ 7 ∷ 9 ∷ [])
lifting n s t u (inl h) = inl h.0
lifting n s t u (inr (inl h)) = inr (inl h.0)
lifting n s t u (inr (inr (inl h))) = absurd (false≢true h.1)
lifting n s t u (inr (inr (inr (inl h)))) = inr (inr (inl h.0))
lifting n s t u (inr (inr (inr (inr h)))) = absurd h

mark_holds : (m : Marks) (call : MarkCall) (n : ℕ) → Holds n (mark_causes m call) → In n (mark_numbers call)
mark_holds m (PlaceChip p) n h = placing n _ _ _ h
mark_holds m (LiftChip p) n h = lifting n _ _ _ h
mark_holds m (PlaceCard j) n h = placing n _ _ _ h
mark_holds m LiftCard n h = lifting n _ _ _ h

pub mark_gives : (m : Marks) (call : MarkCall) (a : Answer) (m' : Marks) → MarkDone m call a m' → Outcomes (mark_numbers call) a
unfolding MarkDone mark_cause
mark_gives m call a m' w =
    by_holds (mark_causes m call) (omega arith, (omega arith, (omega arith, (omega arith, tt)))) (Outcomes (mark_numbers call)) a _ _
    (λ n h. was_refused (mark_holds m call n h)) (λ z d. subst (Outcomes (mark_numbers call)) (sym d.0) was_done) w

pub marks_number : (m : Marks) → marks_cause m ≢ 0 → (marks_cause m ≡ 6) ⊎ (marks_cause m ≡ 7)
unfolding marks_cause
marks_number m = by (not (in_range m)) (two_equal m)
  where
    by : (t u : Bool) → lowest (cause 6 t ∷ cause 7 u ∷ []) ≢ 0 → (lowest (cause 6 t ∷ cause 7 u ∷ []) ≡ 6) ⊎ (lowest (cause 6 t ∷ cause 7 u ∷ []) ≡ 7)
    by true true n = inl refl
    by true false n = inl refl
    by false true n = inr refl
    by false false n = absurd (n refl)
