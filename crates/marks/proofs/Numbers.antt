-- When a mark call is refused, and with which number.
--
--   six_first, seven_first            the number, where the first cause holds
--   six_when, seven_when, above_seven   the number by the causes that hold
--   mark_exactly                      THE STATEMENT
use Prim.Native.Nat.{ℕ}
use mathlib.Core.Path.{◌≡◌, refl, sym, ap, ◌∙◌}
use mathlib.Core.Logic.{◌≢◌, ◌⊎◌, inl, inr, ⊎_elim, ◌↔◌}
use mathlib.Core.Bool.{Bool, true, false, ◌&&◌, not, false≢true, true≢false}
use mathlib.Core.List.{List, [], ◌∷◌}
use native.Mathlib.Omega.{arith}
use borrow.Author.Tests.{ltb-true, lt-ltb, eqb-true, eqb-false, not-true, not-false}
use Rattle.std.proofs.lemmas.Bool.{and_parts}
use Rattle.answer.specs.Cause.{Cause, cause, lowest}
use Rattle.answer.proofs.Causes.{first_holds}
use Rattle.marks.specs.Marks.{LawfulMarks, marked_chips, in_range, two_equal, is_marked, marks_cause}
use Rattle.marks.specs.Mark.{card_is, some_card, asked_in_range, too_many, absent, mark_cause, TooMany, Absent, MarkExactly}
use Rattle.std.specs.declared.option.Option.{Option}
use Rattle.std.specs.Prelude.{None, Some}
use Rattle.marks.specs.declared.Marks.{Marks}
use Rattle.marks.specs.declared.MarkCall.{MarkCall}
use Rattle.marks.specs.declared.MarkCall.TheVariants.{PlaceChip, LiftChip, PlaceCard, LiftCard}
use Rattle.marks.proofs.Tests.{tests_lawful}
use Rattle.marks.proofs.Laws.{mark_causes, chips_counted, unmarked, not_in, third_refused, card_refused, absent_refused}

-- ---- by the causes that hold
abbrev four : Bool → Bool → Bool → Bool → List Cause
four s t u v = cause 6 s ∷ cause 7 t ∷ cause 8 u ∷ cause 9 v ∷ []

six_first : (t u v : Bool) → lowest (four true t u v) ≡ 6
six_first t u v = first_holds 6 (cause 7 t ∷ cause 8 u ∷ cause 9 v ∷ []) tt

seven_first : (u v : Bool) → lowest (four false true u v) ≡ 7
seven_first u v = first_holds 7 (cause 8 u ∷ cause 9 v ∷ []) tt

-- where neither 6 nor 7 holds: 8, else 9, else none
above_seven : (u v : Bool) → (lowest (four false false u v) ≡ 8 → u ≡ true) × (lowest (four false false u v) ≡ 9 → (u ≡ false) × (v ≡ true))
    × (lowest (four false false u v) ≢ 6) × (lowest (four false false u v) ≢ 7)
above_seven true true = ((λ e. refl), (λ e. absurd (omega (arith, e))), (λ e. omega (arith, e)), λ e. omega (arith, e))
above_seven true false = ((λ e. refl), (λ e. absurd (omega (arith, e))), (λ e. omega (arith, e)), λ e. omega (arith, e))
above_seven false true = ((λ e. absurd (omega (arith, e))), (λ e. (refl, refl)), (λ e. omega (arith, e)), λ e. omega (arith, e))
above_seven false false = ((λ e. absurd (omega (arith, e))), (λ e. absurd (omega (arith, e))), (λ e. omega (arith, e)), λ e. omega (arith, e))

no_six : (t u v : Bool) → lowest (four false t u v) ≢ 6
no_six true u v e = omega (arith, sym (seven_first u v) ∙ e)
no_six false u v e = (above_seven u v).2 e

no_own_six : (t : Bool) → lowest (cause 6 false ∷ cause 7 t ∷ []) ≢ 6
no_own_six true e = omega (arith, e)
no_own_six false e = omega (arith, e)

-- the record within its ranges, the mark asked for within them, equal chips
six_when : (r a t u v : Bool) → (lowest (four (not (r && a)) t u v) ≡ 6) ↔ ((lowest (cause 6 (not r) ∷ cause 7 t ∷ []) ≡ 6) ⊎ (a ≡ false))
six_when true true t u v = ((λ e. absurd (no_six t u v e)), ⊎_elim (λ e. absurd (no_own_six t e)) (λ e. absurd (true≢false e)))
six_when true false t u v = ((λ e. inr refl), λ h. six_first t u v)
six_when false a true u v = ((λ e. inl refl), λ h. six_first true u v)
six_when false a false u v = ((λ e. inl refl), λ h. six_first false u v)

seven_when : (r a t u v : Bool) → (lowest (four (not (r && a)) t u v) ≡ 7) ↔ ((lowest (cause 6 (not r) ∷ cause 7 t ∷ []) ≡ 7) × (a ≡ true))
seven_when true true true u v = ((λ e. (refl, refl)), λ h. seven_first u v)
seven_when true true false u v = ((λ e. absurd ((above_seven u v).3 e)), λ h. absurd (omega (arith, h.0)))
seven_when true false t u v = ((λ e. absurd (omega (arith, sym (six_first t u v) ∙ e))), λ h. absurd (false≢true h.1))
seven_when false a true u v = ((λ e. absurd (omega (arith, sym (six_first true u v) ∙ e))), λ h. absurd (omega (arith, h.0)))
seven_when false a false u v = ((λ e. absurd (omega (arith, sym (six_first false u v) ∙ e))), λ h. absurd (omega (arith, h.0)))

eight_when : (s t u v : Bool) → lowest (four s t u v) ≡ 8 → (s ≡ false) × (t ≡ false) × (u ≡ true)
eight_when true t u v e = absurd (omega (arith, sym (six_first t u v) ∙ e))
eight_when false true u v e = absurd (omega (arith, sym (seven_first u v) ∙ e))
eight_when false false u v e = (refl, refl, (above_seven u v).0 e)

nine_when : (s t u v : Bool) → lowest (four s t u v) ≡ 9 → (s ≡ false) × (t ≡ false) × (v ≡ true)
nine_when true t u v e = absurd (omega (arith, sym (six_first t u v) ∙ e))
nine_when false true u v e = absurd (omega (arith, sym (seven_first u v) ∙ e))
nine_when false false u v e = (refl, refl, ((above_seven u v).1 e).1)

-- ---- as tests and as facts
other_card : (c : Option ℕ) (j : ℕ) → some_card c && not (card_is c j) ≡ true → (i : ℕ) × (c ≡ Some i) × (i ≢ j)
other_card None j e = absurd (false≢true e)
other_card (Some i) j e = (i, refl, eqb-false i j (not-true _ e))

no_card : (c : Option ℕ) → not (some_card c) ≡ true → c ≡ None
no_card None e = refl
no_card (Some i) e = absurd (false≢true e)

many_fact : (m : Marks) (c : MarkCall) → LawfulMarks m → asked_in_range c ≡ true → too_many m c ≡ true → TooMany m c
many_fact m (PlaceChip p) l h e =
    let w = and_parts _ _ e in
    (ltb-true p 45 h, chips_counted m l ∙ eqb-true m.count 2 w.0, unmarked m p (not-true _ w.1))
many_fact m (LiftChip p) l h e = absurd (false≢true e)
many_fact m (PlaceCard j) l h e = (ltb-true j 5 h, other_card m.card j e)
many_fact m LiftCard l h e = absurd (false≢true e)

many_eight : (m : Marks) (c : MarkCall) → LawfulMarks m → TooMany m c → mark_cause m c ≡ 8
unfolding is_marked
many_eight m (PlaceChip p) l (h, n, out) = third_refused m p l (sym (chips_counted m l) ∙ n) h (not_in p (marked_chips m) out)
many_eight m (LiftChip p) l w = absurd w
many_eight m (PlaceCard j) l (h, (i, e, d)) = card_refused m i j l e h d
many_eight m LiftCard l w = absurd w

absent_fact : (m : Marks) (c : MarkCall) → asked_in_range c ≡ true → absent m c ≡ true → Absent m c
absent_fact m (PlaceChip p) h e = absurd (false≢true e)
absent_fact m (LiftChip p) h e = (ltb-true p 45 h, unmarked m p (not-true _ e))
absent_fact m (PlaceCard j) h e = absurd (false≢true e)
absent_fact m LiftCard h e = no_card m.card e

absent_nine : (m : Marks) (c : MarkCall) → LawfulMarks m → Absent m c → mark_cause m c ≡ 9
unfolding is_marked
absent_nine m (PlaceChip p) l w = absurd w
absent_nine m (LiftChip p) l (h, out) = absent_refused m (LiftChip p) l (lt-ltb p 45 h) (ap not (not_in p (marked_chips m) out))
absent_nine m (PlaceCard j) l w = absurd w
absent_nine m LiftCard l e = absent_refused m LiftCard l refl (rw e refl)

-- ---- the statement
pub mark_exactly : (m : Marks) (c : MarkCall) → MarkExactly m c
unfolding mark_cause marks_cause
mark_exactly m c = record {
  six = six_when (in_range m) (asked_in_range c) (two_equal m) (too_many m c) (absent m c);
  seven = seven_when (in_range m) (asked_in_range c) (two_equal m) (too_many m c) (absent m c);
  eight = (eight, λ h. many_eight m c h.0 h.1);
  nine = (nine, λ h. absent_nine m c h.0 h.1);
}
  where
    -- where neither 6 nor 7 holds the record is lawful and the mark asked for within its range
    within : not (in_range m && asked_in_range c) ≡ false → two_equal m ≡ false → LawfulMarks m × (asked_in_range c ≡ true)
    within s t =
        let w = and_parts (in_range m) (asked_in_range c) (not-false (in_range m && asked_in_range c) s) in
        (tests_lawful m w.0 t, w.1)

    eight : lowest (mark_causes m c) ≡ 8 → LawfulMarks m × TooMany m c
    eight e =
        let w = eight_when (not (in_range m && asked_in_range c)) (two_equal m) (too_many m c) (absent m c) e in
        let h = within w.0 w.1 in
        (h.0, many_fact m c h.0 h.1 w.2)

    nine : lowest (mark_causes m c) ≡ 9 → LawfulMarks m × Absent m c
    nine e =
        let w = nine_when (not (in_range m && asked_in_range c)) (two_equal m) (too_many m c) (absent m c) e in
        let h = within w.0 w.1 in
        (h.0, absent_fact m c h.1 w.2)
