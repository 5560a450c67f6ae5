-- A mark that is there, placed again; and a call that was done, made once more.
--
--   insert_there, insert_in     a chip that is there is not put there again; one that was put there is
--   already_can, already_same   placing a mark that is there is not refused, and changes nothing
--   placed_there                a mark that was placed is there; lifted_again: one that was lifted is not, and to lift it again is 9
--   mark_again, mark_same       THE STATEMENTS
use Prim.Native.Nat.{ℕ}
use mathlib.Core.Path.{◌≡◌, refl, sym, ap, ◌∙◌, subst}
use mathlib.Core.Bool.{Bool, true, false, not, true≢false, false≢true}
use mathlib.Core.List.{List, [], ◌∷◌, ◌++◌}
use native.Mathlib.Omega.{arith}
use lib.Dec.{eqb}
use borrow.Author.Tests.{eq-eqb, lt-ltb}
use Rattle.base.specs.Base.{if, In, is_in}
use Rattle.base.proofs.Few.{few_in, few_length}
use Rattle.base.proofs.Lists.{in_is_in, is_in_in}
use Rattle.base.proofs.Tests.{and_no}
use Rattle.marks.specs.Marks.{LawfulMarks, CardInRange, marked_chips, is_marked}
use Rattle.marks.specs.Mark.{of_chips, insert, remove, marked, some_card, mark_cause, places, Already, MarkAgain, MarkSame}
use Rattle.marks.specs.declared.Marks.{Marks}
use Rattle.marks.specs.declared.MarkCall.{MarkCall}
use Rattle.marks.specs.declared.MarkCall.TheVariants.{PlaceChip, LiftChip, PlaceCard, LiftCard}
use Rattle.marks.proofs.Few.{kept, added_in, removed, removed_out}
use Rattle.marks.proofs.Laws.{few_chips, of_few, Can, can, mark_can, mark_done, marked_lawful, absent_refused, not_in, placed_few}

-- ---- a mark that is there
pub insert_there : (p : ℕ) (l : List ℕ) → In p l → insert p l ≡ l
insert_there p l i = simp (in_is_in p l i)

pub already_can : (m : Marks) (c : MarkCall) → LawfulMarks m → Already m c → Can m c
unfolding is_marked
already_can m (PlaceChip p) l i = record {
  lawful = l;
  asked = lt-ltb p 45 (few_in 2 (marked_chips m) (few_chips m l) p i);
  room = simp (in_is_in p (marked_chips m) i) (and_no (eqb m.count 2));
  there = refl;
}
already_can m (LiftChip p) l i = absurd i
already_can m (PlaceCard j) l e =
    record { lawful = l; asked = lt-ltb j 5 (subst CardInRange e l.card); room = simp (e, eq-eqb j j refl); there = refl }
already_can m LiftCard l i = absurd i

pub already_same : (m : Marks) (c : MarkCall) → LawfulMarks m → Already m c → marked m c ≡ m
unfolding marked
already_same m (PlaceChip p) l i = ap (of_chips m.card) (insert_there p (marked_chips m) i) ∙ of_few m l
already_same m (LiftChip p) l i = absurd i
already_same m (PlaceCard j) l e = simp (sym e)
already_same m LiftCard l i = absurd i

-- ---- a call that was done, made once more
-- the mark that was placed is there
insert_in : (p : ℕ) (l : List ℕ) → In p (insert p l)
insert_in p l = go (is_in p l) refl
  where
    go : (t : Bool) → is_in p l ≡ t → In p (if t l (l ++ (p ∷ [])))
    go true e = is_in_in p l e
    go false e = added_in p l

pub placed_there : (m : Marks) (c : MarkCall) → places c ≡ true → mark_cause m c ≡ 0 → Already (marked m c) c
unfolding marked
placed_there m (PlaceChip p) t e =
    let l = insert p (marked_chips m) in
    subst (In p) (sym (kept m.card l (few_length 2 l (placed_few m p (can m (PlaceChip p) e))))) (insert_in p (marked_chips m))
placed_there m (LiftChip p) t e = absurd (false≢true t)
placed_there m (PlaceCard j) t e = refl
placed_there m LiftCard t e = absurd (false≢true t)

-- the one that was lifted is not
lifted_out : (m : Marks) (p : ℕ) → LawfulMarks m → is_marked (marked m (LiftChip p)) p ≡ false
unfolding marked is_marked
lifted_out m p l =
    let f = few_chips m l in
    let r = remove p (marked_chips m) in
    ap (is_in p) (kept m.card r (few_length 2 r (removed 2 p (marked_chips m) f))) ∙ not_in p r (removed_out 2 p (marked_chips m) f)

card_lifted : (m : Marks) → not (some_card (marked m LiftCard).card) ≡ true
unfolding marked
card_lifted m = refl

pub lifted_again : (m : Marks) (c : MarkCall) → places c ≡ false → mark_cause m c ≡ 0 → mark_cause (marked m c) c ≡ 9
lifted_again m c t e = go c t (can m c e) (marked_lawful m c e)
  where
    go : (c : MarkCall) → places c ≡ false → Can m c → LawfulMarks (marked m c) → mark_cause (marked m c) c ≡ 9
    go (PlaceChip p) t h l = absurd (true≢false t)
    go (LiftChip p) t h l = absent_refused (marked m (LiftChip p)) (LiftChip p) l h.asked (ap not (lifted_out m p h.lawful))
    go (PlaceCard j) t h l = absurd (true≢false t)
    go LiftCard t h l = absent_refused (marked m LiftCard) LiftCard l refl (card_lifted m)

-- ---- the statements
pub mark_again : MarkAgain
mark_again m c a m' l i d =
    let h = mark_done m c a m' (mark_can m c (already_can m c l i)) d in
    (h.0, h.1 ∙ already_same m c l i)

pub mark_same : MarkSame
mark_same m c e = (go (places c) refl, λ i. already_same m c (can m c e).lawful i)
  where
    -- a mark that was placed is there, and one that was lifted is not
    go : (t : Bool) → places c ≡ t → marked m c ≡ m → Already m c
    go true p q = subst (λ (x : Marks). Already x c) q (placed_there m c p e)
    go false p q = absurd (omega (arith, sym (lifted_again m c p e) ∙ ap (λ (x : Marks). mark_cause x c) q ∙ e))
