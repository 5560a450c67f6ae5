-- When a mark call is not refused, and which marks stand after it, in plain words.
--
--   left_in           what is not taken out of a list stays in it
--   mark_accepted, mark_leaves   THE STATEMENTS
--   mark_decided      two outcomes of a call on one record are the same
use Prim.Native.Nat.{ℕ, ◌<◌}
use mathlib.Core.Path.{◌≡◌, refl, sym, ap, ◌∙◌}
use mathlib.Core.Logic.{◌≢◌, ◌⊎◌, inl, inr}
use mathlib.Core.Bool.{Bool, true, false, ◌&&◌, not, true≢false}
use mathlib.Core.List.{List, [], ◌∷◌}
use native.Mathlib.Omega.{arith}
use lib.Dec.{eqb}
use lib.ListN.{length}
use borrow.Author.Tests.{ltb-true, lt-ltb, eqb-true, ne_eqb, not-false}
use Rattle.answer.specs.Answer.{Answer}
use Rattle.answer.proofs.Causes.{Agreed, by_agree}
use Rattle.base.specs.Base.{if, In}
use Rattle.base.proofs.Few.{few_in, few_length}
use Rattle.base.proofs.Lists.{in_is_in, is_in_in}
use Rattle.marks.specs.Marks.{marked_chips, is_marked, LawfulMarks}
use Rattle.marks.specs.Mark.{of_chips, insert, remove, marked, card_is, some_card, mark_cause, MarkDone, MayAsk, MarkAccepted, MarkLeaves}
use Rattle.std.specs.declared.option.Option.{Option}
use Rattle.std.specs.Prelude.{None, Some}
use Rattle.marks.specs.declared.Marks.{Marks}
use Rattle.marks.specs.declared.MarkCall.{MarkCall}
use Rattle.marks.specs.declared.MarkCall.TheVariants.{PlaceChip, LiftChip, PlaceCard, LiftCard}
use Rattle.marks.proofs.Few.{kept, removed, removed_in, removed_out}
use Rattle.marks.proofs.Laws.{few_chips, chips_counted, Can, can, mark_can, room_for, not_in, placed_few}
use Rattle.marks.proofs.Again.{insert_there, already_can}

-- ---- the card mark, as a test and as a fact
same_or_none : (c : Option ℕ) (j : ℕ) → some_card c && not (card_is c j) ≡ false → (c ≡ Some j) ⊎ (c ≡ None)
same_or_none None j e = inr refl
same_or_none (Some i) j e = inl (ap Some (eqb-true i j (not-false _ e)))

a_card : (c : Option ℕ) → not (some_card c) ≡ false → (j : ℕ) × (c ≡ Some j)
a_card None e = absurd (true≢false e)
a_card (Some j) e = (j, refl)

-- ---- when it is not refused
to_ask : (m : Marks) (c : MarkCall) → Can m c → MayAsk m c
unfolding is_marked
to_ask m (PlaceChip p) h = (ltb-true p 45 h.asked, go (is_marked m p) refl)
  where
    go : (t : Bool) → is_marked m p ≡ t → In p (marked_chips m) ⊎ (length (marked_chips m) < 2)
    go true e = inl (is_in_in p (marked_chips m) e)
    go false e = inr (room_for m p h e)
to_ask m (LiftChip p) h = is_in_in p (marked_chips m) (not-false _ h.there)
to_ask m (PlaceCard j) h = (ltb-true j 5 h.asked, same_or_none m.card j h.room)
to_ask m LiftCard h = a_card m.card h.there

may : (m : Marks) (c : MarkCall) → LawfulMarks m → MayAsk m c → Can m c
unfolding is_marked
may m (PlaceChip p) l (h, inl i) = already_can m (PlaceChip p) l i
may m (PlaceChip p) l (h, inr room) =
    record { lawful = l; asked = lt-ltb p 45 h; room = simp (ne_eqb m.count 2 (λ e. omega (arith, chips_counted m l))); there = refl }
may m (LiftChip p) l i = record {
  lawful = l;
  asked = lt-ltb p 45 (few_in 2 (marked_chips m) (few_chips m l) p i);
  room = refl;
  there = rw (in_is_in p (marked_chips m) i) refl;
}
may m (PlaceCard j) l (h, inl e) = already_can m (PlaceCard j) l e
may m (PlaceCard j) l (h, inr e) = record { lawful = l; asked = lt-ltb j 5 h; room = rw e refl; there = refl }
may m LiftCard l (j, e) = record { lawful = l; asked = refl; room = refl; there = rw e refl }

pub mark_accepted : MarkAccepted
mark_accepted m c = ((λ e. let h = can m c e in (h.lawful, to_ask m c h)), λ h. mark_can m c (may m c h.0 h.1))

-- ---- which marks stand after it
left_in : (p q : ℕ) (l : List ℕ) → In q l → q ≢ p → In q (remove p l)
left_in p q [] i ne = absurd i
left_in p q (a ∷ l) i ne = go (eqb p a) refl i (λ z. left_in p q l z ne)
  where
    go : (t : Bool) → eqb p a ≡ t → In q (a ∷ l) → (In q l → In q (remove p l)) → In q (if t l (a ∷ remove p l))
    go true e (inl z) later = absurd (ne (z ∙ sym (eqb-true p a e)))
    go true e (inr z) later = z
    go false e (inl z) later = inl z
    go false e (inr z) later = inr (later z)

card_of : (c : Option ℕ) (l : List ℕ) → (of_chips c l).card ≡ c
card_of c [] = refl
card_of c (p ∷ []) = refl
card_of c (p ∷ q ∷ l) = refl

pub mark_leaves : MarkLeaves
unfolding marked
mark_leaves m (PlaceChip p) e =
    let chips = marked_chips m in
    let l = insert p chips in
    let is = kept m.card l (few_length 2 l (placed_few m p (can m (PlaceChip p) e))) in
    (card_of m.card l, (λ i. is ∙ insert_there p chips i), λ n. is ∙ simp (not_in p chips n))
mark_leaves m (LiftChip p) e =
    let f = few_chips m (can m (LiftChip p) e).lawful in
    let l = marked_chips m in
    let r = remove p l in
    let is = kept m.card r (few_length 2 r (removed 2 p l f)) in
    (card_of m.card r, λ q. rw is ((λ i. (removed_in p q l i, λ z. removed_out 2 p l f (rw z at i))), λ h. left_in p q l h.0 h.1))
mark_leaves m (PlaceCard j) e = (refl, refl)
mark_leaves m LiftCard e = (refl, refl)

-- ---- what it does is decided
pub mark_decided : (m : Marks) (c : MarkCall) (a a' : Answer) (x x' : Marks) → MarkDone m c a x → MarkDone m c a' x' → Agreed a a' x x'
unfolding MarkDone
mark_decided m c a a' x x' w v = by_agree (mark_cause m c) a a' m x x' _ _ w v (λ d d'. (d.0 ∙ sym d'.0, d.1 ∙ sym d'.1))
