-- Laws of the mark record and of the calls that place and lift a mark: what the crates above this one use.
--
--   fresh_lawful                        a fresh record is lawful
--   lawful_cause, cause_lawful          a record is lawful exactly when no cause is given
--   four_long                           a record has four bytes
--   bytes_of_bytes, of_bytes_bytes      four bytes are those of their record; a lawful record is that of its bytes
--   bytes_marks_in, marks_in_bytes      the same, for bytes of which only the length is known
--   marks_in_other                      bytes of another length are refused with 6
--   few_chips, chips_counted, of_few    a lawful record: its chips are few; the count counts them; it is that of its card mark and its chips
--   mark_causes, mark_cause_is          the number of a call is exactly the lowest of the causes that hold
--   own_first, own_some                 where what is asked for is in its range, the record's own causes come first
--   Can, can, mark_can                  a call is not refused exactly when these hold
--   within                              the number, where the record is lawful and the call within its range
--   unmarked, not_in                    a chip that is not there, as a test and as a fact
--   room_for, placed_few                a chip that is not there has a place; the chips after one is placed are few
--   marked_lawful                       a call that is done leaves a lawful record
--   mark_done, mark_refused             what is learnt of a call by its number; mark_done_lawful: a lawful record stays so, done or refused
--   third_refused, card_refused         a third chip mark is 8, and another card
--   absent_refused                      a mark to lift that is not there is 9
use Prim.Native.Nat.{ℕ, zero, suc, ◌<◌}
use mathlib.Core.Path.{◌≡◌, refl, sym, ap, ◌∙◌, subst}
use mathlib.Core.Logic.{◌≢◌, inr, by_cases}
use mathlib.Core.Bool.{Bool, true, false, ◌&&◌, not, true≢false, false≢true}
use mathlib.Core.List.{List, [], ◌∷◌, ◌++◌}
use lib.ListN.{length}
use native.Mathlib.Decide.{ℕ_discrete}
use native.Mathlib.Omega.{arith}
use lib.Dec.{eqb}
use borrow.Author.Tests.{eq-eqb, ne_eqb, lt-ltb, ltb-true, eqb-false, not-false}
use Rattle.std.proofs.lemmas.Bool.{and_parts}
use Rattle.base.specs.Base.{if, In, is_in, Few}
use Rattle.base.proofs.Lists.{in_is_in, is_in_in}
use Rattle.base.proofs.Tests.{and_yes}
use Rattle.answer.specs.Answer.{Answer, done, refused, By}
use Rattle.answer.specs.Cause.{Cause, cause, lowest}
use Rattle.answer.proofs.Causes.{none_holds, Lowest, lowest_is, by_accepted, or_else, lowest_append, else_first}
use Rattle.marks.specs.Marks.{LawfulMarks, CardInRange, fresh_marks, marked_chips, is_marked, in_range, two_equal, marks_cause}
use Rattle.marks.specs.Marks.{card_byte, bytes, of_bytes, marks_in}
use Rattle.marks.specs.Mark.{of_chips, insert, remove, marked, asked_in_range, too_many, absent, mark_cause, MarkDone}
use Rattle.std.specs.declared.option.Option.{Option}
use Rattle.std.specs.Prelude.{None, Some}
use Rattle.marks.specs.declared.Marks.{Marks}
use Rattle.marks.specs.declared.MarkCall.{MarkCall}
use Rattle.marks.specs.declared.MarkCall.TheVariants.{PlaceChip, LiftChip, PlaceCard, LiftCard}
use Rattle.marks.proofs.Tests.{places_test, lawful_within, lawful_range, lawful_two, tests_lawful}
use Rattle.marks.proofs.Few.{places_few, places_count, places_back, few_lawful, added, removed}

-- ---- a record is lawful exactly when no cause is given
pub fresh_lawful : LawfulMarks fresh_marks
fresh_lawful = record { card = tt; count = omega arith; first = inr (refl, refl); second = inr (omega arith, refl); differ = λ e. absurd (omega arith) }

pub lawful_cause : (m : Marks) → LawfulMarks m → marks_cause m ≡ 0
unfolding marks_cause
lawful_cause m l = simp (lawful_range l, lawful_two l)

pub cause_lawful : (m : Marks) → marks_cause m ≡ 0 → LawfulMarks m
unfolding marks_cause
cause_lawful m e =
    let six = none_holds 5 _ (cause 7 (two_equal m) ∷ []) e in
    tests_lawful m (not-false _ six.0) (none_holds 6 _ [] six.1).0

-- ---- a record and its bytes
pub four_long : (m : Marks) → length (bytes m) ≡ 4
four_long m = refl

pub bytes_of_bytes : (a b c d : ℕ) → bytes (of_bytes (a ∷ b ∷ c ∷ d ∷ [])) ≡ a ∷ b ∷ c ∷ d ∷ []
unfolding of_bytes
bytes_of_bytes a b c d = by_cases (ℕ_discrete a 255) (λ e. simp e) (λ n. simp (ne_eqb a 255 n))

card_back : (card : Option ℕ) → CardInRange card → if (eqb (card_byte card) 255) None (Some (card_byte card)) ≡ card
card_back None h = refl
card_back (Some j) h = simp (ne_eqb j 255 (λ e. omega arith))

pub of_bytes_bytes : (m : Marks) → LawfulMarks m → of_bytes (bytes m) ≡ m
unfolding of_bytes
of_bytes_bytes m l = simp (card_back m.card l.card)

pub marks_in_bytes : (m : Marks) → LawfulMarks m → marks_in (bytes m) ≡ m
unfolding marks_in
marks_in_bytes m l = of_bytes_bytes m l

pub bytes_marks_in : (b : List ℕ) → length b ≡ 4 → bytes (marks_in b) ≡ b
unfolding marks_in
bytes_marks_in [] e = absurd (omega arith)
bytes_marks_in (w ∷ []) e = absurd (omega arith)
bytes_marks_in (w ∷ x ∷ []) e = absurd (omega arith)
bytes_marks_in (w ∷ x ∷ y ∷ []) e = absurd (omega arith)
bytes_marks_in (w ∷ x ∷ y ∷ z ∷ []) e = bytes_of_bytes w x y z
bytes_marks_in (w ∷ x ∷ y ∷ z ∷ v ∷ b) e = absurd (omega arith)

pub marks_in_other : (b : List ℕ) → length b ≢ 4 → marks_cause (marks_in b) ≡ 6
unfolding marks_in marks_cause in_range two_equal
marks_in_other b h = simp (ne_eqb (length b) 4 h)

-- ---- the marked chips of a lawful record
pub few_chips : (m : Marks) → LawfulMarks m → Few 2 (marked_chips m)
few_chips m l = places_few m.count m.first m.second (places_test (lawful_within l)) l.differ

pub chips_counted : (m : Marks) → LawfulMarks m → length (marked_chips m) ≡ m.count
chips_counted m l = places_count m.count m.first m.second l.count

pub of_few : (m : Marks) → LawfulMarks m → of_chips m.card (marked_chips m) ≡ m
of_few m l = places_back m.card m.count m.first m.second (places_test (lawful_within l))

-- ---- the number of a call
abbrev pub mark_causes : Marks → MarkCall → List Cause
mark_causes m c =
    cause 6 (not (in_range m && asked_in_range c)) ∷ cause 7 (two_equal m) ∷ cause 8 (too_many m c) ∷ cause 9 (absent m c) ∷ []

pub mark_cause_is : (m : Marks) (c : MarkCall) → Lowest (mark_cause m c) (mark_causes m c)
unfolding mark_cause
mark_cause_is m c = lowest_is (mark_causes m c) (omega arith, (omega arith, (omega arith, (omega arith, tt))))

and_yes_too : (t : Bool) → t && true ≡ t
and_yes_too true = refl
and_yes_too false = refl

pub own_first : (m : Marks) (c : MarkCall) → asked_in_range c ≡ true
    → mark_cause m c ≡ or_else (marks_cause m) (lowest (cause 8 (too_many m c) ∷ cause 9 (absent m c) ∷ []))
unfolding mark_cause marks_cause
own_first m c e =
    ap (λ (t : Bool). lowest (cause 6 (not t) ∷ cause 7 (two_equal m) ∷ cause 8 (too_many m c) ∷ cause 9 (absent m c) ∷ []))
    (ap (λ (t : Bool). in_range m && t) e ∙ and_yes_too (in_range m))
    ∙ lowest_append (cause 6 (not (in_range m)) ∷ cause 7 (two_equal m) ∷ []) (cause 8 (too_many m c) ∷ cause 9 (absent m c) ∷ []) tt

pub own_some : (m : Marks) (c : MarkCall) (n : ℕ) → asked_in_range c ≡ true → n ≡ marks_cause m → n ≢ 0 → mark_cause m c ≡ n
own_some m c n e q z = own_first m c e ∙ ap (λ (k : ℕ). or_else k (lowest (cause 8 (too_many m c) ∷ cause 9 (absent m c) ∷ []))) (sym q)
    ∙ else_first n (lowest (cause 8 (too_many m c) ∷ cause 9 (absent m c) ∷ [])) z

-- ---- what holds where a call is not refused
pub record Can (m : Marks) (c : MarkCall) : Type 0 where
  pub lawful : LawfulMarks m
  pub asked : asked_in_range c ≡ true
  pub room : too_many m c ≡ false
  pub there : absent m c ≡ false

pub can : (m : Marks) (c : MarkCall) → mark_cause m c ≡ 0 → Can m c
unfolding mark_cause
can m c e =
    let six = none_holds 5 _ (cause 7 (two_equal m) ∷ cause 8 (too_many m c) ∷ cause 9 (absent m c) ∷ []) e in
    let seven = none_holds 6 _ (cause 8 (too_many m c) ∷ cause 9 (absent m c) ∷ []) six.1 in
    let eight = none_holds 7 _ (cause 9 (absent m c) ∷ []) seven.1 in
    let nine = none_holds 8 _ [] eight.1 in
    let within = and_parts _ _ (not-false _ six.0) in
    record { lawful = tests_lawful m within.0 seven.0; asked = within.1; room = eight.0; there = nine.0 }

-- of a lawful record and a call within its range
pub within : (m : Marks) (c : MarkCall) → LawfulMarks m → asked_in_range c ≡ true
    → mark_cause m c ≡ lowest (cause 8 (too_many m c) ∷ cause 9 (absent m c) ∷ [])
unfolding mark_cause
within m c l h = simp (lawful_range l, lawful_two l, h)

-- and so it is refused only where one of them fails
pub mark_can : (m : Marks) (c : MarkCall) → Can m c → mark_cause m c ≡ 0
mark_can m c h = within m c h.lawful h.asked ∙ simp (h.room, h.there)

-- ---- a call that is done leaves a lawful record
pub unmarked : (m : Marks) (p : ℕ) → is_marked m p ≡ false → In p (marked_chips m) → ⊥
unfolding is_marked
unmarked m p h i = true≢false (sym (in_is_in p (marked_chips m) i) ∙ h)

pub not_in : (p : ℕ) (l : List ℕ) → (In p l → ⊥) → is_in p l ≡ false
not_in p l h = go (is_in p l) refl
  where
    go : (t : Bool) → is_in p l ≡ t → t ≡ false
    go true e = absurd (h (is_in_in p l e))
    go false e = refl

-- a chip to place is there, or there is room for it
pub room_for : (m : Marks) (p : ℕ) → Can m (PlaceChip p) → is_marked m p ≡ false → length (marked_chips m) < 2
room_for m p h n =
    let room : too_many m (PlaceChip p) ≡ false = h.room in
    let two : eqb m.count 2 ≡ false = sym (and_yes _) ∙ (simp n at room) in
    omega (arith, chips_counted m h.lawful, h.lawful.count, eqb-false m.count 2 two)

pub placed_few : (m : Marks) (p : ℕ) → Can m (PlaceChip p) → Few 2 (insert p (marked_chips m))
unfolding is_marked
placed_few m p h = go (is_marked m p) refl
  where
    few : Few 2 (marked_chips m)
    few = few_chips m h.lawful

    go : (t : Bool) → is_marked m p ≡ t → Few 2 (if t (marked_chips m) (marked_chips m ++ (p ∷ [])))
    go true e = few
    go false e = added p (marked_chips m) few (room_for m p h e) (ltb-true p 45 h.asked) (unmarked m p e)

pub marked_lawful : (m : Marks) (c : MarkCall) → mark_cause m c ≡ 0 → LawfulMarks (marked m c)
unfolding marked
marked_lawful m (PlaceChip p) e = let h = can m (PlaceChip p) e in few_lawful m.card (insert p (marked_chips m)) h.lawful.card (placed_few m p h)
marked_lawful m (LiftChip p) e =
    let l = (can m (LiftChip p) e).lawful in
    few_lawful m.card (remove p (marked_chips m)) l.card (removed 2 p (marked_chips m) (few_chips m l))
marked_lawful m (PlaceCard j) e =
    let h = can m (PlaceCard j) e in
    let l = h.lawful in
    record { card = ltb-true j 5 h.asked; count = l.count; first = l.first; second = l.second; differ = l.differ }
marked_lawful m LiftCard e =
    let l = (can m LiftCard e).lawful in
    record { card = tt; count = l.count; first = l.first; second = l.second; differ = l.differ }

-- ---- a call by its number
pub mark_done : (m : Marks) (c : MarkCall) (a : Answer) (m' : Marks) → mark_cause m c ≡ 0 → MarkDone m c a m'
    → (a ≡ done) × (m' ≡ marked m c)
unfolding MarkDone
mark_done m c a m' e d = by_accepted (mark_cause m c) a (m' ≡ m) ((a ≡ done) × (m' ≡ marked m c)) e d

pub mark_refused : (m : Marks) (c : MarkCall) (a : Answer) (m' : Marks) (n : ℕ) → mark_cause m c ≡ suc n → MarkDone m c a m'
    → (a ≡ refused (suc n)) × (m' ≡ m)
unfolding MarkDone
mark_refused m c a m' n e d = subst (λ (k : ℕ). By k a (m' ≡ m) ((a ≡ done) × (m' ≡ marked m c))) e d

pub mark_done_lawful : (m : Marks) (c : MarkCall) (a : Answer) (m' : Marks) → LawfulMarks m → MarkDone m c a m' → LawfulMarks m'
mark_done_lawful m c a m' l d = go (mark_cause m c) refl
  where
    go : (n : ℕ) → mark_cause m c ≡ n → LawfulMarks m'
    go zero e = subst LawfulMarks (sym (mark_done m c a m' e d).1) (marked_lawful m c e)
    go (suc n) e = subst LawfulMarks (sym (mark_refused m c a m' n e d).1) l

-- ---- the mark is one too many, or is not there
pub third_refused : (m : Marks) (p : ℕ) → LawfulMarks m → m.count ≡ 2 → p < 45 → is_marked m p ≡ false → mark_cause m (PlaceChip p) ≡ 8
third_refused m p l e h i = within m (PlaceChip p) l (lt-ltb p 45 h) ∙ simp (i, eq-eqb m.count 2 e)

pub card_refused : (m : Marks) (i j : ℕ) → LawfulMarks m → m.card ≡ Some i → j < 5 → i ≢ j → mark_cause m (PlaceCard j) ≡ 8
card_refused m i j l e h d = within m (PlaceCard j) l (lt-ltb j 5 h) ∙ simp (e, ne_eqb i j d)

pub absent_refused : (m : Marks) (c : MarkCall) → LawfulMarks m → asked_in_range c ≡ true → absent m c ≡ true → mark_cause m c ≡ 9
absent_refused m (PlaceChip p) l h e = absurd (false≢true e)
absent_refused m (LiftChip p) l h e = within m (LiftChip p) l h ∙ simp e
absent_refused m (PlaceCard j) l h e = absurd (false≢true e)
absent_refused m LiftCard l h e = within m LiftCard l h ∙ simp e
