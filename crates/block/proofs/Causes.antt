-- The causes of the calls on one block, as the code looks for them, and the record part.
--
--   lengths_1, lengths_2, length_1   a wrong length; lengths_right, length_right, lengths_none, length_none: none is wrong
--   read_lengths, mend_length   what is refused of the lengths is the number of the call
--   read_marks, mend_marks      where the lengths are right, the marks decide; read_none, mend_none: where nothing is refused
--   part_short, -whole, -none   the record part: of an output that is not 45 bytes, of a corrected block, of a refusal
use mathlib.Core.Logic.{◌≢◌}
use mathlib.Core.Path.{◌≡◌, refl, sym, ap, ap₂, ◌∙◌}
use mathlib.Core.Bool.{Bool, true, false, not}
use mathlib.Core.List.{List, [], ◌∷◌}
use Prim.Native.Nat.{ℕ}
use lib.Dec.{eqb}
use lib.ListN.{length, take}
use borrow.Author.Tests.{eq-eqb, ne_eqb, eqb-true, not-false}
use Rattle.base.specs.Base.{if}
use Rattle.answer.specs.Answer.{Answer, refusal_number}
use Rattle.answer.specs.declared.Refusal.{Refusal}
use Rattle.answer.specs.Cause.{cause, lowest}
use Rattle.answer.proofs.Causes.{none_holds, or_else, lowest_append, else_first, number_given}
use Rattle.marks.specs.Marks.{marks_causes, marks_cause}
use Rattle.marks.specs.declared.Marks.{Marks}
use Rattle.block.specs.Read.{read_cause, mend_cause, is_corrected, record_in}
use Rattle.block.specs.Steps.{lengths_cause, length_cause}

-- ---- the lengths alone
pub lengths_1 : (r : Refusal) (n o : ℕ) → refusal_number r ≡ length_cause n → refusal_number r ≡ lengths_cause n o
unfolding lengths_cause length_cause
lengths_1 r n o e =
    sym (lowest_append (cause 1 (not (eqb n 45)) ∷ []) (cause 2 (not (eqb o 45)) ∷ []) tt ∙ ap (λ (k : ℕ). or_else k (lowest (cause 2 (not (eqb o 45)) ∷ []))) (sym e)
    ∙ else_first (refusal_number r) _ (number_given r))

pub lengths_2 : (n o : ℕ) → n ≡ 45 → o ≢ 45 → 2 ≡ lengths_cause n o
unfolding lengths_cause
lengths_2 n o e h = rw (eq-eqb n 45 e, ne_eqb o 45 h) refl

pub lengths_right : (n o : ℕ) → n ≡ 45 → o ≡ 45 → 0 ≡ lengths_cause n o
unfolding lengths_cause
lengths_right n o e f = rw (eq-eqb n 45 e, eq-eqb o 45 f) refl

pub length_1 : (n : ℕ) → n ≢ 45 → 1 ≡ length_cause n
unfolding length_cause
length_1 n h = rw (ne_eqb n 45 h) refl

pub length_right : (n : ℕ) → n ≡ 45 → 0 ≡ length_cause n
unfolding length_cause
length_right n e = rw (eq-eqb n 45 e) refl

pub lengths_none : (n o : ℕ) → lengths_cause n o ≡ 0 → (n ≡ 45) × (o ≡ 45)
unfolding lengths_cause
lengths_none n o e =
    let h = none_holds 0 (not (eqb n 45)) (cause 2 (not (eqb o 45)) ∷ []) e in
    (eqb-true n 45 (not-false _ h.0), eqb-true o 45 (not-false _ (none_holds 1 (not (eqb o 45)) [] h.1).0))

pub length_none : (n : ℕ) → length_cause n ≡ 0 → n ≡ 45
unfolding length_cause
length_none n e = eqb-true n 45 (not-false _ (none_holds 0 (not (eqb n 45)) [] e).0)

-- ---- the lengths, and then the marks
read_else : (n : ℕ) (m : Marks) (o : ℕ) → read_cause n m o ≡ or_else (lengths_cause n o) (marks_cause m)
unfolding read_cause lengths_cause marks_cause
read_else n m o = lowest_append (cause 1 (not (eqb n 45)) ∷ cause 2 (not (eqb o 45)) ∷ []) (marks_causes m) tt

mend_else : (n : ℕ) (m : Marks) → mend_cause n m ≡ or_else (length_cause n) (marks_cause m)
unfolding mend_cause length_cause marks_cause
mend_else n m = lowest_append (cause 1 (not (eqb n 45)) ∷ []) (marks_causes m) tt

pub read_lengths : (r : Refusal) (n : ℕ) (m : Marks) (o : ℕ) → refusal_number r ≡ lengths_cause n o → refusal_number r ≡ read_cause n m o
read_lengths r n m o e =
    sym (read_else n m o ∙ ap (λ (k : ℕ). or_else k (marks_cause m)) (sym e) ∙ else_first (refusal_number r) (marks_cause m) (number_given r))

pub mend_length : (r : Refusal) (n : ℕ) (m : Marks) → refusal_number r ≡ length_cause n → refusal_number r ≡ mend_cause n m
mend_length r n m e =
    sym (mend_else n m ∙ ap (λ (k : ℕ). or_else k (marks_cause m)) (sym e) ∙ else_first (refusal_number r) (marks_cause m) (number_given r))

pub read_marks : (n : ℕ) (m : Marks) (o : ℕ) → n ≡ 45 → o ≡ 45 → read_cause n m o ≡ marks_cause m
unfolding read_cause marks_cause
read_marks n m o e f = rw (eq-eqb n 45 e, eq-eqb o 45 f) refl

pub mend_marks : (n : ℕ) (m : Marks) → n ≡ 45 → mend_cause n m ≡ marks_cause m
unfolding mend_cause marks_cause
mend_marks n m e = rw (eq-eqb n 45 e) refl

pub mend_none : (n : ℕ) (m : Marks) → mend_cause n m ≡ 0 → (n ≡ 45) × (marks_cause m ≡ 0)
unfolding mend_cause marks_cause
mend_none n m e = let h = none_holds 0 (not (eqb n 45)) (marks_causes m) e in (eqb-true n 45 (not-false _ h.0), h.1)

pub read_none : (n : ℕ) (m : Marks) (o : ℕ) → read_cause n m o ≡ 0 → (n ≡ 45) × (o ≡ 45) × (marks_cause m ≡ 0)
unfolding read_cause marks_cause
read_none n m o e =
    let h = none_holds 0 (not (eqb n 45)) (cause 2 (not (eqb o 45)) ∷ marks_causes m) e in
    let i = none_holds 1 (not (eqb o 45)) (marks_causes m) h.1 in
    (eqb-true n 45 (not-false _ h.0), eqb-true o 45 (not-false _ i.0), i.1)

-- ---- the record part
pub part_short : (out : List ℕ) (a : Answer) → length out ≢ 45 → [] ≡ record_in out a
unfolding record_in
part_short out a h = rw (ne_eqb (length out) 45 h) refl

part_by : (out : List ℕ) (a : Answer) (t u : Bool) → length out ≡ 45 → t ≡ is_corrected a → t ≡ u → if u (take 34 out) [] ≡ record_in out a
unfolding record_in
part_by out a t u l e h = sym (ap₂ (λ (x y : Bool). if x (if y (take 34 out) []) []) (eq-eqb (length out) 45 l) (sym e ∙ h))

pub part_whole : (out : List ℕ) (a : Answer) (t : Bool) → length out ≡ 45 → t ≡ is_corrected a → t ≡ true → take 34 out ≡ record_in out a
part_whole out a t l e h = part_by out a t true l e h

pub part_none : (out : List ℕ) (a : Answer) (t : Bool) → length out ≡ 45 → t ≡ is_corrected a → t ≡ false → [] ≡ record_in out a
part_none out a t l e h = part_by out a t false l e h
