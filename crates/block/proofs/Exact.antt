-- Every reading that is not refused says exactly what S is, and clean exactly of a lawful block.
--
--   one_not_none, one_not_two   a set with one member is not empty, and has not two
--   accepted_exactly, exactly, names_exactly, clean_exactly   THE STATEMENTS
use mathlib.Core.Logic.{◌↔◌}
use mathlib.Core.Path.{◌≡◌, refl, sym, ap, ◌∙◌, subst}
use mathlib.Core.List.{List}
use Prim.Native.Nat.{ℕ}
use native.Mathlib.Omega.{arith}
use lib.ListN.{length, take}
use Rattle.answer.specs.Answer.{Answer, done, clean, in_chips, in_card, counted, refused, refused_card, number}
use Rattle.answer.proofs.Causes.{by_accepted}
use Rattle.marks.specs.Marks.{marked_chips}
use Rattle.marks.specs.declared.Marks.{Marks}
use Rattle.marks.proofs.Laws.{lawful_cause, cause_lawful, few_chips}
use Rattle.code.specs.Block.{Lawful, OneMember, NoMember, TwoMembers}
use Rattle.code.specs.Labels.{built_in}
use Rattle.code.proofs.BuiltIn.{built_in_set}
use Rattle.reading.specs.Allowed.{OfChipKind}
use Rattle.reading.specs.Reading.{LowestReaching, ReadsUnder}
use Rattle.reading.proofs.Agree.{under_agree}
use Rattle.reading.proofs.Facts.{unchanged, clean_only, clean_lawful}
use Rattle.block.specs.Read.{read_cause, is_corrected, record_in}
use Rattle.block.specs.Exactly.{Fits, AcceptedExactly, ReadsExactly, NamesExactly, CleanExactly}
use Rattle.block.proofs.Causes.{read_none, read_marks, mend_none, mend_marks, part_whole}

one_not_none : (P : List ℕ → Type 0) (x : List ℕ) → OneMember P x → NoMember P → ⊥
one_not_none P x one none = none x one.0

one_not_two : (P : List ℕ → Type 0) (x : List ℕ) → OneMember P x → TwoMembers P → ⊥
one_not_two P x one two = two.4 (one.1 two.0 two.2 ∙ sym (one.1 two.1 two.3))

module _ (b : List ℕ) (m : Marks) (out out' : List ℕ) where
  Exact : Answer → Type 0
  Exact a =
      (number a ≡ 0 ↔ ((x : List ℕ) × OneMember (Fits m b) x)) × (number a ≡ 0 → OneMember (Fits m b) out') × (number a ≡ 10 ↔ NoMember (Fits m b))
      × (number a ≡ 11 ↔ TwoMembers (Fits m b))

  one_exact : (a : Answer) → number a ≡ 0 → OneMember (Fits m b) out' → Exact a
  unfolding Exact
  one_exact a e one = (
    ((λ z. (out', one)), λ w. e),
    (λ z. one),
    ((λ z. absurd (omega (arith, e, z))), λ n. absurd (one_not_none (Fits m b) out' one n)),
    ((λ z. absurd (omega (arith, e, z))), λ t. absurd (one_not_two (Fits m b) out' one t)),
  )

  exact : (a : Answer) → ReadsUnder m b out a out' → Exact a
  unfolding Exact
  exact clean w = one_exact clean refl w.0
  exact (in_chips n) w = one_exact (in_chips n) refl w.0
  exact (in_card j n) w = one_exact (in_card j n) refl w.0
  exact (refused n) w = (
    ((λ z. absurd (omega (arith, w.0, z))), λ o. absurd (one_not_none (Fits m b) o.0 o.1 w.1)),
    (λ z. absurd (omega (arith, w.0, z))),
    ((λ z. w.1), λ n. w.0),
    ((λ z. absurd (omega (arith, w.0, z))), λ t. absurd (w.1 t.0 t.2)),
  )
  exact (refused_card n j) w = (
    ((λ z. absurd (omega (arith, w.0, z))), λ o. absurd (one_not_two (Fits m b) o.0 o.1 w.1)),
    (λ z. absurd (omega (arith, w.0, z))),
    ((λ z. absurd (omega (arith, w.0, z))), λ n. absurd (n w.1.0 w.1.2)),
    ((λ z. w.1), λ t. w.0),
  )
  exact done w = absurd w
  exact (counted u v x y z) w = absurd w

pub accepted_exactly : AcceptedExactly
accepted_exactly n m o = (
  ((λ e. let h = read_none n m o e in (h.0, h.1, cause_lawful m h.2)), λ h. read_marks n m o h.0 h.1 ∙ lawful_cause m h.2),
  ((λ e. let h = mend_none n m e in (h.0, cause_lawful m h.1)), λ h. mend_marks n m h.0 ∙ lawful_cause m h.1),
)

pub exactly : ReadsExactly
unfolding Exact
exactly b m out a b' out' e h = exact b m out out' a (by_accepted (read_cause (length b) m (length out)) a (out' ≡ out) (ReadsUnder m b out a out') e
    h.output)

pub names_exactly : NamesExactly
names_exactly b m out a b' out' e h j =
    (forth, λ t. (under_agree m b out a (refused_card 11 j) out' out w (refl, t.0, t.1, refl)).0)
  where
    w : ReadsUnder m b out a out'
    w = by_accepted (read_cause (length b) m (length out)) a (out' ≡ out) (ReadsUnder m b out a out') e h.output

    forth : a ≡ refused_card 11 j → TwoMembers (Fits m b) × LowestReaching built_in (marked_chips m) b j
    forth q = let v = subst (λ (x : Answer). ReadsUnder m b out x out') q w in (v.1, v.2)

pub clean_exactly : CleanExactly
clean_exactly b m out a b' out' bb e h = ((forth, back a w), whole)
  where
    w : ReadsUnder m b out a out'
    w = by_accepted (read_cause (length b) m (length out)) a (out' ≡ out) (ReadsUnder m b out a out') e h.output

    at_clean : a ≡ clean → ReadsUnder m b out clean out'
    at_clean q = subst (λ (x : Answer). ReadsUnder m b out x out') q w

    forth : a ≡ clean → Lawful built_in b
    forth q = clean_lawful built_in m.card (marked_chips m) b out out' (at_clean q)

    itself : Lawful built_in b → OneMember (Fits m b) b
    itself l =
        let k = cause_lawful m (read_none (length b) m (length out) e).2 in
        clean_only built_in built_in_set (marked_chips m) (few_chips m k) b m.card k.card bb l

    back : (a : Answer) → ReadsUnder m b out a out' → Lawful built_in b → a ≡ clean
    back clean v l = refl
    back (in_chips n) v l = absurd (v.1 (sym (v.0.1 b (itself l).0)))
    back (in_card j n) v l = absurd (v.2 (subst (OfChipKind m.card (marked_chips m) b) (v.0.1 b (itself l).0) (unchanged m.card (marked_chips m) b)))
    back (refused n) v l = absurd (v.1 b (itself l).0)
    back (refused_card n j) v l = absurd (one_not_two (Fits m b) b (itself l) v.1)
    back done v l = absurd v
    back (counted u v₁ x y z) v l = absurd v

    whole : a ≡ clean → record_in out' a ≡ take 34 b
    whole q =
        let o = (at_clean q).1 in
        sym (part_whole out' a (is_corrected a) (ap length o ∙ bb.long) refl (ap is_corrected q)) ∙ ap (take 34) o
