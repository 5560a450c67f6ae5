-- One block has one reading: two readings of it under the same marks say the same.
--
--   one_kind      a corrected block has one kind; one_lowest: there is one lowest card
--   reads_agree   two readings of one block under the same marks agree in the answer and in the output; reads_only: so that one says
--                 exactly what can be read
--   under_agree   the same under a mark record, with the built-in labels
use mathlib.Core.Logic.{◌≢◌, ◌⊎◌, inl, inr, ◌↔◌}
use mathlib.Core.Path.{◌≡◌, refl, sym, ap, ap₂, ◌∙◌, subst}
use mathlib.Core.List.{List}
use Prim.Native.Nat.{ℕ, ◌<◌, ◌≤◌}
use native.Mathlib.Omega.{arith}
use Rattle.std.proofs.lemmas.Bool.{cases_eq, cases_lt}
use Rattle.answer.specs.Answer.{Answer, done, clean, in_chips, in_card, counted, refused, refused_card}
use Rattle.answer.proofs.Causes.{Agreed}
use Rattle.code.specs.Block.{changes, OneMember, NoMember, TwoMembers}
use Rattle.code.specs.Labels.{built_in}
use Rattle.marks.specs.Marks.{marked_chips}
use Rattle.marks.specs.declared.Marks.{Marks}
use Rattle.std.specs.declared.option.Option.{Option}
use Rattle.std.specs.Prelude.{None, Some}
use Rattle.reading.specs.Allowed.{OfChipKind}
use Rattle.reading.specs.Reading.{S, LowestReaching, OnCard, Reads, ReadsUnder}
use Rattle.reading.proofs.Facts.{apart, by_marked, unchanged}

-- the card that a change not of the chip kind is told by
one_card : (c : Option ℕ) (ps b x : List ℕ) (i j : ℕ) → (OfChipKind c ps b x → ⊥) → OnCard c i ps b x → OnCard c j ps b x → i ≡ j
one_card (Some m) ps b x i j n g h = g ∙ sym h
one_card None ps b x i j n g h = pick (cases_eq i j)
  where
    pick : (i ≡ j) ⊎ (i ≢ j) → i ≡ j
    pick (inl q) = q
    pick (inr q) = absurd (n (by_marked ps b x (apart ps b x i j q g.1 h.1)))

module _ (ls : List ℕ) (c : Option ℕ) (ps b out : List ℕ) where
  -- how a corrected block x is told
  data Kind (x : List ℕ) : Answer → Type 0 where
    as_clean : x ≡ b → Kind x clean
    as_chips : (n : ℕ) → x ≢ b → n ≡ changes b x → OfChipKind c ps b x → Kind x (in_chips n)
    as_card : (j n : ℕ) → n ≡ changes b x → (OfChipKind c ps b x → ⊥) → OnCard c j ps b x → Kind x (in_card j n)

  -- what a reading comes to
  data Outcome (x : List ℕ) : Answer → Type 0 where
    corrected : {a : Answer} → OneMember (S ls c ps b) x → Kind x a → Outcome x a
    none : NoMember (S ls c ps b) → x ≡ out → Outcome x (refused 10)
    several : (j : ℕ) → TwoMembers (S ls c ps b) → LowestReaching ls ps b j → x ≡ out → Outcome x (refused_card 11 j)

  outcome : (a : Answer) (x : List ℕ) → Reads ls c ps b out a x → Outcome x a
  outcome clean x h = corrected h.0 (as_clean h.1)
  outcome (in_chips n) x h = corrected h.0 (as_chips n h.1 h.2 h.3)
  outcome (in_card j n) x h = corrected h.0 (as_card j n h.1 h.2 h.3)
  outcome (refused n) x h = subst (λ (k : ℕ). Outcome x (refused k)) (sym h.0) (none h.1 h.2)
  outcome (refused_card n j) x h = subst (λ (k : ℕ). Outcome x (refused_card k j)) (sym h.0) (several j h.1 h.2 h.3)
  outcome done x h = absurd h
  outcome (counted v w y z u) x h = absurd h

  still : (x : List ℕ) → x ≡ b → OfChipKind c ps b x
  still x e = subst (OfChipKind c ps b) (sym e) (unchanged c ps b)

  one_kind : (x : List ℕ) (a a' : Answer) → Kind x a → Kind x a' → a ≡ a'
  one_kind x a a' (as_clean e) (as_clean f) = refl
  one_kind x a a' (as_clean e) (as_chips n f k o) = absurd (f e)
  one_kind x a a' (as_clean e) (as_card j n k o w) = absurd (o (still x e))
  one_kind x a a' (as_chips n f k o) (as_clean e) = absurd (f e)
  one_kind x a a' (as_chips n f k o) (as_chips n' f' k' o') = ap in_chips (k ∙ sym k')
  one_kind x a a' (as_chips n f k o) (as_card j n' k' o' w) = absurd (o' o)
  one_kind x a a' (as_card j n k o w) (as_clean e) = absurd (o (still x e))
  one_kind x a a' (as_card j n k o w) (as_chips n' f k' o') = absurd (o o')
  one_kind x a a' (as_card j n k o w) (as_card j' n' k' o' w') = ap₂ in_card (one_card c ps b x j j' o w w') (k ∙ sym k')

  one_lowest : (i j : ℕ) → LowestReaching ls ps b i → LowestReaching ls ps b j → i ≡ j
  one_lowest i j h g = pick (cases_lt i j) (cases_lt j i)
    where
      pick : (i < j) ⊎ (j ≤ i) → (j < i) ⊎ (i ≤ j) → i ≡ j
      pick (inl l) k = absurd (g.1 i (omega arith) h.0)
      pick (inr l) (inl k) = absurd (h.1 j (omega arith) g.0)
      pick (inr l) (inr k) = omega arith

  two_in_one : (x : List ℕ) → OneMember (S ls c ps b) x → TwoMembers (S ls c ps b) → ⊥
  two_in_one x o t = t.4 (o.1 t.0 t.2 ∙ sym (o.1 t.1 t.3))

  agree : (a a' : Answer) (x x' : List ℕ) → Outcome x a → Outcome x' a' → Agreed a a' x x'
  agree a a' x x' (corrected o k) (corrected o' k') =
      let e : x' ≡ x = o.1 x' o'.0 in
      (one_kind x a a' k (subst (λ (y : List ℕ). Kind y a') e k'), sym e)
  agree a a' x x' (corrected o k) (none n e) = absurd (n x o.0)
  agree a a' x x' (corrected o k) (several j t r e) = absurd (two_in_one x o t)
  agree a a' x x' (none n e) (corrected o k) = absurd (n x' o.0)
  agree a a' x x' (none n e) (none n' e') = (refl, e ∙ sym e')
  agree a a' x x' (none n e) (several j t r e') = absurd (n t.0 t.2)
  agree a a' x x' (several j t r e) (corrected o k) = absurd (two_in_one x' o t)
  agree a a' x x' (several j t r e) (none n e') = absurd (n t.0 t.2)
  agree a a' x x' (several j t r e) (several j' t' r' e') = (ap (refused_card 11) (one_lowest j j' r r'), e ∙ sym e')

  pub reads_agree : (a a' : Answer) (x x' : List ℕ) → Reads ls c ps b out a x → Reads ls c ps b out a' x' → Agreed a a' x x'
  reads_agree a a' x x' h h' = agree a a' x x' (outcome a x h) (outcome a' x' h')

  -- one reading says which there are
  pub reads_only : (a : Answer) (x : List ℕ) → Reads ls c ps b out a x → (a' : Answer) (x' : List ℕ) → Reads ls c ps b out a' x' ↔ ((a' ≡ a) × (x' ≡ x))
  reads_only a x h a' x' = (λ g. reads_agree a' a x' x g h, λ w. rw (w.0, w.1) h)

pub under_agree : (m : Marks) (b out : List ℕ) (a a' : Answer) (x x' : List ℕ) → ReadsUnder m b out a x → ReadsUnder m b out a' x' → Agreed a a' x x'
under_agree m b out a a' x x' h h' = reads_agree built_in m.card (marked_chips m) b out a a' x x' h h'
