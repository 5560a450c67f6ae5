-- Lists of chips that marks can hold: two positions at most, none twice.
--
--   places_few, -count, -back  the chips of places within their ranges: few; as many as the count; the record of them
--   few_lawful                 a record of few chips is lawful; kept: and has those chips
--   added, removed             few chips with one more; with one taken out
--   added_in, removed_out      the one more is there; the one taken out is not; removed_in: what is left was there
use Prim.Native.Nat.{ℕ, zero, suc, ◌≤◌, ◌<◌}
use mathlib.Core.Path.{◌≡◌, refl, sym, subst}
use mathlib.Core.Logic.{inl, inr, ◌≢◌}
use mathlib.Core.Bool.{Bool, true, false, false≢true}
use mathlib.Core.List.{List, [], ◌∷◌, ◌++◌}
use lib.ListN.{length}
use native.Mathlib.Omega.{arith}
use lib.Dec.{eqb, ltb}
use borrow.Author.Tests.{ltb-true, eqb-true, eqb-false}
use Rattle.std.proofs.lemmas.Bool.{and_parts}
use Rattle.base.specs.Base.{if, In, Few}
use Rattle.base.proofs.Few.{few_one, few_two, few_more}
use Rattle.marks.specs.Marks.{LawfulMarks, CardInRange, chips_of, marked_chips, places_in_range}
use Rattle.marks.specs.Mark.{of_chips, remove}
use Rattle.std.specs.declared.option.Option.{Option}

-- ---- the chips of places within their ranges
pub places_few : (n a b : ℕ) → places_in_range n a b ≡ true → (n ≡ 2 → a ≢ b) → Few 2 (chips_of n a b)
places_few zero a b e d = tt
places_few (suc zero) a b e d = few_one a (ltb-true a 45 (and_parts _ _ e).0)
places_few (suc (suc zero)) a b e d = let h = and_parts _ _ e in few_two a b (ltb-true a 45 h.0) (ltb-true b 45 h.1) (d refl)
places_few (suc (suc (suc n))) a b e d = absurd (false≢true e)

pub places_count : (n a b : ℕ) → n ≤ 2 → length (chips_of n a b) ≡ n
places_count zero a b h = refl
places_count (suc zero) a b h = refl
places_count (suc (suc zero)) a b h = refl
places_count (suc (suc (suc n))) a b h = absurd (omega arith)

pub places_back : (card : Option ℕ) (n a b : ℕ) → places_in_range n a b ≡ true
    → of_chips card (chips_of n a b) ≡ record { card = card; count = n; first = a; second = b }
places_back card zero a b e = let h = and_parts _ _ e in simp (eqb-true a 255 h.0, eqb-true b 255 h.1)
places_back card (suc zero) a b e = simp (eqb-true b 255 (and_parts (ltb a 45) (eqb b 255) e).1)
places_back card (suc (suc zero)) a b e = refl
places_back card (suc (suc (suc n))) a b e = absurd (false≢true e)

-- ---- a record of few chips
pub few_lawful : (card : Option ℕ) (l : List ℕ) → CardInRange card → Few 2 l → LawfulMarks (of_chips card l)
few_lawful card [] h f = record { card = h; count = omega arith; first = inr (refl, refl); second = inr (omega arith, refl); differ = λ e. omega arith }
few_lawful card (p ∷ []) h f =
    record { card = h; count = omega arith; first = inl (omega arith, f.0); second = inr (omega arith, refl); differ = λ e. omega arith }
few_lawful card (p ∷ q ∷ []) h f =
    record { card = h; count = omega arith; first = inl (omega arith, f.0); second = inl (refl, f.2.0); differ = λ e d. f.1 (inl d) }
few_lawful card (p ∷ q ∷ r ∷ l) h f = absurd f.2.2

pub kept : (card : Option ℕ) (l : List ℕ) → length l ≤ 2 → marked_chips (of_chips card l) ≡ l
kept card [] h = refl
kept card (p ∷ []) h = refl
kept card (p ∷ q ∷ []) h = refl
kept card (p ∷ q ∷ r ∷ l) h = absurd (omega arith)

-- ---- one more
pub added : (p : ℕ) (l : List ℕ) → Few 2 l → length l < 2 → p < 45 → (In p l → ⊥) → Few 2 (l ++ (p ∷ []))
added p [] f n h d = few_one p h
added p (a ∷ []) f n h d = few_two a p f.0 h (λ e. d (inl (sym e)))
added p (a ∷ b ∷ l) f n h d = absurd (omega arith)

pub added_in : (p : ℕ) (l : List ℕ) → In p (l ++ (p ∷ []))
added_in p [] = inl refl
added_in p (a ∷ l) = inr (added_in p l)

-- ---- one taken out
pub removed_in : (p q : ℕ) (l : List ℕ) → In q (remove p l) → In q l
removed_in p q [] h = h
removed_in p q (a ∷ l) h = go (eqb p a) h (λ z. removed_in p q l z)
  where
    go : (t : Bool) → In q (if t l (a ∷ remove p l)) → (In q (remove p l) → In q l) → In q (a ∷ l)
    go true h r = inr h
    go false (inl e) r = inl e
    go false (inr h) r = inr (r h)

pub removed : (n p : ℕ) (l : List ℕ) → Few n l → Few n (remove p l)
removed n p [] f = tt
removed zero p (a ∷ l) f = absurd f
removed (suc n) p (a ∷ l) f = go (eqb p a) (removed n p l f.2)
  where
    go : (t : Bool) → Few n (remove p l) → Few (suc n) (if t l (a ∷ remove p l))
    go true r = few_more n (suc n) l (omega arith) f.2
    go false r = (f.0, (λ h. f.1 (removed_in p a l h)), r)

pub removed_out : (n p : ℕ) (l : List ℕ) → Few n l → In p (remove p l) → ⊥
removed_out n p [] f h = h
removed_out zero p (a ∷ l) f h = absurd f
removed_out (suc n) p (a ∷ l) f h = go (eqb p a) refl h (removed_out n p l f.2)
  where
    go : (t : Bool) → eqb p a ≡ t → In p (if t l (a ∷ remove p l)) → (In p (remove p l) → ⊥) → ⊥
    go true e h r = f.1 (subst (λ (x : ℕ). In x l) (eqb-true p a e) h)
    go false e (inl q) r = eqb-false p a e q
    go false e (inr h) r = r h
