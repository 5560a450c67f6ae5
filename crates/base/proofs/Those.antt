-- Laws of the numbers that pass a test, listed lowest first.
--
--   those_ext, -none       the same tests list the same; where none passes the list is empty
--   those_split, -snoc     the list of two ranges, one after the other; of a range with one number more
--   those_length           it has as many as pass
--   those_in               exactly those that pass are in it; those_rising: each is above those before it
--   rising_one             a list whose numbers rise is known by what is in it
--   two_listed             of a range in which at most two numbers pass, p before q
--   least_is, -one, -ext   what the least number that passes is; there is one only; the same tests have the same
use mathlib.Core.Logic.{◌≢◌, ◌⊎◌, inl, inr, ◌↔◌}
use mathlib.Core.Path.{◌≡◌, refl, sym, ap, ap₂, ◌∙◌, subst}
use mathlib.Core.Bool.{Bool, true, false, ◌&&◌, ◌||◌}
use mathlib.Core.List.{List, [], ◌∷◌, ◌++◌, append_assoc, append-nil}
use Prim.Native.Nat.{ℕ, zero, suc, ◌+◌, ◌<◌, ◌≤◌}
use native.Mathlib.Nat.{zero-add, add-zero, add-suc, suc-add}
use native.Mathlib.Numerals.{add-one}
use native.Mathlib.Omega.{arith}
use lib.Dec.{eqb, leb, ltb}
use lib.ListN.{length, length-append}
use borrow.Author.Tests.{eq-eqb, ne_eqb, lt-ltb, le-ltb, le-leb, lt-leb, ltb-true, ltb-false}
use Rattle.std.proofs.lemmas.Bool.{cases_eq, cases_lt}
use Rattle.base.specs.Base.{if, In, Rising, bit, tally, only, those, least}
use Rattle.base.proofs.Tests.{and_no, and_yes, or_no}
use Rattle.base.proofs.Lists.{append_in}
use Rattle.base.proofs.Tally.{clash}

pub those_ext : (n s : ℕ) (g h : ℕ → Bool) → ((i : ℕ) → s ≤ i → i < s + n → g i ≡ h i) → those s n g ≡ those s n h
unfolding those
those_ext zero s g h e = refl
those_ext (suc n) s g h e =
    ap₂ (λ (t : Bool) (l : List ℕ). only t s ++ l) (e s (omega arith) (omega arith)) (those_ext n (suc s) g h (λ i a b. e i (omega arith) (omega arith)))

pub those_none : (n s : ℕ) (g : ℕ → Bool) → ((i : ℕ) → s ≤ i → i < s + n → g i ≡ false) → those s n g ≡ []
unfolding those
those_none zero s g e = refl
those_none (suc n) s g e =
    ap₂ (λ (t : Bool) (l : List ℕ). only t s ++ l) (e s (omega arith) (omega arith)) (those_none n (suc s) g (λ i a b. e i (omega arith) (omega arith)))

pub those_split : (n s m : ℕ) (g : ℕ → Bool) → those s (n + m) g ≡ those s n g ++ those (s + n) m g
unfolding those
those_split zero s m g = ap (λ (k : ℕ). those s k g) (zero-add m) ∙ ap (λ (k : ℕ). those k m g) (sym (add-zero s))
those_split (suc n) s m g =
    ap (λ (k : ℕ). those s k g) (suc-add n m)
    ∙ ap (λ (l : List ℕ). only (g s) s ++ l) (those_split n (suc s) m g ∙ ap (λ (k : ℕ). those (suc s) n g ++ those k m g) (suc-add s n ∙ sym (add-suc s n)))
    ∙ sym (append_assoc (only (g s) s) (those (suc s) n g) (those (s + suc n) m g))

pub those_snoc : (n s : ℕ) (g : ℕ → Bool) → those s (n + 1) g ≡ those s n g ++ only (g (s + n)) (s + n)
unfolding those
those_snoc n s g = those_split n s 1 g ∙ ap (λ (l : List ℕ). those s n g ++ l) (append-nil (only (g (s + n)) (s + n)))

-- ---- as many as pass
pub only_length : (t : Bool) (p : ℕ) → length (only t p) ≡ bit t
only_length true p = refl
only_length false p = refl

those_snoc_length : (n s : ℕ) (g : ℕ → Bool) → length (those s (n + 1) g) ≡ bit (g (s + n)) + length (those s n g)
those_snoc_length n s g =
    ap length (those_snoc n s g) ∙ length-append (those s n g) (only (g (s + n)) (s + n))
    ∙ omega (arith, only_length (g (s + n)) (s + n))

pub those_length : (n s : ℕ) (g : ℕ → Bool) → length (those s n g) ≡ tally n (λ i. g (s + i))
unfolding those tally
those_length zero s g = refl
those_length (suc n) s g =
    ap (λ (k : ℕ). length (those s k g)) (sym (add-one n)) ∙ those_snoc_length n s g ∙ ap (λ (k : ℕ). bit (g (s + n)) + k) (those_length n s g)

-- ---- exactly those that pass, lowest first
only_in : (t : Bool) (p q : ℕ) → In q (only t p) → (q ≡ p) × (t ≡ true)
only_in true p q (inl e) = (e, refl)
only_in true p q (inr i) = absurd i
only_in false p q i = absurd i

in_only : (t : Bool) (p : ℕ) → t ≡ true → In p (only t p)
in_only true p e = inl refl
in_only false p e = absurd (clash false e refl)

pub in_append : (p : ℕ) (l k : List ℕ) → In p (l ++ k) → In p l ⊎ In p k
in_append p [] k i = inr i
in_append p (a ∷ l) k (inl e) = inl (inl e)
in_append p (a ∷ l) k (inr i) = go (in_append p l k i)
  where
    go : In p l ⊎ In p k → In p (a ∷ l) ⊎ In p k
    go (inl j) = inl (inr j)
    go (inr j) = inr j

passes_in : (n s : ℕ) (g : ℕ → Bool) (p : ℕ) → In p (those s n g) → (s ≤ p) × (p < s + n) × (g p ≡ true)
unfolding those
passes_in zero s g p i = absurd i
passes_in (suc n) s g p i = pick (in_append p (only (g s) s) (those (suc s) n g) i) (passes_in n (suc s) g p)
  where
    pick : In p (only (g s) s) ⊎ In p (those (suc s) n g) → (In p (those (suc s) n g) → (suc s ≤ p) × (p < suc s + n) × (g p ≡ true))
        → (s ≤ p) × (p < s + suc n) × (g p ≡ true)
    pick (inl j) f = let w = only_in (g s) s p j in (omega (arith, w.0), omega (arith, w.0), ap g w.0 ∙ w.1)
    pick (inr j) f = let w = f j in (omega (arith, w.0), omega (arith, w.1), w.2)

in_passes : (n s : ℕ) (g : ℕ → Bool) (p : ℕ) → s ≤ p → p < s + n → g p ≡ true → In p (those s n g)
unfolding those
in_passes zero s g p a b c = absurd (omega arith)
in_passes (suc n) s g p a b c = append_in p (only (g s) s) (those (suc s) n g) (pick (cases_eq p s) (λ h. in_passes n (suc s) g p h (omega arith) c))
  where
    pick : (p ≡ s) ⊎ (p ≢ s) → (suc s ≤ p → In p (those (suc s) n g)) → In p (only (g s) s) ⊎ In p (those (suc s) n g)
    pick (inl e) f = inl (subst (λ (q : ℕ). In q (only (g s) s)) (sym e) (in_only (g s) s (ap g (sym e) ∙ c)))
    pick (inr e) f = inr (f (omega arith))

pub those_in : (n s : ℕ) (g : ℕ → Bool) (p : ℕ) → In p (those s n g) ↔ ((s ≤ p) × (p < s + n) × (g p ≡ true))
those_in n s g p = (passes_in n s g p, λ w. in_passes n s g p w.0 w.1 w.2)

pub those_rising : (n s : ℕ) (g : ℕ → Bool) → Rising (those s n g)
unfolding those
those_rising zero s g = tt
those_rising (suc n) s g = go (g s) (those_rising n (suc s) g)
  where
    go : (t : Bool) → Rising (those (suc s) n g) → Rising (only t s ++ those (suc s) n g)
    go true r = ((λ p i. omega (arith, (passes_in n (suc s) g p i).0)), r)
    go false r = r

-- a list whose numbers rise is known by what is in it
pub rising_one : (l k : List ℕ) → Rising l → Rising k → ((p : ℕ) → In p l ↔ In p k) → l ≡ k
rising_one [] [] r s e = refl
rising_one [] (b ∷ k) r s e = absurd ((e b).1 (inl refl))
rising_one (a ∷ l) [] r s e = absurd ((e a).0 (inl refl))
rising_one (a ∷ l) (b ∷ k) r s e = ap₂ (λ (x : ℕ) (y : List ℕ). x ∷ y) heads (rising_one l k r.1 s.1 (λ p. (there p, back p)))
  where
    heads : a ≡ b
    heads = pick ((e a).0 (inl refl)) ((e b).1 (inl refl))
      where
        pick : (a ≡ b) ⊎ In a k → (b ≡ a) ⊎ In b l → a ≡ b
        pick (inl q) i = q
        pick (inr j) (inl q) = sym q
        pick (inr j) (inr i) = absurd (omega (arith, s.0 a j, r.0 b i))

    there : (p : ℕ) → In p l → In p k
    there p i = pick ((e p).0 (inr i))
      where
        pick : (p ≡ b) ⊎ In p k → In p k
        pick (inl q) = absurd (omega (arith, r.0 p i, q, heads))
        pick (inr j) = j

    back : (p : ℕ) → In p k → In p l
    back p j = pick ((e p).1 (inr j))
      where
        pick : (p ≡ a) ⊎ In p l → In p l
        pick (inl q) = absurd (omega (arith, s.0 p j, q, heads))
        pick (inr i) = i

-- ---- a range in which at most two numbers pass
-- p is one of the n numbers from s on
abbrev pub between : ℕ → ℕ → ℕ → Bool
between s n p = leb s p && ltb p (s + n)

-- p, if it is, and the test t passes
abbrev pub within : ℕ → ℕ → Bool → ℕ → List ℕ
within s n t p = only (t && between s n p) p

pub between_in : (s n p : ℕ) → s ≤ p → p < s + n → between s n p ≡ true
between_in s n p a b = rw (le-leb s p a, lt-ltb p (s + n) b) refl

pub between_out : (s n p : ℕ) → (p < s) ⊎ (s + n ≤ p) → between s n p ≡ false
between_out s n p (inl a) = ap (λ (t : Bool). t && ltb p (s + n)) (lt-leb s p a)
between_out s n p (inr a) = ap (λ (t : Bool). leb s p && t) (le-ltb p (s + n) a) ∙ and_no (leb s p)

within_other : (s n : ℕ) (t : Bool) (p : ℕ) → s ≢ p → within s (suc n) t p ≡ within (suc s) n t p
within_other s n t p e = ap (λ (b : Bool). only (t && b) p) (pick (cases_lt s p) (cases_lt p (suc s + n)))
  where
    pick : (s < p) ⊎ (p ≤ s) → (p < suc s + n) ⊎ (suc s + n ≤ p) → between s (suc n) p ≡ between (suc s) n p
    pick (inr a) h = between_out s (suc n) p (inl (omega arith)) ∙ sym (between_out (suc s) n p (inl (omega arith)))
    pick (inl a) (inl b) = between_in s (suc n) p (omega arith) (omega arith) ∙ sym (between_in (suc s) n p a b)
    pick (inl a) (inr b) = between_out s (suc n) p (inr (omega arith)) ∙ sym (between_out (suc s) n p (inr b))

within_here : (s n : ℕ) (t : Bool) → within s (suc n) t s ≡ only t s
within_here s n t = ap (λ (b : Bool). only (t && b) s) (between_in s (suc n) s (omega arith) (omega arith)) ∙ ap (λ (b : Bool). only b s) (and_yes t)

within_below : (s n : ℕ) (t : Bool) (p : ℕ) → p < s → within s n t p ≡ []
within_below s n t p h = ap (λ (b : Bool). only (t && b) p) (between_out s n p (inl h)) ∙ ap (λ (b : Bool). only b p) (and_no t)

pub two_listed : (n s : ℕ) (g : ℕ → Bool) (p q : ℕ) (t u : Bool) → p ≤ q → (p ≡ q → u ≡ false)
    → ((r : ℕ) → s ≤ r → r < s + n → g r ≡ (eqb r p && t) || (eqb r q && u)) → those s n g ≡ within s n t p ++ within s n u q
unfolding those
two_listed zero s g p q t u h z e = sym (ap₂ (λ (l k : List ℕ). l ++ k) (empty t p) (empty u q))
  where
    empty : (t : Bool) (p : ℕ) → within s 0 t p ≡ []
    empty t p = ap (λ (b : Bool). only (t && b) p) (between_none (cases_lt p s)) ∙ ap (λ (b : Bool). only b p) (and_no t)
      where
        between_none : (p < s) ⊎ (s ≤ p) → between s 0 p ≡ false
        between_none (inl a) = between_out s 0 p (inl a)
        between_none (inr a) = between_out s 0 p (inr (omega arith))
two_listed (suc n) s g p q t u h z e =
    ap₂ (λ (b : Bool) (l : List ℕ). only b s ++ l) (e s (omega arith) (omega arith))
    (two_listed n (suc s) g p q t u h z (λ r a b. e r (omega arith) (omega arith)))
    ∙ go (cases_eq s p) (cases_eq s q)
  where
    go : (s ≡ p) ⊎ (s ≢ p) → (s ≡ q) ⊎ (s ≢ q)
        → only ((eqb s p && t) || (eqb s q && u)) s ++ (within (suc s) n t p ++ within (suc s) n u q) ≡ within s (suc n) t p ++ within s (suc n) u q
    go (inr a) (inr b) = rw (ne_eqb s p a, ne_eqb s q b)
        (sym (ap₂ (λ (l k : List ℕ). l ++ k) (within_other s n t p a) (within_other s n u q b)))
    go (inr a) (inl b) =
        rw (
          ne_eqb s p a,
          eq-eqb s q b,
          within_below (suc s) n t p (omega arith),
          within_below (suc s) n u q (omega arith),
          within_below s (suc n) t p (omega arith),
        )
        (append-nil (only u s) ∙ sym (subst (λ (k : ℕ). within s (suc n) u k ≡ only u s) b (within_here s n u)))
    go (inl a) (inr b) =
        rw (eq-eqb s p a, ne_eqb s q b, within_below (suc s) n t p (omega arith))
        (ap₂ (λ (l k : List ℕ). l ++ k) (ap (λ (c : Bool). only c s) (or_no t) ∙ sym (subst (λ (k : ℕ). within s (suc n) t k ≡ only t s) a (within_here s n t)))
        (sym (within_other s n u q b)))
    go (inl a) (inl b) = let no = z (sym a ∙ b) in
        rw (no, eq-eqb s p a, eq-eqb s q b, within_below (suc s) n t p (omega arith))
        (ap₂ (λ (l k : List ℕ). l ++ k) (ap (λ (c : Bool). only c s) (or_no t) ∙ sym (subst (λ (k : ℕ). within s (suc n) t k ≡ only t s) a (within_here s n t)))
        refl)

-- ---- the least that passes
pub record Least (n : ℕ) (g : ℕ → Bool) (m : ℕ) : Type 0 where
  pub most : m ≤ n
  pub passes : m < n → g m ≡ true
  pub below : (i : ℕ) → i < m → g i ≡ false

pub least_is : (n : ℕ) (g : ℕ → Bool) → Least n g (least n g)
unfolding least
least_is zero g = record { most = omega arith; passes = λ h. absurd (omega arith); below = λ i h. absurd (omega arith) }
least_is (suc n) g = go (least_is n g) (ltb (least n g) n) refl (g n) refl
  where
    go : Least n g (least n g) → (t : Bool) → ltb (least n g) n ≡ t → (u : Bool) → g n ≡ u → Least (suc n) g (if t (least n g) (if u n (suc n)))
    go w true e u f = let h = ltb-true (least n g) n e in record { most = omega arith; passes = λ l. w.passes h; below = w.below }
    go w false e true f = record { most = omega arith; passes = λ l. f; below = λ i l. w.below i (omega (arith, w.most, ltb-false (least n g) n e)) }
    go w false e false f = record {
      most = omega arith;
      passes = λ l. absurd (omega arith);
      below = λ i l. last i l (cases_eq i n);
    }
      where
        last : (i : ℕ) → i < suc n → (i ≡ n) ⊎ (i ≢ n) → g i ≡ false
        last i l (inl q) = ap g q ∙ f
        last i l (inr q) = w.below i (omega (arith, w.most, ltb-false (least n g) n e))

pub least_one : (n : ℕ) (g : ℕ → Bool) (m : ℕ) → Least n g m → m ≡ least n g
least_one n g m w = let v = least_is n g in pick v (cases_lt m (least n g)) (cases_lt (least n g) m)
  where
    pick : Least n g (least n g) → (m < least n g) ⊎ (least n g ≤ m) → (least n g < m) ⊎ (m ≤ least n g) → m ≡ least n g
    pick v (inl a) h = absurd (clash (g m) (w.passes (omega (arith, v.most))) (v.below m a))
    pick v (inr a) (inl b) = absurd (clash (g (least n g)) (v.passes (omega (arith, w.most))) (w.below (least n g) b))
    pick v (inr a) (inr b) = omega arith

pub least_ext : (n : ℕ) (g h : ℕ → Bool) → ((i : ℕ) → i < n → g i ≡ h i) → least n g ≡ least n h
least_ext n g h e = let v = least_is n g in least_one n h (least n g) (record {
  most = v.most;
  passes = λ l. sym (e (least n g) l) ∙ v.passes l;
  below = λ i l. sym (e i (omega (arith, v.most))) ∙ v.below i l;
})
