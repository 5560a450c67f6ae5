-- The columns c p, (c p) ^ 2, (c p) ^ 4, .. of the chips p of a list, eliminated one by one, in any field and for any number of rows:
-- what is solved, by which values, and that they are the only ones.
--
--   dot t c ps v        row t of the columns with the values v: the sum of (c p) ^ (2 ^ t) times v p
--   Solves r c ps v s   the first r rows are the sums s
--   pass d a            what column a becomes once column d is eliminated; next c p: all columns, once that of p is
--   step d s            what the sums become
--   fits r c ps s       the sums that are left are 0
--   values c ps s       the values, by back substitution, and 0 elsewhere
--   Free c ps           each column in turn is not 0 when its turn comes
--   solved              where it fits, the values solve all rows
--   only                whatever solves them is those values, and it fits
--   independent         so free columns have no relation
--   Below w f           the values of f are elements of the field
use mathlib.Core.Logic.{◌≢◌, inl, inr}
use mathlib.Core.Path.{◌≡◌, refl, sym, ap, ap₂, ◌∙◌, subst}
use mathlib.Core.Bool.{Bool, true}
use mathlib.Core.List.{List, [], ◌∷◌}
use Prim.Native.Nat.{ℕ, zero, suc, ◌<◌, ◌^◌}
use native.Mathlib.Nat.{lt-suc_self, lt_trans}
use native.Mathlib.Omega.{arith}
use lib.Dec.{T, eqb, eqb→eq}
use borrow.Author.Tests.{eq-eqb, ne_eqb}
use Rattle.base.specs.Base.{if, In, Few}
use Rattle.base.proofs.Tests.{every, every_at, every_of}
use Rattle.field.specs.Field.{◌⊕◌}
use Rattle.field.proofs.Xor.{add_self, zero_add, add_lt, sums}
use Rattle.field.proofs.Linear.{if_below}
use Rattle.field.proofs.Sum.{over, over_ext, over_zero, over_add, over_additive, over_below}
use Rattle.field.proofs.IsField.{IsField}
use Rattle.field.proofs.Ring.{ring, mul_zero, zero_mul}
use Rattle.field.proofs.Squares.{squared, squared_add, squared_mul, squared_zero}
use Rattle.field.proofs.Quotient.{quot, times_quot, quot_only}

-- ---- over the product alone
module _ (◌·◌ : ℕ → ℕ → ℕ) where
  infixl 70 ◌·◌
  abbrev pub dot : ℕ → (ℕ → ℕ) → List ℕ → (ℕ → ℕ) → ℕ
  dot t c ps v = over ps (λ p. squared ◌·◌ t (c p) · v p)

  abbrev pub Solves : ℕ → (ℕ → ℕ) → List ℕ → (ℕ → ℕ) → (ℕ → ℕ) → Type 0
  Solves r c ps v s = (t : ℕ) → t < r → dot t c ps v ≡ s t

  abbrev pub pass : ℕ → ℕ → ℕ
  pass d a = a · (a ⊕ d)

  abbrev pub next : (ℕ → ℕ) → ℕ → ℕ → ℕ
  next c p q = pass (c p) (c q)

  abbrev pub step : ℕ → (ℕ → ℕ) → ℕ → ℕ
  step d s t = s (suc t) ⊕ (squared ◌·◌ t d · s t)

  unfoldable pub fits : ℕ → (ℕ → ℕ) → List ℕ → (ℕ → ℕ) → Bool
  fits r c [] s = every (λ t. eqb (s t) 0) r
  fits zero c (p ∷ ps) s = true
  fits (suc r) c (p ∷ ps) s = fits r (next c p) ps (step (c p) s)

  unfoldable pub values : (ℕ → ℕ) → (ℕ → ℕ) → List ℕ → (ℕ → ℕ) → ℕ → ℕ
  values inv c [] s q = 0
  values inv c (p ∷ ps) s q =
      if (eqb q p) (quot ◌·◌ inv (s 0 ⊕ dot 0 c ps (values inv (next c p) ps (step (c p) s))) (c p)) (values inv (next c p) ps (step (c p) s) q)

  abbrev pub Free : (ℕ → ℕ) → List ℕ → Type 0
  Free c [] = Unit {0}
  Free c (p ∷ ps) = (c p ≢ 0) × Free (next c p) ps

abbrev pub Below : ℕ → (ℕ → ℕ) → Type 0
Below w f = (q : ℕ) → f q < 2 ^ w

module _ (w : ℕ) (◌·◌ : ℕ → ℕ → ℕ) (F : IsField w ◌·◌) where
  infixl 70 ◌·◌
  -- a's row t + 1 is row t of what a has become, and d's row t times a's
  one_step : (t d a : ℕ) → squared ◌·◌ (suc t) a ≡ squared ◌·◌ t (pass ◌·◌ d a) ⊕ (squared ◌·◌ t d · squared ◌·◌ t a)
  unfolding squared
  one_step t d a = sym (
      ap (λ (x : ℕ). x ⊕ (squared ◌·◌ t d · squared ◌·◌ t a))
      (ap (squared ◌·◌ t) (F.distrib a a d) ∙ squared_add w ◌·◌ F t (a · a) (a · d) ∙ ap (λ (x : ℕ). squared ◌·◌ t (a · a) ⊕ x) (squared_mul w ◌·◌ F t a d))
      ∙ (let e : (squared ◌·◌ t (a · a) ⊕ (squared ◌·◌ t a · squared ◌·◌ t d)) ⊕ (squared ◌·◌ t d · squared ◌·◌ t a) ≡ squared ◌·◌ t (a · a)
      = simp (ring, F) in e))

  spread : (x y z e : ℕ) → (x ⊕ (y · z)) · e ≡ (x · e) ⊕ (y · (z · e))
  spread x y z e = simp (ring, F)

  -- THE IDENTITY, for any d
  dot_step : (t d : ℕ) (c : ℕ → ℕ) (ps : List ℕ) (v : ℕ → ℕ)
      → dot ◌·◌ (suc t) c ps v ≡ dot ◌·◌ t (λ q. pass ◌·◌ d (c q)) ps v ⊕ (squared ◌·◌ t d · dot ◌·◌ t c ps v)
  dot_step t d c ps v =
      over_ext ps (λ p. squared ◌·◌ (suc t) (c p) · v p) (λ p. (squared ◌·◌ t (pass ◌·◌ d (c p)) · v p) ⊕ (squared ◌·◌ t d · (squared ◌·◌ t (c p) · v p)))
      (λ p i. ap (λ (x : ℕ). x · v p) (one_step t d (c p)) ∙ spread (squared ◌·◌ t (pass ◌·◌ d (c p))) (squared ◌·◌ t d) (squared ◌·◌ t (c p)) (v p))
      ∙ over_add ps (λ p. squared ◌·◌ t (pass ◌·◌ d (c p)) · v p) (λ p. squared ◌·◌ t d · (squared ◌·◌ t (c p) · v p))
      ∙ ap (λ (x : ℕ). dot ◌·◌ t (λ q. pass ◌·◌ d (c q)) ps v ⊕ x)
      (sym (over_additive (λ x. squared ◌·◌ t d · x) (F.distrib (squared ◌·◌ t d)) ps (λ p. squared ◌·◌ t (c p) · v p)))

  -- the column itself goes away
  next_row : (t : ℕ) (c : ℕ → ℕ) (p : ℕ) (ps : List ℕ) (v : ℕ → ℕ)
      → dot ◌·◌ (suc t) c (p ∷ ps) v ≡ dot ◌·◌ t (next ◌·◌ c p) ps v ⊕ (squared ◌·◌ t (c p) · dot ◌·◌ t c (p ∷ ps) v)
  unfolding over
  next_row t c p ps v =
      dot_step t (c p) c (p ∷ ps) v
      ∙ ap (λ (x : ℕ). (x ⊕ dot ◌·◌ t (next ◌·◌ c p) ps v) ⊕ (squared ◌·◌ t (c p) · dot ◌·◌ t c (p ∷ ps) v)) gone
      ∙ ap (λ (x : ℕ). x ⊕ (squared ◌·◌ t (c p) · dot ◌·◌ t c (p ∷ ps) v)) (zero_add (dot ◌·◌ t (next ◌·◌ c p) ps v))
    where
      gone : squared ◌·◌ t (pass ◌·◌ (c p) (c p)) · v p ≡ 0
      gone =
          ap (λ (x : ℕ). squared ◌·◌ t (c p · x) · v p) (add_self (c p)) ∙ ap (λ (x : ℕ). squared ◌·◌ t x · v p) (mul_zero w ◌·◌ F (c p))
          ∙ ap (λ (x : ℕ). x · v p) (squared_zero w ◌·◌ F t) ∙ zero_mul w ◌·◌ F (v p)

  cancel : (a b : ℕ) → (a ⊕ b) ⊕ b ≡ a
  cancel a b = simp sums

  forward : (r : ℕ) (c : ℕ → ℕ) (p : ℕ) (ps : List ℕ) (v s : ℕ → ℕ) → Solves ◌·◌ (suc r) c (p ∷ ps) v s
      → Solves ◌·◌ r (next ◌·◌ c p) ps v (step ◌·◌ (c p) s)
  forward r c p ps v s h t l =
      sym (cancel (dot ◌·◌ t (next ◌·◌ c p) ps v) (squared ◌·◌ t (c p) · s t))
      ∙ ap (λ (x : ℕ). x ⊕ (squared ◌·◌ t (c p) · s t))
      (ap (λ (x : ℕ). dot ◌·◌ t (next ◌·◌ c p) ps v ⊕ (squared ◌·◌ t (c p) · x)) (sym (h t (lt_trans l (lt-suc_self r))))
      ∙ sym (next_row t c p ps v) ∙ h (suc t) (omega arith))

  backward : (r : ℕ) (c : ℕ → ℕ) (p : ℕ) (ps : List ℕ) (v s : ℕ → ℕ) → Solves ◌·◌ r (next ◌·◌ c p) ps v (step ◌·◌ (c p) s)
      → dot ◌·◌ 0 c (p ∷ ps) v ≡ s 0 → Solves ◌·◌ (suc r) c (p ∷ ps) v s
  backward r c p ps v s h z zero l = z
  backward r c p ps v s h z (suc t) l =
      next_row t c p ps v
      ∙ ap₂ (λ (x y : ℕ). x ⊕ (squared ◌·◌ t (c p) · y)) (h t (omega arith)) (backward r c p ps v s h z t (omega arith))
      ∙ cancel (s (suc t)) (squared ◌·◌ t (c p) · s t)

  -- ---- the values
  step_below : (d : ℕ) (s : ℕ → ℕ) → Below w s → Below w (step ◌·◌ d s)
  step_below d s h t = add_lt w (s (suc t)) (squared ◌·◌ t d · s t) (h (suc t)) (F.below (squared ◌·◌ t d) (s t))

  pub next_below : (c : ℕ → ℕ) (p : ℕ) → Below w (next ◌·◌ c p)
  next_below c p q = F.below (c q) (c q ⊕ c p)

  dot_below : (t : ℕ) (c : ℕ → ℕ) (ps : List ℕ) (v : ℕ → ℕ) → dot ◌·◌ t c ps v < 2 ^ w
  dot_below t c ps v = over_below w ps (λ p. squared ◌·◌ t (c p) · v p) (λ p. F.below (squared ◌·◌ t (c p)) (v p))

  -- values at the first chip, and at the others
  module _ (c : ℕ → ℕ) (p : ℕ) (ps : List ℕ) (s : ℕ → ℕ) where
    abbrev later : ℕ → ℕ
    later = values ◌·◌ F.inv (next ◌·◌ c p) ps (step ◌·◌ (c p) s)

    values_at : values ◌·◌ F.inv c (p ∷ ps) s p ≡ quot ◌·◌ F.inv (s 0 ⊕ dot ◌·◌ 0 c ps later) (c p)
    unfolding values
    values_at = ap (λ (t : Bool). if t (quot ◌·◌ F.inv (s 0 ⊕ dot ◌·◌ 0 c ps later) (c p)) (later p)) (eq-eqb p p refl)

    values_else : (q : ℕ) → q ≢ p → values ◌·◌ F.inv c (p ∷ ps) s q ≡ later q
    unfolding values
    values_else q ne = ap (λ (t : Bool). if t (quot ◌·◌ F.inv (s 0 ⊕ dot ◌·◌ 0 c ps later) (c p)) (later q)) (ne_eqb q p ne)

  pub values_off : (c : ℕ → ℕ) (ps : List ℕ) (s : ℕ → ℕ) (q : ℕ) → (In q ps → ⊥) → values ◌·◌ F.inv c ps s q ≡ 0
  unfolding values
  values_off c [] s q n = refl
  values_off c (p ∷ ps) s q n = values_else c p ps s q (λ e. n (inl e)) ∙ values_off (next ◌·◌ c p) ps (step ◌·◌ (c p) s) q (λ i. n (inr i))

  pub values_below : (c : ℕ → ℕ) (ps : List ℕ) (s : ℕ → ℕ) → Below w (values ◌·◌ F.inv c ps s)
  unfolding values
  values_below c [] s q = lib.Pow.pow_pos w
  values_below c (p ∷ ps) s q =
      if_below w (eqb q p) (quot ◌·◌ F.inv (s 0 ⊕ dot ◌·◌ 0 c ps (later c p ps s)) (c p)) (later c p ps s q)
      (F.below (s 0 ⊕ dot ◌·◌ 0 c ps (later c p ps s)) (F.inv (c p))) (values_below (next ◌·◌ c p) ps (step ◌·◌ (c p) s) q)

  -- the first row, with the first chip apart
  dot_first : (c : ℕ → ℕ) (p : ℕ) (ps : List ℕ) (v : ℕ → ℕ) → dot ◌·◌ 0 c (p ∷ ps) v ≡ (c p · v p) ⊕ dot ◌·◌ 0 c ps v
  unfolding over squared
  dot_first c p ps v = refl

  dot_ext : (t : ℕ) (c : ℕ → ℕ) (ps : List ℕ) (u v : ℕ → ℕ) → ((q : ℕ) → In q ps → u q ≡ v q) → dot ◌·◌ t c ps u ≡ dot ◌·◌ t c ps v
  dot_ext t c ps u v h = over_ext ps (λ p. squared ◌·◌ t (c p) · u p) (λ p. squared ◌·◌ t (c p) · v p) (λ p i. ap (λ (x : ℕ). squared ◌·◌ t (c p) · x) (h p i))

  other : (p q : ℕ) (ps : List ℕ) → (In p ps → ⊥) → In q ps → q ≢ p
  other p q ps n i e = n (subst (λ (z : ℕ). In z ps) e i)

  pub solved : (r : ℕ) (c : ℕ → ℕ) (ps : List ℕ) (s : ℕ → ℕ) → Few r ps → Below w c → Below w s → Free ◌·◌ c ps → T (fits ◌·◌ r c ps s)
      → Solves ◌·◌ r c ps (values ◌·◌ F.inv c ps s) s
  unfolding fits over
  solved r c [] s few hc hs free ok = λ t l. sym (eqb→eq (s t) 0 (every_at (λ t. eqb (s t) 0) r ok t l))
  solved zero c (p ∷ ps) s few hc hs free ok = absurd few
  solved (suc r) c (p ∷ ps) s few hc hs free ok =
      backward r c p ps v s
      (λ t l. dot_ext t (next ◌·◌ c p) ps v u same
      ∙ solved r (next ◌·◌ c p) ps (step ◌·◌ (c p) s) few.2 (next_below c p) (step_below (c p) s hs) free.1 ok t l)
      (dot_first c p ps v
      ∙ ap₂ (λ (x y : ℕ). (c p · x) ⊕ y) (values_at c p ps s) (dot_ext 0 c ps v u same)
      ∙ ap (λ (x : ℕ). x ⊕ dot ◌·◌ 0 c ps u)
      (times_quot w ◌·◌ F (s 0 ⊕ dot ◌·◌ 0 c ps u) (c p) (add_lt w (s 0) (dot ◌·◌ 0 c ps u) (hs 0) (dot_below 0 c ps u)) (hc p) free.0)
      ∙ cancel (s 0) (dot ◌·◌ 0 c ps u))
    where
      v : ℕ → ℕ
      v = values ◌·◌ F.inv c (p ∷ ps) s

      u : ℕ → ℕ
      u = later c p ps s

      same : (q : ℕ) → In q ps → v q ≡ u q
      same q i = values_else c p ps s q (other p q ps few.1 i)

  -- what solves the rows is the first value too, where it is the later ones
  only_first : (r : ℕ) (c : ℕ → ℕ) (p : ℕ) (ps : List ℕ) (v s : ℕ → ℕ) → (In p ps → ⊥) → Below w c → Below w v → c p ≢ 0 → Solves ◌·◌ (suc r) c (p ∷ ps) v s
      → ((q : ℕ) → In q ps → v q ≡ later c p ps s q) → (q : ℕ) → In q (p ∷ ps) → v q ≡ values ◌·◌ F.inv c (p ∷ ps) s q
  only_first r c p ps v s n hc hv ne h rest q (inl e) =
      subst (λ (z : ℕ). v z ≡ values ◌·◌ F.inv c (p ∷ ps) s z) (sym e)
      (quot_only w ◌·◌ F (s 0 ⊕ dot ◌·◌ 0 c ps (later c p ps s)) (c p) (v p) (hc p) (hv p) ne
      (sym (cancel (c p · v p) (dot ◌·◌ 0 c ps v))
      ∙ ap₂ (λ (x y : ℕ). x ⊕ y) (sym (dot_first c p ps v) ∙ h 0 (omega arith)) (dot_ext 0 c ps v (later c p ps s) rest))
      ∙ sym (values_at c p ps s))
  only_first r c p ps v s n hc hv ne h rest q (inr i) = rest q i ∙ sym (values_else c p ps s q (other p q ps n i))

  pub only : (r : ℕ) (c : ℕ → ℕ) (ps : List ℕ) (v s : ℕ → ℕ) → Few r ps → Below w c → Below w v → Free ◌·◌ c ps → Solves ◌·◌ r c ps v s
      → T (fits ◌·◌ r c ps s) × ((q : ℕ) → In q ps → v q ≡ values ◌·◌ F.inv c ps s q)
  unfolding fits over
  only r c [] v s few hc hv free h = (every_of (λ t. eqb (s t) 0) r (λ t l. subst (λ (x : ℕ). T (eqb x 0)) (h t l) tt), λ q i. absurd i)
  only zero c (p ∷ ps) v s few hc hv free h = absurd few
  only (suc r) c (p ∷ ps) v s few hc hv free h =
      let rest = only r (next ◌·◌ c p) ps v (step ◌·◌ (c p) s) few.2 (next_below c p) hv free.1 (forward r c p ps v s h) in
      (rest.0, only_first r c p ps v s few.1 hc hv free.0 h rest.1)

  -- columns that are free have no relation
  pub independent : (r : ℕ) (c : ℕ → ℕ) (ps : List ℕ) (v : ℕ → ℕ) → Few r ps → Below w c → Below w v → Free ◌·◌ c ps → Solves ◌·◌ r c ps v (λ t. 0)
      → (q : ℕ) → In q ps → v q ≡ 0
  independent r c ps v few hc hv free h q i =
      (only r c ps v (λ t. 0) few hc hv free h).1 q i ∙ sym ((only r c ps (λ p. 0) (λ t. 0) few hc (λ p. lib.Pow.pow_pos w) free none).1 q i)
    where
      none : (t : ℕ) → t < r → dot ◌·◌ t c ps (λ p. 0) ≡ 0
      none t l = over_zero ps (λ p. squared ◌·◌ t (c p) · 0) (λ p i. mul_zero w ◌·◌ F (squared ◌·◌ t (c p)))
