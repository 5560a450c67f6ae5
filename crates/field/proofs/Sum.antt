-- Sums of numbers: of n terms, and over the members of a list.
--
--   sum_ext         of the same terms
--   sum_zero        of terms that are 0
--   sum_add         of the sums of two terms
--   sum_additive    an additive map of a sum is the sum of its values
--   sum_below       of terms of w digits
--   sum_first       the first term, and the others
--   sum_nest        of m times c terms, by rows; sum_swap: in the other order
--   sum_one         of terms that are 0 but at one place
--   over l f        the sum of f over the members of l; over_ext, -zero, -add, -additive, -below: the same laws
--   sum_over        of terms that are 0 but at the members of a list that has none twice (Once)
use mathlib.Core.Logic.{◌⊎◌, inl, inr}
use mathlib.Core.Path.{◌≡◌, refl, sym, ap, ap₂, ◌∙◌}
use mathlib.Core.Bool.{Bool, true, false}
use mathlib.Core.List.{List, [], ◌∷◌}
use Prim.Native.Nat.{ℕ, zero, suc, ◌+◌, ◌*◌, ◌<◌, ◌^◌}
use native.Mathlib.Nat.{not-suc-le-zero, le_of_suc-le-suc, lt-suc_self, lt_trans, eq-or-lt_of_le}
use native.Mathlib.Omega.{arith}
use lib.Dec.{eqb}
use lib.Pow.{pow_pos}
use borrow.Author.Tests.{eqb-false, eq-eqb, ne_eqb}
use Rattle.base.specs.Base.{if, In}
use Rattle.field.specs.Field.{◌⊕◌, sum}
use Rattle.field.proofs.Xor.{add_assoc, add_left_comm, add_self, zero_add, add_zero, add_lt, swap}
use Rattle.field.proofs.Linear.{Additive, at_zero}

pub sum_ext : (n : ℕ) (f g : ℕ → ℕ) → ((i : ℕ) → i < n → f i ≡ g i) → sum n f ≡ sum n g
unfolding sum
sum_ext zero f g h = refl
sum_ext (suc n) f g h = ap₂ (λ (x y : ℕ). x ⊕ y) (h n (lt-suc_self n)) (sum_ext n f g (λ i l. h i (lt_trans l (lt-suc_self n))))

pub sum_zero : (n : ℕ) (f : ℕ → ℕ) → ((i : ℕ) → i < n → f i ≡ 0) → sum n f ≡ 0
unfolding sum
sum_zero zero f h = refl
sum_zero (suc n) f h = ap₂ (λ (x y : ℕ). x ⊕ y) (h n (lt-suc_self n)) (sum_zero n f (λ i l. h i (lt_trans l (lt-suc_self n)))) ∙ add_self 0

pub sum_add : (n : ℕ) (f g : ℕ → ℕ) → sum n (λ i. f i ⊕ g i) ≡ sum n f ⊕ sum n g
unfolding sum
sum_add zero f g = sym (add_self 0)
sum_add (suc n) f g = ap (λ (x : ℕ). (f n ⊕ g n) ⊕ x) (sum_add n f g) ∙ swap (f n) (g n) (sum n f) (sum n g)

pub sum_additive : (f : ℕ → ℕ) → Additive f → (n : ℕ) (g : ℕ → ℕ) → f (sum n g) ≡ sum n (λ i. f (g i))
unfolding sum
sum_additive f h zero g = at_zero f h
sum_additive f h (suc n) g = h (g n) (sum n g) ∙ ap (λ (x : ℕ). f (g n) ⊕ x) (sum_additive f h n g)

pub sum_below : (w n : ℕ) (f : ℕ → ℕ) → ((i : ℕ) → f i < 2 ^ w) → sum n f < 2 ^ w
unfolding sum
sum_below w zero f h = pow_pos w
sum_below w (suc n) f h = add_lt w (f n) (sum n f) (h n) (sum_below w n f h)

pub sum_first : (n : ℕ) (f : ℕ → ℕ) → sum (suc n) f ≡ f 0 ⊕ sum n (λ i. f (suc i))
unfolding sum
sum_first zero f = refl
sum_first (suc n) f = ap (λ (x : ℕ). f (suc n) ⊕ x) (sum_first n f) ∙ add_left_comm (f (suc n)) (f 0) (sum n (λ i. f (suc i)))

-- ---- by rows
-- the first n, and the k after them
sum_split : (k n : ℕ) (f : ℕ → ℕ) → sum (n + k) f ≡ sum k (λ i. f (n + i)) ⊕ sum n f
unfolding sum
sum_split zero n f = ap (λ (x : ℕ). sum x f) (native.Mathlib.Nat.add-zero n) ∙ sym (zero_add (sum n f))
sum_split (suc k) n f =
    ap (λ (x : ℕ). sum x f) (native.Mathlib.Nat.add-suc n k) ∙ ap (λ (x : ℕ). f (n + k) ⊕ x) (sum_split k n f)
    ∙ sym (add_assoc (f (n + k)) (sum k (λ i. f (n + i))) (sum n f))

pub sum_nest : (m c : ℕ) (f : ℕ → ℕ) → sum (c * m) f ≡ sum m (λ j. sum c (λ i. f (c * j + i)))
unfolding sum
sum_nest zero c f = ap (λ (x : ℕ). sum x f) (native.Mathlib.Nat.mul-zero c)
sum_nest (suc m) c f =
    let e : c * suc m ≡ c * m + c = omega arith in
    ap (λ (x : ℕ). sum x f) e ∙ sum_split c (c * m) f ∙ ap (λ (x : ℕ). sum c (λ i. f (c * m + i)) ⊕ x) (sum_nest m c f)

pub sum_swap : (m c : ℕ) (g : ℕ → ℕ → ℕ) → sum m (λ j. sum c (λ i. g j i)) ≡ sum c (λ i. sum m (λ j. g j i))
unfolding sum
sum_swap zero c g = sym (sum_zero c (λ i. 0) (λ i l. refl))
sum_swap (suc m) c g =
    ap (λ (x : ℕ). sum c (λ i. g m i) ⊕ x) (sum_swap m c g)
    ∙ sym (sum_add c (λ i. g m i) (λ i. sum m (λ j. g j i)))

-- ---- 0 but at one place
pub sum_one : (n q : ℕ) (f : ℕ → ℕ) → q < n → sum n (λ p. if (eqb p q) (f p) 0) ≡ f q
unfolding sum
sum_one zero q f h = absurd (not-suc-le-zero h)
sum_one (suc n) q f h = pick (eq-or-lt_of_le (le_of_suc-le-suc h)) (λ l. sum_one n q f l)
  where
    pick : (q ≡ n) ⊎ (q < n) → (q < n → sum n (λ p. if (eqb p q) (f p) 0) ≡ f q) → if (eqb n q) (f n) 0 ⊕ sum n (λ p. if (eqb p q) (f p) 0) ≡ f q
    pick (inl e) g =
        ap₂ (λ (x y : ℕ). x ⊕ y)
        (ap (λ (t : Bool). if t (f n) 0) (eq-eqb n q (sym e)) ∙ ap f (sym e))
        (sum_zero n (λ p. if (eqb p q) (f p) 0) (λ p l. ap (λ (t : Bool). if t (f p) 0) (ne_eqb p q (λ z. omega arith))))
        ∙ add_zero (f q)
    pick (inr l) g = ap₂ (λ (x y : ℕ). x ⊕ y) (ap (λ (t : Bool). if t (f n) 0) (ne_eqb n q (λ z. omega arith))) (g l) ∙ zero_add (f q)

-- ---- over a list
unfoldable pub over : List ℕ → (ℕ → ℕ) → ℕ
over [] f = 0
over (p ∷ l) f = f p ⊕ over l f

pub over_ext : (l : List ℕ) (f g : ℕ → ℕ) → ((p : ℕ) → In p l → f p ≡ g p) → over l f ≡ over l g
unfolding over
over_ext [] f g h = refl
over_ext (p ∷ l) f g h = ap₂ (λ (x y : ℕ). x ⊕ y) (h p (inl refl)) (over_ext l f g (λ q i. h q (inr i)))

pub over_zero : (l : List ℕ) (f : ℕ → ℕ) → ((p : ℕ) → In p l → f p ≡ 0) → over l f ≡ 0
unfolding over
over_zero [] f h = refl
over_zero (p ∷ l) f h = ap₂ (λ (x y : ℕ). x ⊕ y) (h p (inl refl)) (over_zero l f (λ q i. h q (inr i))) ∙ add_self 0

pub over_add : (l : List ℕ) (f g : ℕ → ℕ) → over l (λ p. f p ⊕ g p) ≡ over l f ⊕ over l g
unfolding over
over_add [] f g = sym (add_self 0)
over_add (p ∷ l) f g = ap (λ (x : ℕ). (f p ⊕ g p) ⊕ x) (over_add l f g) ∙ swap (f p) (g p) (over l f) (over l g)

pub over_additive : (f : ℕ → ℕ) → Additive f → (l : List ℕ) (g : ℕ → ℕ) → f (over l g) ≡ over l (λ p. f (g p))
unfolding over
over_additive f h [] g = at_zero f h
over_additive f h (p ∷ l) g = h (g p) (over l g) ∙ ap (λ (x : ℕ). f (g p) ⊕ x) (over_additive f h l g)

pub over_below : (w : ℕ) (l : List ℕ) (f : ℕ → ℕ) → ((p : ℕ) → f p < 2 ^ w) → over l f < 2 ^ w
unfolding over
over_below w [] f h = pow_pos w
over_below w (p ∷ l) f h = add_lt w (f p) (over l f) (h p) (over_below w l f h)

abbrev pub Once : List ℕ → Type 0
Once [] = Unit {0}
Once (p ∷ l) = (In p l → ⊥) × Once l

pub sum_over : (n : ℕ) (l : List ℕ) (f : ℕ → ℕ) → ((p : ℕ) → In p l → p < n) → Once l
    → ((p : ℕ) → p < n → (In p l → ⊥) → f p ≡ 0) → sum n f ≡ over l f
unfolding over
sum_over n [] f below once h = sum_zero n f (λ p l. h p l (λ i. i))
sum_over n (q ∷ l) f below once h =
    sum_ext n f (λ p. if (eqb p q) (f p) 0 ⊕ if (eqb p q) 0 (f p)) (λ p z. parts (eqb p q) (f p))
    ∙ sum_add n (λ p. if (eqb p q) (f p) 0) (λ p. if (eqb p q) 0 (f p))
    ∙ ap₂ (λ (x y : ℕ). x ⊕ y) (sum_one n q f (below q (inl refl)))
    (sum_over n l (λ p. if (eqb p q) 0 (f p)) (λ p i. below p (inr i)) once.1 (λ p z i. other p z i (eqb p q) refl)
    ∙ over_ext l (λ p. if (eqb p q) 0 (f p)) f (λ p i. ap (λ (t : Bool). if t 0 (f p)) (ne_eqb p q (λ e. once.0 (member p e i)))))
  where
    parts : (t : Bool) (x : ℕ) → x ≡ if t x 0 ⊕ if t 0 x
    parts true x = sym (add_zero x)
    parts false x = sym (zero_add x)

    member : (p : ℕ) → p ≡ q → In p l → In q l
    member p e i = mathlib.Core.Path.subst (λ (z : ℕ). In z l) e i

    other : (p : ℕ) → p < n → (In p l → ⊥) → (t : Bool) → eqb p q ≡ t → if t 0 (f p) ≡ 0
    other p z i true e = refl
    other p z i false e = h p z (λ m. neither m)
      where
        neither : (p ≡ q) ⊎ In p l → ⊥
        neither (inl d) = eqb-false p q e d
        neither (inr m) = i m
