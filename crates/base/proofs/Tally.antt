-- Laws of counting.
--
--   clash                        a test can't both pass and fail
--   tally_ext, -never            the same tests count the same; where none passes the count is 0
--   tally_none, -one, -some, -two  what a count of 0, at most 1, at least 1, at least 2 tells
--   tally_add, -point, -card     three tests of which at most one passes; at one place; on one card of five
--   count_more, -some, -same     one step of a loop that counts
--   at_most                      a count below n is at most n; one_le: a test counts at most 1
--   tally_either, -in            counted by either of two tests: at most by both together; in a list: at most its length
--   passes, fails                a test as the code made it
use mathlib.Core.Logic.{◌≢◌, ◌⊎◌, inl, inr}
use mathlib.Core.Path.{◌≡◌, refl, sym, ap, ap₂, ◌∙◌, subst}
use mathlib.Core.Bool.{Bool, true, false, ◌&&◌, ◌||◌}
use mathlib.Core.List.{List, [], ◌∷◌}
use Prim.Native.Nat.{ℕ, zero, suc, ◌+◌, ◌/◌, ◌%◌, ◌<◌, ◌≤◌}
use native.Mathlib.Nat.{not-suc-le-zero, le_of_suc-le-suc, lt-suc_self, lt_trans, eq-or-lt_of_le}
use native.Mathlib.Numerals.{add-one}
use native.Mathlib.Omega.{arith}
use lib.Dec.{T, eqb}
use lib.ListN.{length}
use borrow.Author.Tests.{eq-eqb, ne_eqb}
use Rattle.std.proofs.lemmas.Bool.{cases_eq}
use Rattle.base.specs.Base.{is_in, bit, tally}
use Rattle.base.proofs.Tests.{below_suc}

pub clash : (t : Bool) → t ≡ true → t ≡ false → ⊥
clash t p q = subst T (sym p ∙ q) tt

pub tally_ext : (n : ℕ) (g h : ℕ → Bool) → ((i : ℕ) → i < n → g i ≡ h i) → tally n g ≡ tally n h
unfolding tally
tally_ext zero g h e = refl
tally_ext (suc n) g h e = ap₂ (λ (x : Bool) (y : ℕ). bit x + y) (e n (lt-suc_self n)) (tally_ext n g h (λ i l. e i (lt_trans l (lt-suc_self n))))

pub tally_never : (n : ℕ) (g : ℕ → Bool) → ((i : ℕ) → i < n → g i ≡ false) → tally n g ≡ 0
unfolding tally
tally_never zero g h = refl
tally_never (suc n) g h = ap₂ (λ (x : Bool) (y : ℕ). bit x + y) (h n (lt-suc_self n)) (tally_never n g (λ i l. h i (lt_trans l (lt-suc_self n))))

-- ---- what a count tells
pub tally_none : (g : ℕ → Bool) (n : ℕ) → tally n g ≡ 0 → (i : ℕ) → i < n → g i ≡ false
unfolding tally
tally_none g zero e i h = absurd (not-suc-le-zero h)
tally_none g (suc n) e i h = go (g n) refl e (λ z. tally_none g n z)
  where
    go : (t : Bool) → g n ≡ t → bit t + tally n g ≡ 0 → (tally n g ≡ 0 → (k : ℕ) → k < n → g k ≡ false) → g i ≡ false
    go true q f r = absurd (omega arith)
    go false q f r = below_suc (λ k. g k ≡ false) n q (r (omega arith)) i h

pub tally_one : (g : ℕ → Bool) (n : ℕ) → tally n g ≤ 1 → (f : ℕ) × ((i : ℕ) → i < n → g i ≡ true → i ≡ f)
unfolding tally
tally_one g zero e = (0, λ i h. absurd (not-suc-le-zero h))
tally_one g (suc n) e = go (g n) refl e (λ z. tally_one g n z)
  where
    go : (t : Bool) → g n ≡ t → bit t + tally n g ≤ 1 → (tally n g ≤ 1 → (f : ℕ) × ((i : ℕ) → i < n → g i ≡ true → i ≡ f))
        → (f : ℕ) × ((i : ℕ) → i < suc n → g i ≡ true → i ≡ f)
    go true q f r = (n, below_suc (λ i. g i ≡ true → i ≡ n) n (λ z. refl) (λ i l z. absurd (clash (g i) z (tally_none g n (omega arith) i l))))
    go false q f r = let w = r (omega arith) in (w.0, below_suc (λ i. g i ≡ true → i ≡ w.0) n (λ z. absurd (clash (g n) z q)) w.1)

pub tally_some : (g : ℕ → Bool) (n : ℕ) → 1 ≤ tally n g → (i : ℕ) × (i < n) × (g i ≡ true)
unfolding tally
tally_some g zero h = absurd (omega arith)
tally_some g (suc n) h = go (g n) refl h (λ z. tally_some g n z)
  where
    go : (t : Bool) → g n ≡ t → 1 ≤ bit t + tally n g → (1 ≤ tally n g → (i : ℕ) × (i < n) × (g i ≡ true)) → (i : ℕ) × (i < suc n) × (g i ≡ true)
    go true q f r = (n, lt-suc_self n, q)
    go false q f r = let w = r (omega arith) in (w.0, lt_trans w.1 (lt-suc_self n), w.2)

pub tally_two : (g : ℕ → Bool) (n : ℕ) → 2 ≤ tally n g → (i : ℕ) × (k : ℕ) × (i < n) × (k < n) × (i ≢ k) × (g i ≡ true) × (g k ≡ true)
unfolding tally
tally_two g zero h = absurd (omega arith)
tally_two g (suc n) h = go (g n) refl h (λ z. tally_two g n z)
  where
    go : (t : Bool) → g n ≡ t → 2 ≤ bit t + tally n g → (2 ≤ tally n g → (i : ℕ) × (k : ℕ) × (i < n) × (k < n) × (i ≢ k) × (g i ≡ true) × (g k ≡ true))
        → (i : ℕ) × (k : ℕ) × (i < suc n) × (k < suc n) × (i ≢ k) × (g i ≡ true) × (g k ≡ true)
    go true q f r = let w = tally_some g n (omega arith) in (w.0, n, lt_trans w.1 (lt-suc_self n), lt-suc_self n, (λ e. omega (arith, w.1)), w.2, q)
    go false q f r = let w = r (omega arith) in (w.0, w.1, lt_trans w.2 (lt-suc_self n), lt_trans w.3 (lt-suc_self n), w.4, w.5, w.6)

-- ---- three tests of which at most one passes
pub tally_add : (n : ℕ) (g h k l : ℕ → Bool) → ((i : ℕ) → i < n → bit (g i) ≡ bit (h i) + (bit (k i) + bit (l i)))
    → tally n g ≡ tally n h + (tally n k + tally n l)
unfolding tally
tally_add zero g h k l e = refl
tally_add (suc n) g h k l e = omega (arith, e n (lt-suc_self n), tally_add n g h k l (λ i z. e i (lt_trans z (lt-suc_self n))))

-- at one place
pub tally_point : (n p : ℕ) (t : Bool) → p < n → tally n (λ r. eqb r p && t) ≡ bit t
unfolding tally
tally_point zero p t h = absurd (not-suc-le-zero h)
tally_point (suc n) p t h = pick (eq-or-lt_of_le (le_of_suc-le-suc h)) (λ l. tally_point n p t l)
  where
    pick : (p ≡ n) ⊎ (p < n) → (p < n → tally n (λ r. eqb r p && t) ≡ bit t) → bit (eqb n p && t) + tally n (λ r. eqb r p && t) ≡ bit t
    pick (inl e) g =
        let here : bit (eqb n p && t) ≡ bit t = ap (λ (x : Bool). bit (x && t)) (eq-eqb n p (sym e)) in
        omega (arith, here, tally_never n (λ r. eqb r p && t) (λ i l. ap (λ (x : Bool). x && t) (ne_eqb i p (λ z. omega arith))))
    pick (inr l) g =
        let here : bit (eqb n p && t) ≡ 0 = ap (λ (x : Bool). bit (x && t)) (ne_eqb n p (λ z. omega arith)) in
        omega (arith, here, g l)

-- on one card of five
pub tally_card : (j : ℕ) → j < 5 → (h : ℕ → Bool) → tally 45 (λ r. eqb (r / 9) j && h (r % 9)) ≡ tally 9 h
unfolding tally
tally_card zero l h = omega arith
tally_card (suc zero) l h = omega arith
tally_card (suc (suc zero)) l h = omega arith
tally_card (suc (suc (suc zero))) l h = omega arith
tally_card (suc (suc (suc (suc zero)))) l h = omega arith
tally_card (suc (suc (suc (suc (suc j))))) l h = absurd (omega arith)

-- ---- one more, as the code counts
pub count_more : (g : ℕ → Bool) (i n m v : ℕ) → n ≡ tally i g → v ≡ bit (g i) → m ≡ n + v → m ≡ tally (i + 1) g
unfolding tally
count_more g i n m v e q f = rw (add-one i) (omega arith)

pub count_some : (g : ℕ → Bool) (i n m : ℕ) (t : Bool) → n ≡ tally i g → t ≡ g i → t ≡ true → m ≡ n + 1 → m ≡ tally (i + 1) g
count_some g i n m t e q r f = count_more g i n m 1 e (ap bit (sym r ∙ q)) f

pub count_same : (g : ℕ → Bool) (i n m : ℕ) (t : Bool) → n ≡ tally i g → t ≡ g i → t ≡ false → m ≡ n → m ≡ tally (i + 1) g
count_same g i n m t e q r f = count_more g i n m 0 e (ap bit (sym r ∙ q)) (omega arith)

-- ---- bounds
pub one_le : (t : Bool) → bit t ≤ 1
one_le true = omega arith
one_le false = omega arith

tally_le : (n : ℕ) (g : ℕ → Bool) → tally n g ≤ n
unfolding tally
tally_le zero g = omega arith
tally_le (suc n) g = omega (arith, one_le (g n), tally_le n g)

pub at_most : (n : ℕ) (g : ℕ → Bool) (v : ℕ) → v ≡ tally n g → v ≤ n
at_most n g v e = omega (arith, tally_le n g)

pub tally_either : (n : ℕ) (g h k : ℕ → Bool) → ((i : ℕ) → i < n → bit (g i) ≤ bit (h i) + bit (k i)) → tally n g ≤ tally n h + tally n k
unfolding tally
tally_either zero g h k e = omega arith
tally_either (suc n) g h k e = omega (arith, e n (lt-suc_self n), tally_either n g h k (λ i z. e i (lt_trans z (lt-suc_self n))))

tally_place : (n p : ℕ) → tally n (λ r. eqb r p) ≤ 1
unfolding tally
tally_place zero p = omega arith
tally_place (suc n) p = pick (cases_eq n p) (tally_place n p)
  where
    pick : (n ≡ p) ⊎ (n ≢ p) → tally n (λ r. eqb r p) ≤ 1 → bit (eqb n p) + tally n (λ r. eqb r p) ≤ 1
    pick (inl e) h =
        let here : bit (eqb n p) ≡ 1 = ap bit (eq-eqb n p e) in
        omega (arith, here, tally_never n (λ r. eqb r p) (λ i l. ne_eqb i p (λ z. omega arith)))
    pick (inr e) h = let here : bit (eqb n p) ≡ 0 = ap bit (ne_eqb n p e) in omega (arith, here, h)

or_le : (s t : Bool) → bit (s || t) ≤ bit s + bit t
or_le true t = omega arith
or_le false t = omega arith

pub tally_in : (n : ℕ) (l : List ℕ) → tally n (λ p. is_in p l) ≤ length l
tally_in n [] = omega (arith, tally_never n (λ p. false) (λ i h. refl))
tally_in n (a ∷ l) = omega (
  arith,
  tally_either n (λ p. eqb p a || is_in p l) (λ p. eqb p a) (λ p. is_in p l) (λ i h. or_le (eqb i a) (is_in i l)),
  tally_place n a,
  tally_in n l,
)

-- a test as the code made it
pub passes : {t u : Bool} → t ≡ u → t ≡ true → u ≡ true
passes e h = sym e ∙ h

pub fails : {t u : Bool} → t ≡ u → t ≡ false → u ≡ false
fails e h = sym e ∙ h
