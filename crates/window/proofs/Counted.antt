-- How often each byte stands in a list, as the code counts it.
--
--   times_append                              in two lists, one after the other
--   none_counted, one_counted, all_counted    the loop that counts, those before i; count_le: no count is above the number passed
--   few_more                                  the loop that seeks four or more
use mathlib.Core.Logic.{◌≢◌, ◌⊎◌, inl, inr}
use mathlib.Core.Path.{◌≡◌, refl, sym, ap, ◌∙◌, subst}
use mathlib.Core.List.{List, [], ◌∷◌, ◌++◌}
use Prim.Native.Nat.{ℕ, ◌+◌, ◌<◌, ◌≤◌}
use native.Mathlib.Numerals.{add-one}
use native.Mathlib.Omega.{arith}
use lib.Dec.{eqb}
use lib.ListN.{length, take, get_or, set, replicate, length-set, get_or-replicate}
use lib.Seq.{take-suc, take_all, length-take-le, get_or-set_same, get_or-set_other}
use borrow.Author.Tests.{eq-eqb, ne_eqb}
use Rattle.std.proofs.lemmas.Bool.{cases_eq}
use Rattle.base.specs.Base.{bit}
use Rattle.base.proofs.Tally.{one_le}
use Rattle.window.specs.Window.{times}
use Rattle.window.specs.Count.{Counts}

pub times_append : (p : ℕ) (l k : List ℕ) → times p (l ++ k) ≡ times p l + times p k
times_append p [] k = omega arith
times_append p (a ∷ l) k = omega (arith, times_append p l k)

-- no byte stands among i more than i times
times_le : (p : ℕ) (l : List ℕ) → times p l ≤ length l
times_le p [] = omega arith
times_le p (a ∷ l) = omega (arith, one_le (eqb a p), times_le p l)

-- ---- counted by a loop: those before i
pub none_counted : (w c : List ℕ) → c ≡ replicate 256 0 → Counts (take 0 w) c
none_counted w c e = rw e (record { long = refl; each = λ p h. get_or-replicate 256 p 0 0 h })

module _ (w c : List ℕ) (i : ℕ) (h : i < length w) (k : Counts (take i w) c) (a : ℕ) (b : a < 256) where
  pub count_le : get_or c a 0 ≤ i
  count_le = omega (arith, k.each a b, times_le a (take i w), length-take-le i w (omega arith))

  module _ (e : a ≡ get_or w i 0) where
    more : (p : ℕ) → times p (take (i + 1) w) ≡ times p (take i w) + bit (eqb a p)
    more p =
        ap (times p) (ap (λ (j : ℕ). take j w) (add-one i) ∙ take-suc w i 0 h ∙ ap (λ (x : ℕ). take i w ++ (x ∷ [])) (sym e))
        ∙ times_append p (take i w) (a ∷ []) ∙ omega arith

    pub one_counted : Counts (take (i + 1) w) (set c a (get_or c a 0 + 1))
    one_counted = record { long = length-set c a _ ∙ k.long; each = λ p d. at p d (cases_eq p a) }
      where
        at : (p : ℕ) → p < 256 → (p ≡ a) ⊎ (p ≢ a) → get_or (set c a (get_or c a 0 + 1)) p 0 ≡ times p (take (i + 1) w)
        at p d (inl z) =
            let here : bit (eqb a p) ≡ 1 = ap bit (eq-eqb a p (sym z)) in
            let y : times a (take i w) ≡ times p (take i w) = ap (λ (j : ℕ). times j (take i w)) (sym z) in
            ap (λ (j : ℕ). get_or (set c a (get_or c a 0 + 1)) j 0) z ∙ get_or-set_same c a _ 0 (omega (arith, k.long))
            ∙ omega (arith, k.each a b, more p, here, y)
        at p d (inr z) =
            let here : bit (eqb a p) ≡ 0 = ap bit (ne_eqb a p (λ y. z (sym y))) in
            get_or-set_other c a p _ 0 z ∙ omega (arith, k.each p d, more p, here)

pub all_counted : (w c : List ℕ) (i : ℕ) → length w ≤ i → Counts (take i w) c → Counts w c
all_counted w c i h k = subst (λ (l : List ℕ). Counts l c) (take_all i w h) k

-- ---- four or more, by a loop: none from p on and before q
pub few_more : (c : List ℕ) (p q : ℕ) → ((i : ℕ) → p ≤ i → i < q → get_or c i 0 < 4) → get_or c q 0 < 4
    → (i : ℕ) → p ≤ i → i < q + 1 → get_or c i 0 < 4
few_more c p q h f i g b = pick (cases_eq i q)
  where
    pick : (i ≡ q) ⊎ (i ≢ q) → get_or c i 0 < 4
    pick (inl e) = omega (arith, ap (λ (j : ℕ). get_or c j 0) e)
    pick (inr e) = h i g (omega arith)
