-- Few positions.
--
--   few_in           they are positions; few_length: there are at most n; few_more: at most m, for a larger m
--   few_one, few_two one position, and two that differ
use mathlib.Core.Logic.{◌≢◌, ◌⊎◌, inl, inr}
use mathlib.Core.Path.{◌≡◌, sym, subst}
use mathlib.Core.List.{List, [], ◌∷◌}
use Prim.Native.Nat.{ℕ, zero, suc, ◌<◌, ◌≤◌}
use native.Mathlib.Omega.{arith}
use lib.ListN.{length}
use Rattle.base.specs.Base.{In, Few}

pub few_in : (n : ℕ) (ps : List ℕ) → Few n ps → (p : ℕ) → In p ps → p < 45
few_in n [] few p i = absurd i
few_in zero (q ∷ ps) few p i = absurd few
few_in (suc n) (q ∷ ps) few p (inl e) = subst (λ (z : ℕ). z < 45) (sym e) few.0
few_in (suc n) (q ∷ ps) few p (inr i) = few_in n ps few.2 p i

pub few_length : (n : ℕ) (ps : List ℕ) → Few n ps → length ps ≤ n
few_length n [] few = omega arith
few_length zero (q ∷ ps) few = absurd few
few_length (suc n) (q ∷ ps) few = omega (arith, few_length n ps few.2)

pub few_more : (n m : ℕ) (ps : List ℕ) → n ≤ m → Few n ps → Few m ps
few_more n m [] h few = tt
few_more zero m (q ∷ ps) h few = absurd few
few_more (suc n) zero (q ∷ ps) h few = absurd (omega arith)
few_more (suc n) (suc m) (q ∷ ps) h few = (few.0, few.1, few_more n m ps (omega arith) few.2)

pub few_one : (p : ℕ) → p < 45 → Few 2 (p ∷ [])
few_one p l = (l, (λ i. i), tt)

pub few_two : (p q : ℕ) → p < 45 → q < 45 → p ≢ q → Few 2 (p ∷ q ∷ [])
few_two p q hp hq ne = (hp, other, (hq, (λ i. i), tt))
  where
    other : (p ≡ q) ⊎ ⊥ → ⊥
    other (inl e) = ne e
    other (inr z) = z
