-- Tests that antt computes, and what holds where they pass.
use mathlib.Core.Logic.{◌⊎◌, inl, inr}
use mathlib.Core.Path.{◌≡◌, refl, sym, subst}
use mathlib.Core.Bool.{Bool, true, false, ◌&&◌, ◌||◌}
use Prim.Native.Nat.{ℕ, zero, suc, ◌<◌}
use native.Mathlib.Nat.{not-suc-le-zero, le_of_suc-le-suc, eq-or-lt_of_le, lt-suc_self, lt_trans}
use lib.Dec.{T}

-- what holds below n and at n holds below n + 1
pub below_suc : (P : ℕ → Type 0) (n : ℕ) → P n → ((j : ℕ) → j < n → P j) → (j : ℕ) → j < suc n → P j
below_suc P n p q j h = pick (eq-or-lt_of_le (le_of_suc-le-suc h))
  where
    pick : (j ≡ n) ⊎ (j < n) → P j
    pick (inl e) = subst P (sym e) p
    pick (inr l) = q j l

pub is_true : (t : Bool) → T t → t ≡ true
is_true true h = refl
is_true false h = absurd h

-- ---- joined with a test that is known
pub and_no : (t : Bool) → t && false ≡ false
and_no true = refl
and_no false = refl

pub and_yes : (t : Bool) → t && true ≡ t
and_yes true = refl
and_yes false = refl

pub or_no : (t : Bool) → t || false ≡ t
or_no true = refl
or_no false = refl

-- ---- both, either
abbrev pub both : Bool → Bool → Bool
both true b = b
both false b = false

abbrev pub either : Bool → Bool → Bool
either true b = true
either false b = b

pub both_left : (a b : Bool) → T (both a b) → T a
both_left true b t = tt
both_left false b t = t

pub both_right : (a b : Bool) → T (both a b) → T b
both_right true b t = t
both_right false b t = absurd t

pub both_of : (a b : Bool) → T a → T b → T (both a b)
both_of true b h g = g
both_of false b h g = h

pub either_cases : (a b : Bool) → T (either a b) → T a ⊎ T b
either_cases true b h = inl tt
either_cases false b h = inr h

pub either_left : (a b : Bool) → T a → T (either a b)
either_left true b h = tt
either_left false b h = absurd h

pub either_right : (a b : Bool) → T b → T (either a b)
either_right true b h = tt
either_right false b h = h

-- ---- at each number below n
abbrev pub every : (ℕ → Bool) → ℕ → Bool
every f zero = true
every f (suc n) = both (f n) (every f n)

pub every_at : (f : ℕ → Bool) (n : ℕ) → T (every f n) → (i : ℕ) → i < n → T (f i)
every_at f zero t i h = absurd (not-suc-le-zero h)
every_at f (suc n) t i h =
    below_suc (λ i. T (f i)) n (both_left (f n) (every f n) t) (every_at f n (both_right (f n) (every f n) t)) i h

pub every_of : (f : ℕ → Bool) (n : ℕ) → ((i : ℕ) → i < n → T (f i)) → T (every f n)
every_of f zero h = tt
every_of f (suc n) h = both_of (f n) (every f n) (h n (lt-suc_self n)) (every_of f n (λ i l. h i (lt_trans l (lt-suc_self n))))

-- ---- a search below n: the lowest that has the property, or none has
abbrev pub Found : (ℕ → Type 0) → ℕ → Type 0
Found P n = ((i : ℕ) × (i < n) × P i × ((k : ℕ) → k < i → P k → ⊥)) ⊎ ((i : ℕ) → i < n → P i → ⊥)

pub find : (P : ℕ → Type 0) (n : ℕ) → ((i : ℕ) → i < n → P i ⊎ (P i → ⊥)) → Found P n
find P zero d = inr (λ i l. absurd (not-suc-le-zero l))
find P (suc n) d = go (find P n (λ i l. d i (lt_trans l (lt-suc_self n)))) (d n (lt-suc_self n))
  where
    go : Found P n → P n ⊎ (P n → ⊥) → Found P (suc n)
    go (inl w) h = inl (w.0, lt_trans w.1 (lt-suc_self n), w.2, w.3)
    go (inr w) (inl h) = inl (n, lt-suc_self n, h, w)
    go (inr w) (inr h) = inr (below_suc (λ i. P i → ⊥) n h w)
