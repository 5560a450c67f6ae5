-- Each number exactly when, of a call whose causes are looked at in order.
--
--   Rows              the causes in order: a number, where it is given, and where the next is looked at
--   First rs k        k is the number of the first row that holds, or 0 where none does
--   followed, first_followed   rows, and then others
--   Apart             no row holds where the next is looked at, and no number stands twice
--   Exact, exact      each number of the rows is given exactly when its row is the first that holds
--   Only, only        no other number is
use Prim.Native.Nat.{ℕ, zero, suc}
use mathlib.Core.Path.{◌≡◌, refl, sym}
use mathlib.Core.Logic.{◌≢◌, inl, inr, ◌↔◌}
use mathlib.Core.Bool.{Bool, true, ◌&&◌, not}
use mathlib.Core.List.{List, [], ◌∷◌}
use lib.Dec.{eqb}
use borrow.Author.Tests.{eqb-false, not-true}
use Rattle.std.proofs.lemmas.Bool.{and_parts}
use Rattle.base.specs.Base.{In}
use Rattle.answer.proofs.Causes.{or_else}

-- a number, where it is given, and where it is not and the next is looked at
pub data Rows : Type 1 where
  end : Rows
  row : (n : ℕ) (holds passes : Type 0) → Rows → Rows

pub data First : Rows → ℕ → Type 1 where
  nothing : First end 0
  here : {n : ℕ} {H P : Type 0} {rs : Rows} → H → First (row n H P rs) n
  later : {n k : ℕ} {H P : Type 0} {rs : Rows} → P → First rs k → First (row n H P rs) k

-- ---- rows, and then others
abbrev pub followed : Rows → Rows → Rows
followed end ss = ss
followed (row n H P rs) ss = row n H P (followed rs ss)

-- no number is 0
abbrev pub no_zero : Rows → Bool
no_zero end = true
no_zero (row n H P rs) = not (eqb n 0) && no_zero rs

pub first_followed : (rs ss : Rows) (k l : ℕ) → no_zero rs ≡ true → First rs k → First ss l → First (followed rs ss) (or_else k l)
first_followed end ss k l z nothing g = g
first_followed (row n H P rs) ss k l z (here h) g = at n (eqb-false n 0 (not-true _ (and_parts _ _ z).0))
  where
    at : (n : ℕ) → n ≢ 0 → First (row n H P (followed rs ss)) (or_else n l)
    at zero e = absurd (e refl)
    at (suc n) e = here h
first_followed (row n H P rs) ss k l z (later p f) g = later p (first_followed rs ss k l (and_parts _ _ z).1 f g)

-- ---- each number exactly when
-- n is the number of none of them
abbrev pub no_row : ℕ → Rows → Bool
no_row n end = not (eqb n 0)
no_row n (row m H P rs) = not (eqb n m) && no_row n rs

abbrev pub Apart : Rows → Type 0
Apart end = Unit {0}
Apart (row n H P rs) = (H → P → ⊥) × (no_row n rs ≡ true) × Apart rs

-- Q X says that the rows so far have been passed, and X
abbrev pub Exact : (Type 0 → Type 0) → Rows → ℕ → Type 0
Exact Q end k = Unit {0}
Exact Q (row n H P rs) k = ((k ≡ n) ↔ Q H) × Exact (λ X. Q (P × X)) rs k

not_in_rows : (n : ℕ) (rs : Rows) → no_row n rs ≡ true → (k : ℕ) → First rs k → k ≢ n
not_in_rows n end t k nothing e = eqb-false n 0 (not-true _ t) (sym e)
not_in_rows n (row m H P rs) t k (here h) e = eqb-false n m (not-true _ (and_parts _ _ t).0) (sym e)
not_in_rows n (row m H P rs) t k (later p f) e = not_in_rows n rs (and_parts _ _ t).1 k f e

-- where the rows before have not been passed
never : (Q : Type 0 → Type 0) (n : ℕ) (rs : Rows) → no_row n rs ≡ true → ((X : Type 0) → Q X → ⊥) → Exact Q rs n
never Q n end t none = tt
never Q n (row m H P rs) t none =
    (((λ e. absurd (eqb-false n m (not-true _ (and_parts _ _ t).0) e)), λ q. absurd (none H q)), never (λ X. Q (P × X)) n rs (and_parts _ _ t).1 (λ X q. none (P × X) q))

under : (Q : Type 0 → Type 0) → ((X : Type 0) → X → Q X) → ((X : Type 0) → Q X → X) → (rs : Rows) (k : ℕ) → Apart rs → First rs k → Exact Q rs k
under Q on off end k a f = tt
under Q on off (row n H P rs) k a (here h) =
    (((λ e. on H h), λ q. refl), never (λ X. Q (P × X)) n rs a.1 (λ X q. a.0 h (off (P × X) q).0))
under Q on off (row n H P rs) k a (later p f) = (
  ((λ e. absurd (not_in_rows n rs a.1 k f e)), λ q. absurd (a.0 (off H q) p)),
  under (λ X. Q (P × X)) (λ X x. on (P × X) (p, x)) (λ X q. (off (P × X) q).1) rs k a.2 f,
)

pub exact : (rs : Rows) (k : ℕ) → Apart rs → First rs k → Exact (λ X. X) rs k
exact rs k a f = under (λ X. X) (λ X x. x) (λ X x. x) rs k a f

-- ---- and no other
abbrev pub row_numbers : Rows → List ℕ
row_numbers end = 0 ∷ []
row_numbers (row n H P rs) = n ∷ row_numbers rs

pub only : (rs : Rows) (k : ℕ) → First rs k → In k (row_numbers rs)
only end k nothing = inl refl
only (row n H P rs) k (here h) = inl refl
only (row n H P rs) k (later p f) = inr (only rs k f)
