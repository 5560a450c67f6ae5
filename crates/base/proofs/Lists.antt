-- Membership in a list, as a fact and as a test; a list copied over another.
--
--   in_is_in, is_in_in   the test passes exactly for the members
--   append_in            a member of one list or of the other is one of both together
--   copied               bytes copied over as many; drop_replicate: what is left of n times a
--   piece, piece_long    sixteen bytes of a list; by_way: sixteen bytes copied by way of sixteen others
use mathlib.Core.Logic.{◌⊎◌, inl, inr}
use mathlib.Core.Path.{◌≡◌, refl, sym, ap, ap₂, ◌∙◌, subst}
use mathlib.Core.Bool.{Bool, true, false, ◌||◌}
use mathlib.Core.List.{List, [], ◌∷◌, ◌++◌, append-nil}
use Prim.Native.Nat.{ℕ, zero, suc, ◌+◌, ◌-◌, ◌≤◌}
use native.Mathlib.Nat.{sub-zero, zero-sub, suc-sub-suc}
use native.Mathlib.Omega.{arith}
use lib.Dec.{T, eqb}
use lib.ListN.{length, take, drop, replicate, drop_of_length-le}
use lib.Seq.{take-length}
use borrow.Author.Tests.{eqb-true, eq-eqb}
use borrow.Rule.Slice.PartMut.{mid_of, mid_len}
use Rattle.base.specs.Base.{In, is_in}

pub in_is_in : (p : ℕ) (l : List ℕ) → In p l → is_in p l ≡ true
in_is_in p [] h = absurd h
in_is_in p (a ∷ l) (inl e) = ap (λ (t : Bool). t || is_in p l) (eq-eqb p a e)
in_is_in p (a ∷ l) (inr h) = ap (λ (t : Bool). eqb p a || t) (in_is_in p l h) ∙ right (eqb p a)
  where
    right : (t : Bool) → t || true ≡ true
    right true = refl
    right false = refl

pub is_in_in : (p : ℕ) (l : List ℕ) → is_in p l ≡ true → In p l
is_in_in p [] h = absurd (subst T (sym h) tt)
is_in_in p (a ∷ l) h = go (eqb p a) refl h (λ z. is_in_in p l z)
  where
    go : (t : Bool) → eqb p a ≡ t → t || is_in p l ≡ true → (is_in p l ≡ true → In p l) → (p ≡ a) ⊎ In p l
    go true e q g = inl (eqb-true p a e)
    go false e q g = inr (g q)

pub append_in : (p : ℕ) (l k : List ℕ) → In p l ⊎ In p k → In p (l ++ k)
append_in p [] k (inl i) = absurd i
append_in p [] k (inr i) = i
append_in p (a ∷ l) k (inl (inl e)) = inl e
append_in p (a ∷ l) k (inl (inr i)) = inr (append_in p l k (inl i))
append_in p (a ∷ l) k (inr i) = inr (append_in p l k (inr i))

-- bytes copied over as many
pub copied : (from to a : List ℕ) → length to ≡ length from → a ≡ take (length from) from ++ drop (length from) to → a ≡ from
copied from to a l e =
    e ∙ ap₂ (λ (u v : List ℕ). u ++ v) (take-length from) (drop_of_length-le to {i = length from} (omega (arith, l))) ∙ append-nil from

-- the sixteen bytes from `at` on
abbrev pub piece : ℕ → List ℕ → List ℕ
piece at l = mid_of at (at + 16 - at) l

pub piece_long : (at : ℕ) (l : List ℕ) → at + 16 ≤ length l → length (piece at l) ≡ 16
piece_long at l h = mid_len at (at + 16) l h ∙ (let q : at + 16 - at ≡ 16 = omega arith in q)

-- sixteen bytes copied into sixteen others, and from there over sixteen
pub by_way : (from to p x : List ℕ) → length from ≡ 16 → length to ≡ 16 → p ≡ take (length from) from ++ drop (length from) (replicate 16 0)
    → x ≡ take (length p) p ++ drop (length p) to → x ≡ from
by_way from to p x l k e f = copied p to x (k ∙ sym (ap length own ∙ l)) f ∙ own
  where
    own : p ≡ from
    own = copied from (replicate 16 0) p (sym l) e

pub drop_replicate : (n m a : ℕ) → drop n (replicate m a) ≡ replicate (m - n) a
drop_replicate zero m a = ap (λ (k : ℕ). replicate k a) (sym (sub-zero m))
drop_replicate (suc n) zero a = ap (λ (k : ℕ). replicate k a) (sym (zero-sub (suc n)))
drop_replicate (suc n) (suc m) a = drop_replicate n m a ∙ ap (λ (k : ℕ). replicate k a) (sym (suc-sub-suc m n))
