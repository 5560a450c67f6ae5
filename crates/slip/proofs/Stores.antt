-- Bytes one by one, and stored so.
--
--   cells l p n     n elements of l from p on; cells_take: they are those; cells_all: all of them
--   stores          one element after another, at i + j and on
--   stored          what that leaves; put_is: of the first elements of a list
use Prim.Native.Nat.{ℕ, zero, suc, ◌+◌, ◌≤◌}
use mathlib.Core.Path.{◌≡◌, refl, sym, ap, ap₂, ◌∙◌}
use mathlib.Core.List.{List, [], ◌∷◌, ◌++◌, append_assoc}
use native.Mathlib.Omega.{arith}
use lib.ListN.{length, get_or, set, take, drop}
use lib.Seq.{drop-cons, take_all, sets, sets-eq}

abbrev pub cells : List ℕ → ℕ → ℕ → List ℕ
cells l p zero = []
cells l p (suc n) = get_or l p 0 ∷ cells l (suc p) n

pub cells_take : (n : ℕ) (l : List ℕ) (p : ℕ) → p + n ≤ length l → take n (drop p l) ≡ cells l p n
cells_take zero l p h = refl
cells_take (suc n) l p h =
    ap (take (suc n)) (drop-cons l p 0 (omega (arith, h))) ∙ ap (λ (c : List ℕ). get_or l p 0 ∷ c) (cells_take n l (suc p) (omega (arith, h)))

pub cells_all : (n : ℕ) (l : List ℕ) → length l ≡ n → cells l 0 n ≡ l
cells_all n l e = sym (cells_take n l 0 (omega (arith, e))) ∙ take_all n l (omega (arith, e))

cells_length : (n : ℕ) (l : List ℕ) (p : ℕ) → length (cells l p n) ≡ n
cells_length zero l p = refl
cells_length (suc n) l p = ap suc (cells_length n l (suc p))

abbrev pub stores : List ℕ → ℕ → ℕ → List ℕ → List ℕ
stores l i j [] = l
stores l i j (a ∷ vs) = stores (set l (i + j) a) i (suc j) vs

stores_sets : (vs l : List ℕ) (i j : ℕ) → stores l i j vs ≡ sets l (i + j) vs
stores_sets [] l i j = refl
stores_sets (a ∷ vs) l i j =
    stores_sets vs (set l (i + j) a) i (suc j) ∙ ap (λ (n : ℕ). sets (set l (i + j) a) n vs) (let q : i + suc j ≡ suc (i + j) = omega arith in q)

-- the first at i, the others behind it
pub stored : (a : ℕ) (vs l : List ℕ) (i : ℕ) → i + suc (length vs) ≤ length l
    → stores (set l i a) i 1 vs ≡ take i l ++ ((a ∷ vs) ++ drop (i + suc (length vs)) l)
stored a vs l i h =
    stores_sets vs (set l i a) i 1 ∙ ap (λ (n : ℕ). sets (set l i a) n vs) (let q : i + 1 ≡ suc i = omega arith in q)
    ∙ sets-eq (a ∷ vs) l i h ∙ append_assoc (take i l) (a ∷ vs) (drop (i + suc (length vs)) l)

-- the first `size` elements of b, stored from i on
pub put_is : (l b : List ℕ) (i size n : ℕ) → size ≡ suc n → size ≤ length b → i + size ≤ length l
    → stores (set l i (get_or b 0 0)) i 1 (cells b 1 n) ≡ take i l ++ (take size b ++ drop (i + size) l)
put_is l b i size n e h r =
    stored (get_or b 0 0) (cells b 1 n) l i (omega (arith, cells_length n b 1, e, r))
    ∙ ap₂ (λ (c : List ℕ) (x : ℕ). take i l ++ (c ++ drop (i + x) l)) (sym (ap (λ (x : ℕ). take x b) e ∙ cells_take (suc n) b 0 (omega (arith, e, h))))
    (let q : suc (length (cells b 1 n)) ≡ size = omega (arith, cells_length n b 1, e) in q)
