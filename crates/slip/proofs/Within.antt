-- Bytes within their limits.
--
--   within_front    so are the first of them
--   within_more     one more byte that is; within_last: the last byte is
--   within_test     the same as a test; within_of
--   filled          some of them go on to any length that there are limits for
use Prim.Native.Nat.{ℕ, zero, suc, ◌≤◌, ◌<◌}
use mathlib.Core.Path.{◌≡◌, sym, ap, subst}
use mathlib.Core.Bool.{Bool, true, false}
use mathlib.Core.List.{List, [], ◌∷◌, ◌++◌}
use native.Mathlib.Omega.{arith}
use lib.Dec.{T, leb}
use lib.ListN.{length, get_or, take, drop, take-append-drop}
use lib.Seq.{length-take-le}
use borrow.Author.Tests.{leb-true}
use Rattle.base.proofs.Tests.{both, both_left, both_right, is_true}
use Rattle.slip.specs.Limits.{Within}

pub within_front : (lo hi bs cs : List ℕ) → Within lo hi (bs ++ cs) → Within lo hi bs
within_front lo hi [] cs w = tt
within_front [] hi (x ∷ bs) cs w = w
within_front (l ∷ lo) [] (x ∷ bs) cs w = w
within_front (l ∷ lo) (h ∷ hi) (x ∷ bs) cs w = (w.0, w.1, within_front lo hi bs cs w.2)

pub within_more : (lo hi bs : List ℕ) (x : ℕ) → length bs < length lo → length bs < length hi → Within lo hi bs → get_or lo (length bs) 0 ≤ x
    → x ≤ get_or hi (length bs) 0 → Within lo hi (bs ++ (x ∷ []))
within_more [] hi [] x p q w a b = absurd (omega (arith, p))
within_more (l ∷ lo) [] [] x p q w a b = absurd (omega (arith, q))
within_more (l ∷ lo) (h ∷ hi) [] x p q w a b = (a, b, tt)
within_more [] hi (y ∷ bs) x p q w a b = w
within_more (l ∷ lo) [] (y ∷ bs) x p q w a b = w
within_more (l ∷ lo) (h ∷ hi) (y ∷ bs) x p q w a b = (w.0, w.1, within_more lo hi bs x (omega (arith, p)) (omega (arith, q)) w.2 a b)

pub within_last : (lo hi bs : List ℕ) (x : ℕ) → Within lo hi (bs ++ (x ∷ [])) → (get_or lo (length bs) 0 ≤ x) × (x ≤ get_or hi (length bs) 0)
within_last [] hi [] x w = absurd w
within_last (l ∷ lo) [] [] x w = absurd w
within_last (l ∷ lo) (h ∷ hi) [] x w = (w.0, w.1)
within_last [] hi (y ∷ bs) x w = absurd w
within_last (l ∷ lo) [] (y ∷ bs) x w = absurd w
within_last (l ∷ lo) (h ∷ hi) (y ∷ bs) x w = within_last lo hi bs x w.2

-- where each least is at most its most, the rest may be the least
pub filled : (lo hi : List ℕ) (n : ℕ) (bs : List ℕ) → Within lo hi lo → length bs ≤ n → n ≤ length lo → Within lo hi bs
    → (cs : List ℕ) × Within lo hi (bs ++ cs) × (length (bs ++ cs) ≡ n)
filled lo hi n [] self a b w =
    (take n lo, within_front lo hi (take n lo) (drop n lo) (subst (Within lo hi) (sym (take-append-drop n lo)) self), length-take-le n lo b)
filled lo hi zero (x ∷ bs) self a b w = absurd (omega (arith, a))
filled [] hi (suc n) (x ∷ bs) self a b w = absurd w
filled (l ∷ lo) [] (suc n) (x ∷ bs) self a b w = absurd w
filled (l ∷ lo) (h ∷ hi) (suc n) (x ∷ bs) self a b w =
    let r = filled lo hi n bs self.2 (omega (arith, a)) (omega (arith, b)) w.2 in
    (r.0, (w.0, w.1, r.1), ap suc r.2)

-- ---- as a test that is run
unfoldable pub within_test : List ℕ → List ℕ → List ℕ → Bool
within_test lo hi [] = true
within_test [] hi (x ∷ bs) = false
within_test (l ∷ lo) [] (x ∷ bs) = false
within_test (l ∷ lo) (h ∷ hi) (x ∷ bs) = both (leb l x) (both (leb x h) (within_test lo hi bs))

pub within_of : (lo hi bs : List ℕ) → T (within_test lo hi bs) → Within lo hi bs
unfolding within_test
within_of lo hi [] t = tt
within_of [] hi (x ∷ bs) t = t
within_of (l ∷ lo) [] (x ∷ bs) t = t
within_of (l ∷ lo) (h ∷ hi) (x ∷ bs) t =
    let u = both_right (leb l x) _ t in
    (leb-true l x (is_true _ (both_left (leb l x) _ t)), leb-true x h (is_true _ (both_left (leb x h) _ u)), within_of lo hi bs (both_right (leb x h) _ u))
