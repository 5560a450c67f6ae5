-- How the window is moved on: sixteen bytes at a time come down by n places, and what is added comes behind the last.
--
--   added_behind     what is added stands behind what stays
--   down n k w       the window w, of which the first k have come down by n places
--   put_down         sixteen bytes by way of sixteen others; down_more: then the first k + 16 have come down
--   both_long, joined, back_copied   the last sixteen, with eleven bytes behind them; put_behind, back_moved: as a whole copy moves them
--   all_moved        THE LAW: 48 that have come down, and the last sixteen moved on
--   take_most        of eleven bytes no more than eleven are taken
use mathlib.Core.Logic.{◌⊎◌, inl, inr}
use mathlib.Core.Path.{◌≡◌, refl, sym, ap, ap₂, ◌∙◌}
use mathlib.Core.List.{List, ◌++◌, append_assoc, append-nil}
use Prim.Native.Nat.{ℕ, ◌+◌, ◌-◌, ◌<◌, ◌≤◌, min}
use native.Mathlib.Omega.{arith}
use lib.ListN.{length, take, drop, replicate, length-append, length-drop, drop_of_length-le, take-append-drop}
use lib.Seq.{drop-append-le, drop-append-add, drop-drop, take-append-add, length-take-le, take-add, take_all, take_at, drop_at}
use borrow.Rule.Slice.PartMut.{mid_of, put_mid, Post-is}
use Rattle.std.proofs.lemmas.Bool.{cases_lt}
use Rattle.base.proofs.Lists.{copied, piece, piece_long, by_way}
use Rattle.window.specs.Window.{added}
use Rattle.window.proofs.Runs.{added_long}

-- what is added to a list stands behind it, and as many have left
added_behind : (w at : List ℕ) (n : ℕ) → n ≤ length w → n ≤ length at → added w (take n at) ≡ drop n w ++ take n at
unfolding added
added_behind w at n h g = ap (λ (k : ℕ). drop k (w ++ take n at)) (length-take-le n at g) ∙ drop-append-le n w (take n at) h

-- ---- the first 48
abbrev pub down : ℕ → ℕ → List ℕ → List ℕ
down n k w = take k (drop n w) ++ drop k w

-- the sixteen bytes from k + n on, put to k
abbrev pub put_from : ℕ → ℕ → List ℕ → List ℕ
put_from n k w = take k w ++ (take 16 (drop (k + n) w) ++ drop (k + 16) w)

pub put_down : (w p x : List ℕ) (k n : ℕ) → length w ≡ 64 → k + n + 16 ≤ 64
    → p ≡ take (length (piece (k + n) w)) (piece (k + n) w) ++ drop (length (piece (k + n) w)) (replicate 16 0)
    → x ≡ take (length p) p ++ drop (length p) (piece k w) → put_mid k (k + 16 - k) w x ≡ put_from n k w
put_down w p x k n l h e f = ap₂ (λ (u v : List ℕ). take k w ++ (u ++ v)) (there ∙ sixteen) (Post-is k (k + 16) w (omega arith))
  where
    there : x ≡ piece (k + n) w
    there =
        by_way (piece (k + n) w) (piece k w) p x (piece_long (k + n) w (omega (arith, l, h))) (piece_long k w (omega (arith, l, h))) e f

    sixteen : piece (k + n) w ≡ take 16 (drop (k + n) w)
    sixteen = ap (λ (m : ℕ). take m (drop (k + n) w)) (let q : k + n + 16 - (k + n) ≡ 16 = omega arith in q)

-- nothing that is still to come down has been written
pub down_more : (w x : List ℕ) (k n : ℕ) → length w ≡ 64 → k + n + 16 ≤ 64 → x ≡ down n k w → put_from n k x ≡ down n (k + 16) w
down_more w x k n l h e =
    ap (put_from n k) e
    ∙ ap₂ (λ (u v : List ℕ). u ++ v) (take_at (take k (drop n w)) (drop k w) k long)
    (ap₂ (λ (u v : List ℕ). take 16 u ++ v) next (after 16 ∙ drop-drop 16 k w))
    ∙ sym (append_assoc (take k (drop n w)) (take 16 (drop k (drop n w))) (drop (k + 16) w))
    ∙ ap (λ (u : List ℕ). u ++ drop (k + 16) w) (sym (take-add k 16 (drop n w)))
  where
    long : length (take k (drop n w)) ≡ k
    long = length-take-le k (drop n w) (rw (length-drop n w) (omega arith))

    after : (m : ℕ) → drop (k + m) (take k (drop n w) ++ drop k w) ≡ drop m (drop k w)
    after m = ap (λ (i : ℕ). drop (i + m) (take k (drop n w) ++ drop k w)) (sym long) ∙ drop-append-add (take k (drop n w)) (drop k w) m

    next : drop (k + n) (take k (drop n w) ++ drop k w) ≡ drop k (drop n w)
    next =
        after n ∙ drop-drop n k w ∙ ap (λ (i : ℕ). drop i w) (let q : k + n ≡ n + k = omega arith in q) ∙ sym (drop-drop k n w)

-- ---- the last sixteen: of sixteen bytes and eleven more, the sixteen after the first n
moved_on : (w at : List ℕ) (n : ℕ) → length w ≡ 16 → length at ≡ 11 → n ≤ 11 → take 16 (drop n (w ++ at)) ≡ added w (take n at)
moved_on w at n l a h =
    ap (take 16) (drop-append-le n w at (omega arith))
    ∙ ap (λ (k : ℕ). take k (drop n w ++ at)) whole
    ∙ take-append-add (drop n w) at n
    ∙ sym (added_behind w at n (omega arith) (omega arith))
  where
    whole : 16 ≡ length (drop n w) + n
    whole = rw (length-drop n w) (omega arith)

-- the sixteen copied to the front, and the eleven behind them
pub put_behind : (w z at x y : List ℕ) → length w ≡ 16 → length z ≡ 11 → x ≡ w → y ≡ at → put_mid 16 11 (x ++ z) y ≡ w ++ at
put_behind w z at x y l lz e f =
    rw (e, f) (ap₂ (λ (a b : List ℕ). a ++ (at ++ b)) (take_at w z 16 l) (ap (drop 11) (drop_at w z 16 l) ∙ drop_of_length-le z {i = 11} (omega arith))
    ∙ ap (λ (k : List ℕ). w ++ k) (append-nil at))

pub both_long : (x z : List ℕ) → length x ≡ 16 → length z ≡ 11 → 27 ≤ length (x ++ z)
both_long x z l lz = rw (length-append x z) (omega arith)

behind_long : (x z : List ℕ) → length x ≡ 16 → length z ≡ 11 → length (mid_of 16 11 (x ++ z)) ≡ 11
behind_long x z l lz = ap (λ (k : List ℕ). length (take 11 k)) (drop_at x z 16 l) ∙ length-take-le 11 z (omega arith)

-- sixteen bytes and eleven, each copied over as many
pub joined : (w at x y : List ℕ) → length w ≡ 16 → length at ≡ 11 → x ≡ take (length w) w ++ drop (length w) (replicate 16 0) → length x ≡ 16
    → y ≡ take (length at) at ++ drop (length at) (mid_of 16 11 (x ++ replicate 11 0)) → put_mid 16 11 (x ++ replicate 11 0) y ≡ w ++ at
joined w at x y l a e k f =
    put_behind w (replicate 11 0) at x y l refl (copied w (replicate 16 0) x (sym l) e)
    (copied at (mid_of 16 11 (x ++ replicate 11 0)) y (behind_long x (replicate 11 0) k refl ∙ sym a) f)

pub back_copied : (w at run x : List ℕ) (n : ℕ) → length w ≡ 16 → length at ≡ 11 → n ≤ 11 → run ≡ w ++ at
    → x ≡ take (length (mid_of n (n + 16 - n) run)) (mid_of n (n + 16 - n) run) ++ drop (length (mid_of n (n + 16 - n) run)) w → x ≡ added w (take n at)
back_copied w at run x n l a h e f = copied (mid_of n (n + 16 - n) run) w x (l ∙ sym long) f ∙ is
  where
    is : mid_of n (n + 16 - n) run ≡ added w (take n at)
    is =
        let q : n + 16 - n ≡ 16 = omega arith in
        ap (λ (k : List ℕ). mid_of n (n + 16 - n) k) e ∙ ap (λ (k : ℕ). take k (drop n (w ++ at))) q ∙ moved_on w at n l a h

    long : length (mid_of n (n + 16 - n) run) ≡ 16
    long = ap length is ∙ added_long w (take n at) ∙ l

-- ---- all of it
pub all_moved : (w at x y : List ℕ) (n : ℕ) → length w ≡ 64 → length at ≡ 11 → n ≤ 11 → x ≡ down n 48 w → y ≡ added (mid_of 48 16 x) (take n at)
    → put_mid 48 16 x y ≡ added w (take n at)
all_moved w at x y n l a h e f =
    ap₂ (λ (u v : List ℕ). u ++ (y ++ v)) (ap (take 48) e ∙ take_at (take 48 (drop n w)) (drop 48 w) 48 front)
    (ap (drop 16) back ∙ drop_of_length-le (drop 48 w) {i = 16} (omega (arith, last)))
    ∙ ap (λ (u : List ℕ). take 48 (drop n w) ++ u) (append-nil y ∙ f ∙ ap (λ (u : List ℕ). added u (take n at)) whole
    ∙ added_behind (drop 48 w) at n (omega (arith, last)) (omega arith))
    ∙ sym (append_assoc (take 48 (drop n w)) (drop n (drop 48 w)) (take n at))
    ∙ ap (λ (u : List ℕ). (take 48 (drop n w) ++ u) ++ take n at) (drop-drop n 48 w ∙ ap (λ (i : ℕ). drop i w) swap ∙ sym (drop-drop 48 n w))
    ∙ ap (λ (u : List ℕ). u ++ take n at) (take-append-drop 48 (drop n w))
    ∙ sym (added_behind w at n (omega arith) (omega arith))
  where
    swap : 48 + n ≡ n + 48
    swap = omega arith

    front : length (take 48 (drop n w)) ≡ 48
    front = length-take-le 48 (drop n w) (rw (length-drop n w) (omega arith))

    last : length (drop 48 w) ≡ 16
    last = rw (length-drop 48 w) (omega arith)

    back : drop 48 x ≡ drop 48 w
    back = ap (drop 48) e ∙ drop_at (take 48 (drop n w)) (drop 48 w) 48 front

    whole : mid_of 48 16 x ≡ drop 48 w
    whole = ap (take 16) back ∙ take_all 16 (drop 48 w) (omega (arith, last))

-- eleven bytes have no more than eleven to take
pub take_most : (at : List ℕ) (n : ℕ) → length at ≡ 11 → take (min n 11) at ≡ take n at
take_most at n a = pick (cases_lt 11 n)
  where
    pick : (11 < n) ⊎ (n ≤ 11) → take (min n 11) at ≡ take n at
    pick (inl h) =
        ap (λ (k : ℕ). take k at) (let q : min n 11 ≡ 11 = omega arith in q) ∙ take_all 11 at (omega arith) ∙ sym (take_all n at (omega arith))
    pick (inr h) = ap (λ (k : ℕ). take k at) (let q : min n 11 ≡ n = omega arith in q)

pub back_moved : (w at run x : List ℕ) (n : ℕ) → length w ≡ 16 → length at ≡ 11 → n ≤ 11 → run ≡ w ++ at → x ≡ mid_of n (n + 16 - n) run
    → x ≡ added w (take n at)
back_moved w at run x n l a h e f =
    let q : n + 16 - n ≡ 16 = omega arith in
    f ∙ ap (λ (k : List ℕ). mid_of n (n + 16 - n) k) e ∙ ap (λ (k : ℕ). take k (drop n (w ++ at))) q ∙ moved_on w at n l a h
