-- Blocks of w bytes laid one after the other: the bank as a list of blocks.
--
--   EachLong w bs     every block is w long
--   each-..           it stays so: of n equal blocks, after one is set; and block k is w long
--   ..-flat           the bank's length, its block k, the bank with block k or one byte set
use Prim.Native.Nat.{ℕ, zero, suc, ◌+◌, ◌*◌, ◌<◌}
use mathlib.Core.Path.{◌≡◌, refl, sym, ap, ◌∙◌}
use mathlib.Core.List.{List, [], ◌∷◌, ◌++◌, append_assoc}
use native.Mathlib.Nat.{zero-add, suc-add, add_assoc, add_comm, mul-suc, mul-zero, not-suc-le-zero, le_of_suc-le-suc}
use lib.ListN.{length, get_or, set, take, drop, replicate, length-append, replicate-append-replicate}
use lib.Seq.{take-append-add, drop-append-add, take_at, drop_at, set-append_left}
use Rattle.book.specs.Book.{flat}

abbrev pub EachLong : ℕ → List (List ℕ) → Type 0
EachLong w [] = Unit {0}
EachLong w (b ∷ bs) = (length b ≡ w) × EachLong w bs

pub each_replicate : (w n : ℕ) (b : List ℕ) → length b ≡ w → EachLong w (replicate n b)
each_replicate w zero b h = tt
each_replicate w (suc n) b h = (h, each_replicate w n b h)

pub each_set : (w : ℕ) (bs : List (List ℕ)) (k : ℕ) (b : List ℕ) → EachLong w bs → length b ≡ w → EachLong w (set bs k b)
each_set w [] k b l h = tt
each_set w (a ∷ bs) zero b l h = (h, l.1)
each_set w (a ∷ bs) (suc k) b l h = (l.0, each_set w bs k b l.1 h)

pub each_at : (w : ℕ) (bs : List (List ℕ)) (k : ℕ) → EachLong w bs → k < length bs → length (get_or bs k []) ≡ w
each_at w [] k l h = absurd (not-suc-le-zero h)
each_at w (b ∷ bs) zero l h = l.0
each_at w (b ∷ bs) (suc k) l h = each_at w bs k l.1 (le_of_suc-le-suc h)

-- a place in a later block
next : (w k : ℕ) {v : ℕ} → v ≡ w → w * suc k ≡ v + w * k
next w k e = mul-suc w k ∙ add_comm (w * k) w ∙ ap (λ (n : ℕ). n + w * k) (sym e)

pub length_flat : (w : ℕ) (bs : List (List ℕ)) → EachLong w bs → length (flat bs) ≡ w * length bs
length_flat w [] l = sym (mul-zero w)
length_flat w (b ∷ bs) l = length-append b (flat bs) ∙ ap (λ (n : ℕ). length b + n) (length_flat w bs l.1) ∙ sym (next w (length bs) l.0)

pub replicate_flat : (w n x : ℕ) → replicate (w * n) x ≡ flat (replicate n (replicate w x))
replicate_flat w zero x = ap (λ (m : ℕ). replicate m x) (mul-zero w)
replicate_flat w (suc n) x =
    ap (λ (m : ℕ). replicate m x) (next w n refl) ∙ sym (replicate-append-replicate w (w * n) x)
    ∙ ap (λ (l : List ℕ). replicate w x ++ l) (replicate_flat w n x)

-- ---- block k
pub block_flat : (w : ℕ) (bs : List (List ℕ)) (k : ℕ) → EachLong w bs → k < length bs → take w (drop (w * k) (flat bs)) ≡ get_or bs k []
block_flat w [] k l h = absurd (not-suc-le-zero h)
block_flat w (b ∷ bs) zero l h = ap (λ (n : ℕ). take w (drop n (b ++ flat bs))) (mul-zero w) ∙ take_at b (flat bs) w l.0
block_flat w (b ∷ bs) (suc k) l h =
    ap (λ (n : ℕ). take w (drop n (b ++ flat bs))) (next w k l.0)
    ∙ ap (take w) (drop-append-add b (flat bs) (w * k))
    ∙ block_flat w bs k l.1 (le_of_suc-le-suc h)

-- ---- block k set
abbrev patched : ℕ → List ℕ → ℕ → List ℕ → List ℕ
patched w d at x = take at d ++ (x ++ drop (at + w) d)

patched_later : (w : ℕ) (b d : List ℕ) (at : ℕ) (x : List ℕ) → patched w (b ++ d) (length b + at) x ≡ b ++ patched w d at x
patched_later w b d at x =
    ap (λ (l : List ℕ). l ++ (x ++ drop (length b + at + w) (b ++ d))) (take-append-add b d at)
    ∙ ap (λ (n : ℕ). (b ++ take at d) ++ (x ++ drop n (b ++ d))) (add_assoc (length b) at w)
    ∙ ap (λ (l : List ℕ). (b ++ take at d) ++ (x ++ l)) (drop-append-add b d (at + w))
    ∙ append_assoc b (take at d) (x ++ drop (at + w) d)

pub patch_flat : (w : ℕ) (bs : List (List ℕ)) (k : ℕ) (x : List ℕ) → EachLong w bs → k < length bs
    → take (w * k) (flat bs) ++ (x ++ drop (w * k + w) (flat bs)) ≡ flat (set bs k x)
patch_flat w [] k x l h = absurd (not-suc-le-zero h)
patch_flat w (b ∷ bs) zero x l h =
    ap (λ (n : ℕ). patched w (b ++ flat bs) n x) (mul-zero w)
    ∙ ap (λ (n : ℕ). x ++ drop n (b ++ flat bs)) (zero-add w)
    ∙ ap (λ (d : List ℕ). x ++ d) (drop_at b (flat bs) w l.0)
patch_flat w (b ∷ bs) (suc k) x l h =
    ap (λ (n : ℕ). patched w (b ++ flat bs) n x) (next w k l.0)
    ∙ patched_later w b (flat bs) (w * k) x
    ∙ ap (λ (d : List ℕ). b ++ d) (patch_flat w bs k x l.1 (le_of_suc-le-suc h))

-- ---- byte j of block k set
set_later : (b d : List ℕ) (i x : ℕ) → set (b ++ d) (length b + i) x ≡ b ++ set d i x
set_later [] d i x = ap (λ (n : ℕ). set d n x) (zero-add i)
set_later (y ∷ b) d i x = ap (λ (n : ℕ). set (y ∷ (b ++ d)) n x) (suc-add (length b) i) ∙ ap (λ (l : List ℕ). y ∷ l) (set_later b d i x)

pub hit_flat : (w : ℕ) (bs : List (List ℕ)) (k j x : ℕ) → EachLong w bs → k < length bs → j < w
    → set (flat bs) (w * k + j) x ≡ flat (set bs k (set (get_or bs k []) j x))
hit_flat w [] k j x l h i = absurd (not-suc-le-zero h)
hit_flat w (b ∷ bs) zero j x l h i =
    ap (λ (n : ℕ). set (b ++ flat bs) n x) (ap (λ (n : ℕ). n + j) (mul-zero w) ∙ zero-add j)
    ∙ set-append_left b (flat bs) j x (rw l.0 i)
hit_flat w (b ∷ bs) (suc k) j x l h i =
    ap (λ (n : ℕ). set (b ++ flat bs) n x) (ap (λ (n : ℕ). n + j) (next w k l.0) ∙ add_assoc (length b) (w * k) j)
    ∙ set_later b (flat bs) (w * k + j) x
    ∙ ap (λ (d : List ℕ). b ++ d) (hit_flat w bs k j x l.1 (le_of_suc-le-suc h) i)
