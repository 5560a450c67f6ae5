-- The slips are exactly the bytes that stand within the limits behind a map.
--
--   map_of a, after_map k a   the map of an answer's slip, and the bytes behind it; slip_is: the slip is the two
--   Shaped m bs     the bytes bs stand behind the map m: as many as there are, and each within its limits
--   shaped          every slip is so; told: and such bytes are the slip of what they tell
--   answer_back, block_back   what the bytes of a slip tell is what it is the slip of
--   three           behind a map there are three bytes or more
--   IsMap m         m is one of the five maps; maps: or nothing stands behind it; by_map: what holds of each
use Prim.Native.Nat.{ℕ, ◌+◌, ◌*◌, ◌/◌, ◌%◌, ◌≤◌}
use mathlib.Core.Path.{◌≡◌, refl, sym, ap, ap₂, subst}
use mathlib.Core.Logic.{◌≢◌, ◌⊎◌, inl, inr}
use mathlib.Core.List.{List, [], ◌∷◌, ◌++◌}
use native.Mathlib.Omega.{arith}
use lib.ListN.{length}
use borrow.Author.Tests.{ne_eqb}
use Rattle.base.specs.Base.{In}
use Rattle.std.proofs.lemmas.Bool.{cases_eq}
use Rattle.answer.specs.Answer.{Answer, done, clean, in_chips, in_card, counted, refused, refused_card}
use Rattle.slip.specs.Slip.{HasSlip, slip}
use Rattle.slip.specs.Limits.{limits_of, Within, answer_told, block_told}
use Rattle.slip.proofs.Stores.{cells, cells_all}

abbrev pub map_of : Answer → ℕ
map_of clean = 3
map_of (in_chips n) = 11
map_of (in_card j n) = 15
map_of (refused r) = 17
map_of (refused_card r j) = 21
map_of done = 0
map_of (counted v w x y z) = 0

abbrev pub after_map : ℕ → Answer → List ℕ
after_map k clean = k % 256 ∷ k / 256 ∷ 0 ∷ []
after_map k (in_chips n) = k % 256 ∷ k / 256 ∷ 1 ∷ n ∷ []
after_map k (in_card j n) = k % 256 ∷ k / 256 ∷ 2 ∷ j ∷ n ∷ []
after_map k (refused r) = k % 256 ∷ k / 256 ∷ r ∷ []
after_map k (refused_card r j) = k % 256 ∷ k / 256 ∷ j ∷ r ∷ []
after_map k done = []
after_map k (counted v w x y z) = []

pub slip_is : (k : ℕ) (a : Answer) → HasSlip k a → slip k a ≡ map_of a ∷ after_map k a
unfolding slip
slip_is k clean h = refl
slip_is k (in_chips n) h = refl
slip_is k (in_card j n) h = refl
slip_is k (refused r) h = refl
slip_is k (refused_card r j) h = refl
slip_is k done h = absurd h.1
slip_is k (counted v w x y z) h = absurd h.1

pub record Shaped (m : ℕ) (bs : List ℕ) : Type 0 where
  pub some : (limits_of m).size ≢ 0
  pub long : length bs ≡ (limits_of m).size
  pub within : Within (limits_of m).least (limits_of m).most bs

pub shaped : (k : ℕ) (a : Answer) → HasSlip k a → Shaped (map_of a) (after_map k a)
unfolding limits_of
shaped k clean h = record {
  some = λ e. omega (arith, e);
  long = refl;
  within = (omega arith, omega arith, (omega arith, omega (arith, h.0), (omega arith, omega arith, tt)));
}
shaped k (in_chips n) h = record {
  some = λ e. omega (arith, e);
  long = refl;
  within = (omega arith, omega arith, (omega arith, omega (arith, h.0), (omega arith, omega arith, (h.1.0, h.1.1, tt))));
}
shaped k (in_card j n) h = record {
  some = λ e. omega (arith, e);
  long = refl;
  within = (omega arith, omega arith, (omega arith, omega (arith, h.0), (omega arith, omega arith, (omega arith, h.1.0, (h.1.1, h.1.2, tt)))));
}
shaped k (refused r) h = record {
  some = λ e. omega (arith, e);
  long = refl;
  within = (omega arith, omega arith, (omega arith, omega (arith, h.0), (omega (arith, h.1), omega (arith, h.1), tt)));
}
shaped k (refused_card r j) h = record {
  some = λ e. omega (arith, e);
  long = refl;
  within = (omega arith, omega arith, (omega arith, omega (arith, h.0), (omega arith, h.1.1, (omega (arith, h.1.0), omega (arith, h.1.0), tt))));
}
shaped k done h = absurd h.1
shaped k (counted v w x y z) h = absurd h.1

-- ---- what the bytes of a slip tell
pub block_back : (k : ℕ) (a : Answer) → HasSlip k a → (cs : List ℕ) → block_told (slip k a ++ cs) ≡ k
unfolding slip
block_back k clean h cs = omega arith
block_back k (in_chips n) h cs = omega arith
block_back k (in_card j n) h cs = omega arith
block_back k (refused r) h cs = omega arith
block_back k (refused_card r j) h cs = omega arith
block_back k done h cs = absurd h.1
block_back k (counted v w x y z) h cs = absurd h.1

pub answer_back : (k : ℕ) (a : Answer) → HasSlip k a → (cs : List ℕ) → answer_told (slip k a ++ cs) ≡ a
unfolding slip answer_told
answer_back k clean h cs = refl
answer_back k (in_chips n) h cs = refl
answer_back k (in_card j n) h cs = refl
answer_back k (refused r) h cs = refl
answer_back k (refused_card r j) h cs = ap (λ (n : ℕ). refused_card n j) (sym h.1.0)
answer_back k done h cs = absurd h.1
answer_back k (counted v w x y z) h cs = absurd h.1

-- ---- bytes that stand behind a map
-- the bytes bs are the slip of what they tell
abbrev pub Tells : List ℕ → Type 0
Tells bs = HasSlip (block_told bs) (answer_told bs) × (bs ≡ slip (block_told bs) (answer_told bs))

-- the five maps
abbrev pub IsMap : ℕ → Type 0
IsMap m = In m (3 ∷ 11 ∷ 15 ∷ 17 ∷ 21 ∷ [])

pub maps : (m : ℕ) → IsMap m ⊎ ((limits_of m).size ≡ 0)
unfolding limits_of
maps m = go (cases_eq m 3) (cases_eq m 11) (cases_eq m 15) (cases_eq m 17) (cases_eq m 21)
  where
    go : (m ≡ 3) ⊎ (m ≢ 3) → (m ≡ 11) ⊎ (m ≢ 11) → (m ≡ 15) ⊎ (m ≢ 15) → (m ≡ 17) ⊎ (m ≢ 17) → (m ≡ 21) ⊎ (m ≢ 21) → IsMap m ⊎ ((limits_of m).size ≡ 0)
    go (inl e) b c d f = inl (inl e)
    go (inr a) (inl e) c d f = inl (inr (inl e))
    go (inr a) (inr b) (inl e) d f = inl (inr (inr (inl e)))
    go (inr a) (inr b) (inr c) (inl e) f = inl (inr (inr (inr (inl e))))
    go (inr a) (inr b) (inr c) (inr d) (inl e) = inl (inr (inr (inr (inr (inl e)))))
    go (inr a) (inr b) (inr c) (inr d) (inr f) = inr (simp (ne_eqb m 3 a, ne_eqb m 11 b, ne_eqb m 15 c, ne_eqb m 17 d, ne_eqb m 21 f))

pub some_map : (m : ℕ) → (limits_of m).size ≢ 0 → IsMap m
some_map m some = go (maps m)
  where
    go : IsMap m ⊎ ((limits_of m).size ≡ 0) → IsMap m
    go (inl i) = i
    go (inr e) = absurd (some e)

-- what holds of each map holds of m
pub by_map : (P : ℕ → Type 0) → P 3 → P 11 → P 15 → P 17 → P 21 → (m : ℕ) → IsMap m → P m
by_map P a b c d f m (inl e) = subst P (sym e) a
by_map P a b c d f m (inr (inl e)) = subst P (sym e) b
by_map P a b c d f m (inr (inr (inl e))) = subst P (sym e) c
by_map P a b c d f m (inr (inr (inr (inl e)))) = subst P (sym e) d
by_map P a b c d f m (inr (inr (inr (inr (inl e))))) = subst P (sym e) f
by_map P a b c d f m (inr (inr (inr (inr (inr z))))) = absurd z

-- behind a map there are three bytes or more
pub three : (m : ℕ) → (limits_of m).size ≢ 0 → 3 ≤ (limits_of m).size
unfolding limits_of
three m some = by_map (λ u. 3 ≤ (limits_of u).size) (omega arith) (omega arith) (omega arith) (omega arith) (omega arith) m (some_map m some)

-- the two bytes of a block number
number : (x y : ℕ) → x ≤ 255 → (f : ℕ → ℕ → List ℕ) → f x y ≡ f ((x + 256 * y) % 256) ((x + 256 * y) / 256)
number x y h f =
    let low : x ≡ (x + 256 * y) % 256 = omega arith in
    let high : y ≡ (x + 256 * y) / 256 = omega arith in
    ap₂ f low high

-- each map by itself, of the bytes behind it one by one
of_3 : (x y z : ℕ) → x ≤ 255 → y ≤ 3 → z ≤ 0 → Tells (3 ∷ x ∷ y ∷ z ∷ [])
unfolding slip answer_told
of_3 x y z a b c =
    let e : 0 ≡ z = omega arith in
    subst (λ (u : ℕ). Tells (3 ∷ x ∷ y ∷ u ∷ [])) e ((omega arith, tt), number x y a (λ u v. 3 ∷ u ∷ v ∷ 0 ∷ []))

of_11 : (x y z n : ℕ) → x ≤ 255 → y ≤ 3 → 1 ≤ z → z ≤ 1 → 1 ≤ n → n ≤ 2 → Tells (11 ∷ x ∷ y ∷ z ∷ n ∷ [])
unfolding slip answer_told
of_11 x y z n a b c d f g =
    let e : 1 ≡ z = omega arith in
    subst (λ (u : ℕ). Tells (11 ∷ x ∷ y ∷ u ∷ n ∷ [])) e ((omega arith, (f, g)), number x y a (λ u v. 11 ∷ u ∷ v ∷ 1 ∷ n ∷ []))

of_15 : (x y z j n : ℕ) → x ≤ 255 → y ≤ 3 → 2 ≤ z → z ≤ 2 → j ≤ 4 → 1 ≤ n → n ≤ 11 → Tells (15 ∷ x ∷ y ∷ z ∷ j ∷ n ∷ [])
unfolding slip answer_told
of_15 x y z j n a b c d f g h =
    let e : 2 ≡ z = omega arith in
    subst (λ (u : ℕ). Tells (15 ∷ x ∷ y ∷ u ∷ j ∷ n ∷ [])) e ((omega arith, (f, g, h)), number x y a (λ u v. 15 ∷ u ∷ v ∷ 2 ∷ j ∷ n ∷ []))

of_17 : (x y z : ℕ) → x ≤ 255 → y ≤ 3 → 10 ≤ z → z ≤ 10 → Tells (17 ∷ x ∷ y ∷ z ∷ [])
unfolding slip answer_told
of_17 x y z a b c d =
    let e : 10 ≡ z = omega arith in
    subst (λ (u : ℕ). Tells (17 ∷ x ∷ y ∷ u ∷ [])) e ((omega arith, refl), number x y a (λ u v. 17 ∷ u ∷ v ∷ 10 ∷ []))

of_21 : (x y j z : ℕ) → x ≤ 255 → y ≤ 3 → j ≤ 4 → 11 ≤ z → z ≤ 11 → Tells (21 ∷ x ∷ y ∷ j ∷ z ∷ [])
unfolding slip answer_told
of_21 x y j z a b c d f =
    let e : 11 ≡ z = omega arith in
    subst (λ (u : ℕ). Tells (21 ∷ x ∷ y ∷ j ∷ u ∷ [])) e ((omega arith, (refl, c)), number x y a (λ u v. 21 ∷ u ∷ v ∷ j ∷ 11 ∷ []))

-- where the bytes are n, what their limits say of them one by one
by_bytes : (m n : ℕ) (lo hi bs : List ℕ) → length bs ≡ n → Within lo hi bs → (Within lo hi (cells bs 0 n) → Tells (m ∷ cells bs 0 n)) → Tells (m ∷ bs)
by_bytes m n lo hi bs l w f =
    let q = cells_all n bs l in
    subst (λ (c : List ℕ). Tells (m ∷ c)) q (f (subst (Within lo hi) (sym q) w))

pub told : (m : ℕ) (bs : List ℕ) → Shaped m bs → Tells (m ∷ bs)
unfolding limits_of
told m bs s =
    by_map (λ u. Shaped u bs → Tells (u ∷ bs))
    (λ t. by_bytes 3 3 _ _ bs t.long t.within (λ w. of_3 _ _ _ w.1 w.2.1 w.2.2.1))
    (λ t. by_bytes 11 4 _ _ bs t.long t.within (λ w.
    of_11 _ _ _ _ w.1 w.2.1 w.2.2.0 w.2.2.1 w.2.2.2.0 w.2.2.2.1))
    (λ t. by_bytes 15 5 _ _ bs t.long t.within (λ w.
    of_15 _ _ _ _ _ w.1 w.2.1 w.2.2.0 w.2.2.1 w.2.2.2.1 w.2.2.2.2.0 w.2.2.2.2.1))
    (λ t. by_bytes 17 3 _ _ bs t.long t.within (λ w. of_17 _ _ _ w.1 w.2.1 w.2.2.0 w.2.2.1))
    (λ t. by_bytes 21 4 _ _ bs t.long t.within (λ w. of_21 _ _ _ _ w.1 w.2.1 w.2.2.1 w.2.2.2.0 w.2.2.2.1)) m
    (some_map m s.some) s
