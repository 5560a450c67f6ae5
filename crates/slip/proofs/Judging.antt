-- What the reader has seen of a slip, byte by byte, and what it says of it.
--
--   Judged s i j p    the map at i and j bytes behind it are within their limits; p is the offset after them
--   judged_more       one byte more
--   cut_first, cut_within     the slice ends: 15
--   bad_map, bad_byte         a map or a byte against the rules: 16
--   limits_back       the table's pairs are the limits of the map; none_said: none where no byte stands behind it
--   in_use b          the pairs that the code gives
--   said_fits, said_size, said_some, said_least, said_most   they are the limits of the map
--   handed            all of it is there, as its map says
--   read_slip         all of it: what its bytes tell
use Prim.Native.Nat.{ℕ, zero, suc, ◌+◌, ◌-◌, ◌≤◌, ◌<◌}
use mathlib.Core.Path.{◌≡◌, refl, sym, ap, ap₂, ◌∙◌, subst}
use mathlib.Core.Logic.{◌≢◌, inl, inr}
use mathlib.Core.Bool.{false≢true}
use Rattle.std.specs.Prelude.{Some, None, is_some}
use mathlib.Core.List.{List, [], ◌∷◌, ◌++◌, map}
use native.Mathlib.Omega.{arith}
use native.Mathlib.Nat.{sub_self}
use lib.ListN.{length, get_or, take, drop, length-take, length-drop, drop_of_length-le}
use Rattle.std.proofs.lemmas.List.{get_or-map, get_or-take, length-map}
use lib.Seq.{take_all, take-suc, drop-cons, get_or-drop}
use Rattle.reading.specs.Reading.{reading_answer}
use Rattle.reading.specs.Reading.{Reading}
use Rattle.slip.specs.Slip.{HasSlip, slip}
use Rattle.slip.specs.Calls.{from_to, Follows, Against, ReadSlipDone}
use Rattle.slip.specs.Limits.{Limits, limits, limits_of, limits_said, allowed, allowed_of, Within, answer_told, block_told}
use Rattle.slip.specs.declared.limits.Allowed.{Allowed}
use Rattle.slip.specs.Found.{Slip, Refused as RefusedAt}
use Rattle.slip.proofs.Within.{within_more, within_last}
use Rattle.slip.proofs.Shape.{Shaped, three, Tells, told}
use Rattle.slip.proofs.Follows.{Row, table, every_row, first_follows, follows_first, more_follows, follows_behind}

-- a slip may begin: with 3, say
may_begin : Follows [] 3
unfolding limits_of
may_begin = first_follows 3 (λ e. omega (arith, e))

-- ---- the limits, as the code gives them
pub limits_back : (m : ℕ) → limits_said (allowed_of m) ≡ limits_of m
unfolding limits_of
limits_back m = every_row (λ l. limits_said (allowed l) ≡ l) m refl refl refl refl refl refl

pub none_said : (m : ℕ) → None ≡ allowed_of m → (limits_of m).size ≡ 0
none_said m e = ap (λ (l : Limits). l.size) (sym (ap limits_said e ∙ limits_back m))

some_said : (b : Allowed) (n : ℕ) (lo hi : List ℕ) → Some b ≡ allowed (limits n lo hi) → n ≢ 0
some_said b zero lo hi e = absurd (false≢true (sym (ap is_some e)))
some_said b (suc n) lo hi e = λ z. omega (arith, z)

-- those of the map m
abbrev pub Said : Allowed → ℕ → Type 0
Said b m = Some b ≡ allowed_of m

-- the pairs in use
abbrev pub in_use : Allowed → List (ℕ × ℕ)
in_use b = take b.size b.each

module _ (b : Allowed) (m : ℕ) (e : Said b m) where
  same : limits_said (Some b) ≡ limits_of m
  same = ap limits_said e ∙ limits_back m

  five : length b.each ≡ 5
  five = sym (length-map b.each (λ p. p.0)) ∙ ap (λ (x : Limits). length x.least) same ∙ (table m).lows

  -- there are as many
  pub said_fits : b.size ≤ length b.each
  said_fits = omega (arith, ap (λ (x : Limits). x.size) same, five, (table m).most)

  pub said_size : length (in_use b) ≡ (limits_of m).size
  said_size = omega (arith, length-take b.size b.each, said_fits, ap (λ (x : Limits). x.size) same)

  pub said_some : (limits_of m).size ≢ 0
  said_some = some_said b (limits_of m).size (limits_of m).least (limits_of m).most e

  -- one side of the pair at j
  side : (f : ℕ × ℕ → ℕ) (j : ℕ) → j < length (in_use b) → get_or (map f b.each) j 0 ≡ f (get_or (in_use b) j (0, 0))
  side f j h =
      let k : j < b.size = omega (arith, h, length-take b.size b.each) in
      get_or-map f b.each j (0, 0) 0 (omega (arith, k, said_fits)) ∙ ap f (sym (get_or-take b.size b.each j (0, 0) k))

  pub said_least : (j : ℕ) → j < length (in_use b) → get_or (limits_of m).least j 0 ≡ (get_or (in_use b) j (0, 0)).0
  said_least j h = ap (λ (x : Limits). get_or x.least j 0) (sym same) ∙ side (λ p. p.0) j h

  pub said_most : (j : ℕ) → j < length (in_use b) → get_or (limits_of m).most j 0 ≡ (get_or (in_use b) j (0, 0)).1
  said_most j h = ap (λ (x : Limits). get_or x.most j 0) (sym same) ∙ side (λ p. p.1) j h

-- ---- no map
pub cut_first : (s : List ℕ) (i : ℕ) → length s ≤ i → ReadSlipDone s i (RefusedAt 15 (length s)) s
unfolding ReadSlipDone
cut_first s i h = (inl (refl, (refl, (3, subst (λ (l : List ℕ). Follows l 3) (sym (drop_of_length-le s {i = i} h)) may_begin))), refl)

-- ---- behind the map
module _ (s : List ℕ) (i : ℕ) where
  -- the bytes after the map
  abbrev pub rest : List ℕ
  rest = drop (suc i) s

  abbrev pub lo : List ℕ
  lo = (limits_of (get_or s i 0)).least

  abbrev pub hi : List ℕ
  hi = (limits_of (get_or s i 0)).most

  abbrev pub size : ℕ
  size = (limits_of (get_or s i 0)).size

  pub record Judged (j p : ℕ) : Type 0 where
    pub place : p ≡ i + 1 + j
    pub most : j ≤ size
    pub inside : p ≤ length s
    pub within : Within lo hi (take j rest)

module _ (s : List ℕ) (i : ℕ) (h : i < length s) where
  pub bad_map : size s i ≡ 0 → ReadSlipDone s i (RefusedAt 16 i) s
  unfolding ReadSlipDone
  bad_map e = (inr (refl, against), refl)
    where
      none : from_to s i i ≡ []
      none = ap (λ (n : ℕ). take n (drop i s)) (sub_self i)

      against : Against s i i
      against = record {
        from = omega arith;
        below = h;
        so_far = (3, subst (λ (l : List ℕ). Follows l 3) (sym none) may_begin);
        here = λ f. follows_first (get_or s i 0) (subst (λ (l : List ℕ). Follows l (get_or s i 0)) none f) e;
      }

  module _ (j p : ℕ) (g : Judged s i j p) where
    seen_long : length (take j (rest s i)) ≡ j
    seen_long = omega (arith, length-take j (rest s i), length-drop (suc i) s, g.place, g.inside)

    -- the map and what was seen behind it are the bytes up to p
    pub seen : from_to s i p ≡ get_or s i 0 ∷ take j (rest s i)
    seen = ap (λ (n : ℕ). take n (drop i s)) (let q : p - i ≡ suc j = omega (arith, g.place) in q) ∙ ap (take (suc j)) (drop-cons s i 0 h)

    pub judged_more : j < size s i → p < length s → get_or (lo s i) j 0 ≤ get_or s p 0 → get_or s p 0 ≤ get_or (hi s i) j 0 → Judged s i (j + 1) (p + 1)
    judged_more l q a b = record {
      place = omega (arith, g.place);
      most = omega (arith, l);
      inside = omega (arith, q);
      within = subst (Within (lo s i) (hi s i)) (sym one) (within_more (lo s i) (hi s i) (take j (rest s i)) (get_or s p 0)
          (few (lo s i) t.lows) (few (hi s i) t.highs) g.within (at_its_place (λ n. get_or (lo s i) n 0 ≤ get_or s p 0) a)
          (at_its_place (λ n. get_or s p 0 ≤ get_or (hi s i) n 0) b));
    }
      where
        t : Row (limits_of (get_or s i 0))
        t = table (get_or s i 0)

        few : (l : List ℕ) → length l ≡ 5 → length (take j (rest s i)) < length l
        few b e = omega (arith, e, seen_long, l, t.most)

        at_its_place : (P : ℕ → Type 0) → P j → P (length (take j (rest s i)))
        at_its_place P h = subst P (sym seen_long) h

        here : get_or (rest s i) j 0 ≡ get_or s p 0
        here = get_or-drop (suc i) s j 0 ∙ ap (λ (n : ℕ). get_or s n 0) (let q : suc i + j ≡ p = omega (arith, g.place) in q)

        one : take (j + 1) (rest s i) ≡ take j (rest s i) ++ (get_or s p 0 ∷ [])
        one =
            ap (λ (n : ℕ). take n (rest s i)) (let q : j + 1 ≡ suc j = omega arith in q)
            ∙ take-suc (rest s i) j 0 (omega (arith, length-drop (suc i) s, g.place, q))
            ∙ ap (λ (x : ℕ). take j (rest s i) ++ (x ∷ [])) here

    -- some byte may stand at p
    goes : j < size s i → (x : ℕ) × Follows (get_or s i 0 ∷ take j (rest s i)) x
    goes l = more_follows (get_or s i 0) (take j (rest s i)) (omega (arith, seen_long, l)) g.within

    pub cut_within : j < size s i → length s ≤ p → ReadSlipDone s i (RefusedAt 15 (length s)) s
    unfolding ReadSlipDone
    cut_within l q = (inl (refl, (refl, ((goes l).0, subst (λ (b : List ℕ). Follows b (goes l).0) (sym all) (goes l).1))), refl)
      where
        all : drop i s ≡ get_or s i 0 ∷ take j (rest s i)
        all = drop-cons s i 0 h ∙ ap (λ (b : List ℕ). get_or s i 0 ∷ b) (sym (take_all j (rest s i) (omega (arith, length-drop (suc i) s, g.place, q))))

    -- the offset q that is given is the byte's own
    pub bad_byte : j < size s i → p < length s → ((get_or (lo s i) j 0 ≤ get_or s p 0) × (get_or s p 0 ≤ get_or (hi s i) j 0) → ⊥) → (q : ℕ) → q ≡ p
        → ReadSlipDone s i (RefusedAt 16 q) s
    unfolding ReadSlipDone
    bad_byte l b not q e = (inr (refl, subst (Against s i) (sym e) against), refl)
      where
        against : Against s i p
        against = record {
          from = omega (arith, g.place);
          below = b;
          so_far = ((goes l).0, subst (λ (b : List ℕ). Follows b (goes l).0) (sym seen) (goes l).1);
          here = λ f.
              let w = (follows_behind (get_or s i 0) (take j (rest s i)) (get_or s p 0) (subst (λ (b : List ℕ). Follows b (get_or s p 0)) seen f)).1 in
              let last = within_last (lo s i) (hi s i) (take j (rest s i)) (get_or s p 0) w in
              not (subst (λ (n : ℕ). (get_or (lo s i) n 0 ≤ get_or s p 0) × (get_or s p 0 ≤ get_or (hi s i) n 0)) seen_long last);
        }

    -- ---- all of it
    module _ (some : size s i ≢ 0) (all : size s i ≤ j) where
      long : length (from_to s i p) ≡ 1 + size s i
      long = ap length seen ∙ omega (arith, seen_long, g.most, all)

      whole : Shaped (get_or s i 0) (take j (rest s i))
      whole = record { some = some; long = omega (arith, seen_long, g.most, all); within = g.within }

      -- as the reader hands it on: as long as its map says, which is four bytes or more
      pub handed : (length (from_to s i p) ≡ 1 + (limits_of (get_or (from_to s i p) 0 0)).size) × ((limits_of (get_or (from_to s i p) 0 0)).size ≢ 0)
          × (4 ≤ length (from_to s i p))
      handed = (
        long ∙ ap (λ (m : ℕ). 1 + (limits_of m).size) (sym map_is),
        λ e. some (ap (λ (m : ℕ). (limits_of m).size) (sym map_is) ∙ e),
        omega (arith, long, three (get_or s i 0) some),
      )
        where
          map_is : get_or (from_to s i p) 0 0 ≡ get_or s i 0
          map_is = ap (λ (b : List ℕ). get_or b 0 0) seen

      pub read_slip : (k : ℕ) (r : Reading) → k ≡ block_told (from_to s i p) → reading_answer r ≡ answer_told (from_to s i p) → ReadSlipDone s i (Slip k r p) s
      unfolding ReadSlipDone
      read_slip k r e f =
          ((subst (λ (n : ℕ). HasSlip n (reading_answer r)) (sym e) (subst (HasSlip (block_told (from_to s i p))) (sym f) tells.0), next, same), refl)
        where
          tells : Tells (from_to s i p)
          tells = subst Tells (sym seen) (told (get_or s i 0) (take j (rest s i)) whole)

          same : from_to s i p ≡ slip k (reading_answer r)
          same = tells.1 ∙ ap₂ slip (sym e) (sym f)

          next : p ≡ i + length (slip k (reading_answer r))
          next = omega (arith, ap length same, long, g.place, g.most, all)
