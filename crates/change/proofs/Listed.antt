-- The positions that a change changes, lowest first.
--
--   differing_adds     those that it adds something to are where a block differs from the block after it
--   places_listed      of a well-formed change with p not above q they are its places
--   turned_is, kept_is, ordered_listed   the change in order has p not above q, and its places are those that differ
--   listed_end         the code's list is that of the places, and so of the positions that differ
--   filled_is          what is pushed into none; pushed_both: l and then k
--   rows_none, no_rows, rows_more   the rows of a card, one more at a time
--   one_more, nine_more   how many there are then
--   room_again, room_last, all_pushed   the five parts of a change put together, and that there is room for them
use mathlib.Core.Logic.{◌≢◌, ◌⊎◌, inl, inr}
use mathlib.Core.Path.{◌≡◌, refl, sym, ap, ap₂, ◌∙◌, subst}
use mathlib.Core.Bool.{Bool, true, false, ◌&&◌, ◌||◌, not}
use mathlib.Core.List.{List, [], ◌++◌, append_assoc, append-nil}
use Prim.Native.Nat.{ℕ, ◌+◌, ◌-◌, ◌*◌, ◌/◌, ◌%◌, ◌<◌, ◌≤◌}
use native.Mathlib.Nat.{zero-add as nothing_add}
use native.Mathlib.Omega.{arith}
use lib.Dec.{eqb, leb, ltb}
use lib.ListN.{length, length-append, drop, replicate, get_or, take-append-drop}
use lib.Seq.{drop-drop, take-append_seam}
use borrow.Author.Tests.{eq-eqb, ne_eqb, lt-ltb, le-ltb, le-leb, lt-leb}
use Rattle.base.specs.Base.{if, bit, only, those}
use Rattle.std.proofs.lemmas.List.{drop-replicate}
use Rattle.std.proofs.lemmas.Bool.{cases_eq, cases_lt}
use Rattle.base.proofs.Tests.{or_no}
use Rattle.base.proofs.Those.{those_ext, those_none, those_split, those_snoc, those_length, only_length, two_listed, between, within, between_in, between_out}
use Rattle.base.proofs.Tally.{at_most, one_le}
use Rattle.field.specs.Field.{◌⊕◌}
use Rattle.field.proofs.Xor.{add_zero, zero_add, add_self, sums}
use Rattle.code.specs.Block.{differing}
use Rattle.change.specs.Change.{adds, applied, nonzero, nonzero_at, WellFormed, before, after, row_test, places, ordered, positions, filled, Listed, Pushed}
use Rattle.change.specs.declared.Change.{Change}
use Rattle.change.specs.declared.Positions.{Positions}
use Rattle.change.proofs.Weight.{zero_not, on_card, off_card, test_is}

pub differing_adds : (b : List ℕ) (d : Change) → length b ≡ 45 → those 0 45 (λ r. nonzero (adds d r)) ≡ differing b (applied b d)
unfolding differing
differing_adds b d l = sym (those_ext 45 0 _ _ (λ r a h. ap not (test_is b d l r h)))

-- ---- a well-formed change with p not above q
module _ (d : Change) (w : WellFormed d) (o : d.p ≤ d.q) where
  abbrev start : ℕ
  start = 9 * d.card

  abbrev test : ℕ → Bool
  test r = nonzero (adds d r)

  -- ---- off the card
  off : (r : ℕ) → r / 9 ≢ d.card → test r ≡ (eqb r d.p && nonzero d.e) || (eqb r d.q && nonzero d.f)
  off r h = ap nonzero (off_card d w r h) ∙ both (cases_eq r d.p) (cases_eq r d.q) w.second
    where
      both : (r ≡ d.p) ⊎ (r ≢ d.p) → (r ≡ d.q) ⊎ (r ≢ d.q) → (d.f ≡ 0) ⊎ ((d.q < 45) × (d.q / 9 ≢ d.card) × (d.q ≢ d.p))
          → nonzero (if (eqb r d.p) d.e 0 ⊕ if (eqb r d.q) d.f 0) ≡ (eqb r d.p && nonzero d.e) || (eqb r d.q && nonzero d.f)
      both (inl a) (inr c) s = rw (eq-eqb r d.p a, ne_eqb r d.q c, add_zero d.e) (sym (or_no (nonzero d.e)))
      both (inr a) (inl c) s = rw (ne_eqb r d.p a, eq-eqb r d.q c, zero_add d.f) refl
      both (inr a) (inr c) s = rw (ne_eqb r d.p a, ne_eqb r d.q c, add_self 0) refl
      both (inl a) (inl c) (inr i) = absurd (i.2 (sym c ∙ a))
      both (inl a) (inl c) (inl z) = rw (eq-eqb r d.p a, eq-eqb r d.q c, z, add_zero d.e) (sym (or_no (nonzero d.e)))

  apart : d.p ≡ d.q → nonzero d.f ≡ false
  apart e = go w.second
    where
      go : (d.f ≡ 0) ⊎ ((d.q < 45) × (d.q / 9 ≢ d.card) × (d.q ≢ d.p)) → nonzero d.f ≡ false
      go (inl z) = zero_not d.f z
      go (inr i) = absurd (i.2 (sym e))

  -- a further position before the card
  first : (p e : ℕ) → within 0 start (nonzero e) p ≡ before d.card p e
  first p e = ap (λ (t : Bool). only (nonzero e && t) p) (ap₂ (λ (s t : Bool). s && t) (le-leb 0 p (omega arith)) (ap (λ (k : ℕ). ltb p k) (nothing_add start)))

  -- and after it
  last : (p e : ℕ) → (e ≡ 0) ⊎ ((p < 45) × (p / 9 ≢ d.card)) → within (start + 9) (36 - start) (nonzero e) p ≡ after d.card p e
  last p e (inl z) = rw (zero_not e z) refl
  last p e (inr (l, n)) = ap (λ (t : Bool). only (nonzero e && t) p) (pick (cases_lt p start))
    where
      pick : (p < start) ⊎ (start ≤ p) → between (start + 9) (36 - start) p ≡ leb start p
      pick (inl h) = between_out (start + 9) (36 - start) p (inl (omega arith)) ∙ sym (lt-leb start p h)
      pick (inr h) = between_in (start + 9) (36 - start) p (omega (arith, n)) (omega (arith, w.card)) ∙ sym (le-leb start p h)

  second_off : (d.f ≡ 0) ⊎ ((d.q < 45) × (d.q / 9 ≢ d.card))
  second_off = go w.second
    where
      go : (d.f ≡ 0) ⊎ ((d.q < 45) × (d.q / 9 ≢ d.card) × (d.q ≢ d.p)) → (d.f ≡ 0) ⊎ ((d.q < 45) × (d.q / 9 ≢ d.card))
      go (inl z) = inl z
      go (inr i) = inr (i.0, i.1)

  -- ---- on the card
  rows : those start 9 test ≡ those start 9 (row_test d.rows)
  rows = those_ext 9 start test (row_test d.rows) (λ r a b.
      ap nonzero (on_card d w r (omega arith)) ∙ sym (ap (λ (t : Bool). t && nonzero_at d.rows (r % 9)) (lt-ltb r 45 (omega (arith, w.card)))))

  pub places_listed : places d ≡ those 0 45 test
  unfolding places
  places_listed = sym (
      ap (λ (n : ℕ). those 0 n test) whole
      ∙ those_split start 0 (9 + (36 - start)) test
      ∙ ap₂ (λ (l k : List ℕ). l ++ k) front (ap (λ (n : ℕ). those n (9 + (36 - start)) test) (nothing_add start) ∙ those_split 9 start (36 - start) test
      ∙ ap₂ (λ (l k : List ℕ). l ++ k) rows back)
      ∙ append_assoc (before d.card d.p d.e) (before d.card d.q d.f)
      (those start 9 (row_test d.rows) ++ (after d.card d.p d.e ++ after d.card d.q d.f)))
    where
      whole : 45 ≡ start + (9 + (36 - start))
      whole = omega (arith, w.card)

      front : those 0 start test ≡ before d.card d.p d.e ++ before d.card d.q d.f
      front =
          two_listed start 0 test d.p d.q (nonzero d.e) (nonzero d.f) o apart (λ r a b. off r (λ c. omega (arith, c)))
          ∙ ap₂ (λ (l k : List ℕ). l ++ k) (first d.p d.e) (first d.q d.f)

      back : those (start + 9) (36 - start) test ≡ after d.card d.p d.e ++ after d.card d.q d.f
      back =
          two_listed (36 - start) (start + 9) test d.p d.q (nonzero d.e) (nonzero d.f) o apart (λ r a b. off r (λ c. omega (arith, c)))
          ∙ ap₂ (λ (l k : List ℕ). l ++ k) (last d.p d.e w.first) (last d.q d.f second_off)

-- ---- in order
abbrev turned : Change → Change
turned d = record { card = d.card; rows = d.rows; p = d.q; e = d.f; q = d.p; f = d.e }

turned_adds : (d : Change) (r : ℕ) → adds (turned d) r ≡ adds d r
turned_adds d r = swap (if (eqb r d.q) d.f 0) (if (eqb r d.p) d.e 0) (if (eqb (r / 9) d.card) (get_or d.rows (r % 9) 0) 0)
  where
    swap : (x y z : ℕ) → x ⊕ (y ⊕ z) ≡ y ⊕ (x ⊕ z)
    swap x y z = simp sums

turned_formed : (d : Change) → d.q < d.p → WellFormed d → WellFormed (turned d)
turned_formed d h w = record { card = w.card; first = one w.second; second = two w.first }
  where
    one : (d.f ≡ 0) ⊎ ((d.q < 45) × (d.q / 9 ≢ d.card) × (d.q ≢ d.p)) → (d.f ≡ 0) ⊎ ((d.q < 45) × (d.q / 9 ≢ d.card))
    one (inl z) = inl z
    one (inr i) = inr (i.0, i.1)

    two : (d.e ≡ 0) ⊎ ((d.p < 45) × (d.p / 9 ≢ d.card)) → (d.e ≡ 0) ⊎ ((d.p < 45) × (d.p / 9 ≢ d.card) × (d.p ≢ d.q))
    two (inl z) = inl z
    two (inr i) = inr (i.0, i.1, λ e. omega arith)

pub turned_is : (d : Change) → d.q < d.p → turned d ≡ ordered d
unfolding ordered
turned_is d h = rw (lt-ltb d.q d.p h) refl

pub kept_is : (d : Change) → d.p ≤ d.q → d ≡ ordered d
unfolding ordered
kept_is d h = rw (le-ltb d.q d.p h) refl

pub ordered_listed : (d : Change) → WellFormed d → places (ordered d) ≡ those 0 45 (λ r. nonzero (adds d r))
ordered_listed d w = go (cases_lt d.q d.p)
  where
    go : (d.q < d.p) ⊎ (d.p ≤ d.q) → places (ordered d) ≡ those 0 45 (λ r. nonzero (adds d r))
    go (inl h) =
        ap places (sym (turned_is d h)) ∙ places_listed (turned d) (turned_formed d h w) (omega arith)
        ∙ those_ext 45 0 _ _ (λ r a b. ap nonzero (turned_adds d r))
    go (inr h) = ap places (sym (kept_is d h)) ∙ places_listed d w h

-- none yet
abbrev pub no_positions : Positions
no_positions = record { count = 0; at = replicate 11 0 }

-- what is pushed into none are the first of eleven bytes, and the others are zeros
pub filled_is : (l : List ℕ) (ps : Positions) → Pushed l no_positions ps → ps.count ≤ 11 → ps ≡ filled l
filled_is l ps w a = ap₂ (λ (c : ℕ) (x : List ℕ). record { count = c; at = x }) many (sym (take-append-drop ps.count ps.at) ∙ ap₂ (λ (x y : List ℕ). x ++ y) w.held rest)
  where
    many : ps.count ≡ length l
    many = omega (arith, w.count)

    rest : drop ps.count ps.at ≡ replicate (11 - length l) 0
    rest = w.behind ∙ drop-replicate ps.count 11 0 ∙ ap (λ (k : ℕ). replicate (11 - k) 0) many

pub filled_positions : (l : List ℕ) → positions (filled l) ≡ l
filled_positions l = take-append_seam l (replicate (11 - length l) 0)

pub listed_end : (d : Change) (ps : Positions) → ps ≡ filled (places (ordered d)) → Listed d ps
listed_end d ps e = record {
  whole = e;
  changed = λ w b l. ap positions e ∙ filled_positions (places (ordered d)) ∙ ordered_listed d w ∙ differing_adds b d l;
}

-- ---- as the code lists them
-- l, and then k
pub pushed_both : (l k : List ℕ) (ps qs rs : Positions) → Pushed l ps qs → Pushed k qs rs → Pushed (l ++ k) ps rs
pushed_both l k ps qs rs v w = record {
  count = omega (arith, v.count, w.count, length-append l k);
  held = w.held ∙ ap (λ (x : List ℕ). x ++ k) v.held ∙ append_assoc (positions ps) l k;
  behind = w.behind ∙ further_on qs.at ps.at qs.count rs.count (omega (arith, w.count)) v.behind;
  long = w.long ∙ v.long;
}
  where
    -- what is alike from n on is alike from m on
    further_on : (x y : List ℕ) (n m : ℕ) → n ≤ m → drop n x ≡ drop n y → drop m x ≡ drop m y
    further_on x y n m h e =
        let q : m ≡ n + (m - n) = omega arith in
        ap (λ (j : ℕ). drop j x) q ∙ sym (drop-drop (m - n) n x) ∙ ap (drop (m - n)) e ∙ drop-drop (m - n) n y ∙ ap (λ (j : ℕ). drop j y) (sym q)

-- ---- the rows
-- no row is passed yet
pub rows_none : (ps : Positions) (j : ℕ) (z : List ℕ) → Pushed (those (9 * j) 0 (row_test z)) ps ps
unfolding those
rows_none ps j z = record { count = omega arith; held = sym (append-nil (positions ps)); behind = refl; long = refl }

-- a card that there isn't
pub no_rows : (ps : Positions) (j : ℕ) (z : List ℕ) → 4 < j → Pushed (those (9 * j) 9 (row_test z)) ps ps
no_rows ps j z h =
    let e : those (9 * j) 9 (row_test z) ≡ [] = those_none 9 (9 * j) (row_test z) (λ i a b. ap (λ (t : Bool). t && nonzero_at z (i % 9)) (le-ltb i 45 (omega arith))) in
    subst (λ (l : List ℕ). Pushed l ps ps) (sym e) (record { count = omega arith; held = sym (append-nil (positions ps)); behind = refl; long = refl })

pub few_those : (n s : ℕ) (g : ℕ → Bool) → length (those s n g) ≤ n
few_those n s g = at_most n (λ i. g (s + i)) (length (those s n g)) (those_length n s g)

-- one row more
pub rows_more : (ps qs rs : Positions) (j : ℕ) (z : List ℕ) (i : ℕ) (t : Bool) (p : ℕ) → j < 5 → i < 9 → t ≡ nonzero_at z i → p ≡ 9 * j + i
    → Pushed (those (9 * j) i (row_test z)) ps qs → Pushed (only t p) qs rs → Pushed (those (9 * j) (i + 1) (row_test z)) ps rs
rows_more ps qs rs j z i t p hj hi f g v w =
    subst (λ (l : List ℕ). Pushed l ps rs)
    (ap₂ (λ (u : Bool) (q : ℕ). those (9 * j) i (row_test z) ++ only u q) (f ∙ sym here) g ∙ sym (those_snoc i (9 * j) (row_test z)))
    (pushed_both (those (9 * j) i (row_test z)) (only t p) ps qs rs v w)
  where
    row : (9 * j + i) % 9 ≡ i
    row = omega arith

    here : row_test z (9 * j + i) ≡ nonzero_at z i
    here = ap₂ (λ (s : Bool) (x : ℕ). s && nonzero_at z x) (lt-ltb (9 * j + i) 45 (omega arith)) row

-- ---- before the card or after it
pub one_side : (e t : Bool) → bit (e && t) + bit (e && not t) ≤ 1
one_side false t = omega arith
one_side true true = omega arith
one_side true false = omega arith

-- what does not stand before the card stands after it
pub after_is : (j p : ℕ) → not (ltb p (9 * j)) ≡ leb (9 * j) p
after_is j p = go (cases_lt p (9 * j))
  where
    go : (p < 9 * j) ⊎ (9 * j ≤ p) → not (ltb p (9 * j)) ≡ leb (9 * j) p
    go (inl h) = ap not (lt-ltb p (9 * j) h) ∙ sym (lt-leb (9 * j) p h)
    go (inr h) = ap not (le-ltb p (9 * j) h) ∙ sym (le-leb (9 * j) p h)

-- ---- how many there are
pub one_more : (t : Bool) (p : ℕ) (ps qs : Positions) → Pushed (only t p) ps qs → qs.count ≡ ps.count + bit t
one_more t p ps qs w = omega (arith, w.count, only_length t p)

pub nine_more : (s : ℕ) (g : ℕ → Bool) (ps qs : Positions) → Pushed (those s 9 g) ps qs → qs.count ≤ ps.count + 9
nine_more s g ps qs w = omega (arith, w.count, few_those 9 s g)

-- ---- the parts put together
module _ (d : Change) (s t : Bool) (a b c : Positions)
    (va : Pushed (only (nonzero d.e && s) d.p) no_positions a) (vb : Pushed (only (nonzero d.f && t) d.q) a b)
    (vc : Pushed (those (9 * d.card) 9 (row_test d.rows)) b c) where
  pub room_again : c.count + bit (nonzero d.e && not s) ≤ 11
  room_again = omega (arith, one_more (nonzero d.e && s) d.p no_positions a va, one_more (nonzero d.f && t) d.q a b vb, nine_more (9 * d.card) (row_test d.rows) b c vc, one_side (nonzero d.e) s, one_le (nonzero d.f && t))

  module _ (x : Positions) (vx : Pushed (only (nonzero d.e && not s) d.p) c x) where
    pub room_last : x.count + bit (nonzero d.f && not t) ≤ 11
    room_last = omega (
      arith,
      one_more (nonzero d.e && s) d.p no_positions a va,
      one_more (nonzero d.f && t) d.q a b vb,
      nine_more (9 * d.card) (row_test d.rows) b c vc,
      one_more (nonzero d.e && not s) d.p c x vx,
      one_side (nonzero d.e) s,
      one_side (nonzero d.f) t,
    )

    pub all_pushed : (y : Positions) → Pushed (only (nonzero d.f && not t) d.q) x y → s ≡ ltb d.p (9 * d.card) → t ≡ ltb d.q (9 * d.card) → y ≡ filled (places d)
    unfolding places
    all_pushed y vy es et = filled_is (places d) y parts (omega (arith, room_last, one_more (nonzero d.f && not t) d.q x y vy))
      where
        after_p : only (nonzero d.e && not s) d.p ≡ after d.card d.p d.e
        after_p = ap (λ (u : Bool). only (nonzero d.e && u) d.p) (ap not es ∙ after_is d.card d.p)

        after_q : only (nonzero d.f && not t) d.q ≡ after d.card d.q d.f
        after_q = ap (λ (u : Bool). only (nonzero d.f && u) d.q) (ap not et ∙ after_is d.card d.q)

        parts : Pushed (places d) no_positions y
        parts =
            pushed_both (before d.card d.p d.e) _ no_positions a y (subst (λ (u : Bool). Pushed (only (nonzero d.e && u) d.p) no_positions a) es va)
            (pushed_both (before d.card d.q d.f) _ a b y (subst (λ (u : Bool). Pushed (only (nonzero d.f && u) d.q) a b) et vb)
            (pushed_both (those (9 * d.card) 9 (row_test d.rows)) _ b c y vc
            (pushed_both (after d.card d.p d.e) (after d.card d.q d.f) c x y (subst (λ (l : List ℕ). Pushed l c x) after_p vx) (subst (λ (l : List ℕ). Pushed l x y) after_q vy))))
