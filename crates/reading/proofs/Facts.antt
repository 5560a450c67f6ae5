-- Facts about S that users rely on, the marked chips ps being at most two.
--
--   chip_one     a member of S by a change of the chip kind is the only one: such damage never reads as several
--   reached_one  a card and the marked chips reach one lawful block at most
--   card_one     under a card mark S has at most one member; not_several: and so not two
--   as_unmarked  under a card mark a block reads as it does with the marked chips off that card alone; reads_alike: what it rests on
--   apart        what two cards reach alike lies in marked chips; by_marked: which is of the chip kind
--   never_none   with two chip marks and no card mark S is never empty
--   reaches      a card by which a lawful block is reached; reached_by: and the block
--   unchanged    a change of no byte is of the chip kind
--   by_card      under a card mark "card", with its number, is said where a byte of that card is changed; card_told: and only there;
--                chips_told: "chips" only where none is
--   clean_only   a lawful block is the one member of its S; clean_reads: it reads as clean; clean_lawful: only such a block does
use mathlib.Core.Logic.{◌≢◌, ◌⊎◌, inl, inr, ◌↔◌}
use mathlib.Core.Path.{◌≡◌, refl, sym, ap, ◌∙◌, subst}
use mathlib.Core.List.{List, [], ◌∷◌, ◌++◌}
use Prim.Native.Nat.{ℕ, ◌/◌, ◌<◌}
use native.Mathlib.Omega.{arith}
use lib.Dec.{T}
use lib.ListN.{length, length-append}
use borrow.Author.Tests.{ne_eqb}
use Rattle.std.proofs.lemmas.Bool.{cases_eq}
use Rattle.base.proofs.Few.{few_length, few_more}
use Rattle.base.specs.Base.{In, Few}
use Rattle.answer.specs.Answer.{Answer, done, clean, in_chips, in_card, counted, refused, refused_card, number}
use Rattle.code.specs.Block.{byte, Block, Lawful, DifferOnly, OneMember, TwoMembers}
use Rattle.code.specs.Labels.{LabelSet}
use Rattle.code.specs.Reach.{rules, keep, Reached}
use Rattle.code.proofs.Few.{few_of, keep_few, widen, between}
use Rattle.code.proofs.Reach.{fits, closed, reached_few}
use Rattle.code.proofs.Closed.{fits_two}
use Rattle.code.proofs.Unique.{alike}
use Rattle.marks.specs.Marks.{CardInRange}
use Rattle.std.specs.declared.option.Option.{Option}
use Rattle.std.specs.Prelude.{None, Some}
use Rattle.reading.specs.Allowed.{u, further_beside, ChipKind, CardKind, BesideUpTo, Allowed, CardChanged, OfChipKind}
use Rattle.reading.specs.Reading.{S, Reaches, LowestReaching, ReadsBy, Reads}
use Rattle.base.proofs.Lists.{append_in}
use Rattle.reading.proofs.Beside.{beside_both, by_kept, kind_kept, kind_from, in_kept, in_from}
use Rattle.reading.proofs.Searches.{further_most, covered, covers}

-- ---- what two cards reach alike
pub apart : (ps b x : List ℕ) (i j : ℕ) → i ≢ j → CardKind i ps b x → CardKind j ps b x → DifferOnly (λ p. In p ps) b x
apart ps b x i j ne g h p l = go (g p l) (h p l)
  where
    go : (byte b p ≡ byte x p) ⊎ ((p / 9 ≡ i) ⊎ In p ps) → (byte b p ≡ byte x p) ⊎ ((p / 9 ≡ j) ⊎ In p ps) → (byte b p ≡ byte x p) ⊎ In p ps
    go (inl e) o = inl e
    go (inr (inr m)) o = inr m
    go (inr (inl e)) (inl d) = inl d
    go (inr (inl e)) (inr (inr m)) = inr m
    go (inr (inl e)) (inr (inl d)) = absurd (ne (sym e ∙ d))

pub by_marked : (ps b x : List ℕ) → DifferOnly (λ p. In p ps) b x → ChipKind ps b x
by_marked ps b x h = ([], omega arith, widen (λ p. In p ps) (λ p. In p ps ⊎ In p []) b x (λ p l i. inl i) h)

-- ---- a card by which a lawful block is reached
pub reaches : (ls ps b : List ℕ) (j : ℕ) → j < 5 → (y : List ℕ) → Reached ls j ps b y → Reaches ls ps b j
reaches ls ps b j hj y h = (hj, (y, h.block, h.lawful, h.only))

pub reached_by : (ls ps b : List ℕ) (j : ℕ) → Reaches ls ps b j → (j < 5) × ((y : List ℕ) × Reached ls j ps b y)
reached_by ls ps b j (hj, (y, block, lawful, only)) = (hj, (y, record { block = block; lawful = lawful; only = only }))

-- ---- no byte changed
pub unchanged : (c : Option ℕ) (ps b : List ℕ) → OfChipKind c ps b b
unchanged None ps b = ([], omega arith, λ p l. inl refl)
unchanged (Some j) ps b = (([], omega arith, λ p l. inl refl), λ d. d.3 refl)

chip_allowed : (c : Option ℕ) (ps b x : List ℕ) → OfChipKind c ps b x → Allowed c ps b x
chip_allowed None ps b x h = inl h
chip_allowed (Some j) ps b x h = h.0

fits_off : (ls b : List ℕ) (j p q : ℕ) → p / 9 ≢ j → q / 9 ≢ j → T (fits ls j (keep j (p ∷ q ∷ [])) b)
unfolding keep
fits_off ls b j p q np nq = rw (ne_eqb (p / 9) j np, ne_eqb (q / 9) j nq) (subst T (sym (fits_two ls j p q [] b)) tt)

-- a card that has neither of two chips
spare : (p q : ℕ) → (j : ℕ) × (j < 5) × (p / 9 ≢ j) × (q / 9 ≢ j)
spare p q = go (cases_eq (p / 9) 0) (cases_eq (q / 9) 0) (cases_eq (p / 9) 1) (cases_eq (q / 9) 1)
  where
    go : (p / 9 ≡ 0) ⊎ (p / 9 ≢ 0) → (q / 9 ≡ 0) ⊎ (q / 9 ≢ 0) → (p / 9 ≡ 1) ⊎ (p / 9 ≢ 1) → (q / 9 ≡ 1) ⊎ (q / 9 ≢ 1)
        → (j : ℕ) × (j < 5) × (p / 9 ≢ j) × (q / 9 ≢ j)
    go (inr a) (inr c) u v = (0, omega arith, a, c)
    go (inl a) (inr c) u (inr v) = (1, omega arith, (λ z. omega arith), v)
    go (inl a) (inr c) u (inl v) = (2, omega arith, (λ z. omega arith), (λ z. omega arith))
    go (inr a) (inl c) (inr u) v = (1, omega arith, u, (λ z. omega arith))
    go (inr a) (inl c) (inl u) v = (2, omega arith, (λ z. omega arith), (λ z. omega arith))
    go (inl a) (inl c) u v = (1, omega arith, (λ z. omega arith), (λ z. omega arith))

module _ (ls : List ℕ) (ok : LabelSet ls) (ps : List ℕ) (few : Few rules ps) (b : List ℕ) where
  -- a member by chips, and any other one
  chip_only : (x y : List ℕ) → Block x → Lawful ls x → ChipKind ps b x → S ls None ps b y → x ≡ y
  chip_only x y bx lx (fs, n, h) s =
      let w = few_of (ps ++ fs) in
      let qs = few_more (length (ps ++ fs)) rules w.0 (omega (arith, length-append ps fs, n, further_most (length ps) (few_length rules ps few))) w.1 in
      let v = covered ls ps b y s in
      alike ls ok v.0 v.1 w.0 qs x y bx lx s.block s.lawful
      (widen (λ p. (In p ps ⊎ In p fs) ⊎ ((p / 9 ≡ v.0) ⊎ In p ps)) (λ p. (p / 9 ≡ v.0) ⊎ In p w.0) x y (each v.0 w.0 w.2)
      (between (λ p. In p ps ⊎ In p fs) (λ p. (p / 9 ≡ v.0) ⊎ In p ps) b x y h v.2.only))
    where
      each : (j : ℕ) (qs : List ℕ) → ((p : ℕ) → p < 45 → In p (ps ++ fs) → In p qs) → (p : ℕ) → p < 45
          → (In p ps ⊎ In p fs) ⊎ ((p / 9 ≡ j) ⊎ In p ps) → (p / 9 ≡ j) ⊎ In p qs
      each j qs c p l (inl i) = inr (c p l (append_in p ps fs i))
      each j qs c p l (inr (inl e)) = inl e
      each j qs c p l (inr (inr i)) = inr (c p l (append_in p ps fs (inl i)))

  pub reached_one : (j : ℕ) → j < 5 → (x y : List ℕ) → Reached ls j ps b x → Reached ls j ps b y → x ≡ y
  reached_one j hj x y h g =
      alike ls ok j hj ps few x y h.block h.lawful g.block g.lawful
      (widen (λ p. ((p / 9 ≡ j) ⊎ In p ps) ⊎ ((p / 9 ≡ j) ⊎ In p ps)) (λ p. (p / 9 ≡ j) ⊎ In p ps) x y either_side
      (between (λ p. (p / 9 ≡ j) ⊎ In p ps) (λ p. (p / 9 ≡ j) ⊎ In p ps) b x y h.only g.only))
    where
      either_side : (p : ℕ) → p < 45 → ((p / 9 ≡ j) ⊎ In p ps) ⊎ ((p / 9 ≡ j) ⊎ In p ps) → (p / 9 ≡ j) ⊎ In p ps
      either_side p l (inl z) = z
      either_side p l (inr z) = z

  pub card_one : (m : ℕ) → m < 5 → (x y : List ℕ) → S ls (Some m) ps b x → S ls (Some m) ps b y → x ≡ y
  card_one m hm x y s t = go (by_kept m ps b x (further_beside (u (Some m) ps)) s.allowed) (by_kept m ps b y (further_beside (u (Some m) ps)) t.allowed)
    where
      -- the marked chips off the card
      qs : List ℕ
      qs = keep m ps

      go : BesideUpTo (further_beside (length qs)) m qs b x → BesideUpTo (further_beside (length qs)) m qs b y → x ≡ y
      go (fs, n, h) (gs, k, g) =
          let most = beside_both (length qs) (few_length rules qs (keep_few rules m ps few)) in
          let w = few_of (qs ++ (fs ++ gs)) in
          let rs = few_more (length (qs ++ (fs ++ gs))) rules w.0 (omega (arith, length-append qs (fs ++ gs), length-append fs gs, n, k, most)) w.1 in
          alike ls ok m hm w.0 rs x y s.block s.lawful t.block t.lawful
          (widen (λ p. ((p / 9 ≡ m) ⊎ (In p qs ⊎ In p fs)) ⊎ ((p / 9 ≡ m) ⊎ (In p qs ⊎ In p gs))) (λ p. (p / 9 ≡ m) ⊎ In p w.0) x y
          (each w.0 w.2)
          (between (λ p. (p / 9 ≡ m) ⊎ (In p qs ⊎ In p fs)) (λ p. (p / 9 ≡ m) ⊎ (In p qs ⊎ In p gs)) b x y h g))
        where
          each : (rs : List ℕ) → ((p : ℕ) → p < 45 → In p (qs ++ (fs ++ gs)) → In p rs) → (p : ℕ) → p < 45
              → ((p / 9 ≡ m) ⊎ (In p qs ⊎ In p fs)) ⊎ ((p / 9 ≡ m) ⊎ (In p qs ⊎ In p gs)) → (p / 9 ≡ m) ⊎ In p rs
          each rs c p l (inl (inl e)) = inl e
          each rs c p l (inl (inr (inl i))) = inr (c p l (append_in p qs (fs ++ gs) (inl i)))
          each rs c p l (inl (inr (inr i))) = inr (c p l (append_in p qs (fs ++ gs) (inr (append_in p fs gs (inl i)))))
          each rs c p l (inr (inl e)) = inl e
          each rs c p l (inr (inr (inl i))) = inr (c p l (append_in p qs (fs ++ gs) (inl i)))
          each rs c p l (inr (inr (inr i))) = inr (c p l (append_in p qs (fs ++ gs) (inr (append_in p fs gs (inr i)))))

  pub chip_one : (c : Option ℕ) → CardInRange c → (x : List ℕ) → S ls c ps b x → OfChipKind c ps b x → OneMember (S ls c ps b) x
  chip_one None r x s h = (s, λ y t. sym (chip_only x y s.block s.lawful h t))
  chip_one (Some m) r x s h = (s, λ y t. card_one m r y x t s)

  pub never_none : length ps ≡ 2 → Block b → (x : List ℕ) × S ls None ps b x
  never_none e bb = go ps few e
    where
      go : (ps : List ℕ) → Few rules ps → length ps ≡ 2 → (x : List ℕ) × S ls None ps b x
      go [] f e = absurd (omega arith)
      go (p ∷ []) f e = absurd (omega arith)
      go (p ∷ q ∷ []) f e =
          let w = spare p q in (
            closed ls w.0 (keep w.0 (p ∷ q ∷ [])) b,
            covers ls (p ∷ q ∷ []) b (closed ls w.0 (keep w.0 (p ∷ q ∷ [])) b) w.0 w.1
                (reached_few ls ok w.0 w.1 b bb (p ∷ q ∷ []) f (fits_off ls b w.0 p q w.2 w.3)),
          )
      go (p ∷ q ∷ r ∷ ps) f e = absurd f.2.2

  -- ---- clean
  pub clean_only : (c : Option ℕ) → CardInRange c → Block b → Lawful ls b → OneMember (S ls c ps b) b
  clean_only c r bb lb =
      chip_one c r b (record { block = bb; lawful = lb; allowed = chip_allowed c ps b b (unchanged c ps b) }) (unchanged c ps b)

  pub clean_reads : (c : Option ℕ) → CardInRange c → Block b → Lawful ls b → (out : List ℕ) → Reads ls c ps b out clean b
  clean_reads c r bb lb out = (clean_only c r bb lb, refl)

pub clean_lawful : (ls : List ℕ) (c : Option ℕ) (ps b out out' : List ℕ) → Reads ls c ps b out clean out' → Lawful ls b
clean_lawful ls c ps b out out' h = subst (Lawful ls) h.1 h.0.0.lawful

-- ---- the marks on the marked card
-- under a card mark, two sets with the same members and the same kinds read alike, where there are not two
module _ (j : ℕ) (ps qs b out : List ℕ) (P Q K L : List ℕ → Type 0) (N M : ℕ → Type 0) (to : (x : List ℕ) → P x → Q x) (from : (x : List ℕ) → Q x → P x)
    (chip_to : (x : List ℕ) → K x → L x) (chip_from : (x : List ℕ) → L x → K x) (one : TwoMembers P → ⊥) where
  reads_alike : (a : Answer) (x : List ℕ) → ReadsBy P K N (Some j) ps b out a x → ReadsBy Q L M (Some j) qs b out a x
  reads_alike clean x ((h, only), e) = ((to x h, λ y t. only y (from y t)), e)
  reads_alike (in_chips n) x ((h, only), ne, e, k) = ((to x h, λ y t. only y (from y t)), ne, e, chip_to x k)
  reads_alike (in_card i n) x ((h, only), e, k, on) = ((to x h, λ y t. only y (from y t)), e, (λ l. k (chip_from x l)), on)
  reads_alike (refused n) x (e, none, z) = (e, (λ y t. none y (from y t)), z)
  reads_alike (refused_card n i) x (e, two, r, z) = absurd (one two)
  reads_alike done x h = absurd h
  reads_alike (counted v w y z t) x h = absurd h

module _ (ls : List ℕ) (ok : LabelSet ls) (j : ℕ) (hj : j < 5) (b : List ℕ) where
  pub not_several : (ps : List ℕ) → Few rules ps → TwoMembers (S ls (Some j) ps b) → ⊥
  not_several ps few (x, y, s, t, ne) = ne (card_one ls ok ps few b j hj x y s t)

  pub as_unmarked : (ps : List ℕ) → Few rules ps → (out : List ℕ) (a : Answer) (x : List ℕ)
      → Reads ls (Some j) ps b out a x ↔ Reads ls (Some j) (keep j ps) b out a x
  as_unmarked ps few out a x = (
    reads_alike j ps qs b out (S ls (Some j) ps b) (S ls (Some j) qs b) (OfChipKind (Some j) ps b) (OfChipKind (Some j) qs b)
        (LowestReaching ls ps b) (LowestReaching ls qs b)
        (λ y. in_kept j ps b y ls) (λ y. in_from j ps b y ls) (λ y k. (kind_kept j ps b y k.0, k.1)) (λ y k. (kind_from j ps b y k.0, k.1))
        (not_several ps few) a x,
    reads_alike j qs ps b out (S ls (Some j) qs b) (S ls (Some j) ps b) (OfChipKind (Some j) qs b) (OfChipKind (Some j) ps b)
        (LowestReaching ls qs b) (LowestReaching ls ps b)
        (λ y. in_from j ps b y ls) (λ y. in_kept j ps b y ls) (λ y k. (kind_from j ps b y k.0, k.1)) (λ y k. (kind_kept j ps b y k.0, k.1))
        (not_several qs (keep_few rules j ps few)) a x,
  )
    where
      -- the marked chips off the card
      qs : List ℕ
      qs = keep j ps

-- ---- the kind under a card mark
module _ (ls : List ℕ) (j : ℕ) (ps b out out' : List ℕ) where
  pub card_told : (i n : ℕ) → Reads ls (Some j) ps b out (in_card i n) out' → (i ≡ j) × ((CardChanged j b out' → ⊥) → ⊥)
  card_told i n h = (h.3, λ none. h.2 (h.0.0.allowed, none))

  pub by_card : (a : Answer) → Reads ls (Some j) ps b out a out' → number a ≡ 0 → CardChanged j b out' → (n : ℕ) × (a ≡ in_card j n)
  by_card clean h e (p, l, q, ne) = absurd (ne (ap (λ (x : List ℕ). byte x p) (sym h.1)))
  by_card (in_chips n) h e c = absurd (h.3.1 c)
  by_card (in_card i n) h e c = (n, ap (λ (k : ℕ). in_card k n) h.3)
  by_card (refused n) h e c = absurd (omega (arith, h.0, e))
  by_card (refused_card n i) h e c = absurd (omega (arith, h.0, e))
  by_card done h e c = absurd h
  by_card (counted v w x y z) h e c = absurd h

  pub chips_told : (n : ℕ) → Reads ls (Some j) ps b out (in_chips n) out' → CardChanged j b out' → ⊥
  chips_told n h = h.3.1
