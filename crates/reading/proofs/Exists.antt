-- Every block has a reading under every lawful marks: so that what is said of readings is said of something.
--
--   alike_or_not     two blocks are the same, or are not
--   chip_or_not      a change is of the chip kind, or is not
--   told             the answer for a block that is the one member of S
--   reached_or_not   card j and the chips ps reach a lawful block, or reach none
--   reads_exist      THE RESULT
use mathlib.Core.Logic.{◌≢◌, ◌⊎◌, inl, inr}
use mathlib.Core.Path.{◌≡◌, refl, sym, ap, ◌∙◌, subst}
use mathlib.Core.Bool.{Bool, true, false, ◌&&◌, not}
use mathlib.Core.List.{List, [], ◌∷◌}
use Prim.Native.Nat.{ℕ, zero, suc, ◌/◌, ◌<◌, ◌≤◌}
use native.Mathlib.Decide.{dec_lt}
use native.Mathlib.Omega.{arith}
use lib.Dec.{T, eqb}
use lib.ListN.{length}
use borrow.Author.Tests.{eq-eqb, ne_eqb}
use Rattle.std.proofs.lemmas.Bool.{cases_eq}
use Rattle.base.specs.Base.{In, is_in, tally, Few}
use Rattle.base.proofs.Tests.{Found, find}
use Rattle.base.proofs.Lists.{in_is_in, is_in_in}
use Rattle.base.proofs.Tally.{clash, tally_none, tally_one, tally_some, tally_two}
use Rattle.answer.specs.Answer.{Answer, clean, in_chips, in_card, refused, refused_card}
use Rattle.code.specs.Block.{byte, Block, changes, OneMember}
use Rattle.code.specs.Labels.{LabelSet}
use Rattle.code.specs.Reach.{rules, Beside, keep, Reached}
use Rattle.code.proofs.Blocks.{same_block}
use Rattle.code.proofs.Few.{keep_beside}
use Rattle.code.proofs.Reach.{fits, closed, candidate_few, reached_few}
use Rattle.marks.specs.Marks.{CardInRange}
use Rattle.std.specs.declared.option.Option.{Option}
use Rattle.std.specs.Prelude.{None, Some}
use Rattle.reading.specs.Allowed.{further, ChipKind, CardChanged, OfChipKind}
use Rattle.reading.specs.Reading.{S, LowestReaching, OnCard, Reads}
use Rattle.reading.proofs.Beside.{in_kept, in_from}
use Rattle.reading.proofs.Searches.{further_one, covered, covers, beside_chips, beside_few, covered_beside, covers_beside}
use Rattle.reading.proofs.Facts.{card_one, reaches, reached_by}

Either : Type 0 → Type 0
Either P = P ⊎ (P → ⊥)

differs : (b x : List ℕ) (p : ℕ) → Either (byte b p ≢ byte x p)
unfolding Either
differs b x p = go (cases_eq (byte b p) (byte x p))
  where
    go : (byte b p ≡ byte x p) ⊎ (byte b p ≢ byte x p) → (byte b p ≢ byte x p) ⊎ (byte b p ≢ byte x p → ⊥)
    go (inl e) = inr (λ n. n e)
    go (inr n) = inl n

pub alike_or_not : (x y : List ℕ) → length x ≡ 45 → length y ≡ 45 → (x ≡ y) ⊎ (x ≢ y)
unfolding Either
alike_or_not x y lx ly = go (find (λ p. byte x p ≢ byte y p) 45 (λ p l. differs x y p))
  where
    equal : (p : ℕ) → (byte x p ≢ byte y p → ⊥) → (byte x p ≡ byte y p) ⊎ (byte x p ≢ byte y p) → byte x p ≡ byte y p
    equal p h (inl e) = e
    equal p h (inr n) = absurd (h n)

    go : Found (λ p. byte x p ≢ byte y p) 45 → (x ≡ y) ⊎ (x ≢ y)
    go (inl w) = inr (λ e. w.2 (ap (λ (l : List ℕ). byte l w.0) e))
    go (inr h) = inl (same_block x y lx ly (λ p l. equal p (h p l) (cases_eq (byte x p) (byte y p))))

-- ---- the chip kind
-- p is changed and not marked
stray : List ℕ → List ℕ → List ℕ → ℕ → Bool
stray ps b x p = not (eqb (byte b p) (byte x p)) && not (is_in p ps)

module _ (ps b x : List ℕ) where
  is_stray : (p : ℕ) → byte b p ≢ byte x p → (In p ps → ⊥) → stray ps b x p ≡ true
  unfolding stray
  is_stray p n h = go (is_in p ps) refl
    where
      go : (t : Bool) → is_in p ps ≡ t → not (eqb (byte b p) (byte x p)) && not (is_in p ps) ≡ true
      go true e = absurd (h (is_in_in p ps e))
      go false e = rw (ne_eqb (byte b p) (byte x p) n, e) refl

  stray_is : (p : ℕ) → stray ps b x p ≡ true → (byte b p ≢ byte x p) × (In p ps → ⊥)
  unfolding stray
  stray_is p e = ((λ q. clash true refl (sym e ∙ rw (eq-eqb (byte b p) (byte x p) q) refl)), λ i. clash true refl (sym e ∙ at (in_is_in p ps i)))
    where
      off : (t : Bool) → not t && false ≡ false
      off true = refl
      off false = refl

      at : is_in p ps ≡ true → not (eqb (byte b p) (byte x p)) && not (is_in p ps) ≡ false
      at i = rw i (off (eqb (byte b p) (byte x p)))

  -- where every stray is one of fs
  covered_by : (fs : List ℕ) → length fs ≤ further (length ps) → ((p : ℕ) → p < 45 → stray ps b x p ≡ true → In p fs) → ChipKind ps b x
  covered_by fs h f = (fs, h, λ p l. go p l (cases_eq (byte b p) (byte x p)) (is_in p ps) refl)
    where
      go : (p : ℕ) → p < 45 → (byte b p ≡ byte x p) ⊎ (byte b p ≢ byte x p) → (t : Bool) → is_in p ps ≡ t → (byte b p ≡ byte x p) ⊎ (In p ps ⊎ In p fs)
      go p l (inl e) t i = inl e
      go p l (inr n) true i = inr (inl (is_in_in p ps i))
      go p l (inr n) false i = inr (inr (f p l (is_stray p n (λ j. clash true refl (sym (in_is_in p ps j) ∙ i)))))

  -- a stray of a change of the chip kind is a further chip
  stray_further : (fs : List ℕ) (p : ℕ) → (byte b p ≡ byte x p) ⊎ (In p ps ⊎ In p fs) → stray ps b x p ≡ true → In p fs
  stray_further fs p (inl e) s = absurd ((stray_is p s).0 e)
  stray_further fs p (inr (inl i)) s = absurd ((stray_is p s).1 i)
  stray_further fs p (inr (inr i)) s = i

  chip_by : (n : ℕ) → further (length ps) ≡ n → n ≤ 1 → Either (ChipKind ps b x)
  unfolding Either
  chip_by zero e h = go (tally 45 (stray ps b x)) refl
    where
      go : (n : ℕ) → tally 45 (stray ps b x) ≡ n → ChipKind ps b x ⊎ (ChipKind ps b x → ⊥)
      go zero q = inl (covered_by [] (omega arith) (λ p l s. absurd (clash (stray ps b x p) s (tally_none (stray ps b x) 45 q p l))))
      go (suc n) q = inr (λ k. no k (tally_some (stray ps b x) 45 (omega (arith, q))))
        where
          no : ChipKind ps b x → (i : ℕ) × (i < 45) × (stray ps b x i ≡ true) → ⊥
          no ([], l, h) (i, z, s) = stray_further [] i (h i z) s
          no (f ∷ fs, l, h) w = omega (arith, l, e)
  chip_by (suc zero) e h = go (dec_lt (tally 45 (stray ps b x)) 2)
    where
      go : Dec (tally 45 (stray ps b x) < 2) → ChipKind ps b x ⊎ (ChipKind ps b x → ⊥)
      go (yes q) = let w = tally_one (stray ps b x) 45 (omega arith) in inl (covered_by (w.0 ∷ []) (omega (arith, e)) (λ p l s. inl (w.1 p l s)))
      go (no q) = inr (λ k. no k (tally_two (stray ps b x) 45 (omega arith)))
        where
          both : (f i k : ℕ) → i ≢ k → In i (f ∷ []) → In k (f ∷ []) → ⊥
          both f i k ne (inl d) (inl g) = ne (d ∙ sym g)
          both f i k ne (inl d) (inr g) = g
          both f i k ne (inr d) g = d

          no : ChipKind ps b x → (i : ℕ) × (k : ℕ) × (i < 45) × (k < 45) × (i ≢ k) × (stray ps b x i ≡ true) × (stray ps b x k ≡ true) → ⊥
          no ([], l, h) (i, k, li, lk, ne, si, sk) = stray_further [] i (h i li) si
          no (f ∷ [], l, h) (i, k, li, lk, ne, si, sk) = both f i k ne (stray_further (f ∷ []) i (h i li) si) (stray_further (f ∷ []) k (h k lk) sk)
          no (f ∷ g ∷ fs, l, h) w = omega (arith, l, e)
  chip_by (suc (suc n)) e h = absurd (omega arith)

card_changed : (j : ℕ) (b x : List ℕ) → Either (CardChanged j b x)
unfolding Either
card_changed j b x = go (find (λ p. (p / 9 ≡ j) × (byte b p ≢ byte x p)) 45 (λ p l. at p (cases_eq (p / 9) j) (differs b x p)))
  where
    at : (p : ℕ) → (p / 9 ≡ j) ⊎ (p / 9 ≢ j) → (byte b p ≢ byte x p) ⊎ (byte b p ≢ byte x p → ⊥)
        → ((p / 9 ≡ j) × (byte b p ≢ byte x p)) ⊎ ((p / 9 ≡ j) × (byte b p ≢ byte x p) → ⊥)
    at p (inl e) (inl n) = inl (e, n)
    at p (inl e) (inr h) = inr (λ w. h w.1)
    at p (inr e) d = inr (λ w. e w.0)

    go : Found (λ p. (p / 9 ≡ j) × (byte b p ≢ byte x p)) 45 → CardChanged j b x ⊎ (CardChanged j b x → ⊥)
    go (inl w) = inl (w.0, w.1, w.2.0, w.2.1)
    go (inr h) = inr (λ w. h w.0 w.1 (w.2, w.3))

module _ (ls : List ℕ) (ok : LabelSet ls) (ps : List ℕ) (few : Few rules ps) (b : List ℕ) (bb : Block b) where
  chip_or_not : (c : Option ℕ) (x : List ℕ) → S ls c ps b x → OfChipKind c ps b x ⊎ (OfChipKind c ps b x → ⊥)
  unfolding Either
  chip_or_not None x s = chip_by ps b x (further (length ps)) refl (further_one (length ps))
  chip_or_not (Some j) x s = go (card_changed j b x)
    where
      go : CardChanged j b x ⊎ (CardChanged j b x → ⊥) → OfChipKind (Some j) ps b x ⊎ (OfChipKind (Some j) ps b x → ⊥)
      go (inl w) = inr (λ k. k.1 w)
      go (inr h) = inl (s.allowed, h)

  on_card : (c : Option ℕ) (x : List ℕ) → S ls c ps b x → (j : ℕ) × OnCard c j ps b x
  on_card None x s = let w = covered ls ps b x s in (w.0, (w.1, w.2.only))
  on_card (Some m) x s = (m, refl)

  Read : Option ℕ → List ℕ → Type 0
  Read c out = (a : Answer) × (x : List ℕ) × Reads ls c ps b out a x

  told : (c : Option ℕ) (out x : List ℕ) → OneMember (S ls c ps b) x → Read c out
  unfolding Read
  told c out x one = go (alike_or_not x b one.0.block.long bb.long) (chip_or_not c x one.0)
    where
      go : (x ≡ b) ⊎ (x ≢ b) → OfChipKind c ps b x ⊎ (OfChipKind c ps b x → ⊥) → (a : Answer) × (x : List ℕ) × Reads ls c ps b out a x
      go (inl e) k = (clean, x, (one, e))
      go (inr n) (inl k) = (in_chips (changes b x), x, (one, n, refl, k))
      go (inr n) (inr h) = let w = on_card c x one.0 in (in_card w.0 (changes b x), x, (one, refl, h, w.1))

  pub reached_or_not : (j : ℕ) → j < 5 → (qs : List ℕ) → Few rules qs → ((x : List ℕ) × Reached ls j qs b x) ⊎ ((x : List ℕ) → Reached ls j qs b x → ⊥)
  reached_or_not j hj qs fq = go (fits ls j (keep j qs) b) refl
    where
      go : (t : Bool) → fits ls j (keep j qs) b ≡ t → ((x : List ℕ) × Reached ls j qs b x) ⊎ ((x : List ℕ) → Reached ls j qs b x → ⊥)
      go true e = inl (closed ls j (keep j qs) b, reached_few ls ok j hj b bb qs fq (subst T (sym e) tt))
      go false e = inr (λ x r. subst T e (candidate_few ls ok j hj b bb qs fq x r).0)

  Meets : ℕ → List ℕ → Type 0
  Meets j qs = (x : List ℕ) × Reached ls j qs b x

  search_of : (j : ℕ) → j < 5 → (qs : List ℕ) → Few rules qs → Meets j qs ⊎ (Meets j qs → ⊥)
  unfolding Meets
  search_of j hj qs fq = go (reached_or_not j hj qs fq)
    where
      go : ((x : List ℕ) × Reached ls j qs b x) ⊎ ((x : List ℕ) → Reached ls j qs b x → ⊥)
          → ((x : List ℕ) × Reached ls j qs b x) ⊎ ((x : List ℕ) × Reached ls j qs b x → ⊥)
      go (inl w) = inl w
      go (inr h) = inr (λ w. h w.0 w.1)

  -- another block than x is reached
  Other : List ℕ → ℕ → Type 0
  Other x i = (y : List ℕ) × Reached ls i ps b y × (y ≢ x)

  other_or_not : (x : List ℕ) → Block x → (i : ℕ) → i < 5 → Other x i ⊎ (Other x i → ⊥)
  unfolding Other
  other_or_not x bx i hi = go (reached_or_not i hi ps few)
    where
      only : (y z : List ℕ) → Reached ls i ps b y → Reached ls i ps b z → z ≡ y
      only y z h g = (candidate_few ls ok i hi b bb ps few z g).1 ∙ sym (candidate_few ls ok i hi b bb ps few y h).1

      go : ((y : List ℕ) × Reached ls i ps b y) ⊎ ((y : List ℕ) → Reached ls i ps b y → ⊥)
          → ((y : List ℕ) × Reached ls i ps b y × (y ≢ x)) ⊎ ((y : List ℕ) × Reached ls i ps b y × (y ≢ x) → ⊥)
      go (inr h) = inr (λ w. h w.0 w.1)
      go (inl (y, h)) = at (alike_or_not y x h.block.long bx.long)
        where
          at : (y ≡ x) ⊎ (y ≢ x) → ((y : List ℕ) × Reached ls i ps b y × (y ≢ x)) ⊎ ((y : List ℕ) × Reached ls i ps b y × (y ≢ x) → ⊥)
          at (inl e) = inr (λ w. w.2 (only y w.0 h w.1 ∙ e))
          at (inr n) = inl (y, h, n)

  pub reads_exist : (c : Option ℕ) → CardInRange c → (out : List ℕ) → (a : Answer) × (x : List ℕ) × Reads ls c ps b out a x
  unfolding Read Meets Other
  reads_exist (Some m) hm out = go (find (λ f. Meets m (beside_chips qs f)) 45 (λ f l. search_of m hm (beside_chips qs f) (beside_few qs off.0 f l)))
    where
      -- the marked chips off the card
      qs : List ℕ
      qs = keep m ps

      off : Beside m qs
      off = keep_beside m ps few

      go : Found (λ f. (x : List ℕ) × Reached ls m (beside_chips qs f) b x) 45 → (a : Answer) × (x : List ℕ) × Reads ls (Some m) ps b out a x
      go (inl w) =
          let s = in_from m ps b w.2.0 ls (covers_beside m b w.2.0 ls qs off.1 w.0 w.2.1) in
          told (Some m) out w.2.0 (s, λ y t. card_one ls ok ps few b m hm y w.2.0 t s)
      go (inr h) =
          (refused 10, out, (refl, (λ y t. let w = covered_beside m b y ls qs off.1 (in_kept m ps b y ls t) in h w.0 w.1 (y, w.2)), refl))
  reads_exist None r out = go (find (λ j. Meets j ps) 5 (λ j l. search_of j l ps few))
    where
      go : Found (λ j. (x : List ℕ) × Reached ls j ps b x) 5 → (a : Answer) × (x : List ℕ) × Reads ls None ps b out a x
      go (inr h) = (refused 10, out, (refl, (λ y t. let w = covered ls ps b y t in h w.0 w.1 (y, w.2)), refl))
      go (inl (j, hj, (x, h), below)) = at (find (Other x) 5 (λ i l. other_or_not x h.block i l))
        where
          mine : S ls None ps b x
          mine = covers ls ps b x j hj h

          same_as : (y : List ℕ) (i : ℕ) → Reached ls i ps b y → ((y : List ℕ) × Reached ls i ps b y × (y ≢ x) → ⊥) → (y ≡ x) ⊎ (y ≢ x) → y ≡ x
          same_as y i g none (inl e) = e
          same_as y i g none (inr n) = absurd (none (y, g, n))

          at : Found (λ i. (y : List ℕ) × Reached ls i ps b y × (y ≢ x)) 5 → (a : Answer) × (x : List ℕ) × Reads ls None ps b out a x
          at (inl (i, hi, (y, g, n), z)) =
              let lowest : LowestReaching ls ps b j = (reaches ls ps b j hj x h, λ k l r. below k l (reached_by ls ps b k r).1) in
              (refused_card 11 j, out, (refl, (y, x, covers ls ps b y i hi g, mine, n), lowest, refl))
          at (inr none) = told None out x (
            mine,
            λ y t. let w = covered ls ps b y t in
                same_as y w.0 w.2 (none w.0 w.1) (alike_or_not y x t.block.long h.block.long),
          )
