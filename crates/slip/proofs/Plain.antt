-- Order 8 in plain words: the facts that specs/Plain.antt states of the format and of the two calls.
--
--   slip_figures, bit_order; writes_numbers, writes_change; maps_exactly, behind_exactly; reads_numbers; written_reads, reads_write; beyond;
--   read_figures
--   put_there, put_long, put_others   bytes put in the place of as many
--   stands          where the slip of an outcome stands, it is read
use Prim.Native.Nat.{ℕ, suc, ◌+◌, ◌-◌, ◌≤◌, ◌<◌}
use mathlib.Core.Path.{◌≡◌, refl, sym, ap, ap₂, ◌∙◌, subst}
use mathlib.Core.Logic.{◌≢◌, ◌⊎◌, inl, inr}
use mathlib.Core.Bool.{Bool, true}
use mathlib.Core.List.{List, [], ◌∷◌, ◌++◌}
use native.Mathlib.Omega.{arith}
use lib.Dec.{T, ltb}
use lib.ListN.{length, get_or, take, drop, length-append, length-take, length-drop, take-append-drop, get_or-append}
use borrow.Author.Tests.{ltb-true}
use lib.Seq.{take_at, drop_at, length-take-le, get_or-take, get_or-drop, get_or-append-add, drop-drop}
use Rattle.base.specs.Base.{In, Rising}
use Rattle.base.proofs.Tests.{both, both_left, both_right, is_true}
use Rattle.answer.specs.Answer.{Answer, done, clean, in_chips, in_card, counted, refused, refused_card}
use Rattle.reading.specs.Reading.{reading_answer}
use Rattle.slip.specs.Slip.{HasSlip, fields, bits_of, slip}
use Rattle.slip.specs.Calls.{from_to, WriteSlipDone, Follows, Against, ReadSlipDone, found_number}
use Rattle.slip.specs.Limits.{limits_of}
use Rattle.slip.specs.Plain.{SlipFigures, BitOrder, WritesNumbers, WritesChange, MapsExactly, BehindExactly, ReadsNumbers}
use Rattle.slip.specs.Plain.{WrittenReads, ReadsWrite, Beyond, ReadsAs, ReadFigures}
use Rattle.slip.specs.Wrote.{Next, Refused}
use Rattle.slip.specs.Found.{Found}
use Rattle.slip.specs.Found.{Slip, Refused as RefusedAt}
use Rattle.slip.proofs.Within.{within_test, within_of}
use Rattle.slip.proofs.Shape.{some_map, by_map}
use Rattle.slip.proofs.Follows.{first_follows, follows_first, behind_follows, follows_behind}
use Rattle.slip.proofs.Judging.{cut_first, bad_map, Judged, cut_within, bad_byte}
use Rattle.slip.proofs.Fit.{slip_length}
use Rattle.slip.proofs.Writing.{write_full}
use Rattle.slip.proofs.Decided.{reading_of, answer_of, write_decided, read_decided}

-- ---- the format
pub slip_figures : (k j n r : ℕ) → SlipFigures k j n r
unfolding slip
slip_figures k j n r = record { of_clean = refl; of_chips = refl; of_card = refl; of_none = refl; of_several = refl }

-- a list whose numbers rise, as a test that is run
above : ℕ → List ℕ → Bool
above a [] = true
above a (b ∷ l) = both (ltb a b) (above a l)

rises : List ℕ → Bool
rises [] = true
rises (a ∷ l) = both (above a l) (rises l)

above_of : (a : ℕ) (l : List ℕ) → T (above a l) → (p : ℕ) → In p l → a < p
unfolding above
above_of a [] t p i = absurd i
above_of a (b ∷ l) t p (inl e) = subst (λ (x : ℕ). a < x) (sym e) (ltb-true a b (is_true _ (both_left (ltb a b) _ t)))
above_of a (b ∷ l) t p (inr i) = above_of a l (both_right (ltb a b) _ t) p i

rising_of : (l : List ℕ) → T (rises l) → Rising l
unfolding rises
rising_of [] t = tt
rising_of (a ∷ l) t = (above_of a l (both_left (above a l) _ t), rising_of l (both_right (above a l) _ t))

pub bit_order : BitOrder
unfolding rises above
bit_order k clean = rising_of (bits_of (fields k clean)) tt
bit_order k (in_chips n) = rising_of (bits_of (fields k (in_chips n))) tt
bit_order k (in_card j n) = rising_of (bits_of (fields k (in_card j n))) tt
bit_order k (refused r) = rising_of (bits_of (fields k (refused r))) tt
bit_order k (refused_card r j) = rising_of (bits_of (fields k (refused_card r j))) tt
bit_order k done = tt
bit_order k (counted v w x y z) = tt

-- ---- the writer
pub writes_numbers : WritesNumbers
unfolding WriteSlipDone
writes_numbers s i k a (Next n) s' (h, e, l, b) = record {
  written = (λ z. (h, omega (arith, e, l)), λ w. refl);
  sixteen = (λ z. absurd (omega (arith, z)), λ f. absurd (f h));
  seventeen = (λ z. absurd (omega (arith, z)), λ w. absurd (omega (arith, e, l, w.1)));
}
writes_numbers s i k a (Refused n) s' (inl (z, f), b) = record {
  written = (λ y. absurd (omega (arith, y, z)), λ w. absurd (f w.0));
  sixteen = (λ y. f, λ g. z);
  seventeen = (λ y. absurd (omega (arith, y, z)), λ w. absurd (f w.0));
}
writes_numbers s i k a (Refused n) s' (inr (z, h, l), b) = record {
  written = (λ y. absurd (omega (arith, y, z)), λ w. absurd (omega (arith, l, w.1)));
  sixteen = (λ y. absurd (omega (arith, y, z)), λ f. absurd (f h));
  seventeen = (λ y. (h, l), λ w. z);
}

-- bytes put in the place of as many, from i on
module _ (s : List ℕ) (i n : ℕ) (b : List ℕ) (e : n ≡ i + length b) (l : n ≤ length s) where
  front : length (take i s) ≡ i
  front = length-take-le i s (omega (arith, e, l))

  pub put_there : from_to (take i s ++ (b ++ drop n s)) i n ≡ b
  put_there =
      ap (take (n - i)) (drop_at (take i s) (b ++ drop n s) i front) ∙ take_at b (drop n s) (n - i) (let q : length b ≡ n - i = omega (arith, e) in q)

  pub put_long : length (take i s ++ (b ++ drop n s)) ≡ length s
  put_long = omega (arith, length-append (take i s) (b ++ drop n s), length-append b (drop n s), front, length-drop n s, e, l)

  pub put_others : (p : ℕ) → (p < i) ⊎ (n ≤ p) → get_or (take i s ++ (b ++ drop n s)) p 0 ≡ get_or s p 0
  put_others p (inl h) = get_or-append (take i s) (b ++ drop n s) 0 p (omega (arith, front, h)) ∙ get_or-take i s p 0 h
  put_others p (inr h) =
      ap (λ (x : ℕ). get_or (take i s ++ (b ++ drop n s)) x 0) (let q : p ≡ length (take i s) + (length b + (p - n)) = omega (arith, front, e, h) in q)
      ∙ get_or-append-add (take i s) (b ++ drop n s) (length b + (p - n)) 0
      ∙ get_or-append-add b (drop n s) (p - n) 0
      ∙ get_or-drop n s (p - n) 0
      ∙ ap (λ (x : ℕ). get_or s x 0) (let q : n + (p - n) ≡ p = omega (arith, h) in q)

pub writes_change : WritesChange
unfolding WriteSlipDone
writes_change s i k a n s' (h, e, l, b) = record {
  long = ap length b ∙ put_long s i n (slip k a) e l;
  there = ap (λ (x : List ℕ). from_to x i n) b ∙ put_there s i n (slip k a) e l;
  others = λ p w. ap (λ (x : List ℕ). get_or x p 0) b ∙ put_others s i n (slip k a) e l p w;
}

-- ---- what may stand where
pub maps_exactly : MapsExactly
unfolding limits_of
maps_exactly m = (λ f. some_map m (follows_first m f), λ i. first_follows m (by_map (λ u. (limits_of u).size ≢ 0) some some some some some m i))
  where
    some : {n : ℕ} → suc n ≢ 0
    some e = omega (arith, e)

pub behind_exactly : BehindExactly
behind_exactly m bs x = (follows_behind m bs x, λ w. behind_follows m bs x w.0 w.1)

-- ---- round trips
-- where the slip of an outcome stands, it is read
pub stands : (s : List ℕ) (i k : ℕ) (a : Answer) (n : ℕ) → HasSlip k a → n ≡ i + length (slip k a) → from_to s i n ≡ slip k a
    → ReadSlipDone s i (Slip k (reading_of a) n) s
unfolding ReadSlipDone
stands s i k a n h e b =
    let q = sym (answer_of a h.1) in
    ((subst (HasSlip k) q h, subst (λ (x : Answer). n ≡ i + length (slip k x)) q e, subst (λ (x : Answer). from_to s i n ≡ slip k x) q b), refl)

-- by which of its three ways a read ended
module _ (s : List ℕ) (i : ℕ) where
  was_read : (f : Found) (s' : List ℕ) → ReadSlipDone s i f s' → found_number f ≡ 0
      → (k : ℕ) × (a : Answer) × HasSlip k a × (from_to s i (i + length (slip k a)) ≡ slip k a)
  unfolding ReadSlipDone
  was_read (Slip k r n) s' ((h, e, b), z) y = (k, reading_answer r, h, ap (from_to s i) (sym e) ∙ b)
  was_read (RefusedAt n p) s' (inl (e, g), z) y = absurd (omega (arith, y, e))
  was_read (RefusedAt n p) s' (inr (e, g), z) y = absurd (omega (arith, y, e))

  was_15 : (f : Found) (s' : List ℕ) → ReadSlipDone s i f s' → found_number f ≡ 15 → (x : ℕ) × Follows (drop i s) x
  unfolding ReadSlipDone
  was_15 (Slip k r n) s' d y = absurd (omega (arith, y))
  was_15 (RefusedAt n p) s' (inl (e, g), z) y = g.1
  was_15 (RefusedAt n p) s' (inr (e, g), z) y = absurd (omega (arith, y, e))

  was_16 : (f : Found) (s' : List ℕ) → ReadSlipDone s i f s' → found_number f ≡ 16 → (p : ℕ) × Against s i p
  unfolding ReadSlipDone
  was_16 (Slip k r n) s' d y = absurd (omega (arith, y))
  was_16 (RefusedAt n p) s' (inl (e, g), z) y = absurd (omega (arith, y, e))
  was_16 (RefusedAt n p) s' (inr (e, g), z) y = (p, g)

pub reads_numbers : ReadsNumbers
unfolding ReadSlipDone
reads_numbers s i f s' d = record {
  read = (was_read s i f s' d, λ w. so (Slip w.0 (reading_of w.1) _) (stands s i w.0 w.1 _ w.2 refl w.3));
  fifteen = (was_15 s i f s' d, λ w. so (RefusedAt 15 (length s)) (inl (refl, (refl, w)), refl));
  sixteen = (was_16 s i f s' d, λ w. so (RefusedAt 16 w.0) (inr (refl, w.1), refl));
}
  where
    so : (g : Found) → ReadSlipDone s i g s → found_number f ≡ found_number g
    so g e = ap found_number (read_decided s i f g s' s d e).0

pub written_reads : WrittenReads
unfolding WriteSlipDone
written_reads s i k a n s' w =
    (reading_of a, answer_of a w.0.1, reads, λ f s'' d. (read_decided s' i f (Slip k (reading_of a) n) s'' s' d reads).0)
  where
    reads : ReadSlipDone s' i (Slip k (reading_of a) n) s'
    reads = stands s' i k a n w.0 w.1 (writes_change s i k a n s' w).there

pub reads_write : ReadsWrite
unfolding ReadSlipDone WriteSlipDone
reads_write s i k r n s' ((h, e, b), z) = record {
  again = λ w t d. write_decided s i k (reading_answer r) w (Next n) t s d (h, e, fits, same);
  anywhere = λ t j q t' d. (writes_change t j k (reading_answer r) q t' d).there ∙ sym b;
}
  where
    fits : n ≤ length s
    fits = omega (arith, e, ap length b, length-take (n - i) (drop i s), length-drop i s, (slip_length k (reading_answer r) h).0)

    same : s ≡ take i s ++ (slip k (reading_answer r) ++ drop n s)
    same =
        sym (take-append-drop i s) ∙ ap (λ (x : List ℕ). take i s ++ x) (sym (take-append-drop (n - i) (drop i s))
        ∙ ap₂ ◌++◌ b (drop-drop (n - i) i s ∙ ap (λ (x : ℕ). drop x s) (let q : i + (n - i) ≡ n = omega (arith, e) in q)))

-- ---- offsets beyond, and figures
pub beyond : (s : List ℕ) (i : ℕ) → Beyond s i
beyond s i = record {
  read = λ l f s' d. (read_decided s i f (RefusedAt 15 (length s)) s' s d (cut_first s i l)).0;
  written = λ l k a w s' h d.
      write_decided s i k a w (Refused 17) s' s d (write_full s i k a h (omega (arith, l, (slip_length k a h).0)));
}

-- what is read so is so
is : (s : List ℕ) (i : ℕ) (f : Found) → ReadSlipDone s i f s → ReadsAs s i f
is s i f d f' s' d' = (read_decided s i f' f s' s d' d).0

-- j bytes behind the map at i are within their limits
module _ (s : List ℕ) (i j : ℕ) (l : j < (limits_of (get_or s i 0)).size) (h : i + 1 + j ≤ length s)
    (w : T (within_test (limits_of (get_or s i 0)).least (limits_of (get_or s i 0)).most (take j (drop (suc i) s)))) where
  so_far : Judged s i j (i + 1 + j)
  so_far = record { place = refl; most = omega (arith, l); inside = h; within = within_of _ _ _ w }

  -- the slice ends there; the next byte is not
  ends : length s ≤ i + 1 + j → ReadsAs s i (RefusedAt 15 (length s))
  ends e = is s i _ (cut_within s i (omega (arith, h)) j (i + 1 + j) so_far l e)

  fails : i + 1 + j < length s
      → ((get_or (limits_of (get_or s i 0)).least j 0 ≤ get_or s (i + 1 + j) 0) × (get_or s (i + 1 + j) 0 ≤ get_or (limits_of (get_or s i 0)).most j 0) → ⊥)
      → ReadsAs s i (RefusedAt 16 (i + 1 + j))
  fails e f = is s i _ (bad_byte s i (omega (arith, h)) j (i + 1 + j) so_far l e f (i + 1 + j) refl)

pub read_figures : ReadFigures
unfolding limits_of slip reading_of within_test
read_figures = record {
  whole = is _ 0 _ (stands _ 0 1023 (in_card 4 11) 6 (omega arith, (omega arith, omega arith, omega arith)) refl refl);
  empty = is [] 0 (RefusedAt 15 0) (cut_first [] 0 (omega arith));
  map = is (7 ∷ []) 0 (RefusedAt 16 0) (bad_map (7 ∷ []) 0 (omega arith) refl);
  high_byte = fails (15 ∷ 0 ∷ 4 ∷ []) 0 1 (omega arith) (omega arith) tt (omega arith) (λ w. omega (arith, w.1));
  cut = ends (15 ∷ 0 ∷ []) 0 1 (omega arith) (omega arith) tt (omega arith);
  second = fails (3 ∷ 0 ∷ 0 ∷ 0 ∷ 15 ∷ 0 ∷ 4 ∷ []) 4 1 (omega arith) (omega arith) tt (omega arith) (λ w. omega (arith, w.1));
  kind = fails (3 ∷ 0 ∷ 0 ∷ 1 ∷ []) 0 2 (omega arith) (omega arith) tt (omega arith) (λ w. omega (arith, w.1));
  refusal = fails (17 ∷ 255 ∷ 3 ∷ 11 ∷ []) 0 2 (omega arith) (omega arith) tt (omega arith) (λ w. omega (arith, w.1));
  refusal_11 = fails (21 ∷ 255 ∷ 3 ∷ 4 ∷ 10 ∷ []) 0 3 (omega arith) (omega arith) tt (omega arith) (λ w. omega (arith, w.0));
  card = fails (21 ∷ 255 ∷ 3 ∷ 5 ∷ 11 ∷ []) 0 2 (omega arith) (omega arith) tt (omega arith) (λ w. omega (arith, w.1));
  card_of_card = fails (15 ∷ 0 ∷ 0 ∷ 2 ∷ 5 ∷ 1 ∷ []) 0 3 (omega arith) (omega arith) tt (omega arith) (λ w. omega (arith, w.1));
  chips_0 = fails (11 ∷ 0 ∷ 0 ∷ 1 ∷ 0 ∷ []) 0 3 (omega arith) (omega arith) tt (omega arith) (λ w. omega (arith, w.0));
  chips_3 = fails (11 ∷ 0 ∷ 0 ∷ 1 ∷ 3 ∷ []) 0 3 (omega arith) (omega arith) tt (omega arith) (λ w. omega (arith, w.1));
  card_0 = fails (15 ∷ 0 ∷ 0 ∷ 2 ∷ 4 ∷ 0 ∷ []) 0 4 (omega arith) (omega arith) tt (omega arith) (λ w. omega (arith, w.0));
  card_12 = fails (15 ∷ 0 ∷ 0 ∷ 2 ∷ 4 ∷ 12 ∷ []) 0 4 (omega arith) (omega arith) tt (omega arith) (λ w. omega (arith, w.1));
}
