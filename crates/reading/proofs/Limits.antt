-- How many bytes a reading changes: at most 2 where it says chips, at most 11 where it says a card.
--
--   listed_limit, beside_limit   a change at listed positions; and on one card besides
--   unmarked_limit a change of the chip kind with no marks
--   chips_limit    "chips n", under at most two chip marks
--   card_limit     "card j, n", under at most two chip marks
use Prim.Native.Nat.{ℕ, ◌+◌, ◌/◌, ◌<◌, ◌≤◌}
use mathlib.Core.Path.{◌≡◌, refl, ap}
use mathlib.Core.Logic.{◌≢◌, ◌⊎◌, inl, inr, ⊎_elim}
use mathlib.Core.Bool.{Bool, true, false, ◌&&◌, not}
use mathlib.Core.List.{List, [], ◌++◌}
use native.Mathlib.Omega.{arith}
use lib.Dec.{eqb}
use lib.ListN.{length, length-append}
use borrow.Author.Tests.{eq-eqb}
use Rattle.std.proofs.lemmas.Bool.{cases_eq}
use Rattle.base.specs.Base.{In, is_in, bit, tally}
use Rattle.base.proofs.Lists.{in_is_in, append_in}
use Rattle.base.proofs.Tally.{tally_either, tally_in, tally_card, tally_never, at_most, one_le}
use Rattle.code.specs.Block.{byte, DifferOnly, changes}
use Rattle.code.specs.Reach.{keep}
use Rattle.code.proofs.Few.{keep_short}
use Rattle.marks.specs.Marks.{CardInRange}
use Rattle.std.specs.declared.option.Option.{Option}
use Rattle.std.specs.Prelude.{None, Some}
use Rattle.reading.specs.Allowed.{u, further_beside, ChipKind, BesideUpTo, Allowed, OfChipKind}
use Rattle.reading.specs.Reading.{OnCard}
use Rattle.reading.proofs.Beside.{beside_most, by_kept}
use Rattle.reading.proofs.Searches.{further_most}

module _ (b x : List ℕ) where
  moved : ℕ → Bool
  moved p = not (eqb (byte b p) (byte x p))

  -- a byte that is moved is counted where the test c passes, or in the list l
  moved_at : (c : ℕ → Bool) (l : List ℕ) (p : ℕ) → (byte b p ≡ byte x p) ⊎ ((c p ≡ true) ⊎ In p l) → bit (moved p) ≤ bit (c p) + bit (is_in p l)
  unfolding moved
  moved_at c l p (inl e) = let z : bit (not (eqb (byte b p) (byte x p))) ≡ 0 = ap (λ (t : Bool). bit (not t)) (eq-eqb _ _ e) in omega (arith, z)
  moved_at c l p (inr (inl h)) = let z : bit (c p) ≡ 1 = ap bit h in omega (arith, z, one_le (not (eqb (byte b p) (byte x p))))
  moved_at c l p (inr (inr i)) =
      let z : bit (is_in p l) ≡ 1 = ap bit (in_is_in p l i) in
      omega (arith, z, one_le (not (eqb (byte b p) (byte x p))))

  listed_limit : (l : List ℕ) → DifferOnly (λ p. In p l) b x → changes b x ≤ length l
  unfolding changes moved
  listed_limit l d = omega (
    arith,
    tally_either 45 moved (λ p. false) (λ p. is_in p l) (λ p h. moved_at (λ q. false) l p (⊎_elim inl (λ i. inr (inr i)) (d p h))),
    tally_never 45 (λ p. false) (λ p h. refl),
    tally_in 45 l,
  )

  -- the chip kind with no marks is one byte at most
  pub unmarked_limit : ChipKind [] b x → changes b x ≤ 1
  unmarked_limit (fs, n, d) = omega (arith, n, listed_limit fs (λ p h. ⊎_elim inl (λ i. inr (⊎_elim (λ z. absurd z) (λ k. k) i)) (d p h)))

  beside_limit : (j : ℕ) → j < 5 → (l : List ℕ) → DifferOnly (λ p. (p / 9 ≡ j) ⊎ In p l) b x → changes b x ≤ 9 + length l
  unfolding changes moved
  beside_limit j hj l d = omega (
    arith,
    tally_either 45 moved (λ p. eqb (p / 9) j && true) (λ p. is_in p l) (λ p h. moved_at (λ q. eqb (q / 9) j && true) l p (there p (d p h))),
    tally_card j hj (λ i. true),
    at_most 9 (λ i. true) (tally 9 (λ i. true)) refl,
    tally_in 45 l,
  )
    where
      there : (p : ℕ) → (byte b p ≡ byte x p) ⊎ ((p / 9 ≡ j) ⊎ In p l) → (byte b p ≡ byte x p) ⊎ ((eqb (p / 9) j && true ≡ true) ⊎ In p l)
      there p (inl e) = inl e
      there p (inr (inl e)) = inr (inl (ap (λ (t : Bool). t && true) (eq-eqb (p / 9) j e)))
      there p (inr (inr i)) = inr (inr i)

-- of a change by marked chips and further ones, none is on card j where no byte of it is changed
module _ (ps b x : List ℕ) where
  off_card : (j : ℕ) (fs : List ℕ) → ((p : ℕ) → p < 45 → p / 9 ≡ j → byte b p ≢ byte x p → ⊥) → (p : ℕ) → p < 45
      → (byte b p ≡ byte x p) ⊎ (byte b p ≢ byte x p) → (byte b p ≡ byte x p) ⊎ ((p / 9 ≡ j) ⊎ (In p ps ⊎ In p fs)) → (byte b p ≡ byte x p) ⊎ In p (ps ++ fs)
  off_card j fs off p h (inl e) w = inl e
  off_card j fs off p h (inr e) (inl w) = inl w
  off_card j fs off p h (inr e) (inr (inl q)) = absurd (off p h q e)
  off_card j fs off p h (inr e) (inr (inr i)) = inr (append_in p ps fs i)

module _ (ps b x : List ℕ) (few : length ps ≤ 2) where
  kept_few : (j : ℕ) → length (keep j ps) ≤ 2
  kept_few j = omega (arith, keep_short j ps, few)

  pub chips_limit : (c : Option ℕ) → OfChipKind c ps b x → changes b x ≤ 2
  chips_limit None (fs, n, d) = omega (
    arith,
    listed_limit b x (ps ++ fs) (λ p h. ⊎_elim inl (λ i. inr (append_in p ps fs i)) (d p h)),
    length-append ps fs,
    further_most (length ps) few,
    n,
  )
  chips_limit (Some j) (h, off) = go (by_kept j ps b x (further_beside (u (Some j) ps)) h)
    where
      go : BesideUpTo (further_beside (length (keep j ps))) j (keep j ps) b x → changes b x ≤ 2
      go (fs, n, d) = omega (
        arith,
        listed_limit b x (keep j ps ++ fs)
            (λ p h. off_card (keep j ps) b x j fs (λ p h q e. off (p, h, q, e)) p h (cases_eq (byte b p) (byte x p)) (d p h)),
        length-append (keep j ps) fs,
        beside_most (length (keep j ps)) (kept_few j),
        n,
      )

  pub card_limit : (c : Option ℕ) → CardInRange c → (j : ℕ) → Allowed c ps b x → OnCard c j ps b x → changes b x ≤ 11
  card_limit None r j a (hj, d) = omega (arith, beside_limit b x j hj ps d)
  card_limit (Some m) r j h o = go (by_kept m ps b x (further_beside (u (Some m) ps)) h)
    where
      go : BesideUpTo (further_beside (length (keep m ps))) m (keep m ps) b x → changes b x ≤ 11
      go (fs, n, d) = omega (
        arith,
        beside_limit b x m r (keep m ps ++ fs) (λ p h. ⊎_elim inl (λ w. inr (⊎_elim inl (λ i. inr (append_in p (keep m ps) fs i)) w)) (d p h)),
        length-append (keep m ps) fs,
        beside_most (length (keep m ps)) (kept_few m),
        n,
      )
