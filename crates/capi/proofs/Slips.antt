-- The codes of the calls on slips.
--
--   join_back          what the header takes apart, put together again
--   told_several, told_refused, told_clean, told_chips, told_card   the reading that the parts of a code tell
--   asked_some, asked_none   a number is the code of the reading that its parts tell, or no reading's
--   asked_back         what a reading gave is asked for by its code; asked_code: and nothing else is asked for that has a slip
--   wrote_layout, found_layout   codes in figures
--   not_15             a refusal to read that is not 15 is 16, and its cause is near
--   wrote_back, found_back   what the parts of a code tell is what it is the code of
use Prim.Native.Nat.{ℕ, ◌+◌, ◌-◌, ◌*◌, ◌/◌, ◌%◌, ◌^◌, ◌≤◌, ◌<◌}
use mathlib.Core.Path.{◌≡◌, refl, sym, ap, ap₂, ◌∙◌, subst}
use mathlib.Core.Logic.{◌≢◌, ◌⊎◌, inl, inr}
use mathlib.Core.List.{[], ◌∷◌}
use native.Mathlib.Omega.{arith}
use borrow.Author.Tests.{eq-eqb, ne_eqb}
use Rattle.answer.specs.Answer.{Answer, done, clean, in_chips, in_card, counted, refused, refused_card}
use Rattle.answer.proofs.Gives.{Readings, was_clean, was_in_chips, was_in_card, was_several, not_read}
use Rattle.std.proofs.lemmas.Bool.{cases_eq}
use Rattle.reading.specs.Reading.{reading_answer}
use Rattle.reading.specs.declared.Kind.TheVariants.{OneCard}
use Rattle.std.specs.Prelude.{Ok, Err}
use Rattle.reading.specs.declared.Fault.TheVariants.{Several}
use Rattle.slip.specs.Slip.{HasSlip}
use Rattle.slip.specs.Fit.{WroteFits, FoundFits}
use Rattle.slip.specs.Wrote.{Wrote}
use Rattle.slip.specs.Wrote.{Next, Refused as NotWritten}
use Rattle.slip.specs.Found.{Found}
use Rattle.slip.specs.Found.{Slip, Refused as RefusedAt}
use Rattle.capi.specs.Codes.{code, number_in, kind_in, card_in, n_in, by_number, corrected_as, refused_as, reading_in, asked_in}
use Rattle.capi.specs.Codes.{wrote_code, found_code, length_in, block_in, answer_code_in, wrote_in, FoundIn, packed}
use Rattle.capi.proofs.Codes.{reading_back, reading_fits}

-- ---- a code put together again
pub join_back : (c : ℕ) → c < 2 ^ 32 → packed (number_in c) (kind_in c) (card_in c) (n_in c) ≡ c
join_back c h =
    let p : number_in c + 2 ^ 8 * (c / 2 ^ 8) ≡ c = omega arith in
    let q : kind_in c + 2 ^ 8 * (c / 2 ^ 16) ≡ c / 2 ^ 8 = omega arith in
    let r : card_in c + 2 ^ 8 * (c / 2 ^ 24) ≡ c / 2 ^ 16 = omega arith in
    let s : n_in c ≡ c / 2 ^ 24 = omega arith in
    joined (number_in c) (kind_in c) (card_in c) (n_in c) (c / 2 ^ 8) (c / 2 ^ 16) (c / 2 ^ 24) c p q r s
  where
    joined : (a b d e x y z c : ℕ) → a + 2 ^ 8 * x ≡ c → b + 2 ^ 8 * y ≡ x → d + 2 ^ 8 * z ≡ y → e ≡ z → packed a b d e ≡ c
    joined a b d e x y z c p q r s = omega arith

-- ---- the reading that the parts of a code tell
module _ (c : ℕ) (fits : c < 2 ^ 32) where
  parts : reading_in c ≡ by_number (c % 256) (corrected_as (c / 256 % 256) (c / 65536 % 256) (c / 16777216 % 256)) (refused_as (c % 256) (c / 65536 % 256))
  unfolding reading_in
  parts =
      let p : number_in c ≡ c % 256 = omega arith in
      let q : kind_in c ≡ c / 256 % 256 = omega arith in
      let r : card_in c ≡ c / 65536 % 256 = omega arith in
      let s : n_in c ≡ c / 16777216 % 256 = omega arith in
      ap₂ (λ (x y : ℕ). by_number x (corrected_as (kind_in c) y (n_in c)) (refused_as x y)) p r
      ∙ ap₂ (λ (x y : ℕ). by_number (c % 256) (corrected_as x (c / 65536 % 256) y) (refused_as (c % 256) (c / 65536 % 256))) q s

  pub told_several : c % 256 ≡ 11 → refused_card 11 (c / 65536 % 256) ≡ reading_in c
  unfolding by_number refused_as
  told_several e = sym (parts ∙ simp e)

  pub told_refused : c % 256 ≢ 0 → c % 256 ≢ 11 → refused (c % 256) ≡ reading_in c
  unfolding by_number refused_as
  told_refused a b = sym (parts ∙ simp (ne_eqb (c % 256) 0 a, ne_eqb (c % 256) 11 b))

  pub told_clean : c % 256 ≡ 0 → c / 256 % 256 ≡ 0 → clean ≡ reading_in c
  unfolding by_number corrected_as
  told_clean e f = sym (parts ∙ simp (e, f))

  pub told_chips : c % 256 ≡ 0 → c / 256 % 256 ≡ 1 → in_chips (c / 16777216 % 256) ≡ reading_in c
  unfolding by_number corrected_as
  told_chips e f = sym (parts ∙ simp (e, f))

  pub told_card : c % 256 ≡ 0 → c / 256 % 256 ≢ 0 → c / 256 % 256 ≢ 1 → in_card (c / 65536 % 256) (c / 16777216 % 256) ≡ reading_in c
  unfolding by_number corrected_as
  told_card e f g = sym (parts ∙ simp (e, ne_eqb (c / 256 % 256) 0 f, ne_eqb (c / 256 % 256) 1 g))

-- ---- the reading that is asked for
pub asked_some : (c : ℕ) → code (reading_in c) ≡ c → asked_in c ≡ reading_in c
unfolding asked_in
asked_some c e = simp (eq-eqb (code (reading_in c)) c e)

pub asked_none : (c : ℕ) → code (reading_in c) ≢ c → asked_in c ≡ done
unfolding asked_in
asked_none c e = simp (ne_eqb (code (reading_in c)) c e)

-- what has a slip has the shape of a reading's answer, so that its code comes back
gives : (k : ℕ) (a : Answer) → HasSlip k a → Readings (10 ∷ []) a
gives k clean h = was_clean
gives k (in_chips n) h = was_in_chips h.1.1
gives k (in_card j n) h = let l : j < 5 = omega (arith, h.1.0) in was_in_card l h.1.2
gives k (refused n) h = not_read (inl h.1)
gives k (refused_card n j) h = let l : j < 5 = omega (arith, h.1.1) in was_several h.1.0 l
gives k done h = absurd h.1
gives k (counted v w x y z) h = absurd h.1

pub asked_back : (k : ℕ) (a : Answer) → HasSlip k a → asked_in (code a) ≡ a
asked_back k a h =
    let e = reading_back (10 ∷ []) refl a (gives k a h) in
    asked_some (code a) (ap code e) ∙ e

pub asked_code : (k c : ℕ) → HasSlip k (asked_in c) → code (asked_in c) ≡ c
asked_code k c h = go (cases_eq (code (reading_in c)) c)
  where
    go : (code (reading_in c) ≡ c) ⊎ (code (reading_in c) ≢ c) → code (asked_in c) ≡ c
    go (inl e) = ap code (asked_some c e) ∙ e
    go (inr n) = absurd (subst (HasSlip k) (asked_none c n) h).1

-- ---- a slip written
pub wrote_layout : (wrote_code 10 (Next 14) ≡ 0x00000400) × (wrote_code 10 (NotWritten 17) ≡ 0x00000011)
wrote_layout = (refl, refl)

-- a code whose number is 0, and one whose number is not
done_as : (i c : ℕ) → number_in c ≡ 0 → wrote_in i c ≡ Next (i + length_in c)
unfolding wrote_in
done_as i c e = simp (eq-eqb (number_in c) 0 e)

not_as : (i c : ℕ) → number_in c ≢ 0 → wrote_in i c ≡ NotWritten (number_in c)
unfolding wrote_in
not_as i c e = simp (ne_eqb (number_in c) 0 e)

pub wrote_back : (i : ℕ) (w : Wrote) → WroteFits i w → wrote_in i (wrote_code i w) ≡ w
wrote_back i (Next n) h =
    let e : number_in (2 ^ 8 * (n - i)) ≡ 0 = omega arith in
    let q : i + length_in (2 ^ 8 * (n - i)) ≡ n = omega (arith, h.0, h.1) in
    done_as i (2 ^ 8 * (n - i)) e ∙ ap Next q
wrote_back i (NotWritten n) h = go h
  where
    small : (n ≡ 16) ⊎ (n ≡ 17) → (n ≢ 0) × (n < 256)
    small (inl e) = (λ z. omega (arith, e, z), omega (arith, e))
    small (inr e) = (λ z. omega (arith, e, z), omega (arith, e))

    go : (n ≡ 16) ⊎ (n ≡ 17) → wrote_in i n ≡ NotWritten n
    go w =
        let e : number_in n ≡ n = omega (arith, (small w).1) in
        not_as i n (λ z. (small w).0 (sym e ∙ z)) ∙ ap NotWritten e

-- ---- a slip read
pub found_layout : (found_code 10 (Slip 259 (Ok (OneCard 4 11)) 16) ≡ 0x0B04020001030600)
    × (found_code 10 (Slip 1023 (Err (Several 3)) 15) ≡ 0x0003000B03FF0500) × (found_code 10 (RefusedAt 15 12) ≡ 0x000000000000000F)
    × (found_code 10 (RefusedAt 16 12) ≡ 0x0000000000000210)
found_layout = (refl, refl, refl, refl)

-- a refusal to read that is not 15 is 16
pub not_15 : (i n p : ℕ) → FoundFits i (RefusedAt n p) → n ≢ 15 → (n ≡ 16) × (i ≤ p) × (p < i + 6)
not_15 i n p (inl e) h = absurd (h e)
not_15 i n p (inr w) h = w

-- a code of three parts above the number, and the code of a reading above those
split : (x k y : ℕ) → x < 256 → k < 65536 → y < 2 ^ 32
    → (number_in (2 ^ 8 * x + 2 ^ 16 * k + 2 ^ 32 * y) ≡ 0) × (length_in (2 ^ 8 * x + 2 ^ 16 * k + 2 ^ 32 * y) ≡ x)
    × (block_in (2 ^ 8 * x + 2 ^ 16 * k + 2 ^ 32 * y) ≡ k) × (answer_code_in (2 ^ 8 * x + 2 ^ 16 * k + 2 ^ 32 * y) ≡ y)
split x k y a b c = (omega arith, omega arith, omega arith, omega arith)

-- l is the slice's length, which is the offset of 15
pub found_back : (i l : ℕ) (f : Found) → FoundFits i f → ((p : ℕ) → f ≡ RefusedAt 15 p → p ≡ l) → FoundIn i l (found_code i f) f
found_back i l (Slip k r n) (h, a, b) cut =
    let a' = reading_answer r in
    let g = gives k a' h in
    let s = split (n - i) k (code a') (omega (arith, a, b)) (omega (arith, h.0)) (reading_fits (10 ∷ []) refl a' g) in
    (s.0, sym s.2, sym (ap reading_in s.3 ∙ reading_back (10 ∷ []) refl a' g), omega (arith, s.1, a))
found_back i l (RefusedAt n p) (inl e) cut = subst (λ (x : ℕ). FoundIn i l (found_code i (RefusedAt x p)) (RefusedAt x p)) (sym e)
    (refl, λ z. omega (arith, z), cut p (ap (λ (x : ℕ). RefusedAt x p) e))
found_back i l (RefusedAt n p) (inr (e, a, b)) cut = subst (λ (x : ℕ). FoundIn i l (found_code i (RefusedAt x p)) (RefusedAt x p)) (sym e)
    (omega (arith, a, b), λ z. omega (arith, z), omega (arith, a, b))
