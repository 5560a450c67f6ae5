-- Every answer comes back from its code, so that two answers of a call with one code are the same; and every code fits its width.
--
--   layout                 codes in figures
--   split, split_totals    the header's functions give back the parts that a code was packed of; ..-small: whatever the code, within their types
--   chips_coded, card_coded                   what the parts of the code of "chips" and of "card" are
--   outcome_back, reading_back, report_back   the answer told by the parts of a code is the answer it is the code of
--   value_layout, value_back   the same of a register's byte, or the number of its refusal; proposal_layout, proposal_back: of a proposal
--   outcome_number, reading_number, report_number   the number in a code is 01's number of the answer
--   outcome_one, reading_one, report_one      two answers of such a call with one code are the same
--   outcome_fits, reading_fits, report_fits   32 bits, and 63 for a report
use Prim.Native.Nat.{ℕ, ◌*◌, ◌^◌, ◌<◌, ◌≤◌}
use mathlib.Core.Path.{◌≡◌, refl, sym, ap, ◌∙◌}
use mathlib.Core.Bool.{true, false}
use mathlib.Core.List.{List}
use native.Mathlib.Omega.{arith}
use lib.Dec.{eqb}
use borrow.Author.Tests.{eq-eqb, ne_eqb}
use Rattle.base.specs.Base.{In}
use Rattle.answer.specs.Answer.{Answer, number, done, clean, in_chips, in_card, counted, refused, refused_card}
use Rattle.answer.proofs.Gives.{Outcomes, was_done, was_refused, Readings, was_clean, was_in_chips, was_in_card, was_several, not_read}
use Rattle.answer.proofs.Gives.{Reports, were_counted, not_counted, numbered, number_of}
use Rattle.capi.specs.Codes.{packed, packed_totals, code, number_in, kind_in, card_in, n_in, clean_in, chips_in, cards_in, none_in, several_in}
use Rattle.registers.specs.Write.{Value}
use Rattle.registers.specs.Write.{Byte, Refused}
use Rattle.window.specs.Plain.{proposal_number}
use Rattle.window.specs.Window.{Proposal}
use Rattle.window.specs.Window.{Chip, Nothing, Refused as RefusedWith}
use Rattle.capi.specs.Codes.{value_code, byte_in, value_in, proposal_code, chip_in, proposal_in}
use Rattle.capi.specs.Codes.{by_number, corrected_as, refused_as, outcome_in, reading_in, report_in}

-- in figures: the header's layout, each part at its bits
pub layout : (code done ≡ 0) × (code clean ≡ 0) × (code (in_chips 9) ≡ 0x09000100)
    × (code (in_card 4 9) ≡ 0x09040200) × (code (refused 10) ≡ 0x0000000A) × (code (refused_card 11 3) ≡ 0x0003000B)
    × (code (counted 1 2 3 4 5) ≡ 0x00500800C0100100)
layout = (refl, refl, refl, refl, refl, refl, refl)

pub split : (number kind card n : ℕ) → number < 256 → kind < 256 → card < 256 → n < 256
    → (number_in (packed number kind card n) ≡ number) × (kind_in (packed number kind card n) ≡ kind)
    × (card_in (packed number kind card n) ≡ card) × (n_in (packed number kind card n) ≡ n)
split number kind card n a b c d = (omega arith, omega arith, omega arith, omega arith)

pub split_totals : (v w x y z : ℕ) → v < 2048 → w < 2048 → x < 2048 → y < 2048 → z < 2048
    → (number_in (packed_totals v w x y z) ≡ 0) × (clean_in (packed_totals v w x y z) ≡ v) × (chips_in (packed_totals v w x y z) ≡ w)
    × (cards_in (packed_totals v w x y z) ≡ x) × (none_in (packed_totals v w x y z) ≡ y) × (several_in (packed_totals v w x y z) ≡ z)
split_totals v w x y z a b c d e = (omega arith, omega arith, omega arith, omega arith, omega arith, omega arith)

-- what is taken out of any number fits a byte, and a total 11 bits
pub split_small : (c : ℕ) → (number_in c < 256) × (kind_in c < 256) × (card_in c < 256) × (n_in c < 256)
split_small c = (omega arith, omega arith, omega arith, omega arith)

pub split_totals_small : (c : ℕ) → (clean_in c < 2048) × (chips_in c < 2048) × (cards_in c < 2048) × (none_in c < 2048) × (several_in c < 2048)
split_totals_small c = (omega arith, omega arith, omega arith, omega arith, omega arith)

-- ---- a register
pub value_layout : (value_code (Byte 44) ≡ 0x00002C00) × (value_code (Refused 12) ≡ 0x0000000C)
value_layout = (refl, refl)

abbrev pub ValueFits : Value → Type 0
ValueFits (Byte x) = x < 256
ValueFits (Refused n) = (1 ≤ n) × (n < 256)

pub value_back : (x : Value) → ValueFits x → value_in (value_code x) ≡ x
unfolding value_in
value_back (Byte x) h =
    let n : number_in (2 ^ 8 * x) ≡ 0 = omega arith in
    let b : byte_in (2 ^ 8 * x) ≡ x = omega arith in
    simp (n, b)
value_back (Refused n) h =
    let m : number_in n ≡ n = omega arith in
    simp (m, ne_eqb n 0 (λ z. omega (arith, z)))

-- ---- a proposal
pub proposal_layout : (proposal_code (Chip 44) ≡ 0x00002C00) × (proposal_code Nothing ≡ 0x0000FF00) × (proposal_code (RefusedWith 7) ≡ 0x00000007)
proposal_layout = (refl, refl, refl)

abbrev pub ProposalFits : Proposal → Type 0
ProposalFits (Chip p) = p < 45
ProposalFits Nothing = Unit {0}
ProposalFits (RefusedWith n) = (1 ≤ n) × (n < 256)

pub proposal_back : (x : Proposal) → ProposalFits x → proposal_in (proposal_code x) ≡ x
unfolding proposal_in
proposal_back (Chip p) h =
    let n : number_in (2 ^ 8 * p) ≡ 0 = omega arith in
    let q : chip_in (2 ^ 8 * p) ≡ p = omega arith in
    simp (n, q, ne_eqb p 255 (λ z. omega (arith, z)))
proposal_back Nothing h = refl
proposal_back (RefusedWith n) h =
    let m : number_in n ≡ n = omega arith in
    simp (m, ne_eqb n 0 (λ z. omega (arith, z)))

-- the number in a code is that of the refusal
pub proposal_number_in : (x : Proposal) → ProposalFits x → number_in (proposal_code x) ≡ proposal_number x
proposal_number_in (Chip p) h = omega arith
proposal_number_in Nothing h = refl
proposal_number_in (RefusedWith n) h = omega arith

-- ---- answers, of a call that refuses with the numbers ns
module _ (ns : List ℕ) (some : numbered ns ≡ true) where
  -- ---- every answer comes back
  number_back : (n : ℕ) → In n ns → (number_in (code (refused n)) ≡ n) × (eqb n 0 ≡ false) × (eqb n 11 ≡ false)
  number_back n i =
      let h = number_of ns some n i in (
        (split n 0 0 0 (omega (arith, h.1)) (omega arith) (omega arith) (omega arith)).0,
        ne_eqb n 0 (λ z. omega (arith, h.0, z)),
        ne_eqb n 11 h.2,
      )

  pub outcome_back : (a : Answer) → Outcomes ns a → outcome_in (code a) ≡ a
  unfolding outcome_in by_number
  outcome_back done was_done = refl
  outcome_back (refused n) (was_refused i) = let r = number_back n i in simp (r.0, r.1)
  outcome_back clean w = elim w [ ]
  outcome_back (in_chips n) w = elim w [ ]
  outcome_back (in_card j n) w = elim w [ ]
  outcome_back (counted u v x y z) w = elim w [ ]
  outcome_back (refused_card n j) w = elim w [ ]

  -- "chips n" is of kind 1, and a card's answer of kind 2
  chips_coded : (n : ℕ) → n < 256 → (number_in (code (in_chips n)) ≡ 0) × (kind_in (code (in_chips n)) ≡ 1) × (n_in (code (in_chips n)) ≡ n)
  chips_coded n h = (omega arith, omega arith, omega arith)

  card_coded : (j n : ℕ) → j < 256 → n < 256
      → (number_in (code (in_card j n)) ≡ 0) × (kind_in (code (in_card j n)) ≡ 2) × (card_in (code (in_card j n)) ≡ j) × (n_in (code (in_card j n)) ≡ n)
  card_coded j n h i = (omega arith, omega arith, omega arith, omega arith)

  pub reading_back : (a : Answer) → Readings ns a → reading_in (code a) ≡ a
  unfolding reading_in by_number corrected_as refused_as
  reading_back clean was_clean = refl
  reading_back (in_chips n) (was_in_chips h) =
      let s = chips_coded n (omega (arith, h)) in
      simp (s.0, s.1, s.2)
  reading_back (in_card j n) (was_in_card h i) =
      let s = card_coded j n (omega (arith, h)) (omega (arith, i)) in
      simp (s.0, s.1, s.2, s.3)
  reading_back (refused_card n j) (was_several e h) =
      let s = split n 0 j 0 (omega (arith, e)) (omega arith) (omega (arith, h)) (omega arith) in
      simp (s.0, s.2, ne_eqb n 0 (λ z. omega (arith, e, z)), eq-eqb n 11 e)
  reading_back (refused n) (not_read i) = let r = number_back n i in simp (r.0, r.1, r.2)
  reading_back done w = elim w [ ]
  reading_back (counted u v x y z) w = elim w [ ]

  pub report_back : (a : Answer) → Reports ns a → report_in (code a) ≡ a
  unfolding report_in by_number
  report_back (counted u v x y z) (were_counted a b c d e) =
      let s = split_totals u v x y z (omega (arith, a)) (omega (arith, b)) (omega (arith, c)) (omega (arith, d)) (omega (arith, e)) in
      simp (s.0, s.1, s.2, s.3, s.4, s.5)
  report_back (refused n) (not_counted i) = let r = number_back n i in simp (r.0, r.1)
  report_back done w = elim w [ ]
  report_back clean w = elim w [ ]
  report_back (in_chips n) w = elim w [ ]
  report_back (in_card j n) w = elim w [ ]
  report_back (refused_card n j) w = elim w [ ]

  -- ---- the number in a code is 01's number of the answer
  pub outcome_number : (a : Answer) → Outcomes ns a → number_in (code a) ≡ number a
  outcome_number done was_done = refl
  outcome_number (refused n) (was_refused i) = (number_back n i).0
  outcome_number clean w = elim w [ ]
  outcome_number (in_chips n) w = elim w [ ]
  outcome_number (in_card j n) w = elim w [ ]
  outcome_number (counted u v x y z) w = elim w [ ]
  outcome_number (refused_card n j) w = elim w [ ]

  pub reading_number : (a : Answer) → Readings ns a → number_in (code a) ≡ number a
  reading_number clean was_clean = refl
  reading_number (in_chips n) (was_in_chips h) = (chips_coded n (omega (arith, h))).0
  reading_number (in_card j n) (was_in_card h i) = (card_coded j n (omega (arith, h)) (omega (arith, i))).0
  reading_number (refused_card n j) (was_several e h) = (split n 0 j 0 (omega (arith, e)) (omega arith) (omega (arith, h)) (omega arith)).0
  reading_number (refused n) (not_read i) = (number_back n i).0
  reading_number done w = elim w [ ]
  reading_number (counted u v x y z) w = elim w [ ]

  pub report_number : (a : Answer) → Reports ns a → number_in (code a) ≡ number a
  report_number (counted u v x y z) (were_counted a b c d e) =
      (split_totals u v x y z (omega (arith, a)) (omega (arith, b)) (omega (arith, c)) (omega (arith, d)) (omega (arith, e))).0
  report_number (refused n) (not_counted i) = (number_back n i).0
  report_number done w = elim w [ ]
  report_number clean w = elim w [ ]
  report_number (in_chips n) w = elim w [ ]
  report_number (in_card j n) w = elim w [ ]
  report_number (refused_card n j) w = elim w [ ]

  -- ---- so two answers with one code are the same
  one : (f : ℕ → Answer) (a b : Answer) → f (code a) ≡ a → f (code b) ≡ b → code a ≡ code b → a ≡ b
  one f a b p q e = sym p ∙ ap f e ∙ q

  pub outcome_one : (a b : Answer) → Outcomes ns a → Outcomes ns b → code a ≡ code b → a ≡ b
  outcome_one a b p q e = one outcome_in a b (outcome_back a p) (outcome_back b q) e

  pub reading_one : (a b : Answer) → Readings ns a → Readings ns b → code a ≡ code b → a ≡ b
  reading_one a b p q e = one reading_in a b (reading_back a p) (reading_back b q) e

  pub report_one : (a b : Answer) → Reports ns a → Reports ns b → code a ≡ code b → a ≡ b
  report_one a b p q e = one report_in a b (report_back a p) (report_back b q) e

  -- ---- and every code fits: a report's 63 bits, and the others 32
  pub outcome_fits : (a : Answer) → Outcomes ns a → code a < 2 ^ 32
  outcome_fits done was_done = omega arith
  outcome_fits (refused n) (was_refused i) = omega (arith, (number_of ns some n i).1)
  outcome_fits clean w = elim w [ ]
  outcome_fits (in_chips n) w = elim w [ ]
  outcome_fits (in_card j n) w = elim w [ ]
  outcome_fits (counted u v x y z) w = elim w [ ]
  outcome_fits (refused_card n j) w = elim w [ ]

  pub reading_fits : (a : Answer) → Readings ns a → code a < 2 ^ 32
  reading_fits clean was_clean = omega arith
  reading_fits (in_chips n) (was_in_chips h) = omega (arith, h)
  reading_fits (in_card j n) (was_in_card h i) = omega (arith, h, i)
  reading_fits (refused_card n j) (was_several e h) = omega (arith, e, h)
  reading_fits (refused n) (not_read i) = omega (arith, (number_of ns some n i).1)
  reading_fits done w = elim w [ ]
  reading_fits (counted u v x y z) w = elim w [ ]

  pub report_fits : (a : Answer) → Reports ns a → code a < 2 ^ 63
  report_fits (counted u v x y z) (were_counted a b c d e) = omega (arith, a, b, c, d, e)
  report_fits (refused n) (not_counted i) = omega (arith, (number_of ns some n i).1)
  report_fits done w = elim w [ ]
  report_fits clean w = elim w [ ]
  report_fits (in_chips n) w = elim w [ ]
  report_fits (in_card j n) w = elim w [ ]
  report_fits (refused_card n j) w = elim w [ ]
