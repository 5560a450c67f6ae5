-- Lawful marks as facts and as tests.
--
--   card_fact, card_test            the card mark within its range
--   places_fact, places_test        the chip places within their ranges, by the count
--   range_test, range_fact          the record within its ranges; equal_two, two_chips: its chip marks equal
--   lawful_range, lawful_two        a lawful record passes both tests; tests_lawful: one that does is lawful
use Prim.Native.Nat.{ℕ, zero, suc, ◌≤◌, ◌<◌}
use mathlib.Core.Path.{◌≡◌, refl, sym, ◌∙◌}
use mathlib.Core.Logic.{◌⊎◌, inl, inr, ⊎_elim, by_cases}
use mathlib.Core.Bool.{true, false, false≢true, true≢false}
use native.Mathlib.Decide.{ℕ_discrete}
use native.Mathlib.Omega.{arith}
use borrow.Author.Tests.{eq-eqb, ne_eqb, lt-ltb, ltb-true, eqb-true}
use Rattle.std.proofs.lemmas.Bool.{and_parts}
use Rattle.marks.specs.Marks.{LawfulMarks, CardInRange, card_in_range, places_in_range, in_range, two_equal}
use Rattle.marks.specs.Said.{InRange, EqualChips}
use Rattle.std.specs.declared.option.Option.{Option}
use Rattle.std.specs.Prelude.{None, Some}
use Rattle.marks.specs.declared.Marks.{Marks}

-- ---- the ranges
card_fact : (card : Option ℕ) → card_in_range card ≡ true → CardInRange card
card_fact None e = tt
card_fact (Some j) e = ltb-true j 5 e

card_test : (card : Option ℕ) → CardInRange card → card_in_range card ≡ true
card_test None h = refl
card_test (Some j) h = lt-ltb j 5 h

record PlacesInRange (n a b : ℕ) : Type 0 where
  count : n ≤ 2
  first : ((1 ≤ n) × (a < 45)) ⊎ ((n ≡ 0) × (a ≡ 255))
  second : ((n ≡ 2) × (b < 45)) ⊎ ((n < 2) × (b ≡ 255))

places_fact : (n a b : ℕ) → places_in_range n a b ≡ true → PlacesInRange n a b
places_fact zero a b e =
    let h = and_parts _ _ e in
    record { count = omega arith; first = inr (refl, eqb-true a 255 h.0); second = inr (omega arith, eqb-true b 255 h.1) }
places_fact (suc zero) a b e =
    let h = and_parts _ _ e in
    record { count = omega arith; first = inl (omega arith, ltb-true a 45 h.0); second = inr (omega arith, eqb-true b 255 h.1) }
places_fact (suc (suc zero)) a b e =
    let h = and_parts _ _ e in
    record { count = omega arith; first = inl (omega arith, ltb-true a 45 h.0); second = inl (refl, ltb-true b 45 h.1) }
places_fact (suc (suc (suc n))) a b e = absurd (false≢true e)

module _ {m : Marks} (l : InRange m) where
  first_used : 1 ≤ m.count → m.first < 45
  first_used h = ⊎_elim (λ w. w.1) (λ w. omega arith) l.first

  first_unused : m.count ≡ 0 → m.first ≡ 255
  first_unused h = ⊎_elim (λ w. omega arith) (λ w. w.1) l.first

  second_used : m.count ≡ 2 → m.second < 45
  second_used h = ⊎_elim (λ w. w.1) (λ w. omega arith) l.second

  second_unused : m.count < 2 → m.second ≡ 255
  second_unused h = ⊎_elim (λ w. omega arith) (λ w. w.1) l.second

  pub places_test : places_in_range m.count m.first m.second ≡ true
  places_test =
      by_cases (ℕ_discrete m.count 0)
      (λ e. simp (e, eq-eqb m.first 255 (first_unused e), eq-eqb m.second 255 (second_unused (omega arith))))
      (λ z. by_cases (ℕ_discrete m.count 1)
      (λ e. simp (e, lt-ltb m.first 45 (first_used (omega arith)), eq-eqb m.second 255 (second_unused (omega arith))))
      (λ o.
      let e : m.count ≡ 2 = omega (arith, l.count) in
      simp (e, lt-ltb m.first 45 (first_used (omega arith)), lt-ltb m.second 45 (second_used e))))

  pub range_test : in_range m ≡ true
  unfolding in_range
  range_test = simp (card_test m.card l.card, places_test)

pub range_fact : (m : Marks) → in_range m ≡ true → InRange m
unfolding in_range
range_fact m r =
    let h = and_parts _ _ r in
    let p = places_fact m.count m.first m.second h.1 in
    record { card = card_fact m.card h.0; count = p.count; first = p.first; second = p.second }

-- ---- lawful
pub lawful_within : {m : Marks} → LawfulMarks m → InRange m
lawful_within l = record { card = l.card; count = l.count; first = l.first; second = l.second }

pub equal_two : (m : Marks) → EqualChips m → two_equal m ≡ true
unfolding two_equal
equal_two m (n, e) = simp (eq-eqb m.count 2 n, eq-eqb m.first m.second e)

pub two_chips : (m : Marks) → two_equal m ≡ true → EqualChips m
unfolding two_equal
two_chips m t = let h = and_parts _ _ t in (eqb-true m.count 2 h.0, eqb-true m.first m.second h.1)

pub lawful_range : {m : Marks} → LawfulMarks m → in_range m ≡ true
lawful_range l = range_test (lawful_within l)

pub lawful_two : {m : Marks} → LawfulMarks m → two_equal m ≡ false
unfolding two_equal
lawful_two {m} l =
    by_cases (ℕ_discrete m.count 2)
    (λ e. simp (eq-eqb m.count 2 e, ne_eqb m.first m.second (l.differ e)))
    (λ n. simp (ne_eqb m.count 2 n))

pub tests_lawful : (m : Marks) → in_range m ≡ true → two_equal m ≡ false → LawfulMarks m
tests_lawful m r t =
    let h = range_fact m r in
    record {
      card = h.card;
      count = h.count;
      first = h.first;
      second = h.second;
      differ = λ e f. true≢false (sym (equal_two m (e, f)) ∙ t);
    }
