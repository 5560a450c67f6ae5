-- The mark record: its bytes, its chips, and when it is lawful. Document 01, "Marks".
--
--   fresh_marks       no card mark and no chip mark
--   bytes, of_bytes   card (255 for none), count, first, second; and back
--   marks_in b        the mark record in four bytes; bytes of another length are a record outside its ranges
--   marked_chips      the marked chips in order of placing; is_marked m p: p is one of them
--   LawfulMarks       every field within its range, and two chip marks differ
--   marks_cause       0 for a lawful record, else 6 or 7
use Rattle.std.specs.Prelude.{ℕ, zero, suc, ◌≤◌, ◌<◌, ◌≡◌, ◌⊎◌, ◌≢◌, Bool, true, false, ◌&&◌, not, List, [], ◌∷◌, eqb, ltb, length, get_or}
use Rattle.base.specs.Base.{if, is_in}
use Rattle.answer.specs.Cause.{Cause, cause, lowest}
use Rattle.std.specs.declared.option.Option.{Option}
use Rattle.std.specs.Prelude.{None, Some}
use Rattle.marks.specs.declared.Marks.{Marks}

abbrev pub fresh_marks : Marks
fresh_marks = record { card = None; count = 0; first = 255; second = 255 }

-- ---- as bytes
abbrev pub card_byte : Option ℕ → ℕ
card_byte None = 255
card_byte (Some j) = j

abbrev pub bytes : Marks → List ℕ
bytes m = card_byte m.card ∷ m.count ∷ m.first ∷ m.second ∷ []

unfoldable pub of_bytes : List ℕ → Marks
of_bytes b = record { card = if (eqb (get_or b 0 0) 255) None (Some (get_or b 0 0)); count = get_or b 1 0; first = get_or b 2 0; second = get_or b 3 0 }

abbrev pub no_record : Marks
no_record = record { card = None; count = 255; first = 255; second = 255 }

unfoldable pub marks_in : List ℕ → Marks
marks_in b = if (eqb (length b) 4) (of_bytes b) no_record

-- ---- the marked chips
abbrev pub chips_of : ℕ → ℕ → ℕ → List ℕ
chips_of zero first second = []
chips_of (suc zero) first second = first ∷ []
chips_of (suc (suc n)) first second = first ∷ second ∷ []

abbrev pub marked_chips : Marks → List ℕ
marked_chips m = chips_of m.count m.first m.second

unfoldable pub is_marked : Marks → ℕ → Bool
is_marked m p = is_in p (marked_chips m)

-- ---- lawful marks
-- none, or a card 0 to 4: a choice of its own, so that no card number stands for none
abbrev pub CardInRange : Option ℕ → Type 0
CardInRange None = Unit {0}
CardInRange (Some j) = j < 5

-- a chip place that is in use holds a position 0 to 44, an unused one 255
pub record LawfulMarks (m : Marks) : Type 0 where
  pub card : CardInRange m.card
  pub count : m.count ≤ 2
  pub first : ((1 ≤ m.count) × (m.first < 45)) ⊎ ((m.count ≡ 0) × (m.first ≡ 255))
  pub second : ((m.count ≡ 2) × (m.second < 45)) ⊎ ((m.count < 2) × (m.second ≡ 255))
  pub differ : m.count ≡ 2 → m.first ≢ m.second

-- ---- the same as tests, with the number of the refusal
abbrev pub card_in_range : Option ℕ → Bool
card_in_range None = true
card_in_range (Some j) = ltb j 5

abbrev pub places_in_range : ℕ → ℕ → ℕ → Bool
places_in_range zero first second = eqb first 255 && eqb second 255
places_in_range (suc zero) first second = ltb first 45 && eqb second 255
places_in_range (suc (suc zero)) first second = ltb first 45 && ltb second 45
places_in_range (suc (suc (suc n))) first second = false

unfoldable pub in_range : Marks → Bool
in_range m = card_in_range m.card && places_in_range m.count m.first m.second

unfoldable pub two_equal : Marks → Bool
two_equal m = eqb m.count 2 && eqb m.first m.second

-- 6: the record is outside its ranges; 7: both chip marks equal
abbrev pub marks_causes : Marks → List Cause
marks_causes m = cause 6 (not (in_range m)) ∷ cause 7 (two_equal m) ∷ []

unfoldable pub marks_cause : Marks → ℕ
marks_cause m = lowest (marks_causes m)
