-- Placing and lifting a mark: the four calls as one, with its causes of refusal and the record after it. Document 01, "Marks" and
-- "Causes of refusal"; document 02, order 3.
--
--   mark_cause m c   the number of the refusal of the call c on the record m, 0 where nothing is refused
--   marked m c       the record after it
--   MarkDone         the contract
-- In plain words:
--   MarkAccepted     when a call is not refused; MarkLeaves: which marks stand after it
--   Already          the mark to place is there; MarkAgain: placing it is done and changes nothing; MarkSame: no other call that is done does so
--   MarkExactly      when a call is refused with 6, 7, 8 and 9; TooMany: a third chip, or another card; Absent: a mark to lift that is not there
use Rattle.std.specs.Prelude.{ℕ, ◌<◌, ◌≡◌, ◌≢◌, ◌⊎◌, ◌↔◌, Bool, true, false, ◌&&◌, not, List, [], ◌∷◌, ◌++◌, eqb, ltb, length}
use Rattle.base.specs.Base.{if, In, is_in}
use Rattle.answer.specs.Answer.{Answer, done, By}
use Rattle.answer.specs.Cause.{cause, lowest}
use Rattle.marks.specs.Marks.{marked_chips, LawfulMarks, in_range, two_equal, is_marked, marks_cause}
use Rattle.std.specs.declared.option.Option.{Option}
use Rattle.std.specs.Prelude.{None, Some}
use Rattle.marks.specs.declared.Marks.{Marks}
use Rattle.marks.specs.declared.MarkCall.{MarkCall}
use Rattle.marks.specs.declared.MarkCall.TheVariants.{PlaceChip, LiftChip, PlaceCard, LiftCard}

-- ---- the record after it
-- the record of a card mark and at most two chips
abbrev pub of_chips : Option ℕ → List ℕ → Marks
of_chips c [] = record { card = c; count = 0; first = 255; second = 255 }
of_chips c (p ∷ []) = record { card = c; count = 1; first = p; second = 255 }
of_chips c (p ∷ q ∷ l) = record { card = c; count = 2; first = p; second = q }

abbrev pub remove : ℕ → List ℕ → List ℕ
remove p [] = []
remove p (a ∷ l) = if (eqb p a) l (a ∷ remove p l)

-- a chip after those there, unless it is one of them
abbrev pub insert : ℕ → List ℕ → List ℕ
insert p l = if (is_in p l) l (l ++ (p ∷ []))

-- "Placing adds the mark, a chip after those there."; a chip taken out, and the later one moved down
unfoldable pub marked : Marks → MarkCall → Marks
marked m (PlaceChip p) = of_chips m.card (insert p (marked_chips m))
marked m (LiftChip p) = of_chips m.card (remove p (marked_chips m))
marked m (PlaceCard j) = record { card = Some j; count = m.count; first = m.first; second = m.second }
marked m LiftCard = record { card = None; count = m.count; first = m.first; second = m.second }

-- ---- the causes
abbrev pub card_is : Option ℕ → ℕ → Bool
card_is None j = false
card_is (Some i) j = eqb i j

abbrev pub some_card : Option ℕ → Bool
some_card None = false
some_card (Some i) = true

-- 6: the mark asked for is outside its ranges
abbrev pub asked_in_range : MarkCall → Bool
asked_in_range (PlaceChip p) = ltb p 45
asked_in_range (LiftChip p) = ltb p 45
asked_in_range (PlaceCard j) = ltb j 5
asked_in_range LiftCard = true

-- 8: a third chip mark, or another card while one is marked; a mark that is there is neither
abbrev pub too_many : Marks → MarkCall → Bool
too_many m (PlaceChip p) = eqb m.count 2 && not (is_marked m p)
too_many m (LiftChip p) = false
too_many m (PlaceCard j) = some_card m.card && not (card_is m.card j)
too_many m LiftCard = false

-- 9: the mark to lift is not there
abbrev pub absent : Marks → MarkCall → Bool
absent m (PlaceChip p) = false
absent m (LiftChip p) = not (is_marked m p)
absent m (PlaceCard j) = false
absent m LiftCard = not (some_card m.card)

-- 7 is the record's own: "never for the mark being placed"
unfoldable pub mark_cause : Marks → MarkCall → ℕ
mark_cause m c =
    lowest (cause 6 (not (in_range m && asked_in_range c)) ∷ cause 7 (two_equal m) ∷ cause 8 (too_many m c) ∷ cause 9 (absent m c) ∷ [])

-- ---- the contract
unfoldable pub MarkDone : Marks → MarkCall → Answer → Marks → Type 0
MarkDone m c a m' = By (mark_cause m c) a (m' ≡ m) ((a ≡ done) × (m' ≡ marked m c))

-- ---- in plain words
-- what may be asked of a lawful record
abbrev pub MayAsk : Marks → MarkCall → Type 0
MayAsk m (PlaceChip p) = (p < 45) × (In p (marked_chips m) ⊎ (length (marked_chips m) < 2))
MayAsk m (LiftChip p) = In p (marked_chips m)
MayAsk m (PlaceCard j) = (j < 5) × ((m.card ≡ Some j) ⊎ (m.card ≡ None))
MayAsk m LiftCard = (j : ℕ) × (m.card ≡ Some j)

abbrev pub MarkAccepted : Type 0
MarkAccepted = (m : Marks) (c : MarkCall) → (mark_cause m c ≡ 0) ↔ (LawfulMarks m × MayAsk m c)

-- the marks of m' are those of m after the call, and no other mark has moved
abbrev pub Leaves : Marks → MarkCall → Marks → Type 0
Leaves m (PlaceChip p) m' =
    (m'.card ≡ m.card)
    × (In p (marked_chips m) → marked_chips m' ≡ marked_chips m)
    × ((In p (marked_chips m) → ⊥) → marked_chips m' ≡ marked_chips m ++ (p ∷ []))
Leaves m (LiftChip p) m' = (m'.card ≡ m.card) × ((q : ℕ) → In q (marked_chips m') ↔ (In q (marked_chips m) × (q ≢ p)))
Leaves m (PlaceCard j) m' = (m'.card ≡ Some j) × (marked_chips m' ≡ marked_chips m)
Leaves m LiftCard m' = (m'.card ≡ None) × (marked_chips m' ≡ marked_chips m)

abbrev pub MarkLeaves : Type 0
MarkLeaves = (m : Marks) (c : MarkCall) → mark_cause m c ≡ 0 → Leaves m c (marked m c)

-- ---- a mark that is there
-- the calls that place one
abbrev pub places : MarkCall → Bool
places (PlaceChip p) = true
places (LiftChip p) = false
places (PlaceCard j) = true
places LiftCard = false

abbrev pub Already : Marks → MarkCall → Type 0
Already m (PlaceChip p) = In p (marked_chips m)
Already m (LiftChip p) = ⊥
Already m (PlaceCard j) = m.card ≡ Some j
Already m LiftCard = ⊥

-- "Placing a mark that is already there is now accepted and changes nothing, for chips and for the card, also when two chip marks stand."
abbrev pub MarkAgain : Type 0
MarkAgain = (m : Marks) (c : MarkCall) (a : Answer) (m' : Marks) → LawfulMarks m → Already m c → MarkDone m c a m' → (a ≡ done) × (m' ≡ m)

abbrev pub MarkSame : Type 0
MarkSame = (m : Marks) (c : MarkCall) → mark_cause m c ≡ 0 → (marked m c ≡ m) ↔ Already m c

-- ---- the numbers, of any record and any call
-- a third chip, or another card while one is marked
abbrev pub TooMany : Marks → MarkCall → Type 0
TooMany m (PlaceChip p) = (p < 45) × (length (marked_chips m) ≡ 2) × (In p (marked_chips m) → ⊥)
TooMany m (LiftChip p) = ⊥
TooMany m (PlaceCard j) = (j < 5) × ((i : ℕ) × (m.card ≡ Some i) × (i ≢ j))
TooMany m LiftCard = ⊥

-- the mark to lift is not there
abbrev pub Absent : Marks → MarkCall → Type 0
Absent m (PlaceChip p) = ⊥
Absent m (LiftChip p) = (p < 45) × (In p (marked_chips m) → ⊥)
Absent m (PlaceCard j) = ⊥
Absent m LiftCard = m.card ≡ None

-- "Number 7 is then given only for a mark record that arrives with equal chips, never for the mark being placed."
pub record MarkExactly (m : Marks) (c : MarkCall) : Type 0 where
  pub six : (mark_cause m c ≡ 6) ↔ ((marks_cause m ≡ 6) ⊎ (asked_in_range c ≡ false))
  pub seven : (mark_cause m c ≡ 7) ↔ ((marks_cause m ≡ 7) × (asked_in_range c ≡ true))
  pub eight : (mark_cause m c ≡ 8) ↔ (LawfulMarks m × TooMany m c)
  pub nine : (mark_cause m c ≡ 9) ↔ (LawfulMarks m × Absent m c)
