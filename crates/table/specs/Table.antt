-- The starred blocks of document 01, "Blocks to set up", as one table. Document 02, orders 5 and 6.
--
--   zeros_but l      45 zeros with some bytes set: l lists each one's position and value
--   Told             the column "Reading"
--   Is               the answer a, with x in the output, is what the row tells
--   Fitting          the cards that fit are those that the row tells; ps are the marked chips
--   Holds            the block b under the marks m reads as the row tells, and in no other way
--   Row              marks, bytes set, reading
--   starred_blocks   the ten rows, in 01's order; StarredBlocks: every one holds
--   BesideCard       the row after them, the last whose marks are lawful, as order 5 has it; BesideCardBefore: as 01 has it
use Rattle.std.specs.Prelude.{◌↔◌, ◌≡◌, List, [], ◌∷◌, ℕ, set}
use Rattle.base.specs.Base.{In}
use Rattle.answer.specs.Answer.{Answer, clean, in_chips, in_card, refused, refused_card}
use Rattle.code.specs.Block.{Block, zeros}
use Rattle.code.specs.Labels.{built_in}
use Rattle.marks.specs.Marks.{marked_chips, LawfulMarks}
use Rattle.marks.specs.Mark.{of_chips}
use Rattle.std.specs.Prelude.{None, Some}
use Rattle.marks.specs.declared.Marks.{Marks}
use Rattle.reading.specs.Reading.{Reaches, ReadsUnder}
use Rattle.reading.specs.Before.{ReadsBefore}

abbrev pub zeros_but : List (ℕ × ℕ) → List ℕ
zeros_but [] = zeros
zeros_but (s ∷ l) = set (zeros_but l) s.0 s.1

-- ---- the column "Reading"
pub data Told : Type 0 where
  -- the answer, and the 45 corrected bytes
  corrected : Answer → List ℕ → Told
  none : Told
  -- the card that is named, and the cards that fit
  several : (card : ℕ) (fitting : List ℕ) → Told

abbrev pub Is : Told → List ℕ → Answer → List ℕ → Type 0
Is (corrected a' y) out a x = (a ≡ a') × (x ≡ y)
Is none out a x = (a ≡ refused 10) × (x ≡ out)
Is (several j js) out a x = (a ≡ refused_card 11 j) × (x ≡ out)

-- a card fits whose card-kind change reaches a lawful block
abbrev pub Fitting : Told → List ℕ → List ℕ → Type 0
Fitting (corrected a' y) ps b = Unit {0}
Fitting none ps b = Unit {0}
Fitting (several j js) ps b = (i : ℕ) → Reaches built_in ps b i ↔ In i js

-- there is nothing to refuse, and what a reading may say, out being lent for output, is what the row tells, no less and no more
pub record Holds (m : Marks) (b : List ℕ) (told : Told) : Type 0 where
  pub marks : LawfulMarks m
  pub block : Block b
  pub reading : (out : List ℕ) (a : Answer) (x : List ℕ) → ReadsUnder m b out a x ↔ Is told out a x
  pub fitting : Fitting told (marked_chips m) b

-- ---- the table
pub data Row : Type 0 where
  row : (marks : Marks) (bytes : List (ℕ × ℕ)) (reading : Told) → Row

-- the column "Marks"
abbrev pub no_mark : Marks
no_mark = of_chips None []

abbrev pub card : ℕ → Marks
card j = of_chips (Some j) []

abbrev pub chip : ℕ → Marks
chip p = of_chips None (p ∷ [])

abbrev pub chips : ℕ → ℕ → Marks
chips p q = of_chips None (p ∷ q ∷ [])

-- "bytes 0, 1, 2 = 8, 6, 1", and "the same" below it; "bytes 9, 10, 11 become 8, 6, 1"; "bytes 0, 9 = 1, 1"
abbrev pub three : List (ℕ × ℕ)
three = (0, 8) ∷ (1, 6) ∷ (2, 1) ∷ []

abbrev pub six : List (ℕ × ℕ)
six = (9, 8) ∷ (10, 6) ∷ (11, 1) ∷ three

abbrev pub two : List (ℕ × ℕ)
two = (0, 1) ∷ (9, 1) ∷ []

abbrev pub starred_blocks : List Row
starred_blocks =
    row no_mark [] (corrected clean zeros)
    ∷ row no_mark ((20, 7) ∷ []) (corrected (in_chips 1) zeros)
    ∷ row no_mark three (several 0 (0 ∷ 1 ∷ 2 ∷ 3 ∷ 4 ∷ []))
    ∷ row (card 0) three (corrected (in_card 0 3) zeros)
    ∷ row (card 1) three (corrected (in_card 1 3) (zeros_but six))
    ∷ row no_mark two none
    ∷ row no_mark ((0, 1) ∷ (1, 1) ∷ []) (corrected (in_card 0 2) zeros)
    ∷ row (chip 0) two (corrected (in_chips 2) zeros)
    ∷ row (chips 0 9) ((20, 7) ∷ []) (several 2 (2 ∷ 3 ∷ 4 ∷ []))
    ∷ row (card 0) two (corrected (in_card 0 2) zeros)
    ∷ []

abbrev pub EveryRow : List Row → Type 0
EveryRow [] = Unit {0}
EveryRow (row m l told ∷ rows) = Holds m (zeros_but l) told × EveryRow rows

-- THE STATEMENT
abbrev pub StarredBlocks : Type 0
StarredBlocks = EveryRow starred_blocks

-- "card 0, chip 1 | byte 9 = 1": order 5, "becomes chips 1 with zeros"
abbrev pub BesideCard : Type 0
BesideCard = Holds (of_chips (Some 0) (1 ∷ [])) (zeros_but ((9, 1) ∷ [])) (corrected (in_chips 1) zeros)

-- and "none" before
abbrev pub BesideCardBefore : Type 0
BesideCardBefore = (out : List ℕ) → ReadsBefore built_in (Some 0) (1 ∷ []) (zeros_but ((9, 1) ∷ [])) out (refused 10) out
