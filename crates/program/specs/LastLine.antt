-- What the last line says of a bank, for every input whose report counts. Document 01, "The bank program"; document 02, order 7.
--
--   TotalsAddUp   the five totals add up to the number of the bank's blocks
--   EndsWith      how a text ends
--   LastLine      the text ends with the figure of the sound blocks, per thousand of the bank's blocks; it is 1000 exactly where no block
--                 reads as none or several, and 0 exactly where each does
--   OfSixteen     the figures that order 7 gives, of every bank of 16 blocks
use Rattle.std.specs.Prelude.{◌≡◌, ◌↔◌, List, ◌++◌, ℕ, ◌+◌}
use Rattle.answer.specs.Answer.{counted}
use Rattle.marks.specs.declared.Marks.{Marks}
use Rattle.bank.specs.Calls.{blocks, ReportDone}
use Rattle.rounding.specs.PerThousand.{PerThousand}
use Rattle.text.specs.Text.{ascii}
use Rattle.lines.specs.Lines.{sound_line}
use Rattle.program.specs.Program.{input_marks, input_bank, Prints}

abbrev pub TotalsAddUp : Type 0
TotalsAddUp = (bank bank' : List ℕ) (m : Marks) (v w x y z : ℕ) → ReportDone bank m (counted v w x y z) bank' → v + w + x + y + z ≡ blocks bank

abbrev pub EndsWith : List ℕ → List ℕ → Type 0
EndsWith text end = (front : List ℕ) × (text ≡ front ++ end)

abbrev pub LastLine : Type 0
LastLine = (input text : List ℕ) (v w x y z : ℕ) → Prints input text
    → ReportDone (input_bank input) (input_marks input) (counted v w x y z) (input_bank input)
    → (q : ℕ) × EndsWith text (sound_line q) × PerThousand (v + w + x) (blocks (input_bank input)) q
    × (q ≡ 1000 ↔ y + z ≡ 0) × (q ≡ 0 ↔ v + w + x ≡ 0)

-- "one sound block of 16 gives 62, three of 16 give 188"
abbrev pub OfSixteen : Type 0
OfSixteen = (input text : List ℕ) (v w x y z : ℕ) → Prints input text
    → ReportDone (input_bank input) (input_marks input) (counted v w x y z) (input_bank input) → blocks (input_bank input) ≡ 16
    → (v + w + x ≡ 1 → EndsWith text (ascii "sound 62\n")) × (v + w + x ≡ 3 → EndsWith text (ascii "sound 188\n"))
