-- What the bank program prints, for every input. Document 01, "The bank program"; document 02, order 7.
--
--   input_marks, input_bank   the mark record in the first four bytes; the bank after them
--   block_lines f n     the lines of blocks 0 to n − 1, which read as f says
--   bank_text           what is printed of n blocks, with their five totals and the figure of the sound ones
--   PrintsReport        what is printed by the report's answer
--   Prints input text   what is printed of an input
--   SayDone             the contract of `say`; a primed name is what the bytes hold after the call
use Rattle.std.specs.Prelude.{◌≡◌, List, [], ◌++◌, ℕ, zero, suc, ◌≤◌, ◌<◌, length, take, drop}
use Rattle.answer.specs.Answer.{Answer, done, clean, in_chips, in_card, counted, refused, refused_card}
use Rattle.marks.specs.Marks.{marks_in}
use Rattle.marks.specs.declared.Marks.{Marks}
use Rattle.bank.specs.Calls.{blocks, block, EachReads, ReportDone}
use Rattle.lines.specs.Lines.{count_line, block_line, totals_line, SoundFigure, sound_line, refused_line}

-- "It reads standard input: 4 mark bytes, then a bank."
abbrev pub input_marks : List ℕ → Marks
input_marks input = marks_in (take 4 input)

abbrev pub input_bank : List ℕ → List ℕ
input_bank input = drop 4 input

-- "a line for each block that is not clean"
abbrev pub block_lines : (ℕ → Answer) → ℕ → List ℕ
block_lines f zero = []
block_lines f (suc n) = block_lines f n ++ block_line n (f n)

-- "It prints the block count; a line for each block that is not clean, ..; one line of five totals; and the sound blocks"
abbrev pub bank_text : (f : ℕ → Answer) (n clean chips card none several q : ℕ) → List ℕ
bank_text f n v w x y z q = count_line n ++ (block_lines f n ++ (totals_line v w x y z ++ sound_line q))

-- "on refusal, `refused` and the lowest number, on a line alone"; a report gives no other answer
abbrev pub PrintsReport : List ℕ → Marks → Answer → List ℕ → Type 0
PrintsReport bank m (refused n) text = text ≡ refused_line n
PrintsReport bank m (counted v w x y z) text =
    (f : ℕ → Answer) × EachReads (block bank) (blocks bank) m f × (q : ℕ) × SoundFigure v w x y z q × (text ≡ bank_text f (blocks bank) v w x y z q)
PrintsReport bank m done text = ⊥
PrintsReport bank m clean text = ⊥
PrintsReport bank m (in_chips n) text = ⊥
PrintsReport bank m (in_card j n) text = ⊥
PrintsReport bank m (refused_card n j) text = ⊥

pub record Prints (input text : List ℕ) : Type 0 where
  -- "Under 4 bytes it prints only `refused 6`"
  pub short : length input < 4 → text ≡ refused_line 6
  pub otherwise : 4 ≤ length input
      → (a : Answer) × ReportDone (input_bank input) (input_marks input) a (input_bank input) × PrintsReport (input_bank input) (input_marks input) a text

-- an output under 16,384 bytes is left as it was; in any other the text stands at the front, and the rest is as before
pub record SayDone (input out : List ℕ) (n : ℕ) (input' out' : List ℕ) : Type 0 where
  pub lent : input' ≡ input
  pub small : length out < 16384 → (n ≡ 0) × (out' ≡ out)
  pub said : 16384 ≤ length out → (text : List ℕ) × Prints input text × (n ≡ length text) × (out' ≡ text ++ drop n out)
