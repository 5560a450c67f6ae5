-- What the parts of `say` add to the text.
--
--   BlocksPut   the lines of the first n blocks of a bank
--   BankPut     all that is printed of a bank
--   InputPut    what is printed of an input
use Rattle.std.specs.Prelude.{List, ℕ}
use Rattle.answer.specs.Answer.{Answer}
use Rattle.answer.specs.declared.Totals.{Totals}
use Rattle.marks.specs.declared.Marks.{Marks}
use Rattle.bank.specs.Calls.{blocks, block, EachReads}
use Rattle.lines.specs.Lines.{SoundFigure}
use Rattle.text.specs.Put.{Added}
use Rattle.text.specs.declared.Text.{Text}
use Rattle.program.specs.Program.{block_lines, bank_text, Prints}

pub record BlocksPut (bank : List ℕ) (m : Marks) (n : ℕ) (old new : Text) : Type 0 where
  pub answers : ℕ → Answer
  pub reads : EachReads (block bank) n m answers
  pub put : Added (block_lines answers n) old new

pub record BankPut (bank : List ℕ) (m : Marks) (t : Totals) (old new : Text) : Type 0 where
  pub answers : ℕ → Answer
  pub reads : EachReads (block bank) (blocks bank) m answers
  pub figure : ℕ
  pub rounded : SoundFigure t.clean t.chips t.card t.none t.several figure
  pub put : Added (bank_text answers (blocks bank) t.clean t.chips t.card t.none t.several figure) old new

pub record InputPut (input : List ℕ) (old new : Text) : Type 0 where
  pub text : List ℕ
  pub prints : Prints input text
  pub put : Added text old new
