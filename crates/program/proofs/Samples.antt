-- Texts of 01's sample, of a bank whose readings are given, and of inputs that are refused, by computation.
--
--   sample   the output of document 01, "The bank program", in full, of its input
--   order    a line for each block that is not clean, in turn, and the totals in theirs; order_figure: its last number
--   three_bytes, no_bank   too few bytes for the marks; marks, and no bank
use mathlib.Core.Path.{◌≡◌, refl, sym}
use mathlib.Core.List.{List, [], ◌∷◌}
use Prim.Native.Nat.{ℕ, zero, suc, ◌<◌}
use native.Mathlib.Omega.{arith}
use Rattle.base.specs.Base.{tally}
use Rattle.answer.specs.Answer.{Answer, clean, in_chips, in_card, counted, refused, refused_card}
use Rattle.marks.specs.Marks.{marks_in, of_bytes, in_range, two_equal}
use Rattle.code.specs.Block.{zeros}
use Rattle.reading.specs.Reading.{ReadsUnder}
use Rattle.table.proofs.Table.{starred}
use Rattle.bank.specs.Calls.{block, how_many, report_cause}
use Rattle.rounding.proofs.Rounding.{within}
use Rattle.text.specs.Text.{ascii, digits_up_to, decimal}
use Rattle.lines.specs.Lines.{SoundFigure}
use Rattle.program.specs.Program.{input_marks, input_bank, bank_text, Prints}
use Rattle.program.specs.Sample.{sample_input, sample_text, SamplePrints}

-- the text of n blocks that read so, with the figure q
abbrev text : (ℕ → Answer) → ℕ → ℕ → List ℕ
text f n q = bank_text f n (how_many f n 0) (how_many f n 1) (how_many f n 2) (how_many f n 3) (how_many f n 4) q

abbrev two : ℕ → Answer
two zero = clean
two (suc k) = refused_card 11 0

two_text : text two 2 500 ≡ sample_text
unfolding tally decimal digits_up_to
two_text = refl

two_figure : SoundFigure 1 0 0 0 1 500
two_figure = within 1000 2 500 (omega arith) (omega arith) (λ e. refl)

-- both blocks are rows of the starred table
two_read : (k : ℕ) → k < 2 → (x : List ℕ) × ReadsUnder (input_marks sample_input) (block (input_bank sample_input) k) [] (two k) x
unfolding marks_in of_bytes
two_read zero h = (zeros, (starred.0.reading [] clean zeros).1 (refl, refl))
two_read (suc zero) h = ([], (starred.1.1.0.reading [] (refused_card 11 0) []).1 (refl, refl))
two_read (suc (suc k)) h = absurd (omega arith)

pub sample : SamplePrints
unfolding report_cause marks_in of_bytes in_range two_equal tally
sample = record {
  short = λ h. absurd (omega arith);
  otherwise = λ h. (counted 1 0 0 0 1, record { kept = refl; answer = (two, two_read, refl) }, (two, two_read, 500, two_figure, sym two_text));
}

abbrev six : ℕ → Answer
six zero = refused 10
six (suc zero) = in_chips 2
six (suc (suc zero)) = clean
six (suc (suc (suc zero))) = in_card 4 9
six (suc (suc (suc (suc zero)))) = refused 10
six (suc (suc (suc (suc (suc k))))) = in_chips 1

order : text six 6 667 ≡ ascii "blocks 6\n0 none\n1 chips 2\n3 card 4 9\n4 none\n5 chips 1\nclean 1 chips 2 card 1 none 2 several 0\nsound 667\n"
unfolding tally decimal digits_up_to
order = refl

order_figure : SoundFigure 1 2 1 2 0 667
order_figure = within 4000 6 667 (omega arith) (omega arith) (λ e. absurd (omega arith))

-- ---- inputs that are refused
three_bytes : Prints (255 ∷ 0 ∷ 255 ∷ []) (ascii "refused 6\n")
unfolding decimal digits_up_to
three_bytes = record { short = λ h. refl; otherwise = λ h. absurd (omega arith) }

no_bank : Prints (255 ∷ 0 ∷ 255 ∷ 255 ∷ []) (ascii "refused 4\n")
unfolding decimal digits_up_to report_cause marks_in of_bytes in_range two_equal
no_bank = record { short = λ h. absurd (omega arith); otherwise = λ h. (refused 4, record { kept = refl; answer = (refl, tt) }, refl) }
