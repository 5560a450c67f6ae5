-- Inputs and their whole texts: the sample of document 01, "The bank program", as order 6 has it, and two inputs of 16 blocks, for order 7.
--
--   sample_input, sample_text   what is read, and what is printed
--   SamplePrints                the program prints that text of that input
--   sixteen_input s             16 blocks, the first s of them sound, s being at most 16
--   SixteenPrint                what is counted and printed of the inputs with one sound block and with three
use Rattle.std.specs.Prelude.{List, [], ◌∷◌, ◌++◌, ℕ, zero, suc, ◌-◌, replicate}
use Rattle.answer.specs.Answer.{Answer, counted}
use Rattle.bank.specs.Calls.{ReportDone}
use Rattle.text.specs.Text.{ascii}
use Rattle.program.specs.Program.{input_marks, input_bank, Prints}

-- "255, 0, 255, 255, then 45 zeros, then 8, 6, 1 and 42 zeros"
abbrev pub sample_input : List ℕ
sample_input = 255 ∷ 0 ∷ 255 ∷ 255 ∷ (replicate 45 0 ++ (8 ∷ 6 ∷ 1 ∷ replicate 42 0))

-- order 6: "the sample then prints `1 several 0`"
abbrev pub sample_text : List ℕ
sample_text = ascii "blocks 2\n1 several 0\nclean 1 chips 0 card 0 none 0 several 1\nsound 500\n"

abbrev pub SamplePrints : Type 0
SamplePrints = Prints sample_input sample_text

-- n times a block
abbrev pub times : ℕ → List ℕ → List ℕ
times zero b = []
times (suc n) b = b ++ times n b

-- 45 zeros are clean; in the others bytes 0 and 9 are 1, and no record fits them
abbrev pub sixteen_input : ℕ → List ℕ
sixteen_input s = 255 ∷ 0 ∷ 255 ∷ 255 ∷ (times s (replicate 45 0) ++ times (16 - s) (1 ∷ (replicate 8 0 ++ (1 ∷ replicate 35 0))))

-- order 7: "one sound block of 16 gives 62, three of 16 give 188"
abbrev pub one_sound_text : List ℕ
one_sound_text =
    ascii "blocks 16\n1 none\n2 none\n3 none\n4 none\n5 none\n6 none\n7 none\n8 none\n9 none\n10 none\n11 none\n12 none\n13 none\n"
    ++ ascii "14 none\n15 none\nclean 1 chips 0 card 0 none 15 several 0\nsound 62\n"

abbrev pub three_sound_text : List ℕ
three_sound_text =
    ascii "blocks 16\n3 none\n4 none\n5 none\n6 none\n7 none\n8 none\n9 none\n10 none\n11 none\n12 none\n13 none\n"
    ++ ascii "14 none\n15 none\nclean 3 chips 0 card 0 none 13 several 0\nsound 188\n"

-- the report of that input
abbrev pub SixteenCounted : ℕ → Answer → Type 0
SixteenCounted s a = ReportDone (input_bank (sixteen_input s)) (input_marks (sixteen_input s)) a (input_bank (sixteen_input s))

abbrev pub SixteenPrint : Type 0
SixteenPrint = SixteenCounted 1 (counted 1 0 0 15 0) × Prints (sixteen_input 1) one_sound_text
    × SixteenCounted 3 (counted 3 0 0 13 0) × Prints (sixteen_input 3) three_sound_text
