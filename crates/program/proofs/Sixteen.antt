-- The whole texts of two inputs of 16 blocks, by computation: banks such as `of_sixteen` speaks of.
--
--   each_of_16   what holds of 0, of 1, .. and of 15, holds of every number below 16
--   sixteen      one of them with one sound block, which ends with 62, one with three, which ends with 188
use mathlib.Core.Path.{refl}
use mathlib.Core.List.{List, []}
use Prim.Native.Nat.{ℕ, ◌<◌}
use native.Mathlib.Omega.{arith}
use lib.Dec.{ltb}
use Rattle.base.specs.Base.{if, tally}
use Rattle.base.proofs.Tests.{below_suc}
use Rattle.answer.specs.Answer.{Answer, clean, counted, refused}
use Rattle.marks.specs.Marks.{marks_in, of_bytes, in_range, two_equal}
use Rattle.code.specs.Block.{zeros}
use Rattle.reading.specs.Reading.{ReadsUnder}
use Rattle.table.specs.Table.{no_mark, zeros_but, two}
use Rattle.table.proofs.Table.{starred}
use Rattle.bank.specs.Calls.{block, report_cause}
use Rattle.rounding.proofs.PerThousand.{worked}
use Rattle.text.specs.Text.{digits_up_to, decimal}
use Rattle.program.specs.Program.{input_marks, input_bank}
use Rattle.program.specs.Sample.{sixteen_input, SixteenCounted, SixteenPrint}

each_of_16 : (P : ℕ → Type 0) → P 0 → P 1 → P 2 → P 3 → P 4 → P 5 → P 6 → P 7 → P 8 → P 9 → P 10 → P 11 → P 12 → P 13 → P 14 → P 15
    → (k : ℕ) → k < 16 → P k
each_of_16 P a b c d e f g h i j k l m n o p =
    below_suc P 15 p (below_suc P 14 o (below_suc P 13 n (below_suc P 12 m (below_suc P 11 l (below_suc P 10 k (below_suc P 9 j (below_suc P 8 i
    (below_suc P 7 h (below_suc P 6 g (below_suc P 5 f (below_suc P 4 e (below_suc P 3 d (below_suc P 2 c (below_suc P 1 b (below_suc P 0 a
    (λ r z. absurd (omega arith)))))))))))))))))

-- the first s are clean, the others "none"
abbrev says : ℕ → ℕ → Answer
says s k = if (ltb k s) clean (refused 10)

abbrev Reads : ℕ → ℕ → Type 0
Reads s k = (x : List ℕ) × ReadsUnder (input_marks (sixteen_input s)) (block (input_bank (sixteen_input s)) k) [] (says s k) x

-- rows 1 and 6 of the starred table
good : (x : List ℕ) × ReadsUnder no_mark zeros [] clean x
good = (zeros, (starred.0.reading [] clean zeros).1 (refl, refl))

bad : (x : List ℕ) × ReadsUnder no_mark (zeros_but two) [] (refused 10) x
bad = ([], (starred.1.1.1.1.1.0.reading [] (refused 10) []).1 (refl, refl))

one_read : (k : ℕ) → k < 16 → Reads 1 k
unfolding marks_in of_bytes
one_read = each_of_16 (Reads 1) good bad bad bad bad bad bad bad bad bad bad bad bad bad bad bad

three_read : (k : ℕ) → k < 16 → Reads 3 k
unfolding marks_in of_bytes
three_read = each_of_16 (Reads 3) good good good bad bad bad bad bad bad bad bad bad bad bad bad bad

one_counted : SixteenCounted 1 (counted 1 0 0 15 0)
unfolding report_cause marks_in of_bytes in_range two_equal tally
one_counted = record { kept = refl; answer = (says 1, one_read, refl) }

three_counted : SixteenCounted 3 (counted 3 0 0 13 0)
unfolding report_cause marks_in of_bytes in_range two_equal tally
three_counted = record { kept = refl; answer = (says 3, three_read, refl) }

pub sixteen : SixteenPrint
unfolding decimal digits_up_to
sixteen = (
  one_counted,
  record { short = λ h. absurd (omega arith); otherwise = λ h. (counted 1 0 0 15 0, one_counted, (says 1, one_read, 62, worked.0, refl)) },
  three_counted,
  record { short = λ h. absurd (omega arith); otherwise = λ h. (counted 3 0 0 13 0, three_counted, (says 3, three_read, 188, worked.1, refl)) },
)
