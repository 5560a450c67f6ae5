-- What the last line says of a bank: the statements of specs/LastLine.antt.
--
--   one_place      a number below 5 is one of the five
--   all_counted    where each of n answers is counted in one of the five places, the five counts are n together
--   sum_of         the sum of a report's totals
--   some_blocks    a bank whose report counts has 1 to 1,024 blocks
--   fourth_last    a text of four parts ends with the last
--   totals_add_up, last_line, of_sixteen
use mathlib.Core.Path.{◌≡◌, ap, ◌∙◌}
use mathlib.Core.List.{List, ◌++◌, append_assoc}
use Prim.Native.Nat.{ℕ, zero, suc, ◌+◌, ◌*◌, ◌≤◌, ◌<◌}
use native.Mathlib.Nat.{lt-suc_self, lt_trans}
use native.Mathlib.Omega.{arith}
use lib.Dec.{eqb}
use lib.ListN.{length, length-drop}
use Rattle.base.specs.Base.{bit, tally}
use Rattle.answer.specs.Answer.{Answer, done, clean, in_chips, in_card, counted, refused, refused_card}
use Rattle.marks.specs.declared.Marks.{Marks}
use Rattle.bank.specs.Calls.{block, blocks, class, how_many, ReportDone}
use Rattle.bank.proofs.Accepted.{accepts}
use Rattle.bank.proofs.Done.{class_below}
use Rattle.rounding.specs.PerThousand.{PerThousand}
use Rattle.rounding.proofs.Halves.{rounds_agree}
use Rattle.rounding.proofs.PerThousand.{worked, all_or_none}
use Rattle.text.specs.Text.{digits_up_to, decimal}
use Rattle.lines.specs.Lines.{count_line, totals_line, sound_line}
use Rattle.program.specs.Program.{input_marks, input_bank, block_lines}
use Rattle.program.specs.LastLine.{TotalsAddUp, EndsWith, LastLine, OfSixteen}
use Rattle.program.proofs.Report.{counted_cause, counted_each}
use Rattle.program.proofs.Decided.{report_agrees}

one_place : (c : ℕ) → c < 5 → bit (eqb c 0) + bit (eqb c 1) + bit (eqb c 2) + bit (eqb c 3) + bit (eqb c 4) ≡ 1
one_place zero h = omega arith
one_place (suc zero) h = omega arith
one_place (suc (suc zero)) h = omega arith
one_place (suc (suc (suc zero))) h = omega arith
one_place (suc (suc (suc (suc zero)))) h = omega arith
one_place (suc (suc (suc (suc (suc c))))) h = absurd (omega arith)

all_counted : (f : ℕ → Answer) (n : ℕ) → ((k : ℕ) → k < n → class (f k) < 5)
    → how_many f n 0 + how_many f n 1 + how_many f n 2 + how_many f n 3 + how_many f n 4 ≡ n
unfolding tally
all_counted f zero h = omega arith
all_counted f (suc n) h =
    omega (arith, one_place (class (f n)) (h n (lt-suc_self n)), all_counted f n (λ k l. h k (lt_trans l (lt-suc_self n))))

abbrev sum_of : Answer → ℕ
sum_of (counted v w x y z) = v + w + x + y + z
sum_of done = 0
sum_of clean = 0
sum_of (in_chips n) = 0
sum_of (in_card j n) = 0
sum_of (refused n) = 0
sum_of (refused_card n j) = 0

pub totals_add_up : TotalsAddUp
totals_add_up bank bank' m v w x y z d =
    let t = counted_each bank bank' m v w x y z d in
    ap sum_of t.2 ∙ all_counted t.0 (blocks bank) (λ k l. let r = t.1 k l in class_below m (block bank k) _ (t.0 k) r.0 r.1)

some_blocks : (bank bank' : List ℕ) (m : Marks) (v w x y z : ℕ) → ReportDone bank m (counted v w x y z) bank' → (1 ≤ blocks bank) × (blocks bank ≤ 1024)
some_blocks bank bank' m v w x y z d =
    let fit = ((accepts (length bank) 0 0 0 m).report.0 (counted_cause bank bank' m v w x y z d)).0 in
    (omega (arith, fit.3, fit.1), omega (arith, fit.3, fit.2))

fourth_last : (text a b c d : List ℕ) → text ≡ a ++ (b ++ (c ++ d)) → EndsWith text d
fourth_last text a b c d e = (a ++ (b ++ c), e ∙ simp append_assoc)

pub last_line : LastLine
last_line input text v w x y z p d =
    let bank = input_bank input in
    let m = input_marks input in
    let all = totals_add_up bank bank m v w x y z d in
    let few = some_blocks bank bank m v w x y z d in
    let g = p.otherwise (omega (arith, few.0, length-drop 4 input)) in
    let e = report_agrees bank bank bank m g.0 (counted v w x y z) g.1 d in
    let t = rw e at g.2 in
    let f : PerThousand (v + w + x) (blocks bank) t.2 = rw all at t.3 in
    let told = (all_or_none (blocks bank) few.0).0 (omega (arith, few.1)) (v + w + x) t.2 (omega (arith, all)) f in (
      t.2,
      fourth_last text (count_line (blocks bank)) (block_lines t.0 (blocks bank)) (totals_line v w x y z) (sound_line t.2) t.4,
      f,
      (λ q. omega (arith, told.0.0 q, all), λ q. told.0.1 (omega (arith, all))),
      told.1,
    )

pub of_sixteen : OfSixteen
unfolding decimal digits_up_to
of_sixteen input text v w x y z p d n = (λ s. ends 1 62 s worked.0, λ s. ends 3 188 s worked.1)
  where
    ends : (s q : ℕ) → v + w + x ≡ s → PerThousand s 16 q → EndsWith text (sound_line q)
    ends s q e f =
        let t = last_line input text v w x y z p d in
        let g = rw (n, e) at t.2 in
        rw (rounds_agree (1000 * s) 16 t.0 q g f) at t.1
