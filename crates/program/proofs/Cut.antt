-- 46,085 bytes of an input say all of it: what is printed of them is printed of the whole.
--
--   too_large   the report of a bank above 46,080 bytes is refused with 4, whatever the marks
--   cut         the text of an input's first 46,085 bytes is the input's
use mathlib.Core.Path.{◌≡◌, refl, ap, ◌∙◌}
use mathlib.Core.Logic.{◌⊎◌, inl, inr}
use mathlib.Core.Bool.{Bool, true, false, ◌||◌, not}
use mathlib.Core.List.{List, ◌∷◌}
use Prim.Native.Nat.{ℕ, ◌-◌, ◌%◌, ◌<◌}
use native.Mathlib.Nat.{eq-zero-or-pos}
use native.Mathlib.Omega.{arith}
use lib.Dec.{eqb}
use lib.ListN.{length, take, length-take, length-drop}
use lib.Seq.{take_all}
use borrow.Author.Tests.{lt-ltb}
use Rattle.std.proofs.lemmas.Bool.{or_right}
use Rattle.answer.specs.Answer.{refused}
use Rattle.answer.specs.Cause.{cause, lowest}
use Rattle.answer.proofs.Causes.{first_holds}
use Rattle.marks.specs.Marks.{marks_causes}
use Rattle.marks.specs.declared.Marks.{Marks}
use Rattle.bank.specs.Calls.{bad_bank, report_cause, ReportDone}
use Rattle.bank.proofs.Done.{report_refused}
use Rattle.lines.specs.Lines.{refused_line}
use Rattle.program.specs.Program.{input_bank, input_marks, Prints}
use Rattle.program.proofs.Decided.{report_agrees}

pub too_large : (n : ℕ) (m : Marks) → 46080 < n → report_cause n m ≡ 4
unfolding report_cause
too_large n m h =
    let bad : bad_bank n ≡ true = or_right (eqb n 0) _ (or_right (not (eqb (n % 45) 0)) _ (lt-ltb 46080 n h)) in
    ap (λ (t : Bool). lowest (cause 4 t ∷ marks_causes m)) bad ∙ first_holds 4 (marks_causes m) tt

refused_4 : (bank : List ℕ) (m : Marks) → 46080 < length bank → ReportDone bank m (refused 4) bank
refused_4 bank m h = report_refused bank m 4 (too_large (length bank) m h) (λ z. omega arith)

pub cut : (input text : List ℕ) → Prints (take 46085 input) text → Prints input text
cut input text p = pick (eq-zero-or-pos (length input - 46085))
  where
    only : 46085 < length input → text ≡ refused_line 4
    only h =
        let l : length (take 46085 input) ≡ 46085 = simp length-take (omega arith) in
        let w = p.otherwise (omega arith) in
        let first = take 46085 input in
        let four = refused_4 (input_bank first) (input_marks first) (simp length-drop (omega arith)) in
        let e = report_agrees (input_bank first) (input_bank first) (input_bank first) (input_marks first) w.0 (refused 4) w.1 four in
        rw e at w.2

    pick : (length input - 46085 ≡ 0) ⊎ (0 < length input - 46085) → Prints input text
    pick (inl z) = rw (take_all 46085 input (omega arith)) at p
    pick (inr z) =
        let l : 46080 < length (input_bank input) = simp length-drop (omega arith) in
        record { short = λ h. absurd (omega arith); otherwise = λ h. (refused 4, refused_4 (input_bank input) (input_marks input) l, only (omega arith)) }
