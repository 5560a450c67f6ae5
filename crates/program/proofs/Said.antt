-- What `say` has put into the output is the text of the input.
--
--   say_nothing    an output that is too small
--   say_text       a text that is printed of the input, put at the front
--   prints_short   an input under 4 bytes
--   Found, found   an input's marks and bank, as the code has them
--   put_refused, put_counted   an input whose report is refused, or counts, as `input_text` puts it; say_counted: what `say` says of one that counts
--   counted_fits   a bank whose report counts has at most 46,080 bytes, and its marks are lawful
--   within         the text is a part of the output
use mathlib.Core.Path.{◌≡◌, refl, ap, ◌∙◌, subst}
use mathlib.Core.Logic.{⊎_elim}
use mathlib.Core.List.{List, ◌++◌}
use Prim.Native.Nat.{ℕ, ◌+◌, ◌-◌, ◌≤◌, ◌<◌}
use native.Mathlib.Nat.{le_trans, eq-zero-or-pos}
use native.Mathlib.Omega.{arith}
use lib.ListN.{length, take, drop, length-append}
use Rattle.answer.specs.Answer.{Answer, counted, refused}
use Rattle.marks.specs.Marks.{marks_in, marks_cause}
use Rattle.marks.specs.declared.Marks.{Marks}
use Rattle.bank.specs.Calls.{blocks, ReportDone}
use Rattle.answer.specs.declared.Totals.{Totals}
use Rattle.lines.specs.Lines.{refused_line}
use Rattle.text.specs.Put.{Put, Added}
use Rattle.text.specs.declared.Text.{Text}
use Rattle.text.proofs.Pieces.{whole}
use Rattle.program.specs.Program.{input_bank, input_marks, bank_text, PrintsReport, Prints, SayDone}
use Rattle.program.specs.Parts.{BankPut, InputPut}
use Rattle.program.proofs.Report.{fine, counted_cause}
use Rattle.program.proofs.Room.{text_length}

pub say_nothing : (input out : List ℕ) → length out < 16384 → SayDone input out 0 input out
say_nothing input out h = record { lent = refl; small = λ _. (refl, refl); said = λ g. absurd (omega arith) }

pub say_text : {input out text out' : List ℕ} {k : ℕ} → 16384 ≤ length out → Prints input text → Put text out 0 k out' → SayDone input out k input out'
say_text {input} {out} {text} big p q =
    let w = whole q (le_trans (text_length input text p) big) in
    record { lent = refl; small = λ h. absurd (omega arith); said = λ _. (text, p, w.0, w.1) }

pub prints_short : (input : List ℕ) → length input < 4 → Prints input (refused_line 6)
prints_short input h = record { short = λ _. refl; otherwise = λ g. absurd (omega arith) }

-- what the code has of an input of 4 bytes or more
pub record Found (input : List ℕ) (m : Marks) (bank : List ℕ) : Type 0 where
  pub long : 4 ≤ length input
  pub marks : m ≡ input_marks input
  pub after : bank ≡ input_bank input

pub found : {input start bank : List ℕ} {m : Marks} → (start ≡ take 4 input) × (bank ≡ drop 4 input) × (length bank + 4 ≡ length input) → m ≡ marks_in start
    → Found input m bank
found s e = record { long = omega arith; marks = e ∙ ap marks_in s.0; after = s.1 }

prints_report : {input bank : List ℕ} {m : Marks} (a : Answer) (text : List ℕ) → Found input m bank → ReportDone bank m a bank → PrintsReport bank m a text
    → Prints input text
prints_report a text f r p =
    record { short = λ h. absurd (omega (arith, f.long)); otherwise = λ _. (a, rw (f.marks, f.after) at r, rw (f.marks, f.after) at p) }

pub put_refused : {input bank : List ℕ} {m : Marks} {n : ℕ} {t u : Text} → Found input m bank → ReportDone bank m (refused n) bank
    → Added (refused_line n) t u → InputPut input t u
put_refused {n = n} f r q = record { text = refused_line n; prints = prints_report (refused n) (refused_line n) f r refl; put = q }

pub put_counted : {input bank : List ℕ} {m : Marks} {s : Totals} {t u : Text} → Found input m bank
    → ReportDone bank m (counted s.clean s.chips s.card s.none s.several) bank → BankPut bank m s t u → InputPut input t u
put_counted {bank = bank} {s = s} f r q =
    let text = bank_text q.answers (blocks bank) s.clean s.chips s.card s.none s.several q.figure in
    record {
      text = text;
      prints =
          prints_report (counted s.clean s.chips s.card s.none s.several) text f r (q.answers, q.reads, q.figure, q.rounded, refl);
      put = q.put;
    }

-- of a text that begins at the front of the output: `put_counted` and `say_text`, by which the proofs of `input_text` and of `say` go, in one
pub say_counted : {input bank : List ℕ} {m : Marks} {s : Totals} {t u : Text} → 16384 ≤ length t.out.now → t.at ≡ 0 → Found input m bank
    → ReportDone bank m (counted s.clean s.chips s.card s.none s.several) bank → BankPut bank m s t u → SayDone input t.out.now u.at input u.out.now
say_counted {t = t} {u = u} big z f r q =
    let w = put_counted f r q in
    say_text big w.prints (subst (λ (at : ℕ). Put w.text t.out.now at u.at u.out.now) z w.put.put)

pub counted_fits : (bank : List ℕ) (m : Marks) (s : Totals) → ReportDone bank m (counted s.clean s.chips s.card s.none s.several) bank
    → (length bank ≤ 46080) × (marks_cause m ≡ 0)
counted_fits bank m s r = fine (length bank) m (counted_cause bank bank m _ _ _ _ _ r)

pub within : (input out : List ℕ) (n : ℕ) (input' out' : List ℕ) → SayDone input out n input' out' → n ≤ length out'
within input out n input' out' d =
    ⊎_elim (λ z. said (d.said (omega arith))) (λ z. omega (arith, (d.small (omega arith)).0)) (eq-zero-or-pos (16384 - length out))
  where
    said : (text : List ℕ) × Prints input text × (n ≡ length text) × (out' ≡ text ++ drop n out) → n ≤ length out'
    said w = omega (arith, w.2, simp length-append at (ap length w.3))
