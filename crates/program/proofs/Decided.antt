-- What is printed is decided: two texts of one input are equal, and the contract of `say` leaves nothing open.
--
--   texts_agree     two readings of each block of a bank have the same lines
--   report_agrees   two reports of one bank under the same marks give the same answer
--   decided         two texts of one input are equal
--   say_decided     two outcomes of `say` on the same bytes are equal
use mathlib.Core.Path.{◌≡◌, sym, ap, ap₂, ◌∙◌}
use mathlib.Core.Logic.{◌⊎◌, inl, inr, ⊎_elim}
use mathlib.Core.List.{List, ◌++◌}
use Prim.Native.Nat.{ℕ, ◌-◌, ◌≤◌, ◌<◌}
use native.Mathlib.Nat.{eq-zero-or-pos}
use native.Mathlib.Omega.{arith}
use lib.ListN.{length, drop}
use Rattle.answer.specs.Answer.{Answer, done, clean, in_chips, in_card, counted, refused, refused_card}
use Rattle.marks.specs.declared.Marks.{Marks}
use Rattle.bank.specs.Calls.{block, blocks, report_cause, EachReads, ReportDone}
use Rattle.bank.proofs.Each.{each_alike, counts_agree}
use Rattle.lines.specs.Lines.{block_line, totals_line, sound_line, count_line}
use Rattle.lines.proofs.Decided.{one_figure}
use Rattle.program.specs.Program.{input_bank, input_marks, block_lines, PrintsReport, Prints, SayDone}
use Rattle.program.proofs.Blocks.{lines_agree}

pub texts_agree : (bank : List ℕ) (m : Marks) (f f' : ℕ → Answer) → EachReads (block bank) (blocks bank) m f → EachReads (block bank) (blocks bank) m f'
    → block_lines f (blocks bank) ≡ block_lines f' (blocks bank)
texts_agree bank m f f' r r' =
    lines_agree f f' (blocks bank) (λ k l. ap (block_line k) (each_alike (block bank) (blocks bank) m f f' r r' k l))

pub report_agrees : (bank bank' bank'' : List ℕ) (m : Marks) (a a' : Answer) → ReportDone bank m a bank' → ReportDone bank m a' bank'' → a ≡ a'
report_agrees bank bank' bank'' m a a' d d' =
    counts_agree (block bank) (blocks bank) m (report_cause (length bank) m) a a' d.answer d'.answer

one_text : (bank : List ℕ) (m : Marks) (a : Answer) (t u : List ℕ) → PrintsReport bank m a t → PrintsReport bank m a u → t ≡ u
one_text bank m (refused n) t u p q = p ∙ sym q
one_text bank m (counted v w x y z) t u p q =
    let e = one_figure v w x y z p.2 q.2 p.3 q.3 in
    p.4
    ∙ ap₂ (λ (s : List ℕ) (k : ℕ). count_line (blocks bank) ++ (s ++ (totals_line v w x y z ++ sound_line k)))
    (texts_agree bank m p.0 q.0 p.1 q.1) e
    ∙ sym q.4
one_text bank m done t u p q = absurd p
one_text bank m clean t u p q = absurd p
one_text bank m (in_chips n) t u p q = absurd p
one_text bank m (in_card j n) t u p q = absurd p
one_text bank m (refused_card n j) t u p q = absurd p

pub decided : (input t u : List ℕ) → Prints input t → Prints input u → t ≡ u
decided input t u p q = ⊎_elim (λ z. long (omega arith)) (λ z. p.short (omega arith) ∙ sym (q.short (omega arith))) (eq-zero-or-pos (4 - length input))
  where
    long : 4 ≤ length input → t ≡ u
    long h =
        let g = p.otherwise h in
        let k = q.otherwise h in
        let e : g.0 ≡ k.0 = report_agrees (input_bank input) (input_bank input) (input_bank input) (input_marks input) g.0 k.0 g.1 k.1 in
        one_text (input_bank input) (input_marks input) k.0 t u
        (rw e at g.2) k.2

pub say_decided : (input out : List ℕ) (n n' : ℕ) (i i' o o' : List ℕ) → SayDone input out n i o → SayDone input out n' i' o' → (n ≡ n') × (i ≡ i') × (o ≡ o')
say_decided input out n n' i i' o o' d d' = pick (eq-zero-or-pos (16384 - length out))
  where
    pick : (16384 - length out ≡ 0) ⊎ (0 < 16384 - length out) → (n ≡ n') × (i ≡ i') × (o ≡ o')
    pick (inr z) =
        let w = d.small (omega arith) in
        let v = d'.small (omega arith) in
        (w.0 ∙ sym v.0, d.lent ∙ sym d'.lent, w.1 ∙ sym v.1)
    pick (inl z) =
        let w = d.said (omega arith) in
        let v = d'.said (omega arith) in
        let t = decided input w.0 v.0 w.1 v.1 in
        let e : n ≡ n' = w.2 ∙ ap length t ∙ sym v.2 in
        (e, d.lent ∙ sym d'.lent, w.3 ∙ ap₂ (λ (s : List ℕ) (k : ℕ). s ++ drop k out) t e ∙ sym v.3)
