-- A text has at most 16,384 bytes.
--
--   small          a reading under lawful marks names a card of one digit, and a number of bytes of at most two
--   lines_length   the blocks' lines, 15 bytes each at most
--   text_length    a text has at most 16,384 bytes
use mathlib.Core.Path.{◌≡◌}
use mathlib.Core.Logic.{⊎_elim}
use mathlib.Core.List.{List, [], ◌++◌}
use Prim.Native.Nat.{ℕ, zero, suc, ◌+◌, ◌*◌, ◌-◌, ◌≤◌, ◌<◌}
use native.Mathlib.Nat.{eq-zero-or-pos, le_trans, lt-suc_self, lt_trans}
use native.Mathlib.Omega.{arith}
use lib.ListN.{length, length-append}
use Rattle.base.proofs.Tally.{at_most}
use Rattle.answer.specs.Answer.{Answer, done, clean, in_chips, in_card, counted, refused, refused_card}
use Rattle.code.specs.Block.{changes}
use Rattle.marks.specs.Marks.{CardInRange, LawfulMarks, marked_chips}
use Rattle.std.specs.declared.option.Option.{Option}
use Rattle.std.specs.Prelude.{None, Some}
use Rattle.marks.specs.declared.Marks.{Marks}
use Rattle.marks.proofs.Laws.{cause_lawful}
use Rattle.reading.specs.Reading.{OnCard, ReadsUnder}
use Rattle.bank.specs.Calls.{block, blocks, how_many, report_cause, EachReads, ReportDone}
use Rattle.rounding.proofs.PerThousand.{at_most_all}
use Rattle.lines.specs.Lines.{count_line, totals_line, SoundFigure, sound_line}
use Rattle.lines.proofs.Lengths.{Small, count_length, block_length, totals_length, sound_length, refused_length}
use Rattle.program.specs.Program.{input_bank, input_marks, block_lines, bank_text, PrintsReport, Prints}
use Rattle.program.proofs.Report.{fine, small_cause, counted_cause, counted_each, refused_cause}

on_card : (c : Option ℕ) (j : ℕ) (ps b x : List ℕ) → CardInRange c → OnCard c j ps b x → j < 10
on_card None j ps b x r o = omega (arith, o.0)
on_card (Some i) j ps b x r o = omega (arith, o, r)

few_changes : (b x : List ℕ) (n : ℕ) → n ≡ changes b x → n < 100
unfolding changes
few_changes b x n e = omega (arith, at_most 45 _ n e)

pub small : (m : Marks) (b : List ℕ) (a : Answer) (x : List ℕ) → LawfulMarks m → ReadsUnder m b [] a x → Small a
small m b clean x l r = tt
small m b (in_chips n) x l r = few_changes b x n r.2
small m b (in_card j n) x l r = (on_card m.card j (marked_chips m) b x l.card r.3, few_changes b x n r.1)
small m b (refused n) x l r = tt
small m b (refused_card n j) x l r = omega (arith, r.2.0.0)
small m b done x l r = tt
small m b (counted v w y z u) x l r = tt

pub lines_length : (f : ℕ → Answer) (n : ℕ) → n ≤ 1024 → ((k : ℕ) → k < n → Small (f k)) → length (block_lines f n) ≤ 15 * n
lines_length f zero h s = omega arith
lines_length f (suc n) h s =
    simp length-append
    (omega (arith, lines_length f n (omega arith) (λ k l. s k (lt_trans l (lt-suc_self n))), block_length n (f n) (omega arith) (s n (lt-suc_self n))))

four : (a b c d : List ℕ) (p q r s : ℕ) → length a ≤ p → length b ≤ q → length c ≤ r → length d ≤ s → p + q + r + s ≤ 16384
    → length (a ++ (b ++ (c ++ d))) ≤ 16384
four a b c d p q r s e f g h l = simp length-append (omega arith)

-- a count among n blocks
below : (n v : ℕ) → n ≤ 1024 → v ≤ n → v < 10000
below n v h l = omega arith

bank_length : (bank : List ℕ) (m : Marks) (f : ℕ → Answer) (v w x y z q : ℕ) → report_cause (length bank) m ≡ 0 → EachReads (block bank) (blocks bank) m f
    → v ≤ blocks bank → w ≤ blocks bank → x ≤ blocks bank → y ≤ blocks bank → z ≤ blocks bank → SoundFigure v w x y z q
    → length (bank_text f (blocks bank) v w x y z q) ≤ 16384
bank_length bank m f v w x y z q e r a b c d g s =
    let k = fine (length bank) m e in
    let h : blocks bank ≤ 1024 = omega (arith, k.0) in
    let n = blocks bank in
    four (count_line n) (block_lines f n) (totals_line v w x y z) (sound_line q) 12 (15 * n) 55 11
    (count_length n (below n n h (omega arith)))
    (lines_length f n h (λ i l. small m (block bank i) (f i) (r i l).0 (cause_lawful m k.1) (r i l).1))
    (totals_length v w x y z (below n v h a) (below n w h b) (below n x h c) (below n y h d) (below n z h g))
    (sound_length q (omega (arith, at_most_all (v + w + x) (v + w + x + y + z) q (omega arith) s)))
    (omega arith)

report_length : (bank : List ℕ) (m : Marks) (a : Answer) (text : List ℕ) → ReportDone bank m a bank → PrintsReport bank m a text → length text ≤ 16384
report_length bank m (refused n) text d p =
    let l = refused_length n (omega (arith, refused_cause bank bank m n d, small_cause (length bank) m)) in
    rw p (le_trans l (omega arith))
report_length bank m (counted v w x y z) text d p =
    let e = counted_cause bank bank m v w x y z d in
    let t = counted_each bank bank m v w x y z d in
    let most : (u i : ℕ) → u ≡ how_many t.0 (blocks bank) i → u ≤ blocks bank = λ u i q. at_most (blocks bank) _ u q in
    rw p.4
    (bank_length bank m p.0 v w x y z p.2 e p.1
    (most v 0 (cc t.2)) (most w 1 (cc t.2)) (most x 2 (cc t.2)) (most y 3 (cc t.2)) (most z 4 (cc t.2)) p.3)
report_length bank m done text d p = absurd p
report_length bank m clean text d p = absurd p
report_length bank m (in_chips n) text d p = absurd p
report_length bank m (in_card j n) text d p = absurd p
report_length bank m (refused_card n j) text d p = absurd p

pub text_length : (input text : List ℕ) → Prints input text → length text ≤ 16384
text_length input text p =
    ⊎_elim
    (λ z. let w = p.otherwise (omega arith) in report_length (input_bank input) (input_marks input) w.0 text w.1 w.2)
    (λ z. rw (p.short (omega arith)) (le_trans (refused_length 6 (omega arith)) (omega arith)))
    (eq-zero-or-pos (4 - length input))
