-- The blocks' lines, one after the other.
--
--   lines_agree      answers that have the same lines one by one have the same lines
--   no_block         the lines of no block
--   one_block_more   the lines of the blocks so far, and that of the next
--   chunk_is         the chunks of 45 bytes are the blocks
use mathlib.Core.Path.{◌≡◌, refl, sym, ap, ap₂, ◌∙◌}
use mathlib.Core.List.{List, [], ◌++◌}
use Prim.Native.Nat.{ℕ, zero, suc, ◌+◌, ◌*◌, ◌<◌}
use lib.ListN.{get_or, take, drop}
use lib.Seq.{drop-drop}
use Rattle.std.specs.Simd.{first_chunks}
use native.Mathlib.Nat.{lt-suc_self, lt_trans}
use native.Mathlib.Numerals.{add-one}
use native.Mathlib.Omega.{arith}
use Rattle.answer.specs.Answer.{Answer, clean}
use Rattle.marks.specs.declared.Marks.{Marks}
use Rattle.reading.specs.Reading.{ReadsUnder}
use Rattle.bank.specs.Calls.{block}
use Rattle.bank.proofs.Each.{extended, extended_at, extended_below, extended_reads}
use Rattle.lines.specs.Lines.{block_line}
use Rattle.text.specs.Put.{Added}
use Rattle.text.specs.declared.Text.{Text}
use Rattle.text.proofs.Pieces.{added, nothing_added}
use Rattle.program.specs.Program.{block_lines}
use Rattle.program.specs.Parts.{BlocksPut}

pub lines_agree : (f g : ℕ → Answer) (n : ℕ) → ((k : ℕ) → k < n → block_line k (f k) ≡ block_line k (g k)) → block_lines f n ≡ block_lines g n
lines_agree f g zero h = refl
lines_agree f g (suc n) h =
    ap₂ (λ (s t : List ℕ). s ++ t) (lines_agree f g n (λ k l. h k (lt_trans l (lt-suc_self n)))) (h n (lt-suc_self n))

module _ (bank : List ℕ) (m : Marks) where
  pub no_block : (t : Text) → BlocksPut bank m 0 t t
  no_block t = record { answers = λ k. clean; reads = λ k l. absurd (omega arith); put = nothing_added t }

  pub one_block_more : (k : ℕ) (a : Answer) {t u w : Text} → BlocksPut bank m k t u → ((x : List ℕ) × ReadsUnder m (block bank k) [] a x)
      → Added (block_line k a) u w → BlocksPut bank m (k + 1) t w
  one_block_more k a {t} {u} {w} s r p =
      let f = s.answers in
      let g = extended f k a in
      let reads = extended_reads (block bank) m f k a s.reads r in
      rw (add-one k)
      (record {
        answers = g;
        reads = rw (add-one k) at reads;
        put =
            added
            (rw (lines_agree f g k (λ j l. ap (block_line j) (sym (extended_below f k a j l)))) at s.put)
            (rw (extended_at f k a) p);
      })

-- block k, as the code takes it
pub chunk_is : (n k : ℕ) (bank : List ℕ) (d : List ℕ) → k < n → get_or (first_chunks 45 n bank) k d ≡ block bank k
chunk_is zero k bank d h = absurd (omega arith)
chunk_is (suc n) zero bank d h = refl
chunk_is (suc n) (suc k) bank d h =
    let e : 45 + 45 * k ≡ 45 * suc k = omega arith in
    chunk_is n k (drop 45 bank) d (omega arith) ∙ ap (take 45) (drop-drop (45 * k) 45 bank ∙ ap (λ (i : ℕ). drop i bank) e)
