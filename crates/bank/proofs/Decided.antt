-- What a call on a bank does is decided: two outcomes on the same bytes agree in the answer and in every byte.
--
--   clear_decided, put_decided, get_decided, patrol_decided, report_decided
use Prim.Native.Nat.{ℕ}
use mathlib.Core.Path.{◌≡◌, sym, ap, ◌∙◌}
use mathlib.Core.List.{List}
use lib.ListN.{length}
use Rattle.answer.specs.Answer.{Answer}
use Rattle.answer.proofs.Causes.{Agreed, by_agree}
use Rattle.marks.specs.declared.Marks.{Marks}
use Rattle.reading.proofs.Agree.{under_agree}
use Rattle.window.specs.Window.{added}
use Rattle.block.proofs.Decided.{changed_agree}
use Rattle.bank.specs.Calls.{blocks, block, with_block, clear_cause, put_cause, get_cause, patrol_cause, report_cause}
use Rattle.bank.specs.Calls.{ClearDone, PutDone, GetDone, PatrolDone, ReportDone}
use Rattle.bank.proofs.Each.{counts_agree}

module _ (bank : List ℕ) (a a' : Answer) (x x' : List ℕ) where
  pub clear_decided : ClearDone bank a x → ClearDone bank a' x' → Agreed a a' x x'
  unfolding ClearDone
  clear_decided w v =
      by_agree (clear_cause (length bank)) a a' bank x x' _ _ w v (λ d d'. (d.0 ∙ sym d'.0, d.1 ∙ sym d'.1))

  pub put_decided : (k : ℕ) (rec r r' : List ℕ) → PutDone bank k rec a x r → PutDone bank k rec a' x' r' → Agreed a a' x x' × (r ≡ r')
  put_decided k rec r r' w v = (
    by_agree (put_cause (length bank) k (length rec)) a a' bank x x' _ _ w.put v.put
        (λ d d'. (d.0 ∙ sym d'.0, d.1.2 ∙ ap (with_block bank k) (sym (d.1.1.1 d'.1.0 d'.1.1.0)) ∙ sym d'.1.2)),
    w.lent ∙ sym v.lent,
  )

  pub get_decided : (k : ℕ) (m : Marks) (out w y y' z z' : List ℕ) → GetDone bank k m out w a x y z → GetDone bank k m out w a' x' y' z'
      → Agreed a a' y y' × (x ≡ x') × (z ≡ z')
  get_decided k m out w y y' z z' h g =
      let d = by_agree (get_cause (length bank) k m (length out)) a a' out y y' _ _ h.output g.output (under_agree m (block bank k) out a a' y y') in
      (d, h.kept ∙ sym g.kept, h.window ∙ ap (added w) (changed_agree a a' d.0 (block bank k) y y' d.1) ∙ sym g.window)

  pub patrol_decided : (k : ℕ) (m : Marks) (w z z' : List ℕ) → PatrolDone bank k m w a x z → PatrolDone bank k m w a' x' z' → Agreed a a' x x' × (z ≡ z')
  patrol_decided k m w z z' h g =
      let d = by_agree (patrol_cause (length bank) k m) a a' bank x x' _ _ h.mended g.mended (λ d d'.
      let r = under_agree m (block bank k) (block bank k) a a' d.0 d'.0 d.1 d'.1 in
      (r.0, d.2 ∙ ap (with_block bank k) r.1 ∙ sym d'.2)) in (
        d,
        h.window
            ∙ ap (added w) (changed_agree a a' d.0 (block bank k) (block x k) (block x' k) (ap (λ (y : List ℕ). block y k) d.1))
            ∙ sym g.window,
      )

  pub report_decided : (m : Marks) → ReportDone bank m a x → ReportDone bank m a' x' → (a ≡ a') × (x ≡ x')
  report_decided m w v =
      (counts_agree (block bank) (blocks bank) m (report_cause (length bank) m) a a' w.answer v.answer, w.kept ∙ sym v.kept)
