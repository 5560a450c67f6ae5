-- Which answers each call on a bank can give, from its contract.
--
--   clear_gives, put_gives, get_gives, patrol_gives, report_gives; at_most_1024: a report's totals
use Prim.Native.Nat.{ℕ, ◌≤◌}
use mathlib.Core.Path.{◌≡◌, refl, sym, ap, subst}
use mathlib.Core.Bool.{Bool, false, not}
use mathlib.Core.List.{List, [], ◌∷◌, ◌++◌}
use native.Mathlib.Omega.{arith}
use lib.Dec.{eqb}
use lib.ListN.{length}
use Rattle.base.proofs.Tally.{at_most}
use Rattle.answer.specs.Answer.{Answer, counted}
use Rattle.answer.specs.Cause.{cause, lowest}
use Rattle.answer.proofs.Causes.{none_holds}
use Rattle.answer.proofs.Gives.{Outcomes, Readings, Reports, were_counted, not_counted, by_gives, done_gives}
use Rattle.marks.specs.Marks.{marks_causes}
use Rattle.marks.specs.declared.Marks.{Marks}
use Rattle.reading.proofs.Gives.{read_by}
use Rattle.bank.specs.Calls.{blocks, block, bad_bank, size_causes, place_causes, clear_cause, put_cause, get_cause, patrol_cause, report_cause}
use Rattle.bank.specs.Calls.{ClearDone, PutDone, GetDone, PatrolDone, ReportDone, class, how_many, totals}
use Rattle.bank.proofs.Causes.{sized}

pub clear_gives : (bank : List ℕ) (a : Answer) (bank' : List ℕ) → ClearDone bank a bank' → Outcomes (4 ∷ []) a
unfolding ClearDone clear_cause
clear_gives bank a bank' w = done_gives (size_causes (length bank)) (omega arith, tt) a _ _ w

pub put_gives : (bank : List ℕ) (k : ℕ) (rec : List ℕ) (a : Answer) (bank' rec' : List ℕ) → PutDone bank k rec a bank' rec' → Outcomes (3 ∷ 4 ∷ 5 ∷ []) a
unfolding put_cause
put_gives bank k rec a bank' rec' w =
    done_gives (cause 3 (not (eqb (length rec) 34)) ∷ place_causes (length bank) k) (omega arith, (omega arith, (omega arith, tt))) a _ _ w.put

pub get_gives : (bank : List ℕ) (k : ℕ) (m : Marks) (out w : List ℕ) (a : Answer) (bank' out' w' : List ℕ) → GetDone bank k m out w a bank' out' w'
    → Readings (2 ∷ 4 ∷ 5 ∷ 6 ∷ 7 ∷ 10 ∷ []) a
unfolding get_cause
get_gives bank k m out w a bank' out' w' h =
    read_by (cause 2 (not (eqb (length out) 45)) ∷ place_causes (length bank) k) (omega arith, (omega arith, (omega arith, tt))) m (block bank k) a _ _
    (λ d. (out, out', d)) h.output

pub patrol_gives : (bank : List ℕ) (k : ℕ) (m : Marks) (w : List ℕ) (a : Answer) (bank' w' : List ℕ) → PatrolDone bank k m w a bank' w'
    → Readings (4 ∷ 5 ∷ 6 ∷ 7 ∷ 10 ∷ []) a
unfolding patrol_cause
patrol_gives bank k m w a bank' w' h =
    read_by (place_causes (length bank) k) (omega arith, (omega arith, tt)) m (block bank k) a _ _ (λ d. (block bank k, d.0, d.1)) h.mended

-- ---- a report: no total is above the number of blocks
pub report_gives : (bank : List ℕ) (m : Marks) (a : Answer) (bank' : List ℕ) → ReportDone bank m a bank' → Reports (4 ∷ 6 ∷ 7 ∷ []) a
unfolding report_cause
report_gives bank m a bank' w =
    by_gives (size_causes (length bank) ++ marks_causes m) (omega arith, (omega arith, (omega arith, tt))) (Reports (4 ∷ 6 ∷ 7 ∷ [])) a _ _
    (λ n h. not_counted h) (λ z d. subst (Reports (4 ∷ 6 ∷ 7 ∷ [])) (sym d.2) (each d.0 z)) w.answer
  where
    each : (f : ℕ → Answer) → lowest (size_causes (length bank) ++ marks_causes m) ≡ 0 → Reports (4 ∷ 6 ∷ 7 ∷ []) (totals f (blocks bank))
    each f z = were_counted (most 0) (most 1) (most 2) (most 3) (most 4)
      where
        long : length bank ≤ 46080
        long =
            let e : bad_bank (length bank) ≡ false = (none_holds 3 (bad_bank (length bank)) (marks_causes m) z).0 in
            (sized (length bank) (ap (λ (t : Bool). lowest (cause 4 t ∷ [])) e)).1

        most : (i : ℕ) → how_many f (blocks bank) i ≤ 1024
        most i = omega (arith, long, at_most (blocks bank) (λ k. eqb (class (f k)) i) (how_many f (blocks bank) i) refl)

pub at_most_1024 : {ns : List ℕ} {v w x y z : ℕ} → Reports ns (counted v w x y z) → (v ≤ 1024) × (w ≤ 1024) × (x ≤ 1024) × (y ≤ 1024) × (z ≤ 1024)
at_most_1024 (were_counted a b c d e) = (a, b, c, d, e)
