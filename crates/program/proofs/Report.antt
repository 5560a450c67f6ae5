-- What a report's answer tells of its bank and its marks.
--
--   fine            a bank that is not refused has at most 46,080 bytes, and its marks are lawful
--   small_cause     the number of a refusal is at most 7
--   counted_cause   a report that counts is not refused; counted_each: it counts how each block reads
--   refused_cause   a refused report says the number of its cause
use mathlib.Core.Path.{◌≡◌, refl, ap}
use mathlib.Core.Logic.{◌⊎◌, inl, inr}
use mathlib.Core.Bool.{Bool}
use mathlib.Core.List.{List, [], ◌∷◌, ◌++◌}
use Prim.Native.Nat.{ℕ, zero, suc, ◌≤◌}
use native.Mathlib.Omega.{arith}
use lib.ListN.{length}
use Rattle.answer.specs.Answer.{counted, refused, By}
use Rattle.answer.specs.Cause.{cause, lowest}
use Rattle.answer.proofs.Causes.{Holds, lowest_is, none_holds, by_accepted}
use Rattle.marks.specs.Marks.{marks_causes, marks_cause}
use Rattle.marks.specs.declared.Marks.{Marks}
use Rattle.bank.specs.Calls.{bad_bank, size_causes, report_cause, ReportDone, CountsEach, block, blocks}
use Rattle.bank.proofs.Causes.{sized}

pub fine : (n : ℕ) (m : Marks) → report_cause n m ≡ 0 → (n ≤ 46080) × (marks_cause m ≡ 0)
unfolding report_cause marks_cause
fine n m e =
    let w = none_holds 3 (bad_bank n) (marks_causes m) e in
    ((sized n (ap (λ (t : Bool). lowest (cause 4 t ∷ [])) w.0)).1, w.1)

pub small_cause : (n : ℕ) (m : Marks) → report_cause n m ≤ 7
unfolding report_cause
small_cause n m = pick (report_cause n m) (lowest_is (size_causes n ++ marks_causes m) (omega arith, (omega arith, (omega arith, tt)))).holds
  where
    pick : (c : ℕ) → (c ≡ 0) ⊎ Holds c (size_causes n ++ marks_causes m) → c ≤ 7
    pick c (inl e) = omega arith
    pick c (inr (inl h)) = omega (arith, h.0)
    pick c (inr (inr (inl h))) = omega (arith, h.0)
    pick c (inr (inr (inr (inl h)))) = omega (arith, h.0)
    pick c (inr (inr (inr (inr h)))) = absurd h

module _ (bank bank' : List ℕ) (m : Marks) where
  pub counted_cause : (v w x y z : ℕ) → ReportDone bank m (counted v w x y z) bank' → report_cause (length bank) m ≡ 0
  counted_cause v w x y z d = go (report_cause (length bank) m) d.answer
    where
      go : (c : ℕ) → By c (counted v w x y z) (Unit {0}) (CountsEach (block bank) (blocks bank) m (counted v w x y z)) → c ≡ 0
      go zero b = refl
      go (suc c) b = let z : ◌≡◌ {A = ℕ} 0 1 = cc b.0 in absurd (omega arith)

  pub counted_each : (v w x y z : ℕ) → ReportDone bank m (counted v w x y z) bank' → CountsEach (block bank) (blocks bank) m (counted v w x y z)
  counted_each v w x y z d = by_accepted (report_cause (length bank) m) (counted v w x y z) (Unit {0}) _ (counted_cause v w x y z d) d.answer

  pub refused_cause : (n : ℕ) → ReportDone bank m (refused n) bank' → n ≡ report_cause (length bank) m
  refused_cause n d = go (report_cause (length bank) m) d.answer
    where
      go : (c : ℕ) → By c (refused n) (Unit {0}) (CountsEach (block bank) (blocks bank) m (refused n)) → n ≡ c
      go zero b = let z : ◌≡◌ {A = ℕ} 0 1 = cc b.2 in absurd (omega arith)
      go (suc c) b = cc b.0
