-- A call on a bank is not refused exactly when its bank, its numbers and its marks are as they should be.
--
--   accepts     THE STATEMENT
use Prim.Native.Nat.{ℕ, zero, suc, ◌/◌, ◌<◌}
use mathlib.Core.Path.{◌≡◌, refl, sym, ap, ◌∙◌}
use mathlib.Core.Logic.{◌≢◌, ◌⊎◌, inl, inr}
use mathlib.Core.Bool.{Bool}
use mathlib.Core.List.{[], ◌∷◌}
use native.Mathlib.Omega.{arith}
use borrow.Author.Tests.{leb-false}
use Rattle.std.proofs.lemmas.Bool.{cases_eq}
use Rattle.answer.specs.Cause.{cause, lowest}
use Rattle.answer.proofs.Causes.{none_holds, or_else}
use Rattle.marks.specs.Marks.{LawfulMarks, marks_cause}
use Rattle.marks.specs.declared.Marks.{Marks}
use Rattle.marks.proofs.Laws.{lawful_cause, cause_lawful}
use Rattle.bank.specs.Calls.{bad_bank, past, size_causes, place_causes, clear_cause, put_cause, get_cause, patrol_cause, report_cause}
use Rattle.bank.specs.Accepted.{FitBank, Accepts}
use Rattle.bank.proofs.Causes.{size_right, sized, place_right, put_3, put_is, get_2, get_is, patrol_is, report_is}

neither : (a b : ℕ) → or_else a b ≡ 0 → (a ≡ 0) × (b ≡ 0)
neither zero b e = (refl, e)
neither (suc a) b e = absurd (omega (arith, e))

right : (a b : ℕ) → a ≡ 0 → b ≡ 0 → or_else a b ≡ 0
right a b e h = ap (λ (x : ℕ). or_else x b) e ∙ h

-- ---- the bank, and a place in it
fits : (n : ℕ) → lowest (size_causes n) ≡ 0 → FitBank n
fits n e = let h = sized n e in (n / 45, omega (arith, h), omega (arith, h), omega (arith, h))

fitting : (n : ℕ) → FitBank n → lowest (size_causes n) ≡ 0
fitting n (c, lo, hi, e) = sym (size_right n (λ z. omega arith) (omega arith) (omega arith))

placed : (n k : ℕ) → lowest (place_causes n k) ≡ 0 → FitBank n × (k < n / 45)
placed n k e =
    let h = none_holds 3 (bad_bank n) (cause 5 (past n k) ∷ []) e in
    (fits n (ap (λ (t : Bool). lowest (cause 4 t ∷ [])) h.0), leb-false (n / 45) k (none_holds 4 (past n k) [] h.1).0)

placing : (n k : ℕ) → FitBank n → k < n / 45 → lowest (place_causes n k) ≡ 0
placing n k f l = sym (place_right n k 0 (sym (fitting n f)) refl l)

-- ---- the calls
module _ (n k : ℕ) (m : Marks) where
  patrolled : patrol_cause n k m ≡ 0 → FitBank n × (k < n / 45) × LawfulMarks m
  patrolled e =
      let h = neither (lowest (place_causes n k)) (marks_cause m) (sym (patrol_is n k m) ∙ e) in
      let p = placed n k h.0 in
      (p.0, p.1, cause_lawful m h.1)

  patrolling : FitBank n → k < n / 45 → LawfulMarks m → patrol_cause n k m ≡ 0
  patrolling f l w = patrol_is n k m ∙ right (lowest (place_causes n k)) (marks_cause m) (placing n k f l) (lawful_cause m w)

  got : (o : ℕ) → get_cause n k m o ≡ 0 → FitBank n × (k < n / 45) × LawfulMarks m × (o ≡ 45)
  got o e = pick (cases_eq o 45)
    where
      pick : (o ≡ 45) ⊎ (o ≢ 45) → FitBank n × (k < n / 45) × LawfulMarks m × (o ≡ 45)
      pick (inl q) = let h = patrolled (sym (get_is n k m o q) ∙ e) in (h.0, h.1, h.2, q)
      pick (inr q) = absurd (omega (arith, get_2 n k m o q, e))

put_accepted : (n k r : ℕ) → put_cause n k r ≡ 0 → FitBank n × (k < n / 45) × (r ≡ 34)
put_accepted n k r e = pick (cases_eq r 34)
  where
    pick : (r ≡ 34) ⊎ (r ≢ 34) → FitBank n × (k < n / 45) × (r ≡ 34)
    pick (inl q) = let h = placed n k (sym (put_is n k r q) ∙ e) in (h.0, h.1, q)
    pick (inr q) = absurd (omega (arith, put_3 n k r q, e))

reported : (n : ℕ) (m : Marks) → report_cause n m ≡ 0 → FitBank n × LawfulMarks m
reported n m e =
    let h = neither (lowest (size_causes n)) (marks_cause m) (sym (report_is n m) ∙ e) in
    (fits n h.0, cause_lawful m h.1)

pub accepts : (n k r o : ℕ) (m : Marks) → Accepts n k r o m
unfolding clear_cause
accepts n k r o m = record {
  clear = (fits n, fitting n);
  put = (put_accepted n k r, λ h. put_is n k r h.2 ∙ placing n k h.0 h.1);
  get = (got n k m o, λ h. get_is n k m o h.3 ∙ patrolling n k m h.0 h.1 h.2);
  patrol = (patrolled n k m, λ h. patrolling n k m h.0 h.1 h.2);
  report = (reported n m, λ h. report_is n m ∙ right (lowest (size_causes n)) (marks_cause m) (fitting n h.0) (lawful_cause m h.1));
}
