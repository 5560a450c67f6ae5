-- What every caller of the functions on a mark record learns, in plain words.
--
--   cause_exactly    the check's number, exactly when
--   ok_exactly, err_exactly   what a check returns, by its number
--   check_says, mark_says   THE STATEMENTS
use contract.Lifetimes
use borrow.Fn.Kinds
use borrow.Fn.World
use denote.Triple.Clauses
use mathlib.Core.Path.{◌≡◌, refl, sym, ap, ◌∙◌}
use mathlib.Core.Logic.{◌↔◌}
use mathlib.Core.Bool.{Bool, true, false, true≢false}
use mathlib.Core.List.{[], ◌∷◌}
use native.Mathlib.Omega.{arith}
use Rattle.std.specs.Prelude.{Ok, Err}
use Rattle.std.specs.declared.result.Result.{Result}
use Rattle.answer.specs.Answer.{cause_number, refusal_number}
use Rattle.answer.specs.Cause.{cause}
use Rattle.answer.specs.Said.{Says}
use Rattle.answer.specs.declared.Refusal.{Refusal}
use Rattle.answer.specs.declared.Refusal.TheVariants.{MarkRange, EqualMarks}
use Rattle.answer.proofs.Causes.{number_given, first_holds}
use Rattle.answer.proofs.Said.{refusals_apart, says_by}
use Rattle.marks.specs.Marks.{in_range, two_equal, marks_cause}
use Rattle.marks.specs.Mark.{marked, mark_cause, MarkDone}
use Rattle.marks.specs.Said.{InRange, EqualChips, CheckSays}
use Rattle.marks.specs.declared.Marks.{Marks}
use Rattle.marks.specs.contracts.mark as mark
use Rattle.marks.proofs.mark.Kinds as mark_kinds
use Rattle.marks.proofs.mark.Reads as mark_reads
use Rattle.marks.specs.contracts.check as check
use Rattle.marks.proofs.check.Kinds as check_kinds
use Rattle.marks.proofs.check.Reads as check_reads
use Rattle.marks.proofs.Tests.{range_test, range_fact, equal_two, two_chips}
use Rattle.marks.proofs.Laws.{lawful_cause, cause_lawful}

-- ---- the number
pub record CauseExactly (m : Marks) : Type 0 where
  pub outside : (marks_cause m ≡ 6) ↔ (InRange m → ⊥)
  pub equal : (marks_cause m ≡ 7) ↔ (InRange m × EqualChips m)

pub cause_exactly : (m : Marks) → CauseExactly m
unfolding marks_cause
cause_exactly m = by (in_range m) (two_equal m) refl refl
  where
    by : (t u : Bool) → in_range m ≡ t → two_equal m ≡ u → CauseExactly m
    by false u a b =
        let six : marks_cause m ≡ 6 = simp a (first_holds 6 (cause 7 (two_equal m) ∷ []) tt) in
        record {
          outside = ((λ e h. true≢false (sym (range_test h) ∙ a)), λ n. six);
          equal = ((λ e. absurd (omega (arith, e, six))), λ w. absurd (true≢false (sym (range_test w.0) ∙ a)));
        }
    by true true a b =
        let seven : marks_cause m ≡ 7 = simp (a, b) in
        record {
          outside = ((λ e. absurd (omega (arith, e, seven))), λ n. absurd (n (range_fact m a)));
          equal = ((λ e. (range_fact m a, two_chips m b)), λ w. seven);
        }
    by true false a b =
        let none : marks_cause m ≡ 0 = simp (a, b) in
        record {
          outside = ((λ e. absurd (omega (arith, e, none))), λ n. absurd (n (range_fact m a)));
          equal = ((λ e. absurd (omega (arith, e, none))), λ w. absurd (true≢false (sym (equal_two m w.1) ∙ b)));
        }

-- ---- what a check returns
ok_exactly : (r : Result (Unit {0}) Refusal) → (r ≡ Ok tt) ↔ (cause_number r ≡ 0)
ok_exactly (Ok u) = ((λ e. refl), λ e. refl)
ok_exactly (Err e) = ((λ z. ap cause_number z), λ z. absurd (number_given e z))

err_exactly : (r : Result (Unit {0}) Refusal) (e : Refusal) → (r ≡ Err e) ↔ (cause_number r ≡ refusal_number e)
err_exactly (Ok u) e = ((λ z. ap cause_number z), λ z. absurd (number_given e (sym z)))
err_exactly (Err d) e = ((λ z. ap cause_number z), λ z. ap Err (refusals_apart d e z))

by_number : (m : Marks) (r : Result (Unit {0}) Refusal) → cause_number r ≡ marks_cause m → CheckSays m r
by_number m r e =
    let ok = ok_exactly r in
    let six = err_exactly r MarkRange in
    let seven = err_exactly r EqualMarks in
    let n = cause_exactly m in
    record {
      lawful = ((λ z. cause_lawful m (sym e ∙ ok.0 z)), λ l. ok.1 (e ∙ lawful_cause m l));
      outside = ((λ z. n.outside.0 (sym e ∙ six.0 z)), λ h. six.1 (e ∙ n.outside.1 h));
      equal = ((λ z. n.equal.0 (sym e ∙ seven.0 z)), λ h. seven.1 (e ∙ n.equal.1 h));
    }

-- ---- the statements
pub check_says : (κs : Lifetimes.Lfts 0) (a : World.ArgsD check.signature κs) (r : World.ResD check.signature κs)
    (s : Clauses.AtExit (Kinds.ended_of 0 check_kinds.ps check_kinds.r) κs) → check_reads.Learnt κs a r s → CheckSays a.0 r
check_says κs a r s l = by_number a.0 r l

pub mark_says : (κs : Lifetimes.Lfts 1) (a : World.ArgsD mark.signature κs) (r : World.ResD mark.signature κs)
    (s : Clauses.AtExit (Kinds.ended_of 1 mark_kinds.ps mark_kinds.r) κs) → mark_reads.Learnt κs a r s
    → Says (mark_cause a.0.now a.1.0) (s.0.now ≡ a.0.now) (s.0.now ≡ marked a.0.now a.1.0) r
unfolding MarkDone
mark_says κs a r s l = says_by _ _ _ _ l
