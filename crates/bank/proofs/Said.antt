-- What the calls on a bank return, in the code's own words, from what the contracts say of the answer.
--
--   clear_said, put_said, get_said, patrol_said, report_said    from the relations of specs/Calls.antt
--   clear_says, put_says, get_says, patrol_says, report_says    of what every caller gets
use contract.Lifetimes
use borrow.Fn.Kinds
use borrow.Fn.World
use denote.Triple.Clauses
use Prim.Native.Nat.{ℕ, zero, suc}
use mathlib.Core.Path.{◌≡◌, refl, sym, ap, ◌∙◌}
use mathlib.Core.List.{List, [], ◌∷◌}
use native.Mathlib.Omega.{arith}
use lib.ListN.{length, get_or}
use Rattle.std.specs.declared.result.Result.{Result}
use Rattle.std.specs.Prelude.{Ok, Err}
use Rattle.answer.specs.Answer.{Answer, done, clean, in_chips, in_card, counted, refused, refused_card, number, By, outcome_answer}
use Rattle.answer.specs.declared.Refusal.{Refusal}
use Rattle.answer.specs.declared.Totals.{Totals}
use Rattle.answer.proofs.Causes.{number_given}
use Rattle.answer.proofs.Said.{says_by}
use Rattle.marks.specs.declared.Marks.{Marks}
use Rattle.reading.specs.Reading.{Reading, reading_answer}
use Rattle.reading.specs.declared.Kind.TheVariants.{Clean, Chips, OneCard}
use Rattle.reading.specs.declared.Fault.TheVariants.{Several, Refused}
use Rattle.reading.proofs.Said.{reads_as, reading_says_by}
use Rattle.window.specs.Window.{added}
use Rattle.window.proofs.Runs.{added_none}
use Rattle.block.specs.Read.{changed_at}
use Rattle.bank.specs.Calls.{blocks, block, clear_cause, put_cause, get_cause, patrol_cause, report_cause, CountsEach, report_answer}
use Rattle.bank.specs.Calls.{ClearDone, PutDone, GetDone, PatrolDone, ReportDone}
use Rattle.bank.specs.Said.{ClearSays, PutSays, Adds, GetSays, PatrolSays, Counts, ReportSays}
use Rattle.bank.specs.contracts.clear as clear
use Rattle.bank.proofs.clear.Kinds as clear_kinds
use Rattle.bank.proofs.clear.Reads as clear_reads
use Rattle.bank.specs.contracts.put as put
use Rattle.bank.proofs.put.Kinds as put_kinds
use Rattle.bank.proofs.put.Reads as put_reads
use Rattle.bank.specs.contracts.get as get
use Rattle.bank.proofs.get.Kinds as get_kinds
use Rattle.bank.proofs.get.Reads as get_reads
use Rattle.bank.specs.contracts.patrol as patrol
use Rattle.bank.proofs.patrol.Kinds as patrol_kinds
use Rattle.bank.proofs.patrol.Reads as patrol_reads
use Rattle.bank.specs.contracts.report as report
use Rattle.bank.proofs.report.Kinds as report_kinds
use Rattle.bank.proofs.report.Reads as report_reads
use Rattle.bank.proofs.Tied.{clear_tied, put_tied, get_tied, patrol_tied, report_tied}

-- ---- clear
pub clear_said : (bank : List ℕ) (r : Result (Unit {0}) Refusal) (bank' : List ℕ) → ClearDone bank (outcome_answer r) bank' → ClearSays bank r bank'
unfolding ClearDone
clear_said bank r bank' w = says_by (clear_cause (length bank)) r _ _ w

pub clear_says : (κs : Lifetimes.Lfts 1) (a : World.ArgsD clear.signature κs) (r : World.ResD clear.signature κs)
    (s : Clauses.AtExit (Kinds.ended_of 1 clear_kinds.ps clear_kinds.r) κs) → clear_reads.Learnt κs a r s → ClearSays a.0.now r s.0.now
clear_says κs a r s l = clear_said a.0.now r s.0.now (clear_tied κs a r s l)

-- ---- put
pub put_said : (bank : List ℕ) (k : ℕ) (rec : List ℕ) (r : Result (Unit {0}) Refusal) (bank' rec' : List ℕ)
    → PutDone bank k rec (outcome_answer r) bank' rec' → PutSays bank k rec r bank'
put_said bank k rec r bank' rec' w = says_by (put_cause (length bank) k (length rec)) r _ _ w.put

pub put_says : (κs : Lifetimes.Lfts 2) (a : World.ArgsD put.signature κs) (r : World.ResD put.signature κs)
    (ws : Clauses.Lasts (Kinds.ended_of 2 put_kinds.ps put_kinds.r) κs a)
    → let s = Clauses.at_exit (Kinds.ended_of 2 put_kinds.ps put_kinds.r) κs a ws in put_reads.Learnt κs a r s
    → PutSays a.0.now a.1.0 a.1.1.0.now r s.0.now
put_says κs a r ws l = put_said _ _ _ r _ _ (put_tied κs a r ws l)

-- ---- get, patrol
adds : (w : List ℕ) (r : Reading) (b x w' : List ℕ) → w' ≡ added w (changed_at (reading_answer r) b x) → Adds w r b x w'
adds w (Ok Clean) b x w' e = e
adds w (Ok (Chips n)) b x w' e = e
adds w (Ok (OneCard j n)) b x w' e = e
adds w (Err (Several j)) b x w' e = e ∙ added_none w
adds w (Err (Refused n)) b x w' e = e ∙ added_none w

pub get_said : (bank : List ℕ) (k : ℕ) (m : Marks) (out w : List ℕ) (r : Reading) (bank' out' w' : List ℕ)
    → GetDone bank k m out w (reading_answer r) bank' out' w' → GetSays bank k m out w r out' w'
get_said bank k m out w r bank' out' w' h = record {
  output = reading_says_by (get_cause (length bank) k m (length out)) r _ _ _ (λ z d. reads_as m (block bank k) out r out' d) h.output;
  window = adds w r (block bank k) out' w' h.window;
}

pub get_says : (κs : Lifetimes.Lfts 3) (a : World.ArgsD get.signature κs) (r : World.ResD get.signature κs)
    (ws : Clauses.Lasts (Kinds.ended_of 3 get_kinds.ps get_kinds.r) κs a)
    → let s = Clauses.at_exit (Kinds.ended_of 3 get_kinds.ps get_kinds.r) κs a ws in get_reads.Learnt κs a r s
    → GetSays a.0.now a.1.0 a.1.1.0 a.1.1.1.0.now a.1.1.1.1.0.now r s.1.1.1.0.now s.1.1.1.1.0.now
get_says κs a r ws l = get_said _ _ _ _ _ r _ _ _ (get_tied κs a r ws l)

pub patrol_said : (bank : List ℕ) (k : ℕ) (m : Marks) (w : List ℕ) (r : Reading) (bank' w' : List ℕ) → PatrolDone bank k m w (reading_answer r) bank' w'
    → PatrolSays bank k m w r bank' w'
patrol_said bank k m w r bank' w' h = record {
  mended = reading_says_by (patrol_cause (length bank) k m) r _ _ _ (λ z d. (d.0, reads_as m (block bank k) (block bank k) r d.0 d.1, d.2)) h.mended;
  window = adds w r (block bank k) (block bank' k) w' h.window;
}

pub patrol_says : (κs : Lifetimes.Lfts 2) (a : World.ArgsD patrol.signature κs) (r : World.ResD patrol.signature κs)
    (s : Clauses.AtExit (Kinds.ended_of 2 patrol_kinds.ps patrol_kinds.r) κs) → patrol_reads.Learnt κs a r s
    → PatrolSays a.0.now a.1.0 a.1.1.0 a.1.1.1.0.now r s.0.now s.1.1.1.0.now
patrol_says κs a r s l = patrol_said _ _ _ _ r _ _ (patrol_tied κs a r s l)

-- ---- report
-- the five totals of an answer, 0 of one that has none
total : ℕ → Answer → ℕ
total i (counted v w x y z) = get_or (v ∷ w ∷ x ∷ y ∷ z ∷ []) i 0
total i done = 0
total i clean = 0
total i (in_chips n) = 0
total i (in_card j n) = 0
total i (refused n) = 0
total i (refused_card n j) = 0

module _ (bank : List ℕ) (m : Marks) where
  counts : (t : Totals) → CountsEach (block bank) (blocks bank) m (counted t.clean t.chips t.card t.none t.several) → Counts bank m t
  unfolding total
  counts t (f, reads, e) = record {
    answers = f;
    reads = reads;
    clean = ap (total 0) e;
    chips = ap (total 1) e;
    card = ap (total 2) e;
    none = ap (total 3) e;
    several = ap (total 4) e;
  }

  by : (n : ℕ) (r : Result Totals Refusal) → report_cause (length bank) m ≡ n
      → By n (report_answer r) (Unit {0}) (CountsEach (block bank) (blocks bank) m (report_answer r)) → ReportSays bank m r
  by zero (Ok t) e d = (e, counts t d)
  by (suc n) (Ok t) e (q, u) = absurd (omega (arith, ap number q))
  by zero (Err r) e (f, reads, q) = absurd (number_given r (ap number q))
  by (suc n) (Err r) e (q, u) = ((λ z. omega (arith, z, e)), ap number q ∙ sym e)

  pub report_said : (r : Result Totals Refusal) (bank' : List ℕ) → ReportDone bank m (report_answer r) bank' → ReportSays bank m r
  report_said r bank' w = by (report_cause (length bank) m) r refl w.answer

pub report_says : (κs : Lifetimes.Lfts 1) (a : World.ArgsD report.signature κs) (r : World.ResD report.signature κs)
    (ws : Clauses.Lasts (Kinds.ended_of 1 report_kinds.ps report_kinds.r) κs a)
    → let s = Clauses.at_exit (Kinds.ended_of 1 report_kinds.ps report_kinds.r) κs a ws in report_reads.Learnt κs a r s
    → ReportSays a.0.now a.1.0 r
report_says κs a r ws l = report_said _ _ r _ (report_tied κs a r ws l)
