-- What every caller of `propose` learns, in plain words: no word of it cites the definition of the answer that it stands for.
--
--   propose_says   THE STATEMENT
use contract.Lifetimes
use borrow.Fn.Kinds
use borrow.Fn.World
use denote.Triple.Clauses
use mathlib.Core.Path.{◌≡◌, refl, sym, ap, ◌∙◌}
use mathlib.Core.List.{List}
use Prim.Native.Nat.{ℕ}
use native.Mathlib.Omega.{arith}
use Rattle.std.specs.declared.option.Option.{Option}
use Rattle.std.specs.declared.result.Result.{Result}
use Rattle.std.specs.Prelude.{None, Some, Ok, Err}
use Rattle.answer.specs.Answer.{refusal_number}
use Rattle.answer.specs.declared.Refusal.{Refusal}
use Rattle.answer.specs.declared.Refusal.TheVariants.{MarkRange, EqualMarks}
use Rattle.answer.proofs.Said.{refusals_apart}
use Rattle.marks.specs.declared.Marks.{Marks}
use Rattle.marks.proofs.Said.{cause_exactly}
use Rattle.window.specs.Window.{Chip, Nothing, Refused, proposal_of, proposal}
use Rattle.window.specs.Plain.{ProposeSays}
use Rattle.window.proofs.Proposed.{proposed_exactly}
use Rattle.window.specs.contracts.propose as propose
use Rattle.window.proofs.propose.Kinds as propose_kinds
use Rattle.window.proofs.propose.Reads as propose_reads

-- ---- what is said is what is returned
said_chip : (r : Result (Option ℕ) Refusal) (p : ℕ) → proposal_of r ≡ Chip p → r ≡ Ok (Some p)
said_chip (Ok (Some q)) p e = ap (λ (x : ℕ). Ok (Some x)) (let s : q ≡ p = cc in s)
said_chip (Ok None) p e = let z : ◌≡◌ {A = ℕ} 0 1 = cc in absurd (omega arith)
said_chip (Err x) p e = let z : ◌≡◌ {A = ℕ} 0 1 = cc in absurd (omega arith)

said_nothing : (r : Result (Option ℕ) Refusal) → proposal_of r ≡ Nothing → r ≡ Ok None
said_nothing (Ok (Some q)) e = let z : ◌≡◌ {A = ℕ} 0 1 = cc in absurd (omega arith)
said_nothing (Ok None) e = refl
said_nothing (Err x) e = let z : ◌≡◌ {A = ℕ} 0 1 = cc in absurd (omega arith)

said_refused : (r : Result (Option ℕ) Refusal) (x : Refusal) → proposal_of r ≡ Refused (refusal_number x) → r ≡ Err x
said_refused (Ok (Some q)) x e = let z : ◌≡◌ {A = ℕ} 0 1 = cc in absurd (omega arith)
said_refused (Ok None) x e = let z : ◌≡◌ {A = ℕ} 0 1 = cc in absurd (omega arith)
said_refused (Err y) x e = ap Err (refusals_apart y x (let s : refusal_number y ≡ refusal_number x = cc in s))

-- ---- the statement
returned : (l : List ℕ) (m : Marks) (r : Result (Option ℕ) Refusal) → proposal_of r ≡ proposal l m → ProposeSays l m r
returned l m r e =
    let is = proposed_exactly l m in
    let n = cause_exactly m in
    record {
      chip = λ p. ((λ z. (is.chip p).0 (sym e ∙ ap proposal_of z)), λ w. said_chip r p (e ∙ (is.chip p).1 w));
      nothing = ((λ z. is.nothing.0 (sym e ∙ ap proposal_of z)), λ w. said_nothing r (e ∙ is.nothing.1 w));
      outside = (
        (λ z. n.outside.0 (sym ((is.refused 6).0 (sym e ∙ ap proposal_of z)).0)),
        λ w. said_refused r MarkRange (e ∙ (is.refused 6).1 (sym (n.outside.1 w), λ z. omega (arith, z))),
      );
      equal = (
        (λ z. n.equal.0 (sym ((is.refused 7).0 (sym e ∙ ap proposal_of z)).0)),
        λ w. said_refused r EqualMarks (e ∙ (is.refused 7).1 (sym (n.equal.1 w), λ z. omega (arith, z))),
      );
    }

pub propose_says : (κs : Lifetimes.Lfts 1) (a : World.ArgsD propose.signature κs) (r : World.ResD propose.signature κs)
    (ws : Clauses.Lasts (Kinds.ended_of 1 propose_kinds.ps propose_kinds.r) κs a)
    → let s = Clauses.at_exit (Kinds.ended_of 1 propose_kinds.ps propose_kinds.r) κs a ws in propose_reads.Learnt κs a r s
    → ProposeSays a.0.now a.1.0 r
propose_says κs a r ws l = returned a.0.now a.1.0 r l.proposed
