-- Which answers the calls on a block, and those on marks in bytes, can give, from their contracts.
--
--   store_gives, read_gives, mark_gives
use Prim.Native.Nat.{ℕ}
use mathlib.Core.Bool.{not}
use mathlib.Core.List.{List, [], ◌∷◌}
use native.Mathlib.Omega.{arith}
use lib.Dec.{eqb}
use lib.ListN.{length}
use Rattle.answer.specs.Answer.{Answer}
use Rattle.answer.specs.Cause.{cause}
use Rattle.answer.proofs.Gives.{Outcomes, Readings, done_gives}
use Rattle.marks.specs.Marks.{marks_in}
use Rattle.marks.specs.declared.Marks.{Marks}
use Rattle.marks.specs.declared.MarkCall.{MarkCall}
use Rattle.marks.proofs.Gives.{mark_numbers, mark_gives as record_gives}
use Rattle.reading.proofs.Gives.{read_by}
use Rattle.store.specs.Store.{store_cause, StoreDone}
use Rattle.block.specs.Read.{read_cause, ReadDone}
use Rattle.capi.specs.Exports.{Marked}
use Rattle.capi.proofs.Written.{marked_done}

pub store_gives : (rec out : List ℕ) (a : Answer) (rec' out' : List ℕ) → StoreDone rec out a rec' out' → Outcomes (2 ∷ 3 ∷ []) a
unfolding store_cause
store_gives rec out a rec' out' w =
    done_gives (cause 2 (not (eqb (length out) 45)) ∷ cause 3 (not (eqb (length rec) 34)) ∷ []) (omega arith, (omega arith, tt)) a _ _ w.by_cause

pub read_gives : (b : List ℕ) (m : Marks) (out : List ℕ) (a : Answer) (b' out' : List ℕ) → ReadDone b m out a b' out'
    → Readings (1 ∷ 2 ∷ 6 ∷ 7 ∷ 10 ∷ []) a
unfolding read_cause
read_gives b m out a b' out' w =
    read_by (cause 1 (not (eqb (length b) 45)) ∷ cause 2 (not (eqb (length out) 45)) ∷ []) (omega arith, (omega arith, tt)) m b a _ _
    (λ d. (out, out', d)) w.output

pub mark_gives : (b : List ℕ) (call : MarkCall) (a : Answer) (b' : List ℕ) → Marked b call a b' → Outcomes (mark_numbers call) a
mark_gives b call a b' w = record_gives (marks_in b) call a (marks_in b') (marked_done b call a b' w)
