-- What may be said of the shifts that give bytes 34 and 35, from outside this crate.
--
--   FactorShifts P   P holds of two label sums and what `solve` gives for them, by all that a caller of it learns
use contract.Lifetimes
use borrow.Fn.Kinds
use borrow.Fn.World
use denote.Triple.Clauses
use Prim.Native.Nat.{ℕ}
use Rattle.store.specs.contracts.solve as solve
use Rattle.store.proofs.solve.Kinds as solve_kinds
use Rattle.store.proofs.solve.Reads as solve_reads

abbrev pub FactorShifts : (ℕ → ℕ → ℕ → Type 0) → Type 0
FactorShifts P = (κs : Lifetimes.Lfts 0) (a : World.ArgsD solve.signature κs) (r : World.ResD solve.signature κs)
    (s : Clauses.AtExit (Kinds.ended_of 0 solve_kinds.ps solve_kinds.r) κs) → solve_reads.Learnt κs a r s → P a.0 a.1.0 r
