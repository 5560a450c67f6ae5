-- What may be said of the table of inverses, from outside this crate.
--
--   InverseTable P   P holds of every number asked for and its word, by all that a caller of `inverses_from` learns
use contract.Lifetimes
use borrow.Fn.Kinds
use borrow.Fn.World
use denote.Triple.Clauses
use Prim.Native.Nat.{ℕ}
use Rattle.field.specs.contracts.table.inverses_from as inverses_from
use Rattle.field.proofs.table.inverses_from.Kinds as inverses_from_kinds
use Rattle.field.proofs.table.inverses_from.Reads as inverses_from_reads

abbrev pub InverseTable : (ℕ → ℕ → Type 0) → Type 0
InverseTable P = (κs : Lifetimes.Lfts 0) (a : World.ArgsD inverses_from.signature κs) (r : World.ResD inverses_from.signature κs)
    (s : Clauses.AtExit (Kinds.ended_of 0 inverses_from_kinds.ps inverses_from_kinds.r) κs) → inverses_from_reads.Learnt κs a r s → P a.0 r
