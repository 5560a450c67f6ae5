-- What may be said of the table of labels, from outside this crate.
--
--   LabelTable P   P holds of the labels, by all that a caller of `labels` learns
use contract.Lifetimes
use borrow.Fn.Kinds
use borrow.Fn.World
use denote.Triple.Clauses
use mathlib.Core.List.{List}
use Prim.Native.Nat.{ℕ}
use Rattle.code.specs.contracts.labels as labels
use Rattle.code.proofs.labels.Kinds as labels_kinds
use Rattle.code.proofs.labels.Reads as labels_reads

abbrev pub LabelTable : (List ℕ → Type 0) → Type 0
LabelTable P = (κs : Lifetimes.Lfts 0) (a : World.ArgsD labels.signature κs) (r : World.ResD labels.signature κs)
    (s : Clauses.AtExit (Kinds.ended_of 0 labels_kinds.ps labels_kinds.r) κs) → labels_reads.Learnt κs a r s → P r
