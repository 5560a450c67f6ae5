-- What may be said of the table of a slip's limits, from outside this crate.
--
--   LimitTable P   P holds of every map and what `behind` gives of it, by all that its caller learns
--   limit_table    it is the limits of that map, and they are it
use contract.Lifetimes
use borrow.Fn.Kinds
use borrow.Fn.World
use denote.Triple.Clauses
use Prim.Native.Nat.{ℕ}
use mathlib.Core.Path.{◌≡◌, ap, ◌∙◌}
use Rattle.std.specs.declared.option.Option.{Option}
use Rattle.slip.specs.declared.limits.Allowed.{Allowed}
use Rattle.slip.specs.Limits.{limits_of, limits_said, allowed_of}
use Rattle.slip.proofs.Judging.{limits_back}
use Rattle.slip.specs.contracts.limits.behind as behind
use Rattle.slip.proofs.limits.behind.Kinds as behind_kinds
use Rattle.slip.proofs.limits.behind.Reads as behind_reads

abbrev pub LimitTable : (ℕ → Option Allowed → Type 0) → Type 0
LimitTable P = (κs : Lifetimes.Lfts 0) (a : World.ArgsD behind.signature κs) (r : World.ResD behind.signature κs)
    (s : Clauses.AtExit (Kinds.ended_of 0 behind_kinds.ps behind_kinds.r) κs) → behind_reads.Learnt κs a r s → P a.0 r

pub limit_table : LimitTable (λ map table. (table ≡ allowed_of map) × (limits_said table ≡ limits_of map))
limit_table κs a r s l = (l, ap limits_said l ∙ limits_back a.0)
