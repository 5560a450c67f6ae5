-- A call that nothing refuses asks for a position or a card, which fits a byte; a chip to place has room, and one to lift is there.
use Prim.Native.Nat.{ℕ, ◌≤◌}
use mathlib.Core.Path.{◌≡◌, sym, ap, ◌∙◌}
use mathlib.Core.Bool.{true}
use native.Mathlib.Omega.{arith}
use lib.Dec.{ltb}
use mir.Val.{Fits}
use mir.Syntax.{w8}
use borrow.Author.Tests.{ltb-true, not-false}
use Rattle.marks.specs.Mark.{mark_cause}
use Rattle.marks.specs.declared.Marks.{Marks}
use Rattle.marks.specs.declared.MarkCall.{MarkCall}
use Rattle.marks.proofs.Laws.{Can, can}
use Rattle.marks.proofs.calls.after.Goals as goal

-- what holds of the call in one of its cases, d
case : (m : Marks) (c d : MarkCall) → c ≡ d → mark_cause m c ≡ 0 → Can m d
case m c d e h = can m d (sym (ap (mark_cause m) e) ∙ h)

byte : (p n : ℕ) → ltb p n ≡ true → n ≤ 256 → Fits w8 p
byte p n h l = record { fits = omega (arith, ltb-true p n h) }

pub overflow_cast-p : goal.overflow_cast-p
overflow_cast-p c = byte _ 45 (case _ _ _ c.in-PlaceChip.is c.requires).asked (omega arith)

pub overflow_cast-p-in-LiftChip : goal.overflow_cast-p-in-LiftChip
overflow_cast-p-in-LiftChip c = byte _ 45 (case _ _ _ c.in-LiftChip.is c.requires).asked (omega arith)

pub without_chip-requires : goal.without_chip-requires
without_chip-requires c = not-false _ (case _ _ _ c.in-LiftChip.is c.requires).there

pub overflow_cast-result : goal.overflow_cast-result
overflow_cast-result c = byte _ 5 (case _ _ _ c.in-PlaceCard.is c.requires).asked (omega arith)
