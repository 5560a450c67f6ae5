-- A chip marked by a call, by another call, and by a command.
--
--   first_mark   the first call; wrote: a register that is written by no command
--   two_of_us    THE STATEMENT
use Prim.Native.Nat.{ℕ, suc, ◌<◌}
use mathlib.Core.Path.{◌≡◌, refl, sym, ap, ◌∙◌, subst}
use mathlib.Core.Logic.{inl, inr}
use mathlib.Core.List.{List, [], ◌∷◌}
use native.Mathlib.Omega.{arith}
use Rattle.base.proofs.Few.{few_one}
use Rattle.answer.specs.Answer.{done}
use Rattle.answer.proofs.Causes.{by_accepted}
use Rattle.marks.specs.Marks.{fresh_marks}
use Rattle.marks.specs.Mark.{of_chips, marked}
use Rattle.std.specs.Prelude.{None}
use Rattle.marks.specs.declared.MarkCall.TheVariants.{PlaceChip}
use Rattle.marks.proofs.Few.{few_lawful}
use Rattle.marks.proofs.Laws.{mark_done}
use Rattle.marks.proofs.Plain.{mark_accepted}
use Rattle.window.specs.Window.{fresh_window}
use Rattle.registers.specs.Registers.{register, fresh_registers}
use Rattle.registers.specs.Write.{command_of, stored, write_cause, WriteDone}
use Rattle.registers.specs.declared.Registers.{Registers}
use Rattle.registers.specs.Write.{Mark}
use Rattle.registers.proofs.Writes.{plain_0}
use Rattle.book.specs.Book.{mark, write, State, says, Seen, state, seen, rest_of, in_force, fresh_state, CallDone, EntryDone, Ran}
use Rattle.book.specs.Again.{TwoOfUs}
use Rattle.book.proofs.OneHit.{fresh_lawful}
use Rattle.book.proofs.Again.{Lawful, same_call, same_write}

wrote : (σ : State) (a v : ℕ) (out : List ℕ) (s : Seen) → write_cause σ.rest.registers (suc a) v ≡ 0 → EntryDone σ (write (suc a) v out) s
    → s ≡ seen (says done) out (state σ.bank (rest_of (stored σ.rest.registers (suc a) v)) σ.window)
unfolding WriteDone
wrote σ a v out s z (x, r', bank', out', win', w, e) =
    let d = by_accepted (write_cause σ.rest.registers (suc a) v) x _ _ z w in
    rw (d.0, d.1.0, d.1.1, d.1.2, d.1.3) at e

module _ (n p : ℕ) (h : p < 45) where
  abbrev one_chip : Registers
  one_chip = record { front = fresh_registers.front; marks = of_chips None (p ∷ []) }

  -- the bank and the window are as at the start
  abbrev with : Registers → State
  with r = state (fresh_state n).bank (rest_of r) fresh_window

  first_mark : (s : Seen) → CallDone (fresh_state n) (mark (PlaceChip p)) s → s ≡ seen (says done) [] (with one_chip)
  unfolding marked
  first_mark s (a, m', w, e) =
      let z = (mark_accepted fresh_marks (PlaceChip p)).1 (fresh_lawful, (h, inr (omega arith))) in
      let d = mark_done fresh_marks (PlaceChip p) a m' z w in
      rw (d.0, d.1) at e

  lawful : Lawful (with one_chip)
  lawful = few_lawful None (p ∷ []) tt (few_one p h)

  asked : command_of (stored one_chip 3 p) 3 ≡ Mark (PlaceChip p)
  unfolding command_of
  asked = refl

pub two_of_us : TwoOfUs
two_of_us n p h lent out s t u v (Ran.then d₁ (Ran.then d₂ (Ran.then d₃ (Ran.then d₄ Ran.end)))) =
    let r = one_chip n p h in
    let e₁ = first_mark n p h s d₁ in
    let e₂ = same_call (with n p h r) (PlaceChip p) t (lawful n p h) (inl refl)
    (subst (λ (x : Seen). CallDone x.after (mark (PlaceChip p)) t) e₁ d₂) in
    let e₃ = wrote (with n p h r) 2 p lent u (plain_0 r p 3 (λ z. omega arith) (omega arith) (λ z. omega arith) (λ z. omega arith))
    (subst (λ (x : Seen). EntryDone x.after (write 3 p lent) u) e₂ d₃) in
    let e₄ = same_write (with n p h (stored r 3 p)) (PlaceChip p) 3 out v (lawful n p h) (inl refl) (asked n p h)
    (subst (λ (x : Seen). EntryDone x.after (write 0 3 out) v) e₃ d₄) in (
      ap (λ (x : Seen). x.said) e₁,
      ap (λ (x : Seen). in_force x.after.rest) e₁,
      e₂ ∙ ap (λ (x : Seen). seen (says done) [] x.after) (sym e₁),
      ap (λ (x : Seen). x.said) e₄,
      ap (λ (x : Seen). register x.after.rest.registers 4) e₄,
      ap (λ (x : Seen). in_force x.after.rest) e₄,
      inl (d₁, ap (λ (x : Seen). x.said) e₁),
      inr (
        3,
        out,
        ap (λ (x : Seen). command_of x.after.rest.registers 3) e₃ ∙ asked n p h,
        d₄,
        ap (λ (x : Seen). register x.after.rest.registers 4) e₄,
      ),
    )
