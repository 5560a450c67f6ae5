-- Each command is what its call says; what the call's answer is told by fits the registers.
use mathlib.Core.Path.{◌≡◌, refl, sym, ap, ◌∙◌}
use native.Mathlib.Omega.{arith}
use Rattle.std.specs.Prelude.{Some}
use Rattle.answer.specs.Answer.{done, outcome_answer}
use Rattle.reading.specs.Reading.{reading_answer}
use Rattle.registers.specs.Write.{Command, command_said, after_command, Get, Patrol, Mark}
use Rattle.registers.specs.declared.Command.{Command as Asked}
use Rattle.registers.specs.declared.Command.TheVariants.{Get as AskedGet, Patrol as AskedPatrol, Mark as AskedMark}
use Rattle.registers.specs.declared.Registers.{Registers}
use Rattle.registers.proofs.Commands.{get_fits, patrol_fits}
use Rattle.registers.proofs.Writes.{write_refused, command_done, unknown_14}
use Rattle.registers.proofs.run.Goals as goal
use Rattle.registers.proofs.run.Goals.{in-Get, in-Patrol, in-Mark}

pub of_reading-told-requires : goal.of_reading-told-requires
of_reading-told-requires c = get_fits _ _ _ _ _ _ _ _ _ c.get.ensures

pub of_reading-told-requires-in-Patrol : goal.of_reading-told-requires-in-Patrol
of_reading-told-requires-in-Patrol c = patrol_fits _ _ _ _ _ _ _ c.patrol.ensures

-- the command that the number asks for, as the code found it
asked : (d : Command) (x y : Asked) → command_said (Some x) ≡ d → x ≡ y → command_said (Some y) ≡ d
asked d x y e q = sym (ap (λ (z : Asked). command_said (Some z)) q) ∙ e

pub returns : goal.returns
returns c =
    let r = c.args.r.now in
    let v = c.args.v in
    let bank = c.args.bank.now in
    let out = c.args.out.now in
    let win = c.args.window.now in
    let t = c.match-command.told in
    elim c.match-command.branch [
      | in-Get w ↦ rw (w.bank-is, w.out-is, w.window-is) (command_done r v bank out win (Get w.in-Get.k)
          (asked _ _ (AskedGet w.in-Get.k) c.in-Some.ensures w.in-Get.is)
          (reading_answer w.get.result) r.marks bank w.get.new.out w.get.new.w (w.get.ensures, refl) t (w.told-is ∙ w.of_reading-told.ensures)
          _ (c.after.ensures ∙ ap (λ (x : Registers). after_command x v t x.marks) w.r-is) done refl _ refl)
      | in-Patrol w ↦ rw (w.bank-is, w.out-is, w.window-is) (command_done r v bank out win (Patrol w.in-Patrol.k)
          (asked _ _ (AskedPatrol w.in-Patrol.k) c.in-Some.ensures w.in-Patrol.is)
          (reading_answer w.patrol.result) r.marks w.patrol.new.bank out w.patrol.new.w (w.patrol.ensures, refl, refl) t
          (w.told-is ∙ w.of_reading-told-in-Patrol.ensures)
          _ (c.after.ensures ∙ ap (λ (x : Registers). after_command x v t x.marks) w.r-is) done refl _ refl)
      | in-Mark w ↦ rw (w.bank-is, w.out-is, w.window-is) (command_done r v bank out win (Mark w.in-Mark.c)
          (asked _ _ (AskedMark w.in-Mark.c) c.in-Some.ensures w.in-Mark.is)
          (outcome_answer w.mark.result) w.mark.new.m bank out win (w.mark.ensures, refl, refl, refl) t (w.told-is ∙ w.of_outcome-told.ensures)
          _ (c.after.ensures ∙ ap (λ (x : Registers). after_command x v t x.marks) w.r-is) done refl _ refl)
    ]

pub returns-in_default : goal.returns-in_default
returns-in_default c = write_refused _ _ _ _ _ 0 14 _ _ refl refl (unknown_14 _ _ (sym c.in_default.ensures)) (λ z. omega arith)
