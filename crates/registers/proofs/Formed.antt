-- Registers and their twelve bytes stand for each other, before and after every write.
--
--   Formed r       bytes 0 to 7 are eight, and the mark record is that of its bytes
--   formed_back    such registers are those in their bytes
--   formed_in      the registers in any bytes are such; fresh_formed: and fresh ones
--   write_formed   and they stay so
--   write_gives    a write is done, or refused with 12, 13 or 14
use Prim.Native.Nat.{ℕ, zero, suc}
use mathlib.Core.Path.{◌≡◌, refl, sym, ap, ap₂, ◌∙◌, subst}
use mathlib.Core.Bool.{◌&&◌}
use mathlib.Core.List.{List, [], ◌∷◌}
use native.Mathlib.Omega.{arith}
use lib.Dec.{eqb, ltb}
use lib.ListN.{length, length-set}
use Rattle.answer.specs.Answer.{Answer, done, By}
use Rattle.answer.specs.Cause.{cause}
use Rattle.answer.proofs.Gives.{Outcomes, done_gives}
use Rattle.marks.specs.Marks.{bytes, of_bytes, marks_in}
use Rattle.marks.specs.Mark.{mark_cause, MarkDone}
use Rattle.marks.specs.declared.Marks.{Marks}
use Rattle.marks.specs.declared.MarkCall.{MarkCall}
use Rattle.marks.proofs.Laws.{bytes_marks_in, marks_in_bytes, marked_lawful, mark_done, mark_refused}
use Rattle.registers.specs.Registers.{register_bytes, registers_in, cells, fresh_registers}
use Rattle.registers.specs.Write.{command_of, is_unknown, Runs, read_only, write_cause, Writes, WriteDone}
use Rattle.registers.specs.declared.Registers.{Registers}
use Rattle.registers.specs.Write.{Command}
use Rattle.registers.specs.Write.{Get, Patrol, Mark, Unknown}
use Rattle.registers.proofs.Plain.{cells_are}

pub record Formed (r : Registers) : Type 0 where
  pub long : length r.front ≡ 8
  pub marks : marks_in (bytes r.marks) ≡ r.marks

pub formed_back : (r : Registers) → Formed r → registers_in (register_bytes r) ≡ r
unfolding registers_in
formed_back r h = ap₂ (λ (f : List ℕ) (m : Marks). record { front = f; marks = m }) (cells_are 8 0 r.front h.long) h.marks

pub formed_in : (b : List ℕ) → Formed (registers_in b)
unfolding registers_in
formed_in b = record { long = refl; marks = ap marks_in (bytes_marks_in (cells b 8 4) refl) }

pub fresh_formed : Formed fresh_registers
unfolding marks_in of_bytes
fresh_formed = record { long = refl; marks = refl }

-- ---- and they stay so
mark_formed : (m : Marks) (c : MarkCall) (a : Answer) (m' : Marks) → marks_in (bytes m) ≡ m → MarkDone m c a m' → marks_in (bytes m') ≡ m'
mark_formed m c a m' h w = go (mark_cause m c) refl
  where
    go : (n : ℕ) → mark_cause m c ≡ n → marks_in (bytes m') ≡ m'
    go zero e = subst (λ (x : Marks). marks_in (bytes x) ≡ x) (sym (mark_done m c a m' e w).1) (marks_in_bytes _ (marked_lawful m c e))
    go (suc n) e = subst (λ (x : Marks). marks_in (bytes x) ≡ x) (sym (mark_refused m c a m' n e w).1) h

runs_formed : (m : Marks) (c : Command) (bank out win : List ℕ) (a : Answer) (m' : Marks) (bank' out' win' : List ℕ) → marks_in (bytes m) ≡ m
    → Runs m c bank out win a m' bank' out' win' → marks_in (bytes m') ≡ m'
runs_formed m (Get k) bank out win a m' bank' out' win' h (w, e) = rw e h
runs_formed m (Patrol k) bank out win a m' bank' out' win' h (w, e, o) = rw e h
runs_formed m (Mark c) bank out win a m' bank' out' win' h (w, e, o, q) = mark_formed m c a m' h w
runs_formed m Unknown bank out win a m' bank' out' win' h w = absurd w

pub write_formed : (r : Registers) (a v : ℕ) (bank out win : List ℕ) (x : Answer) (r' : Registers) (bank' out' win' : List ℕ) → Formed r
    → WriteDone r a v bank out win x r' bank' out' win' → Formed r'
unfolding WriteDone
write_formed r a v bank out win x r' bank' out' win' h w = by (write_cause r a v) w
  where
    writes : (a : ℕ) → Writes r a v bank out win r' bank' out' win' → Formed r'
    writes zero (b, m, d, e) = rw e (record { long = refl; marks = runs_formed r.marks (command_of r v) bank out win b m bank' out' win' h.marks d })
    writes (suc a) (e, d, o, q) = rw e (record { long = length-set r.front (suc a) _ ∙ h.long; marks = h.marks })

    by : (n : ℕ) → By n x ((r' ≡ r) × (bank' ≡ bank) × (out' ≡ out) × (win' ≡ win)) ((x ≡ done) × Writes r a v bank out win r' bank' out' win') → Formed r'
    by zero (e, d) = writes a d
    by (suc n) (e, (d, p, o, q)) = rw d h

pub write_gives : (r : Registers) (a v : ℕ) (bank out win : List ℕ) (x : Answer) (r' : Registers) (bank' out' win' : List ℕ)
    → WriteDone r a v bank out win x r' bank' out' win'
    → Outcomes (12 ∷ 13 ∷ 14 ∷ []) x
unfolding WriteDone write_cause
write_gives r a v bank out win x r' bank' out' win' w =
    done_gives (cause 12 (ltb 11 a) ∷ cause 13 (read_only a) ∷ cause 14 (eqb a 0 && is_unknown (command_of r v)) ∷ [])
    (omega arith, (omega arith, (omega arith, tt))) x _ _ w
