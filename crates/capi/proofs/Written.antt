-- The bytes after placing or lifting a mark, and after a register write, as the code leaves them.
--
--   refusal_coded   the code of a refusal is not 0
--   accepted    a code of 0 is given only where nothing is refused
--   four        then the bytes were four
--   whole_says  the bytes of the new record, copied over them; left_says: on a refusal nothing is written
--   marked_done what is said of the bytes is what the library says of the record in them
--   write_back, write_left    a register write: the bytes of the registers after it; on a refusal nothing is written
--   write_done  what is said of the twelve bytes is what the library says of the registers in them
use Prim.Native.Nat.{ℕ, zero, suc}
use mathlib.Core.Logic.{◌≢◌, by_cases}
use mathlib.Core.Path.{◌≡◌, refl, sym, ap, ◌∙◌, subst}
use mathlib.Core.List.{List}
use native.Mathlib.Decide.{ℕ_discrete}
use native.Mathlib.Omega.{arith}
use lib.ListN.{length}
use Rattle.answer.specs.Answer.{Answer, done, refused, By, refusal_number}
use Rattle.answer.specs.declared.Refusal.{Refusal}
use Rattle.answer.proofs.Causes.{by_done, by_map, number_given}
use Rattle.marks.specs.Marks.{bytes, marks_in}
use Rattle.marks.specs.Mark.{marked, mark_cause, MarkDone}
use Rattle.marks.specs.declared.Marks.{Marks}
use Rattle.marks.specs.declared.MarkCall.{MarkCall}
use Rattle.marks.proofs.Laws.{lawful_cause, marks_in_bytes, marks_in_other, can, mark_done, marked_lawful}
use Rattle.registers.specs.Registers.{register_bytes, registers_in}
use Rattle.registers.specs.Write.{write_cause, WriteDone}
use Rattle.registers.specs.declared.Registers.{Registers}
use Rattle.registers.proofs.Formed.{Formed, formed_back, formed_in, write_formed}
use Rattle.capi.specs.Codes.{code}
use Rattle.capi.specs.Exports.{Marked, RegisterWritten}

pub refusal_coded : (e : Refusal) → code (refused (refusal_number e)) ≢ 0
refusal_coded e z = number_given e (omega (arith, z))

pub accepted : (n : ℕ) (a : Answer) (U D : Type 0) → By n a U D → code a ≡ 0 → n ≡ 0
accepted zero a U D w e = refl
accepted (suc n) a U D w e = absurd (omega (arith, e, ap code w.0))

-- a call on the record in the bytes b: it answers a, of which c is the code, and m' is the record after it
module _ (b : List ℕ) (call : MarkCall) (m : Marks) (a : Answer) (m' : Marks) (c : ℕ)
    (in_bytes : m ≡ marks_in b) (said : MarkDone m call a m') (coded : c ≡ code a) where
  on_bytes : MarkDone (marks_in b) call a m'
  on_bytes = subst (λ (x : Marks). MarkDone x call a m') in_bytes said

  no_cause : c ≡ 0 → mark_cause (marks_in b) call ≡ 0
  unfolding MarkDone
  no_cause z = accepted (mark_cause (marks_in b) call) a _ _ on_bytes (sym coded ∙ z)

  pub four : c ≡ 0 → length b ≡ 4
  four z = by_cases (ℕ_discrete (length b) 4) (λ e. e)
      (λ n. absurd (omega (arith, marks_in_other b n, lawful_cause (marks_in b) (can (marks_in b) call (no_cause z)).lawful)))

  pub whole_says : c ≡ 0 → (new b' : List ℕ) → new ≡ bytes m' → b' ≡ new → Marked b call a b'
  whole_says z new b' h w = by_done _ a _ _ (no_cause z) (d.0, w ∙ h ∙ ap bytes d.1)
    where
      d : (a ≡ done) × (m' ≡ marked (marks_in b) call)
      d = mark_done (marks_in b) call a m' (no_cause z) on_bytes

  pub left_says : c ≢ 0 → Marked b call a b
  unfolding MarkDone
  left_says ne =
      by_map (mark_cause (marks_in b) call) a (m' ≡ marks_in b) ((a ≡ done) × (m' ≡ marked (marks_in b) call)) (b ≡ b) _ (λ u. refl)
      (λ z d. absurd (ne (coded ∙ ap code d.0))) on_bytes

pub marked_done : (b : List ℕ) (call : MarkCall) (a : Answer) (b' : List ℕ) → Marked b call a b' → MarkDone (marks_in b) call a (marks_in b')
unfolding MarkDone
marked_done b call a b' w = by_map (mark_cause (marks_in b) call) a (b' ≡ b) ((a ≡ done) × (b' ≡ bytes (marked (marks_in b) call))) _ _ (λ u. ap marks_in u)
    (λ z d. (d.0, ap marks_in d.1 ∙ marks_in_bytes (marked (marks_in b) call) (marked_lawful (marks_in b) call z))) w

-- ---- registers
-- a write on the registers r in the bytes b: it answers x, of which c is the code, and r' are the registers after it
module _ (b : List ℕ) (a v : ℕ) (bank out win : List ℕ) (r : Registers) (x : Answer) (r' : Registers) (bank' out' win' : List ℕ) (c : ℕ)
    (in_bytes : r ≡ registers_in b) (said : WriteDone r a v bank out win x r' bank' out' win') (coded : c ≡ code x) where
  on_registers : WriteDone (registers_in b) a v bank out win x r' bank' out' win'
  on_registers = subst (λ (s : Registers). WriteDone s a v bank out win x r' bank' out' win') in_bytes said

  pub write_back : c ≡ 0 → (b' : List ℕ) → b' ≡ register_bytes r' → RegisterWritten b a v bank out win x b' bank' out' win'
  unfolding WriteDone
  write_back z b' e =
      (r', on_registers, by_done _ x _ _ (accepted (write_cause (registers_in b) a v) x _ _ on_registers (sym coded ∙ z)) e)

  pub write_left : c ≢ 0 → RegisterWritten b a v bank out win x b bank' out' win'
  unfolding WriteDone
  write_left ne =
      (r', on_registers, by_map (write_cause (registers_in b) a v) x _ _ (b ≡ b) _ (λ u. refl) (λ z d. absurd (ne (coded ∙ ap code d.0))) on_registers)

-- the registers after it are those in the bytes after it
pub write_done : (b : List ℕ) (a v : ℕ) (bank out win : List ℕ) (x : Answer) (b' bank' out' win' : List ℕ)
    → RegisterWritten b a v bank out win x b' bank' out' win'
    → WriteDone (registers_in b) a v bank out win x (registers_in b') bank' out' win'
unfolding WriteDone
write_done b a v bank out win x b' bank' out' win' (r', w, h) =
    subst (λ (s : Registers). WriteDone (registers_in b) a v bank out win x s bank' out' win') (sym same) w
  where
    formed : Formed r'
    formed = write_formed (registers_in b) a v bank out win x r' bank' out' win' (formed_in b) w

    by : (n : ℕ) (D : Type 0) → By n x ((r' ≡ registers_in b) × (bank' ≡ bank) × (out' ≡ out) × (win' ≡ win)) D → By n x (b' ≡ b) (b' ≡ register_bytes r')
        → registers_in b' ≡ r'
    by zero D d e = ap registers_in e ∙ formed_back r' formed
    by (suc n) D (q, (e, u, o, i)) (p, f) = ap registers_in f ∙ sym e

    same : registers_in b' ≡ r'
    same = by (write_cause (registers_in b) a v) _ w h
