-- A write by its address: the number of its refusal, and the contract, from what the code did.
--
--   above_11, read_13, plain_0, unknown_14, command_0, known_0   the number, by the address and the command
--   write_refused, write_stored, command_done           the contract
use Prim.Native.Nat.{ℕ, zero, suc, ◌≤◌, ◌<◌}
use mathlib.Core.Path.{◌≡◌, refl, sym, ap, ◌∙◌, subst}
use mathlib.Core.Logic.{◌≢◌, ◌⊎◌, inl, inr}
use mathlib.Core.Bool.{Bool, true, false, ◌&&◌}
use mathlib.Core.List.{List, [], ◌∷◌}
use native.Mathlib.Omega.{arith}
use lib.Dec.{eqb}
use lib.ListN.{set}
use borrow.Author.Tests.{eq-eqb, ne_eqb, lt-ltb, le-ltb, le-leb, lt-leb}
use Rattle.std.proofs.lemmas.Bool.{cases_eq}
use Rattle.base.specs.Base.{if}
use Rattle.answer.specs.Answer.{Answer, done, refused}
use Rattle.answer.specs.Cause.{cause}
use Rattle.answer.proofs.Causes.{first_holds, by_refused, by_done}
use Rattle.marks.specs.declared.Marks.{Marks}
use Rattle.registers.specs.Registers.{register, without_bits}
use Rattle.registers.specs.Write.{command_of, is_unknown, Runs, told_by, after_command, read_only, write_cause, WriteDone}
use Rattle.registers.specs.declared.Registers.{Registers}
use Rattle.registers.specs.Write.{Command}
use Rattle.registers.specs.Write.{Unknown}
use Rattle.registers.specs.declared.answers.Told.{Told}
use Rattle.registers.proofs.Commands.{known}

-- ---- the number
read_only_is : (a : ℕ) → 4 ≤ a → a < 12 → a ≢ 6 → a ≢ 7 → read_only a ≡ true
read_only_is a lo hi n m = go (cases_eq a 4) (cases_eq a 5)
  where
    go : (a ≡ 4) ⊎ (a ≢ 4) → (a ≡ 5) ⊎ (a ≢ 5) → read_only a ≡ true
    go (inl e) s = simp (eq-eqb a 4 e)
    go (inr e) (inl f) = simp (ne_eqb a 4 e, eq-eqb a 5 f)
    go (inr e) (inr f) = simp (ne_eqb a 4 e, ne_eqb a 5 f, le-leb 8 a (omega arith), le-leb a 11 (omega arith))

-- an address of 1 to 3, or 6: neither of byte 0 nor of those that are read alone or cleared
pub record OneRegister (a : ℕ) : Type 0 where
  pub command : a ≢ 0
  pub below : a < 8
  pub answer : a ≢ 4
  pub detail : a ≢ 5
  pub pending : a ≢ 7

pub six : {a : ℕ} → a ≡ 6 → OneRegister a
six e = record { command = λ z. omega arith; below = omega arith; answer = λ z. omega arith; detail = λ z. omega arith; pending = λ z. omega arith }

pub low : {a : ℕ} → a ≢ 0 → a < 4 → OneRegister a
low n h = record { command = n; below = omega arith; answer = λ z. omega arith; detail = λ z. omega arith; pending = λ z. omega arith }

module _ (r : Registers) (v : ℕ) where
  pub above_11 : (a : ℕ) → 12 ≤ a → write_cause r a v ≡ 12
  unfolding write_cause
  above_11 a h = rw (lt-ltb 11 a (omega arith)) (first_holds 12 (cause 13 (read_only a) ∷ cause 14 (eqb a 0 && is_unknown (command_of r v)) ∷ []) tt)

  pub read_13 : (a : ℕ) → 4 ≤ a → a < 12 → a ≢ 6 → a ≢ 7 → write_cause r a v ≡ 13
  unfolding write_cause
  read_13 a lo hi n m =
      rw (le-ltb 11 a (omega arith), read_only_is a lo hi n m) (first_holds 13 (cause 14 (eqb a 0 && is_unknown (command_of r v)) ∷ []) tt)

  pub plain_0 : (a : ℕ) → a ≢ 0 → a < 8 → a ≢ 4 → a ≢ 5 → write_cause r a v ≡ 0
  unfolding write_cause
  plain_0 a z h n m = simp (le-ltb 11 a (omega arith), ne_eqb a 4 n, ne_eqb a 5 m, lt-leb 8 a h, ne_eqb a 0 z)

  pub unknown_14 : command_of r v ≡ Unknown → write_cause r 0 v ≡ 14
  unfolding write_cause
  unknown_14 e = simp e

  pub command_0 : is_unknown (command_of r v) ≡ false → write_cause r 0 v ≡ 0
  unfolding write_cause
  command_0 e = simp e

  pub known_0 : (c : Command) → command_of r v ≡ c → is_unknown c ≡ false → write_cause r 0 v ≡ 0
  known_0 c e h = command_0 (ap is_unknown e ∙ h)

  -- ---- the contract
  module _ (bank out win : List ℕ) where
    pub write_refused : (a n : ℕ) (ans : Answer) (r' : Registers) → ans ≡ refused n → r' ≡ r → write_cause r a v ≡ n → n ≢ 0
        → WriteDone r a v bank out win ans r' bank out win
    unfolding WriteDone
    write_refused a n ans r' e q c z = rw (e, q) (by_refused (write_cause r a v) n _ _ c z (refl, refl, refl, refl))

    pub write_stored : (a x : ℕ) (ans : Answer) (r' : Registers) → ans ≡ done → r' ≡ record { front = set r.front a x; marks = r.marks }
        → x ≡ if (eqb a 7) (without_bits (register r 7) v) v → write_cause r a v ≡ 0 → a ≢ 0 → WriteDone r a v bank out win ans r' bank out win
    unfolding WriteDone
    write_stored zero x ans r' e q s c z = absurd (z refl)
    write_stored (suc a) x ans r' e q s c z = by_done (write_cause r (suc a) v) ans _ _ c
        (e, (q ∙ ap (λ (y : ℕ). record { front = set r.front (suc a) y; marks = r.marks }) s, refl, refl, refl))

    pub write_plain : (a : ℕ) (ans : Answer) (r' : Registers) → ans ≡ done → r' ≡ record { front = set r.front a v; marks = r.marks } → OneRegister a
        → WriteDone r a v bank out win ans r' bank out win
    write_plain a ans r' e q p =
        write_stored a v ans r' e q (sym (ap (λ (t : Bool). if t (without_bits (register r 7) v) v) (ne_eqb a 7 p.pending)))
        (plain_0 a p.command p.below p.answer p.detail) p.command

    pub write_cleared : (x : ℕ) (ans : Answer) (r' : Registers) → ans ≡ done → r' ≡ record { front = set r.front 7 x; marks = r.marks }
        → x ≡ without_bits (register r 7) v → WriteDone r 7 v bank out win ans r' bank out win
    write_cleared x ans r' e q s =
        write_stored 7 x ans r' e q s (plain_0 7 (λ z. omega arith) (omega arith) (λ z. omega arith) (λ z. omega arith)) (λ z. omega arith)

    pub command_done : (c : Command) → c ≡ command_of r v → (a : Answer) (m' : Marks) (bank' out' win' : List ℕ)
        → Runs r.marks c bank out win a m' bank' out' win'
        → (t : Told) → t ≡ told_by a → (s : Registers) → s ≡ after_command r v t m' → (ans : Answer) → ans ≡ done → (r' : Registers) → r' ≡ s
        → WriteDone r 0 v bank out win ans r' bank' out' win'
    unfolding WriteDone
    command_done c e a m' bank' out' win' w t q s f ans g r' h =
        let u = subst (λ (d : Command). Runs r.marks d bank out win a m' bank' out' win') e w in
        by_done (write_cause r 0 v) ans _ _ (command_0 (known r.marks (command_of r v) bank out win a m' bank' out' win' u))
        (g, (a, m', u, h ∙ f ∙ ap (λ (x : Told). after_command r v x m') q))
