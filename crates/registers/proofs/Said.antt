-- What every caller of a write and of a read learns, in plain words: neither statement cites the definition of the answer that it stands for.
--
--   write_says   done exactly where nothing refuses the write, else the refusal that has its number, and nothing is changed
--   read_says    the byte, or the one refusal, each exactly when
use contract.Lifetimes
use borrow.Fn.Kinds
use borrow.Fn.World
use denote.Triple.Clauses
use mathlib.Core.Path.{◌≡◌, sym, ap, ◌∙◌}
use mathlib.Core.Logic.{◌⊎◌, inl, inr}
use Prim.Native.Nat.{ℕ, ◌<◌, ◌≤◌}
use native.Mathlib.Omega.{arith}
use lib.ListN.{get_or}
use Rattle.std.proofs.lemmas.Bool.{cases_lt}
use Rattle.std.specs.Prelude.{Ok, Err}
use Rattle.std.specs.declared.result.Result.{Result}
use Rattle.answer.specs.Answer.{refusal_number}
use Rattle.answer.specs.Said.{Says}
use Rattle.answer.specs.declared.Refusal.{Refusal}
use Rattle.answer.specs.declared.Refusal.TheVariants.{RegisterAddress}
use Rattle.answer.proofs.Said.{refusals_apart, says_by}
use Rattle.registers.specs.Registers.{register_bytes}
use Rattle.registers.specs.Write.{write_cause, Writes, WriteDone, Byte, Refused, value_said, read_value}
use Rattle.registers.specs.Plain.{ReadNumbers, ReadSays}
use Rattle.registers.specs.declared.Registers.{Registers}
use Rattle.registers.proofs.Plain.{read_numbers}
use Rattle.registers.specs.contracts.write as write
use Rattle.registers.proofs.write.Kinds as write_kinds
use Rattle.registers.proofs.write.Reads as write_reads
use Rattle.registers.specs.contracts.read as read
use Rattle.registers.proofs.read.Kinds as read_kinds
use Rattle.registers.proofs.read.Reads as read_reads

pub write_says : (κs : Lifetimes.Lfts 4) (a : World.ArgsD write.signature κs) (r : World.ResD write.signature κs)
    (s : Clauses.AtExit (Kinds.ended_of 4 write_kinds.ps write_kinds.r) κs) → write_reads.Learnt κs a r s
    → Says (write_cause a.0.now a.1.0 a.1.1.0)
    ((s.0.now ≡ a.0.now) × (s.1.1.1.0.now ≡ a.1.1.1.0.now) × (s.1.1.1.1.0.now ≡ a.1.1.1.1.0.now) × (s.1.1.1.1.1.0.now ≡ a.1.1.1.1.1.0.now))
    (Writes a.0.now a.1.0 a.1.1.0 a.1.1.1.0.now a.1.1.1.1.0.now a.1.1.1.1.1.0.now s.0.now s.1.1.1.0.now s.1.1.1.1.0.now s.1.1.1.1.1.0.now) r
unfolding WriteDone
write_says κs a r s l = says_by _ _ _ _ l

-- ---- a read
-- a value that is said is the one that is returned
said_byte : (x : Result ℕ Refusal) (b : ℕ) → value_said x ≡ Byte b → x ≡ Ok b
said_byte (Ok c) b e = ap Ok (let q : c ≡ b = cc in q)
said_byte (Err r) b e = let z : ◌≡◌ {A = ℕ} 0 1 = cc in absurd (omega arith)

said_refused : (x : Result ℕ Refusal) (r : Refusal) → value_said x ≡ Refused (refusal_number r) → x ≡ Err r
said_refused (Ok c) r e = let z : ◌≡◌ {A = ℕ} 0 1 = cc in absurd (omega arith)
said_refused (Err d) r e = ap Err (refusals_apart d r (let q : refusal_number d ≡ refusal_number r = cc in q))

read_exactly : (r : Registers) (a : ℕ) (x : Result ℕ Refusal) → value_said x ≡ read_value r a → ReadSays r a x
read_exactly r a x e = by (cases_lt 11 a)
  where
    n : ReadNumbers r a
    n = read_numbers r a

    by : (11 < a) ⊎ (a ≤ 11) → ReadSays r a x
    by (inl h) =
        let is : x ≡ Err RegisterAddress = said_refused x RegisterAddress (e ∙ n.twelve.1 h) in
        record {
          byte = λ b. ((λ z. let q : ◌≡◌ {A = ℕ} 0 1 = cc in absurd (omega arith)), λ w. absurd (omega (arith, w.0)));
          address = ((λ z. h), λ w. is);
        }
    by (inr h) =
        let is : x ≡ Ok (get_or (register_bytes r) a 0) = said_byte x _ (e ∙ n.byte h) in
        record {
          byte = λ b. ((λ z. (h, let q : b ≡ get_or (register_bytes r) a 0 = cc in q)), λ w. is ∙ ap Ok (sym w.1));
          address = ((λ z. n.twelve.0 (sym e ∙ ap value_said z)), λ w. absurd (omega arith));
        }

pub read_says : (κs : Lifetimes.Lfts 0) (a : World.ArgsD read.signature κs) (r : World.ResD read.signature κs)
    (s : Clauses.AtExit (Kinds.ended_of 0 read_kinds.ps read_kinds.r) κs) → read_reads.Learnt κs a r s → ReadSays a.0 a.1.0 r
read_says κs a r s l = read_exactly a.0 a.1.0 r l
