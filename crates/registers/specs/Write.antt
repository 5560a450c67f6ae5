-- The write call and the read call. Document 02, order 1.
--
--   Command, command_said   what a command asks of the library, and as the code says it
--   command_of r v     what the number of a command asks of the library, by the bytes in the registers
--   Runs               what the library's own call says
--   answer_byte, detail_byte   bytes 4 and 5 for an answer; pending_bit: the bit of byte 7; told_by: the three together
--   ran r v a m        the registers after a command that answered a, m being the marks after it
--   write_cause        the number of a refused write: 12, 13 or 14
--   WriteDone          the contract of write; CommandDone: of byte 0
--   Value, value_said   a byte, or the number of a refusal, and as the code says it
--   read_value         what the read call finds
use Rattle.std.specs.Prelude.{ℕ, zero, suc, ◌+◌, ◌*◌, ◌<◌, ◌≡◌, Bool, true, false, ◌&&◌, ◌||◌, List, [], ◌∷◌, eqb, ltb, leb, get_or, set}
use Rattle.base.specs.Base.{if}
use Rattle.answer.specs.Answer.{Answer, done, clean, in_chips, in_card, counted, refused, refused_card, number, By, refusal_number}
use Rattle.answer.specs.Cause.{cause, lowest}
use Rattle.marks.specs.Mark.{MarkDone}
use Rattle.marks.specs.declared.Marks.{Marks}
use Rattle.std.specs.declared.option.Option.{Option}
use Rattle.std.specs.declared.result.Result.{Result}
use Rattle.std.specs.Prelude.{None, Some, Ok, Err}
use Rattle.answer.specs.declared.Refusal.{Refusal}
use Rattle.marks.specs.declared.MarkCall.{MarkCall}
use Rattle.marks.specs.declared.MarkCall.TheVariants.{PlaceChip, LiftChip, PlaceCard, LiftCard}
use Rattle.bank.specs.Calls.{GetDone, PatrolDone}
use Rattle.registers.specs.Registers.{register_bytes, register, with_bits, without_bits}
use Rattle.registers.specs.declared.Registers.{Registers}
use Rattle.registers.specs.declared.Command.{Command as Asked}
use Rattle.registers.specs.declared.Command.TheVariants.{Get as AskedGet, Patrol as AskedPatrol, Mark as AskedMark}
use Rattle.registers.specs.declared.answers.Told.{Told}

-- ---- commands
-- what a command asks of the library
pub data Command : Type 0 where
  Get : (k : ℕ) → Command
  Patrol : (k : ℕ) → Command
  Mark : (c : MarkCall) → Command
  Unknown : Command

-- as the code says it
abbrev pub command_said : Option Asked → Command
command_said (Some (AskedGet k)) = Get k
command_said (Some (AskedPatrol k)) = Patrol k
command_said (Some (AskedMark c)) = Mark c
command_said None = Unknown

abbrev pub asked_block : Registers → ℕ
asked_block r = register r 1 + 256 * register r 2

-- "1 get, 2 patrol, 3 mark chip, 4 mark card, 5 lift chip, 6 lift card"; "Lift card ignores byte 3."
unfoldable pub command_of : Registers → ℕ → Command
command_of r v =
    if (eqb v 1) (Get (asked_block r))
    (if (eqb v 2) (Patrol (asked_block r))
    (if (eqb v 3) (Mark (PlaceChip (register r 3)))
    (if (eqb v 4) (Mark (PlaceCard (register r 3)))
    (if (eqb v 5) (Mark (LiftChip (register r 3)))
    (if (eqb v 6) (Mark LiftCard) Unknown)))))

abbrev pub is_unknown : Command → Bool
is_unknown (Get k) = false
is_unknown (Patrol k) = false
is_unknown (Mark c) = false
is_unknown Unknown = true

-- "Each command does what the library call does with the marks in bytes 8 to 11": marks, bank, output and window as they go in and come
-- out; what the call is not handed stays
abbrev pub Runs : Marks → Command → List ℕ → List ℕ → List ℕ → Answer → Marks → List ℕ → List ℕ → List ℕ → Type 0
Runs m (Get k) bank out w a m' bank' out' w' = GetDone bank k m out w a bank' out' w' × (m' ≡ m)
Runs m (Patrol k) bank out w a m' bank' out' w' = PatrolDone bank k m w a bank' w' × (m' ≡ m) × (out' ≡ out)
Runs m (Mark c) bank out w a m' bank' out' w' = MarkDone m c a m' × (bank' ≡ bank) × (out' ≡ out) × (w' ≡ w)
Runs m Unknown bank out w a m' bank' out' w' = ⊥

-- ---- an answer in the registers
-- byte 4: "0 clean, 1 chips, 2 card, 3 mark placed or lifted, else 16 plus the refusal number"
abbrev pub answer_byte : Answer → ℕ
answer_byte clean = 0
answer_byte (in_chips n) = 1
answer_byte (in_card j n) = 2
answer_byte done = 3
answer_byte (refused n) = 16 + n
answer_byte (refused_card n j) = 16 + n
-- no command counts
answer_byte (counted v w x y z) = 16 + number (counted v w x y z)

-- byte 5: "n, plus 16 times the card where the answer or 11 names one, 0 where there is neither"
abbrev pub detail_byte : Answer → ℕ
detail_byte clean = 0
detail_byte (in_chips n) = n
detail_byte (in_card j n) = n + 16 * j
detail_byte done = 0
detail_byte (refused n) = 0
detail_byte (refused_card n j) = 16 * j
detail_byte (counted v w x y z) = 0

-- byte 7: "bit 0 if it was done, bit 1 if it was refused"
abbrev pub pending_bit : Answer → ℕ
pending_bit clean = 1
pending_bit (in_chips n) = 1
pending_bit (in_card j n) = 1
pending_bit done = 1
pending_bit (refused n) = 2
pending_bit (refused_card n j) = 2
pending_bit (counted v w x y z) = 1

abbrev pub told_by : Answer → Told
told_by a = record { answer = answer_byte a; detail = detail_byte a; bit = pending_bit a }

abbrev pub ToldFits : Answer → Type 0
ToldFits a = (answer_byte a < 256) × (detail_byte a < 256)

-- "Byte 0 then holds the command."; "the other bit stays"
abbrev pub after_command : Registers → ℕ → Told → Marks → Registers
after_command r v t m = record {
  front = v ∷ register r 1 ∷ register r 2 ∷ register r 3 ∷ t.answer ∷ t.detail ∷ register r 6 ∷ with_bits (register r 7) t.bit ∷ [];
  marks = m;
}

abbrev pub ran : Registers → ℕ → Answer → Marks → Registers
ran r v a m = after_command r v (told_by a) m

-- ---- a write
-- "Writing ones to byte 7 clears those bits."
abbrev pub stored : Registers → ℕ → ℕ → Registers
stored r a v = record { front = set r.front a (if (eqb a 7) (without_bits (register r 7) v) v); marks = r.marks }

-- "12: address above 11. 13: write to byte 4, 5 or 8 to 11. 14: unknown command."
abbrev pub read_only : ℕ → Bool
read_only a = eqb a 4 || (eqb a 5 || (leb 8 a && leb a 11))

unfoldable pub write_cause : Registers → ℕ → ℕ → ℕ
write_cause r a v = lowest (cause 12 (ltb 11 a) ∷ cause 13 (read_only a) ∷ cause 14 (eqb a 0 && is_unknown (command_of r v)) ∷ [])

-- registers, bank, output and window after a write that is not refused: "Writing byte 0 runs the command on the lent bank and output."
abbrev pub Writes : Registers → ℕ → ℕ → List ℕ → List ℕ → List ℕ → Registers → List ℕ → List ℕ → List ℕ → Type 0
Writes r zero v bank out w r' bank' out' w' =
    (a : Answer) × (m' : Marks) × Runs r.marks (command_of r v) bank out w a m' bank' out' w' × (r' ≡ ran r v a m')
Writes r (suc a) v bank out w r' bank' out' w' = (r' ≡ stored r (suc a) v) × (bank' ≡ bank) × (out' ≡ out) × (w' ≡ w)

unfoldable pub WriteDone : Registers → ℕ → ℕ → List ℕ → List ℕ → List ℕ → Answer → Registers → List ℕ → List ℕ → List ℕ → Type 0
WriteDone r a v bank out w ans r' bank' out' w' =
    By (write_cause r a v) ans ((r' ≡ r) × (bank' ≡ bank) × (out' ≡ out) × (w' ≡ w)) ((ans ≡ done) × Writes r a v bank out w r' bank' out' w')

abbrev pub CommandDone : Registers → ℕ → List ℕ → List ℕ → List ℕ → Answer → Registers → List ℕ → List ℕ → List ℕ → Type 0
CommandDone r v bank out w ans r' bank' out' w' = WriteDone r 0 v bank out w ans r' bank' out' w'

-- ---- a read
-- the byte, or the number of the refusal
pub data Value : Type 0 where
  Byte : (b : ℕ) → Value
  Refused : (number : ℕ) → Value

-- as the code says it
abbrev pub value_said : Result ℕ Refusal → Value
value_said (Ok b) = Byte b
value_said (Err r) = Refused (refusal_number r)

unfoldable pub read_value : Registers → ℕ → Value
read_value r a = if (ltb 11 a) (Refused 12) (Byte (get_or (register_bytes r) a 0))
