-- Order 1 in plain words.
--
--   RaisedExactly       the interrupt is raised exactly while bytes 6 and 7 share a set bit
--   CommandFigures, ToldFigures   commands and answers in figures
--   BitsAfter           which bits are set after bits are set, and after they are cleared
--   WriteNumbers        when a write is refused, and with which number
--   answer_in           the answer that bytes 4 and 5 tell; last_answer: that of the registers; AnswersBack: it is the command's own
--   RefusedKeeps        a refused command changes only registers
--   CommandLeaves       what a command does: the call's answer, its marks, bank, output and window; which registers it leaves, and which bit it sets
--   CommandAgain         what a command does that places a mark which is there: order 3; AgainFigures: in figures
--   StoreLeaves         what a write to another byte does
--   ReadNumbers         when a read is refused, and what it finds; ReadSays: the same of what the code returns
--   WriteDecided        two outcomes of a write agree
--   TwelveBytes, EachByte, FreshBytes, BytesBack   the registers are twelve bytes; which stands where; those at the start; any twelve come back
use Rattle.std.specs.Prelude.{ℕ, ◌+◌, ◌-◌, ◌*◌, ◌/◌, ◌%◌, ◌≤◌, ◌<◌, ◌≡◌, ◌≢◌, ◌⊎◌, ◌↔◌, true, ◌&&◌, ◌||◌, not, List, [], ◌∷◌, eqb, length, get_or, Ok, Err}
use Rattle.std.specs.declared.result.Result.{Result}
use Rattle.base.specs.Base.{if, In}
use Rattle.answer.specs.Answer.{Answer, done, clean, in_chips, in_card, counted, refused, refused_card, number}
use Rattle.answer.specs.declared.Refusal.{Refusal}
use Rattle.answer.specs.declared.Refusal.TheVariants.{RegisterAddress}
use Rattle.marks.specs.Marks.{bytes, of_bytes, fresh_marks, LawfulMarks}
use Rattle.marks.specs.Mark.{Already}
use Rattle.marks.specs.declared.Marks.{Marks}
use Rattle.marks.specs.declared.MarkCall.{MarkCall}
use Rattle.marks.specs.declared.MarkCall.TheVariants.{PlaceChip, LiftChip, PlaceCard, LiftCard}
use Rattle.registers.specs.Registers.{register_bytes, registers_in, register, fresh_registers, is_set, with_bits, without_bits, raised, Raised}
use Rattle.registers.specs.Write.{command_of, write_cause, Runs, answer_byte, detail_byte, pending_bit, ran, WriteDone, read_value}
use Rattle.registers.specs.declared.Registers.{Registers}
use Rattle.registers.specs.Write.{Command}
use Rattle.registers.specs.Write.{Get, Patrol, Mark}
use Rattle.registers.specs.Write.{Byte, Refused}

-- "The interrupt is raised exactly while bytes 6 and 7 share a set bit."
abbrev pub RaisedExactly : Type 0
RaisedExactly = (r : Registers) → (raised r ≡ true) ↔ Raised r

-- ---- in figures
-- registers with 3 and 1 in bytes 1 and 2, and x in byte 3
abbrev pub sample : ℕ → Registers
sample x = record { front = 0 ∷ 3 ∷ 1 ∷ x ∷ 0 ∷ 0 ∷ 0 ∷ 0 ∷ []; marks = fresh_marks }

pub record CommandFigures : Type 0 where
  pub one : command_of (sample 44) 1 ≡ Get 259
  pub two : command_of (sample 44) 2 ≡ Patrol 259
  pub three : command_of (sample 44) 3 ≡ Mark (PlaceChip 44)
  pub four : command_of (sample 44) 4 ≡ Mark (PlaceCard 44)
  pub five : command_of (sample 44) 5 ≡ Mark (LiftChip 44)
  -- "Lift card ignores byte 3."
  pub six : (x : ℕ) → command_of (sample x) 6 ≡ Mark LiftCard

-- bytes 4 and 5, and the bit of byte 7
abbrev pub ToldAs : Answer → ℕ → ℕ → ℕ → Type 0
ToldAs a x y z = (answer_byte a ≡ x) × (detail_byte a ≡ y) × (pending_bit a ≡ z)

pub record ToldFigures : Type 0 where
  pub clean : ToldAs clean 0 0 1
  pub chips : ToldAs (in_chips 2) 1 2 1
  pub card : ToldAs (in_card 4 11) 2 75 1
  pub marked : ToldAs done 3 0 1
  pub none : ToldAs (refused 10) 26 0 2
  pub several : ToldAs (refused_card 11 3) 27 48 2
  -- no command counts: told as none of those
  pub others : ToldAs (counted 1 2 3 4 5) 16 0 1

-- ---- bits
-- bit i of x, after the bits of v are set, and after they are cleared
pub record BitsAfter (i x v : ℕ) : Type 0 where
  pub set : is_set i (with_bits x v) ≡ (is_set i x || is_set i v)
  pub cleared : is_set i (without_bits x v) ≡ (is_set i x && not (is_set i v))

-- 12: address above 11; 13: byte 4, 5 or 8 to 11; 14: a number other than 1 to 6, written to byte 0
pub record WriteNumbers (r : Registers) (a v : ℕ) : Type 0 where
  pub twelve : (write_cause r a v ≡ 12) ↔ (11 < a)
  pub thirteen : (write_cause r a v ≡ 13) ↔ ((a ≡ 4) ⊎ ((a ≡ 5) ⊎ ((8 ≤ a) × (a ≤ 11))))
  pub fourteen : (write_cause r a v ≡ 14) ↔ ((a ≡ 0) × ((v ≡ 0) ⊎ (6 < v)))
  pub accepted : (write_cause r a v ≡ 0) ↔ (((a ≡ 0) × (1 ≤ v) × (v ≤ 6)) ⊎ (((1 ≤ a) × (a ≤ 3)) ⊎ ((a ≡ 6) ⊎ (a ≡ 7))))

-- ---- the last answer: n is the low half of byte 5, and the card its high half
unfoldable pub answer_in : ℕ → ℕ → Answer
answer_in x y =
    if (eqb x 0) clean
    (if (eqb x 1) (in_chips (y % 16))
    (if (eqb x 2) (in_card (y / 16) (y % 16))
    (if (eqb x 3) done
    (if (eqb x 27) (refused_card 11 (y / 16)) (refused (x - 16))))))

-- the answer that the registers tell
abbrev pub last_answer : Registers → Answer
last_answer r = answer_in (register r 4) (register r 5)

abbrev pub AnswersBack : Type 0
AnswersBack = (m : Marks) (c : Command) (bank out w : List ℕ) (a : Answer) (m' : Marks) (bank' out' w' : List ℕ)
    → Runs m c bank out w a m' bank' out' w' → answer_in (answer_byte a) (detail_byte a) ≡ a

-- "a refused command changes only registers", and of those not the mark record
abbrev pub RefusedKeeps : Type 0
RefusedKeeps = (m : Marks) (c : Command) (bank out w : List ℕ) (a : Answer) (m' : Marks) (bank' out' w' : List ℕ)
    → Runs m c bank out w a m' bank' out' w' → number a ≢ 0 → (m' ≡ m) × (bank' ≡ bank) × (out' ≡ out) × (w' ≡ w)

-- a command that is not refused as a write: it did what the call does, and the registers tell the call's answer; byte 0 holds it, and bit 0
-- or bit 1 of byte 7 is set
pub record CommandLeaves (r : Registers) (v : ℕ) (bank out w : List ℕ) (r' : Registers) (bank' out' w' : List ℕ) : Type 0 where
  pub call : Runs r.marks (command_of r v) bank out w (last_answer r') r'.marks bank' out' w'
  pub command : register r' 0 ≡ v
  pub others : (i : ℕ) → In i (1 ∷ 2 ∷ 3 ∷ 6 ∷ []) → register r' i ≡ register r i
  pub done : number (last_answer r') ≡ 0 → (i : ℕ) → is_set i (register r' 7) ≡ (is_set i (register r 7) || eqb i 0)
  pub refused : number (last_answer r') ≢ 0
      → (register r' 4 ≡ 16 + number (last_answer r'))
      × ((register r' 5 ≡ 0) ⊎ ((j : ℕ) × (last_answer r' ≡ refused_card 11 j) × (register r' 5 ≡ 16 * j)))
      × ((i : ℕ) → is_set i (register r' 7) ≡ (is_set i (register r 7) || eqb i 1)) × (r'.marks ≡ r.marks) × (bank' ≡ bank) × (out' ≡ out)
      × (w' ≡ w)

abbrev pub CommandsLeave : Type 0
CommandsLeave = (r : Registers) (v : ℕ) (bank out w : List ℕ) (x : Answer) (r' : Registers) (bank' out' w' : List ℕ) → write_cause r 0 v ≡ 0
    → WriteDone r 0 v bank out w x r' bank' out' w' → CommandLeaves r v bank out w r' bank' out' w'

-- order 3: "Placing a mark that is already there is now accepted and changes nothing .. The register command sets bit 0."; it answers 3
abbrev pub CommandAgain : Type 0
CommandAgain = (r : Registers) (v : ℕ) (c : MarkCall) (bank out w : List ℕ) (x : Answer) (r' : Registers) (bank' out' w' : List ℕ)
    → LawfulMarks r.marks → command_of r v ≡ Mark c → Already r.marks c → WriteDone r 0 v bank out w x r' bank' out' w'
    → (x ≡ done) × (r' ≡ ran r v done r.marks) × (register r' 4 ≡ 3)
    × ((i : ℕ) → is_set i (register r' 7) ≡ (is_set i (register r 7) || eqb i 0)) × (bank' ≡ bank) × (out' ≡ out) × (w' ≡ w)

-- chip 44 is marked, and asked for in byte 3; bit 1 of byte 7 is set, and stays
abbrev pub AgainFigures : Type 0
AgainFigures = (bank out w : List ℕ) (x : Answer) (r' : Registers) (bank' out' w' : List ℕ)
    → WriteDone (record { front = 0 ∷ 3 ∷ 1 ∷ 44 ∷ 0 ∷ 0 ∷ 0 ∷ 2 ∷ []; marks = of_bytes (255 ∷ 1 ∷ 44 ∷ 255 ∷ []) }) 0 3 bank out w x r' bank' out' w'
    → register_bytes r' ≡ 3 ∷ 3 ∷ 1 ∷ 44 ∷ 3 ∷ 0 ∷ 0 ∷ 3 ∷ 255 ∷ 1 ∷ 44 ∷ 255 ∷ []

-- a write to another byte: that byte alone is changed
pub record StoreLeaves (r : Registers) (a v : ℕ) (bank out w : List ℕ) (r' : Registers) (bank' out' w' : List ℕ) : Type 0 where
  pub written : a ≢ 7 → register r' a ≡ v
  pub cleared : a ≡ 7 → (i : ℕ) → is_set i (register r' 7) ≡ (is_set i (register r 7) && not (is_set i v))
  pub others : (i : ℕ) → i ≢ a → register r' i ≡ register r i
  pub marks : r'.marks ≡ r.marks
  pub lent : (bank' ≡ bank) × (out' ≡ out) × (w' ≡ w)

-- of registers that have bytes 0 to 7
abbrev pub StoresLeave : Type 0
StoresLeave = (r : Registers) (a v : ℕ) (bank out w : List ℕ) (x : Answer) (r' : Registers) (bank' out' w' : List ℕ) → length r.front ≡ 8 → a ≢ 0
    → write_cause r a v ≡ 0 → WriteDone r a v bank out w x r' bank' out' w' → StoreLeaves r a v bank out w r' bank' out' w'

-- "12: address above 11"
pub record ReadNumbers (r : Registers) (a : ℕ) : Type 0 where
  pub twelve : (read_value r a ≡ Refused 12) ↔ (11 < a)
  pub byte : a ≤ 11 → read_value r a ≡ Byte (get_or (register_bytes r) a 0)

-- the same of what the code returns
pub record ReadSays (r : Registers) (a : ℕ) (x : Result ℕ Refusal) : Type 0 where
  pub byte : (b : ℕ) → (x ≡ Ok b) ↔ ((a ≤ 11) × (b ≡ get_or (register_bytes r) a 0))
  pub address : (x ≡ Err RegisterAddress) ↔ (11 < a)

-- ---- what a write does is decided
abbrev pub WriteDecided : Type 0
WriteDecided = (r : Registers) (a v : ℕ) (bank out w : List ℕ) (x x' : Answer) (r' r'' : Registers) (bank' bank'' out' out'' w' w'' : List ℕ)
    → WriteDone r a v bank out w x r' bank' out' w' → WriteDone r a v bank out w x' r'' bank'' out'' w''
    → (x ≡ x') × (r' ≡ r'') × (bank' ≡ bank'') × (out' ≡ out'') × (w' ≡ w'')

-- ---- twelve bytes
abbrev pub TwelveBytes : Type 0
TwelveBytes = (r : Registers) → length (register_bytes r) ≡ 12

-- which byte stands at which address
pub record EachByte (r : Registers) : Type 0 where
  pub below_8 : (a : ℕ) → a < 8 → get_or (register_bytes r) a 0 ≡ register r a
  pub mark_record : (i : ℕ) → get_or (register_bytes r) (8 + i) 0 ≡ get_or (bytes r.marks) i 0

abbrev pub FreshBytes : Type 0
FreshBytes = register_bytes fresh_registers ≡ 0 ∷ 0 ∷ 0 ∷ 0 ∷ 0 ∷ 0 ∷ 0 ∷ 0 ∷ 255 ∷ 0 ∷ 255 ∷ 255 ∷ []

-- any twelve bytes are those of the registers in them
abbrev pub BytesBack : Type 0
BytesBack = (b : List ℕ) → length b ≡ 12 → register_bytes (registers_in b) ≡ b
