-- The exports' contracts: what the library's own call says of its answer, the code of that answer, and every lent byte after it.
--
--   Coded Says c             c is the code of an answer of which the call says so
--   CodedUnder Says m c m'   the same, of a call under the mark record in the bytes m, which are as before
--   StoreCoded, ReadCoded, ClearCoded, PutCoded, GetCoded, PatrolCoded, ReportCoded
--   MarkCoded                placing and lifting, in the bytes themselves
--   ClearWindowCoded         a window cleared; ProposeCoded: the proposal, under the mark record in the bytes
--   WriteCoded               a register written, in the twelve bytes themselves; RegisterCoded: one read; InterruptCoded: the interrupt
--   WriteSlipCoded           a slip written, of the reading that is asked for by its code; ReadSlipCoded: one read
--
-- A primed name is what the bytes hold after the call.
use Rattle.std.specs.Prelude.{◌≡◌, List, ℕ}
use Rattle.base.specs.Base.{bit}
use Rattle.answer.specs.Answer.{Answer, done, By}
use Rattle.marks.specs.Marks.{bytes, marks_in}
use Rattle.marks.specs.Mark.{mark_cause, marked}
use Rattle.marks.specs.declared.Marks.{Marks}
use Rattle.marks.specs.declared.MarkCall.{MarkCall}
use Rattle.store.specs.Store.{StoreDone}
use Rattle.block.specs.Read.{ReadDone}
use Rattle.bank.specs.Calls.{ClearDone, PutDone, GetDone, PatrolDone, ReportDone}
use Rattle.window.specs.Window.{ClearWindowDone, ProposeDone}
use Rattle.window.specs.Window.{Proposal}
use Rattle.registers.specs.Registers.{register_bytes, registers_in, raised}
use Rattle.registers.specs.Write.{write_cause, WriteDone, read_value}
use Rattle.registers.specs.declared.Registers.{Registers}
use Rattle.slip.specs.Calls.{WriteSlipDone, ReadSlipDone}
use Rattle.slip.specs.Wrote.{Wrote}
use Rattle.slip.specs.Found.{Found}
use Rattle.capi.specs.Codes.{code, value_code, proposal_code, wrote_code, found_code, asked_in}

pub record Coded (Says : Answer → Type 0) (c : ℕ) : Type 0 where
  pub answer : Answer
  pub says : Says answer
  pub coded : c ≡ code answer

pub record CodedUnder (Says : Marks → Answer → Type 0) (m : List ℕ) (c : ℕ) (m' : List ℕ) : Type 0 where
  pub marks : Marks
  pub in_bytes : marks ≡ marks_in m
  pub kept : m' ≡ m
  pub coded : Coded (Says marks) c

abbrev pub StoreCoded : List ℕ → List ℕ → ℕ → List ℕ → List ℕ → Type 0
StoreCoded rec out c rec' out' = Coded (λ a. StoreDone rec out a rec' out') c

abbrev pub ReadCoded : List ℕ → List ℕ → List ℕ → ℕ → List ℕ → List ℕ → List ℕ → Type 0
ReadCoded b m out c b' m' out' = CodedUnder (λ n a. ReadDone b n out a b' out') m c m'

abbrev pub ClearCoded : List ℕ → ℕ → List ℕ → Type 0
ClearCoded bank c bank' = Coded (λ a. ClearDone bank a bank') c

abbrev pub PutCoded : List ℕ → ℕ → List ℕ → ℕ → List ℕ → List ℕ → Type 0
PutCoded bank k rec c bank' rec' = Coded (λ a. PutDone bank k rec a bank' rec') c

abbrev pub GetCoded : List ℕ → ℕ → List ℕ → List ℕ → List ℕ → ℕ → List ℕ → List ℕ → List ℕ → List ℕ → Type 0
GetCoded bank k m out w c bank' m' out' w' = CodedUnder (λ n a. GetDone bank k n out w a bank' out' w') m c m'

abbrev pub PatrolCoded : List ℕ → ℕ → List ℕ → List ℕ → ℕ → List ℕ → List ℕ → List ℕ → Type 0
PatrolCoded bank k m w c bank' m' w' = CodedUnder (λ n a. PatrolDone bank k n w a bank' w') m c m'

abbrev pub ReportCoded : List ℕ → List ℕ → ℕ → List ℕ → List ℕ → Type 0
ReportCoded bank m c bank' m' = CodedUnder (λ n a. ReportDone bank n a bank') m c m'

-- the bytes of the record after the call; a refused call leaves them, however many they are
abbrev pub Marked : List ℕ → MarkCall → Answer → List ℕ → Type 0
Marked m call a m' = By (mark_cause (marks_in m) call) a (m' ≡ m) ((a ≡ done) × (m' ≡ bytes (marked (marks_in m) call)))

abbrev pub MarkCoded : List ℕ → MarkCall → ℕ → List ℕ → Type 0
MarkCoded m call c m' = Coded (λ a. Marked m call a m') c

abbrev pub ClearWindowCoded : ℕ → List ℕ → Type 0
ClearWindowCoded c w' = Coded (λ a. ClearWindowDone a w') c

-- window and marks are as before
pub record ProposeCoded (w m : List ℕ) (c : ℕ) (w' m' : List ℕ) : Type 0 where
  pub proposal : Proposal
  pub says : ProposeDone w (marks_in m) proposal w'
  pub coded : c ≡ proposal_code proposal
  pub kept : m' ≡ m

-- the bytes of the registers after the write; a refused write leaves them
abbrev pub RegisterWritten : List ℕ → ℕ → ℕ → List ℕ → List ℕ → List ℕ → Answer → List ℕ → List ℕ → List ℕ → List ℕ → Type 0
RegisterWritten b a v bank out w x b' bank' out' w' =
    (r' : Registers) × WriteDone (registers_in b) a v bank out w x r' bank' out' w'
    × By (write_cause (registers_in b) a v) x (b' ≡ b) (b' ≡ register_bytes r')

abbrev pub WriteCoded : List ℕ → ℕ → ℕ → List ℕ → List ℕ → List ℕ → ℕ → List ℕ → List ℕ → List ℕ → List ℕ → Type 0
WriteCoded b a v bank out w c b' bank' out' w' = Coded (λ x. RegisterWritten b a v bank out w x b' bank' out' w') c

-- the byte, or 12; and the bytes are as before
abbrev pub RegisterCoded : List ℕ → ℕ → ℕ → List ℕ → Type 0
RegisterCoded b a c b' = (c ≡ value_code (read_value (registers_in b) a)) × (b' ≡ b)

-- 1 while it is raised, else 0
abbrev pub InterruptCoded : List ℕ → ℕ → List ℕ → Type 0
InterruptCoded b c b' = (c ≡ bit (raised (registers_in b))) × (b' ≡ b)

-- ---- slips: s is the slice, i the offset
pub record WriteSlipCoded (s : List ℕ) (i k asked c : ℕ) (s' : List ℕ) : Type 0 where
  pub wrote : Wrote
  pub says : WriteSlipDone s i k (asked_in asked) wrote s'
  pub coded : c ≡ wrote_code i wrote

pub record ReadSlipCoded (s : List ℕ) (i c : ℕ) (s' : List ℕ) : Type 0 where
  pub found : Found
  pub says : ReadSlipDone s i found s'
  pub coded : c ≡ found_code i found
