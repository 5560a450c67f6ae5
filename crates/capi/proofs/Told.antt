-- What a program in C learns: the answer that it takes out of the code is the library's, and no other.
--
--   Told Says f c      the answer that f takes out of the code c is one of which the call says so, and c is its code
--   told, told_under   every export's contract tells its answer
--   store_told, read_told, clear_told, put_told, get_told, patrol_told, report_told, mark_told   the exports, each with all that was lent for reading as before
--   mark_record_told   placing and lifting, of the record in the bytes
--   clear_window_told  a window cleared; propose_told: the proposal
--   write_told         a register write, of the registers in the bytes; command_told: a command, by the call's own relation
--   register_told      the byte that a read gives; interrupt_told: the interrupt
--   write_slip_told    a slip written, by the offset that the code tells; get_slip_told, patrol_slip_told: of the code that a get or patrol gave
--   read_slip_told     a slip read; found_one: the parts of a code tell one thing
use Prim.Native.Nat.{ℕ, ◌+◌, ◌<◌, ◌≤◌}
use mathlib.Core.Path.{◌≡◌, refl, sym, ap, ap₂, ◌∙◌, subst}
use mathlib.Core.Bool.{Bool, true, false}
use mathlib.Core.Logic.{◌⊎◌, inl, inr, ◌↔◌}
use mathlib.Core.List.{List, [], ◌∷◌}
use native.Mathlib.Omega.{arith}
use lib.Dec.{ltb, eqb}
use lib.ListN.{length, get_or}
use Rattle.base.specs.Base.{if, bit}
use Rattle.answer.specs.Answer.{Answer}
use Rattle.answer.proofs.Gives.{Outcomes}
use Rattle.marks.specs.Marks.{marks_in, marks_cause}
use Rattle.marks.specs.Mark.{MarkDone}
use Rattle.marks.specs.declared.Marks.{Marks}
use Rattle.marks.specs.declared.MarkCall.{MarkCall}
use Rattle.marks.specs.declared.MarkCall.TheVariants.{PlaceChip, LiftChip, PlaceCard, LiftCard}
use Rattle.marks.proofs.Gives.{mark_numbers, marks_number}
use Rattle.store.specs.Store.{StoreDone}
use Rattle.block.specs.Read.{ReadDone}
use Rattle.window.specs.Window.{fresh_window, proposal}
use Rattle.window.specs.Plain.{ProposedExactly}
use Rattle.window.specs.Window.{Proposal}
use Rattle.window.specs.Window.{Chip, Nothing, Refused as RefusedWith}
use Rattle.window.proofs.Proposed.{proposed_exactly}
use Rattle.bank.specs.Calls.{ClearDone, PutDone, GetDone, PatrolDone, ReportDone, get_cause, patrol_cause}
use Rattle.bank.proofs.Gives.{clear_gives, put_gives, get_gives, patrol_gives, report_gives}
use Rattle.registers.specs.Registers.{registers_in, is_set, raised}
use Rattle.registers.specs.Write.{command_of, Runs, write_cause, WriteDone, read_value}
use Rattle.registers.specs.Plain.{answer_in}
use Rattle.registers.specs.Write.{Byte, Refused}
use Rattle.registers.proofs.Plain.{raised_exactly, bytes_back}
use Rattle.registers.proofs.Leaves.{commands_leave}
use Rattle.registers.proofs.Formed.{write_gives}
use Rattle.reading.specs.Reading.{Reading}
use Rattle.slip.specs.Slip.{HasSlip}
use Rattle.slip.specs.Calls.{WriteSlipDone, ReadSlipDone}
use Rattle.slip.specs.Found.{Found}
use Rattle.slip.specs.Found.{Slip, Refused as RefusedAt}
use Rattle.slip.proofs.Fit.{write_fits, read_fits}
use Rattle.slip.proofs.Decided.{reading_one}
use Rattle.slip.proofs.Readings.{get_has_slip, patrol_has_slip}
use Rattle.capi.specs.Codes.{code, value_code, proposal_code, outcome_in, reading_in, report_in, value_in, proposal_in}
use Rattle.capi.specs.Codes.{wrote_in, FoundIn, length_in, asked_in}
use Rattle.capi.specs.Exports.{Coded, CodedUnder, StoreCoded, ReadCoded, ClearCoded, PutCoded, GetCoded, PatrolCoded, ReportCoded, Marked, MarkCoded}
use Rattle.capi.specs.Exports.{WriteCoded, RegisterCoded, InterruptCoded, ClearWindowCoded, ProposeCoded, WriteSlipCoded, ReadSlipCoded}
use Rattle.capi.proofs.Gives.{store_gives, read_gives, mark_gives}
use Rattle.capi.proofs.Codes.{ValueFits, value_back, ProposalFits, proposal_back, outcome_back, reading_back, report_back}
use Rattle.capi.proofs.Written.{accepted, marked_done, write_done}
use Rattle.capi.proofs.Slips.{asked_back, wrote_back, found_back}

pub record Told (Says : Answer → Type 0) (f : ℕ → Answer) (c : ℕ) : Type 0 where
  pub says : Says (f c)
  pub coded : c ≡ code (f c)

pub told : (Says : Answer → Type 0) (f : ℕ → Answer) → ((a : Answer) → Says a → f (code a) ≡ a) → (c : ℕ) → Coded Says c → Told Says f c
told Says f back c w = record { says = subst Says (sym same) w.says; coded = w.coded ∙ ap code (sym same) }
  where
    same : f c ≡ w.answer
    same = ap f w.coded ∙ back w.answer w.says

pub told_under : (Says : Marks → Answer → Type 0) (f : ℕ → Answer) → ((m : Marks) (a : Answer) → Says m a → f (code a) ≡ a) → (m : List ℕ) (c : ℕ) (m' : List ℕ)
    → CodedUnder Says m c m' → Told (Says (marks_in m)) f c × (m' ≡ m)
told_under Says f back m c m' w =
    (subst (λ (x : Marks). Told (Says x) f c) w.in_bytes (told (Says w.marks) f (back w.marks) c w.coded), w.kept)

-- ---- done or refused
pub store_told : (rec out : List ℕ) (c : ℕ) (rec' out' : List ℕ) → StoreCoded rec out c rec' out' → Told (λ a. StoreDone rec out a rec' out') outcome_in c
store_told rec out c rec' out' w = told _ outcome_in (λ a d. outcome_back (2 ∷ 3 ∷ []) refl a (store_gives rec out a rec' out' d)) c w

pub clear_told : (bank : List ℕ) (c : ℕ) (bank' : List ℕ) → ClearCoded bank c bank' → Told (λ a. ClearDone bank a bank') outcome_in c
clear_told bank c bank' w = told _ outcome_in (λ a d. outcome_back (4 ∷ []) refl a (clear_gives bank a bank' d)) c w

pub put_told : (bank : List ℕ) (k : ℕ) (rec : List ℕ) (c : ℕ) (bank' rec' : List ℕ) → PutCoded bank k rec c bank' rec'
    → Told (λ a. PutDone bank k rec a bank' rec') outcome_in c
put_told bank k rec c bank' rec' w = told _ outcome_in (λ a d. outcome_back (3 ∷ 4 ∷ 5 ∷ []) refl a (put_gives bank k rec a bank' rec' d)) c w

mark_back : (call : MarkCall) (a : Answer) → Outcomes (mark_numbers call) a → outcome_in (code a) ≡ a
mark_back (PlaceChip p) a w = outcome_back (6 ∷ 7 ∷ 8 ∷ []) refl a w
mark_back (LiftChip p) a w = outcome_back (6 ∷ 7 ∷ 9 ∷ []) refl a w
mark_back (PlaceCard j) a w = outcome_back (6 ∷ 7 ∷ 8 ∷ []) refl a w
mark_back LiftCard a w = outcome_back (6 ∷ 7 ∷ 9 ∷ []) refl a w

pub mark_told : (m : List ℕ) (call : MarkCall) (c : ℕ) (m' : List ℕ) → MarkCoded m call c m' → Told (λ a. Marked m call a m') outcome_in c
mark_told m call c m' w = told _ outcome_in (λ a d. mark_back call a (mark_gives m call a m' d)) c w

pub mark_record_told : (m : List ℕ) (call : MarkCall) (c : ℕ) (m' : List ℕ) → MarkCoded m call c m' → MarkDone (marks_in m) call (outcome_in c) (marks_in m')
mark_record_told m call c m' w = marked_done m call (outcome_in c) m' (mark_told m call c m' w).says

-- ---- readings, and the report
pub read_told : (b m out : List ℕ) (c : ℕ) (b' m' out' : List ℕ) → ReadCoded b m out c b' m' out'
    → Told (λ a. ReadDone b (marks_in m) out a b' out') reading_in c × (m' ≡ m)
read_told b m out c b' m' out' w =
    told_under (λ n a. ReadDone b n out a b' out') reading_in (λ n a d. reading_back (1 ∷ 2 ∷ 6 ∷ 7 ∷ 10 ∷ []) refl a (read_gives b n out a b' out' d)) m c m' w

pub get_told : (bank : List ℕ) (k : ℕ) (m out win : List ℕ) (c : ℕ) (bank' m' out' win' : List ℕ) → GetCoded bank k m out win c bank' m' out' win'
    → Told (λ a. GetDone bank k (marks_in m) out win a bank' out' win') reading_in c × (m' ≡ m)
get_told bank k m out win c bank' m' out' win' w =
    told_under (λ n a. GetDone bank k n out win a bank' out' win') reading_in
    (λ n a d. reading_back (2 ∷ 4 ∷ 5 ∷ 6 ∷ 7 ∷ 10 ∷ []) refl a (get_gives bank k n out win a bank' out' win' d)) m c m' w

pub patrol_told : (bank : List ℕ) (k : ℕ) (m win : List ℕ) (c : ℕ) (bank' m' win' : List ℕ) → PatrolCoded bank k m win c bank' m' win'
    → Told (λ a. PatrolDone bank k (marks_in m) win a bank' win') reading_in c × (m' ≡ m)
patrol_told bank k m win c bank' m' win' w =
    told_under (λ n a. PatrolDone bank k n win a bank' win') reading_in
    (λ n a d. reading_back (4 ∷ 5 ∷ 6 ∷ 7 ∷ 10 ∷ []) refl a (patrol_gives bank k n win a bank' win' d)) m c m' w

pub report_told : (bank m : List ℕ) (c : ℕ) (bank' m' : List ℕ) → ReportCoded bank m c bank' m'
    → Told (λ a. ReportDone bank (marks_in m) a bank') report_in c × (m' ≡ m)
report_told bank m c bank' m' w =
    told_under (λ n a. ReportDone bank n a bank') report_in (λ n a d. report_back (4 ∷ 6 ∷ 7 ∷ []) refl a (report_gives bank n a bank' d)) m c m' w

-- ---- the window
pub clear_window_told : (c : ℕ) (win' : List ℕ) → ClearWindowCoded c win' → (c ≡ 0) × (win' ≡ fresh_window)
clear_window_told c win' w = (w.coded ∙ ap code w.says.0, w.says.1)

-- the proposal is the one that the code tells, and all that was lent is as before
pub propose_told : (win m : List ℕ) (c : ℕ) (win' m' : List ℕ) → ProposeCoded win m c win' m'
    → (proposal_in c ≡ proposal win (marks_in m)) × (win' ≡ win) × (m' ≡ m)
propose_told win m c win' m' w =
    (ap proposal_in (w.coded ∙ ap proposal_code w.says.proposed) ∙ proposal_back _ (fits (proposal win (marks_in m)) refl), w.says.kept, w.kept)
  where
    exact : ProposedExactly win (marks_in m)
    exact = proposed_exactly win (marks_in m)

    fits : (x : Proposal) → proposal win (marks_in m) ≡ x → ProposalFits x
    fits (Chip p) e = ((exact.chip p).0 e).1.position
    fits Nothing e = tt
    fits (RefusedWith n) e =
        let h = (exact.refused n).0 e in
        pick h.0 (marks_number (marks_in m) (λ z. h.1 (h.0 ∙ z)))
      where
        pick : n ≡ marks_cause (marks_in m) → (marks_cause (marks_in m) ≡ 6) ⊎ (marks_cause (marks_in m) ≡ 7) → (1 ≤ n) × (n < 256)
        pick q (inl k) = (omega arith, omega arith)
        pick q (inr k) = (omega arith, omega arith)

-- ---- registers
pub write_told : (b : List ℕ) (a v : ℕ) (bank out win : List ℕ) (c : ℕ) (b' bank' out' win' : List ℕ) → WriteCoded b a v bank out win c b' bank' out' win'
    → Told (λ x. WriteDone (registers_in b) a v bank out win x (registers_in b') bank' out' win') outcome_in c
write_told b a v bank out win c b' bank' out' win' w =
    told _ outcome_in (λ x d. outcome_back (12 ∷ 13 ∷ 14 ∷ []) refl x (write_gives (registers_in b) a v bank out win x (registers_in b') bank' out' win' d)) c
    (record { answer = w.answer; says = write_done b a v bank out win w.answer b' bank' out' win' w.says; coded = w.coded })

-- twelve bytes: the one at the address, or 12
pub register_told : (b : List ℕ) → length b ≡ 12 → ((p : ℕ) → get_or b p 0 < 256) → (a c : ℕ) (b' : List ℕ) → RegisterCoded b a c b'
    → value_in c ≡ if (ltb 11 a) (Refused 12) (Byte (get_or b a 0))
unfolding read_value
register_told b l h a c b' (e, k) =
    ap value_in (e ∙ ap (λ (x : List ℕ). value_code (if (ltb 11 a) (Refused 12) (Byte (get_or x a 0)))) (bytes_back b l)) ∙ value_back _ (fits (ltb 11 a))
  where
    fits : (t : Bool) → ValueFits (if t (Refused 12) (Byte (get_or b a 0)))
    fits true = (omega arith, omega arith)
    fits false = h a

-- a command through C: what its call says, with the answer that bytes 4 and 5 tell
pub command_told : (b : List ℕ) (v : ℕ) (bank out win : List ℕ) (b' bank' out' win' : List ℕ) → WriteCoded b 0 v bank out win 0 b' bank' out' win'
    → Runs (registers_in b).marks (command_of (registers_in b) v) bank out win (answer_in (get_or b' 4 0) (get_or b' 5 0)) (registers_in b').marks bank' out' win'
unfolding WriteDone registers_in
command_told b v bank out win b' bank' out' win' w =
    let t = write_told b 0 v bank out win 0 b' bank' out' win' w in
    let n = accepted (write_cause (registers_in b) 0 v) (outcome_in 0) _ _ t.says (sym t.coded) in
    (commands_leave (registers_in b) v bank out win (outcome_in 0) (registers_in b') bank' out' win' n t.says).call

-- 1 exactly while bytes 6 and 7 share a set bit
pub interrupt_told : (b : List ℕ) (c : ℕ) (b' : List ℕ) → InterruptCoded b c b'
    → (c ≡ 1) ↔ ((i : ℕ) × (i < 8) × (is_set i (get_or b 6 0) ≡ true) × (is_set i (get_or b 7 0) ≡ true))
unfolding registers_in
interrupt_told b c b' (e, k) = (there, λ w. e ∙ ap bit ((raised_exactly (registers_in b)).1 w))
  where
    was : (t : Bool) → bit t ≡ 1 → t ≡ true
    was true z = refl
    was false z = absurd (omega arith)

    there : c ≡ 1 → (i : ℕ) × (i < 8) × (is_set i (get_or b 6 0) ≡ true) × (is_set i (get_or b 7 0) ≡ true)
    there z = (raised_exactly (registers_in b)).0 (was (raised (registers_in b)) (sym e ∙ z))

-- ---- slips
pub write_slip_told : (s : List ℕ) (i k asked c : ℕ) (s' : List ℕ) → WriteSlipCoded s i k asked c s' → WriteSlipDone s i k (asked_in asked) (wrote_in i c) s'
write_slip_told s i k asked c s' w =
    subst (λ x. WriteSlipDone s i k (asked_in asked) x s')
    (sym (ap (wrote_in i) w.coded ∙ wrote_back i w.wrote (write_fits s i k (asked_in asked) w.wrote s' w.says))) w.says

-- the code of an outcome that has a slip is asked for as it came
given : (s : List ℕ) (i k : ℕ) (a : Answer) (c : ℕ) (s' : List ℕ) → HasSlip k a → WriteSlipCoded s i k (code a) c s' → WriteSlipDone s i k a (wrote_in i c) s'
given s i k a c s' h w = subst (λ (x : Answer). WriteSlipDone s i k x (wrote_in i c) s') (asked_back k a h) (write_slip_told s i k (code a) c s' w)

-- a get or patrol that its arguments don't refuse gave the code c, which is handed to the writer: it writes what c tells, and doesn't refuse it
-- with 16
pub get_slip_told : (bank : List ℕ) (k : ℕ) (m out win : List ℕ) (c : ℕ) (bank' m' out' win' : List ℕ) → GetCoded bank k m out win c bank' m' out' win'
    → get_cause (length bank) k (marks_in m) (length out) ≡ 0 → (s : List ℕ) (i d : ℕ) (s' : List ℕ) → WriteSlipCoded s i k c d s'
    → HasSlip k (reading_in c) × WriteSlipDone s i k (reading_in c) (wrote_in i d) s'
get_slip_told bank k m out win c bank' m' out' win' w z s i d s' u =
    let t = (get_told bank k m out win c bank' m' out' win' w).0 in
    let h = get_has_slip bank k (marks_in m) out win (reading_in c) bank' out' win' z t.says in
    (h, given s i k (reading_in c) d s' h (subst (λ (x : ℕ). WriteSlipCoded s i k x d s') t.coded u))

pub patrol_slip_told : (bank : List ℕ) (k : ℕ) (m win : List ℕ) (c : ℕ) (bank' m' win' : List ℕ) → PatrolCoded bank k m win c bank' m' win'
    → patrol_cause (length bank) k (marks_in m) ≡ 0 → (s : List ℕ) (i d : ℕ) (s' : List ℕ) → WriteSlipCoded s i k c d s'
    → HasSlip k (reading_in c) × WriteSlipDone s i k (reading_in c) (wrote_in i d) s'
patrol_slip_told bank k m win c bank' m' win' w z s i d s' u =
    let t = (patrol_told bank k m win c bank' m' win' w).0 in
    let h = patrol_has_slip bank k (marks_in m) win (reading_in c) bank' win' z t.says in
    (h, given s i k (reading_in c) d s' h (subst (λ (x : ℕ). WriteSlipCoded s i k x d s') t.coded u))

-- what the parts of the code tell is what was found, and no other; with 15 the offset is the slice's length
pub read_slip_told : (s : List ℕ) (i c : ℕ) (s' : List ℕ) → ReadSlipCoded s i c s'
    → (f : Found) × FoundIn i (length s) c f × ReadSlipDone s i f s'
unfolding ReadSlipDone
read_slip_told s i c s' w = (
  w.found,
  subst (λ (x : ℕ). FoundIn i (length s) x w.found) (sym w.coded)
      (found_back i (length s) w.found (read_fits s i w.found s' w.says) at_end),
  w.says,
)
  where
    cut_there : (p : ℕ) → ReadSlipDone s i (RefusedAt 15 p) s' → p ≡ length s
    cut_there p (inl (e, g), z) = g.0
    cut_there p (inr (e, g), z) = absurd (omega (arith, e))

    at_end : (p : ℕ) → w.found ≡ RefusedAt 15 p → p ≡ length s
    at_end p e = cut_there p (subst (λ (f : Found). ReadSlipDone s i f s') e w.says)

pub found_one : (i l c : ℕ) (f g : Found) → FoundIn i l c f → FoundIn i l c g → f ≡ g
found_one i l c (Slip k r n) (Slip k' r' n') (z, a, b, e) (z', a', b', e') =
    ap₂ (λ (x : ℕ) (y : Reading). Slip x y n) (a ∙ sym a') (reading_one r r' (b ∙ sym b')) ∙ ap (Slip k' r') (e ∙ sym e')
found_one i l c (Slip k r n) (RefusedAt m p) (z, a, b, q) (z', h, e) = absurd (h (sym z' ∙ z))
found_one i l c (RefusedAt m p) (Slip k r n) (z, h, e) (z', a, b, q) = absurd (h (sym z ∙ z'))
found_one i l c (RefusedAt m p) (RefusedAt m' p') (z, h, e) (z', h', e') =
    let q = sym z ∙ z' in
    ap₂ RefusedAt q (e ∙ ap (λ (x : ℕ). if (eqb x 15) l (i + length_in c)) q ∙ sym e')
