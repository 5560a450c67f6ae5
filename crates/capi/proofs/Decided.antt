-- What an export does is decided: two outcomes on the same bytes agree in the code and in every lent byte.
--
--   coded_one, under_one   two codes of answers that agree
--   store_code, read_code, clear_code, put_code, get_code, patrol_code, report_code   the exports, each with every lent byte
--   mark_code           placing and lifting; write_code: a register written; clear_window_code, propose_code: the window's
--   write_slip_code, read_slip_code   the calls on slips
--
-- The other two, a register read and the interrupt, are equations.
use Prim.Native.Nat.{ℕ, zero, suc}
use mathlib.Core.Path.{◌≡◌, sym, ap, ◌∙◌, subst}
use mathlib.Core.List.{List}
use Rattle.answer.specs.Answer.{Answer, By}
use Rattle.answer.proofs.Causes.{by_agree}
use Rattle.marks.specs.Marks.{marks_in}
use Rattle.marks.specs.Mark.{mark_cause}
use Rattle.marks.specs.declared.Marks.{Marks}
use Rattle.marks.specs.declared.MarkCall.{MarkCall}
use Rattle.store.proofs.Decided.{store_decided}
use Rattle.block.proofs.Decided.{read_decided}
use Rattle.bank.proofs.Decided.{clear_decided, put_decided, get_decided, patrol_decided, report_decided}
use Rattle.registers.specs.Registers.{register_bytes, registers_in}
use Rattle.registers.specs.Write.{write_cause}
use Rattle.registers.specs.declared.Registers.{Registers}
use Rattle.registers.proofs.Decided.{write_decided}
use Rattle.slip.proofs.Decided.{write_decided as write_slip_decided, read_decided as read_slip_decided}
use Rattle.capi.specs.Codes.{code, proposal_code, wrote_code, found_code, asked_in}
use Rattle.capi.specs.Exports.{Coded, CodedUnder, StoreCoded, ReadCoded, ClearCoded, PutCoded, GetCoded, PatrolCoded, ReportCoded, MarkCoded, WriteCoded}
use Rattle.capi.specs.Exports.{ClearWindowCoded, ProposeCoded, WriteSlipCoded, ReadSlipCoded}

-- of answers that agree, with what else is the same then
coded_one : (P Q : Answer → Type 0) (R : Type 0) (c d : ℕ) → ((a b : Answer) → P a → Q b → (a ≡ b) × R) → Coded P c → Coded Q d → (c ≡ d) × R
coded_one P Q R c d f w v =
    let g = f w.answer v.answer w.says v.says in
    (w.coded ∙ ap code g.0 ∙ sym v.coded, g.1)

under_one : (P Q : Marks → Answer → Type 0) (R : Type 0) (m : List ℕ) (c d : ℕ) (m' m'' : List ℕ)
    → ((n : Marks) (a b : Answer) → P n a → Q n b → (a ≡ b) × R) → CodedUnder P m c m' → CodedUnder Q m d m'' → (c ≡ d) × R × (m' ≡ m'')
under_one P Q R m c d m' m'' f w v =
    let g = coded_one (P w.marks) (Q w.marks) R c d (f w.marks) w.coded
    (subst (λ (n : Marks). Coded (Q n) d) (v.in_bytes ∙ sym w.in_bytes) v.coded) in
    (g.0, g.1, w.kept ∙ sym v.kept)

module _ (c d : ℕ) where
  pub store_code : (rec out x x' y y' : List ℕ) → StoreCoded rec out c x y → StoreCoded rec out d x' y' → (c ≡ d) × ((y ≡ y') × (x ≡ x'))
  store_code rec out x x' y y' = coded_one _ _ _ c d (λ a b w v. let g = store_decided rec out a b x x' y y' w v in (g.0.0, (g.0.1, g.1)))

  pub clear_code : (bank x x' : List ℕ) → ClearCoded bank c x → ClearCoded bank d x' → (c ≡ d) × (x ≡ x')
  clear_code bank x x' = coded_one _ _ _ c d (λ a b w v. clear_decided bank a b x x' w v)

  pub put_code : (bank : List ℕ) (k : ℕ) (rec x x' r r' : List ℕ) → PutCoded bank k rec c x r → PutCoded bank k rec d x' r' → (c ≡ d) × ((x ≡ x') × (r ≡ r'))
  put_code bank k rec x x' r r' = coded_one _ _ _ c d (λ a b w v. let g = put_decided bank a b x x' k rec r r' w v in (g.0.0, (g.0.1, g.1)))

  pub mark_code : (m : List ℕ) (call : MarkCall) (x x' : List ℕ) → MarkCoded m call c x → MarkCoded m call d x' → (c ≡ d) × (x ≡ x')
  mark_code m call x x' =
      coded_one _ _ _ c d (λ a b w v. by_agree (mark_cause (marks_in m) call) a b m x x' _ _ w v (λ e f. (e.0 ∙ sym f.0, e.1 ∙ sym f.1)))

  pub clear_window_code : (x x' : List ℕ) → ClearWindowCoded c x → ClearWindowCoded d x' → (c ≡ d) × (x ≡ x')
  clear_window_code x x' = coded_one _ _ _ c d (λ a b w v. (w.0 ∙ sym v.0, w.1 ∙ sym v.1))

  pub propose_code : (win m x x' n n' : List ℕ) → ProposeCoded win m c x n → ProposeCoded win m d x' n' → (c ≡ d) × (x ≡ x') × (n ≡ n')
  propose_code win m x x' n n' w v = (
    w.coded ∙ ap proposal_code (w.says.proposed ∙ sym v.says.proposed) ∙ sym v.coded,
    w.says.kept ∙ sym v.says.kept,
    w.kept ∙ sym v.kept,
  )

  -- "the card given with 11" is in the code too
  pub read_code : (b m out x x' n n' y y' : List ℕ) → ReadCoded b m out c x n y → ReadCoded b m out d x' n' y'
      → (c ≡ d) × ((y ≡ y') × (x ≡ x')) × (n ≡ n')
  read_code b m out x x' n n' y y' =
      under_one _ _ _ m c d n n' (λ marks a a' w v. let g = read_decided b marks out a a' x x' y y' w v in (g.0.0, (g.0.1, g.1)))

  pub get_code : (bank : List ℕ) (k : ℕ) (m out win x x' n n' y y' z z' : List ℕ) → GetCoded bank k m out win c x n y z
      → GetCoded bank k m out win d x' n' y' z' → (c ≡ d) × ((y ≡ y') × (x ≡ x') × (z ≡ z')) × (n ≡ n')
  get_code bank k m out win x x' n n' y y' z z' =
      under_one _ _ _ m c d n n' (λ marks a a' w v.
      let g = get_decided bank a a' x x' k marks out win y y' z z' w v in (g.0.0, (g.0.1, g.1, g.2)))

  pub patrol_code : (bank : List ℕ) (k : ℕ) (m win x x' n n' z z' : List ℕ) → PatrolCoded bank k m win c x n z → PatrolCoded bank k m win d x' n' z'
      → (c ≡ d) × ((x ≡ x') × (z ≡ z')) × (n ≡ n')
  patrol_code bank k m win x x' n n' z z' =
      under_one _ _ _ m c d n n' (λ marks a a' w v. let g = patrol_decided bank a a' x x' k marks win z z' w v in (g.0.0, (g.0.1, g.1)))

  pub report_code : (bank m x x' n n' : List ℕ) → ReportCoded bank m c x n → ReportCoded bank m d x' n' → (c ≡ d) × (x ≡ x') × (n ≡ n')
  report_code bank m x x' n n' = under_one _ _ _ m c d n n' (λ marks a a' w v. report_decided bank a a' x x' marks w v)

  pub write_code : (r : List ℕ) (a v : ℕ) (bank out win s s' x x' y y' z z' : List ℕ) → WriteCoded r a v bank out win c s x y z
      → WriteCoded r a v bank out win d s' x' y' z' → (c ≡ d) × ((s ≡ s') × (x ≡ x') × (y ≡ y') × (z ≡ z'))
  write_code r a v bank out win s s' x x' y y' z z' =
      coded_one _ _ _ c d (λ e f (p, w, t) (q, u, o).
      let g = write_decided (registers_in r) a v bank out win e f p q x x' y y' z z' w u in
      (g.0, (bytes e f p q g.1 (write_cause (registers_in r) a v) t o, g.2, g.3, g.4)))
    where
      bytes : (e f : Answer) (p q : Registers) → p ≡ q → (n : ℕ) → By n e (s ≡ r) (s ≡ register_bytes p) → By n f (s' ≡ r) (s' ≡ register_bytes q) → s ≡ s'
      bytes e f p q same zero t o = t ∙ ap register_bytes same ∙ sym o
      bytes e f p q same (suc n) t o = t.1 ∙ sym o.1

-- ---- slips
pub write_slip_code : (s : List ℕ) (i k asked c d : ℕ) (s' s'' : List ℕ) → WriteSlipCoded s i k asked c s' → WriteSlipCoded s i k asked d s''
    → (c ≡ d) × (s' ≡ s'')
write_slip_code s i k asked c d s' s'' w u =
    let e = write_slip_decided s i k (asked_in asked) w.wrote u.wrote s' s'' w.says u.says in
    (w.coded ∙ ap (wrote_code i) e.0 ∙ sym u.coded, e.1)

pub read_slip_code : (s : List ℕ) (i c d : ℕ) (s' s'' : List ℕ) → ReadSlipCoded s i c s' → ReadSlipCoded s i d s'' → (c ≡ d) × (s' ≡ s'')
read_slip_code s i c d s' s'' w u =
    let e = read_slip_decided s i w.found u.found s' s'' w.says u.says in
    (w.coded ∙ ap (found_code i) e.0 ∙ sym u.coded, e.1)
