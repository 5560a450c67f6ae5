-- What a write does is decided: two outcomes on the same registers, bank, output and window agree in every byte.
--
--   runs_decided    two outcomes of a command
--   write_decided   THE STATEMENT
use Prim.Native.Nat.{ℕ, zero, suc}
use mathlib.Core.Path.{◌≡◌, sym, ap₂, ◌∙◌}
use mathlib.Core.List.{List}
use Rattle.answer.specs.Answer.{Answer, done, By}
use Rattle.marks.specs.declared.Marks.{Marks}
use Rattle.marks.proofs.Plain.{mark_decided}
use Rattle.bank.proofs.Decided.{get_decided, patrol_decided}
use Rattle.registers.specs.Write.{command_of, Runs, ran, write_cause, Writes, WriteDone}
use Rattle.registers.specs.Plain.{WriteDecided}
use Rattle.registers.specs.Write.{Command}
use Rattle.registers.specs.Write.{Get, Patrol, Mark, Unknown}

-- ---- two outcomes of a command
pub record Same (a a' : Answer) (m m' : Marks) (x x' y y' z z' : List ℕ) : Type 0 where
  pub answer : a ≡ a'
  pub marks : m ≡ m'
  pub bank : x ≡ x'
  pub output : y ≡ y'
  pub window : z ≡ z'

pub runs_decided : (m : Marks) (c : Command) (bank out win : List ℕ) (a a' : Answer) (m' m'' : Marks) (bank' bank'' out' out'' win' win'' : List ℕ)
    → Runs m c bank out win a m' bank' out' win' → Runs m c bank out win a' m'' bank'' out'' win'' → Same a a' m' m'' bank' bank'' out' out'' win' win''
runs_decided m (Get k) bank out win a a' m' m'' bank' bank'' out' out'' win' win'' (w, e) (v, f) =
    let d = get_decided bank a a' bank' bank'' k m out win out' out'' win' win'' w v in
    record { answer = d.0.0; marks = e ∙ sym f; bank = d.1; output = d.0.1; window = d.2 }
runs_decided m (Patrol k) bank out win a a' m' m'' bank' bank'' out' out'' win' win'' (w, e, o) (v, f, p) =
    let d = patrol_decided bank a a' bank' bank'' k m win win' win'' w v in
    record { answer = d.0.0; marks = e ∙ sym f; bank = d.0.1; output = o ∙ sym p; window = d.1 }
runs_decided m (Mark c) bank out win a a' m' m'' bank' bank'' out' out'' win' win'' (w, b, o, i) (v, d, p, j) =
    let e = mark_decided m c a a' m' m'' w v in
    record { answer = e.0; marks = e.1; bank = b ∙ sym d; output = o ∙ sym p; window = i ∙ sym j }
runs_decided m Unknown bank out win a a' m' m'' bank' bank'' out' out'' win' win'' w v = absurd w

pub write_decided : WriteDecided
unfolding WriteDone
write_decided r a v bank out win x x' r' r'' bank' bank'' out' out'' win' win'' w u = by (write_cause r a v) w u
  where
    writes : (a : ℕ) → Writes r a v bank out win r' bank' out' win' → Writes r a v bank out win r'' bank'' out'' win''
        → (r' ≡ r'') × (bank' ≡ bank'') × (out' ≡ out'') × (win' ≡ win'')
    writes zero (b, m, d, e) (c, n, f, g) =
        let s = runs_decided r.marks (command_of r v) bank out win b c m n bank' bank'' out' out'' win' win'' d f in (
          e ∙ ap₂ (ran r v) s.answer s.marks ∙ sym g,
          s.bank,
          s.output,
          s.window,
        )
    writes (suc a) (e, b, o, i) (f, d, p, j) = (e ∙ sym f, b ∙ sym d, o ∙ sym p, i ∙ sym j)

    by : (n : ℕ) → By n x ((r' ≡ r) × (bank' ≡ bank) × (out' ≡ out) × (win' ≡ win)) ((x ≡ done) × Writes r a v bank out win r' bank' out' win')
        → By n x' ((r'' ≡ r) × (bank'' ≡ bank) × (out'' ≡ out) × (win'' ≡ win)) ((x' ≡ done) × Writes r a v bank out win r'' bank'' out'' win'')
        → (x ≡ x') × (r' ≡ r'') × (bank' ≡ bank'') × (out' ≡ out'') × (win' ≡ win'')
    by zero (e, d) (f, g) = let s = writes a d g in (e ∙ sym f, s.0, s.1, s.2, s.3)
    by (suc n) (e, (p, b, o, i)) (f, (q, c, g, j)) = (e ∙ sym f, p ∙ sym q, b ∙ sym c, o ∙ sym g, i ∙ sym j)
