-- A mark that is there, placed again in a list: done, and nothing changes.
--
--   last_from   the state after a list, from any book on
--   lawful_call, lawful_write, lawful_entry   an entry leaves a lawful mark record; lawful_run: and a list
--   same_call, same_write   a call, and a command, that places a mark which is there; done_there, there_by: one that was placed is there
--   last_of_book, lawful_always, call_again, write_again, placed_twice   THE STATEMENTS
use Prim.Native.Nat.{ℕ, zero, suc}
use mathlib.Core.Path.{◌≡◌, refl, sym, ap, ◌∙◌, subst}
use mathlib.Core.Logic.{◌≢◌, inl, inr}
use mathlib.Core.Bool.{true}
use mathlib.Core.List.{List, [], ◌∷◌}
use native.Mathlib.Omega.{arith}
use Rattle.answer.specs.Answer.{Answer, done, refused, number, By}
use Rattle.answer.proofs.Causes.{by_accepted}
use Rattle.marks.specs.Marks.{LawfulMarks}
use Rattle.marks.specs.Mark.{mark_cause, MarkDone, places, Already}
use Rattle.marks.specs.declared.Marks.{Marks}
use Rattle.marks.specs.declared.MarkCall.{MarkCall}
use Rattle.marks.proofs.Laws.{mark_done_lawful, mark_done, mark_refused}
use Rattle.marks.proofs.Again.{placed_there, mark_again}
use Rattle.registers.specs.Registers.{register}
use Rattle.registers.specs.Write.{command_of, Runs, answer_byte, write_cause, Writes, WriteDone}
use Rattle.registers.specs.declared.Registers.{Registers}
use Rattle.registers.specs.Write.{Command}
use Rattle.registers.specs.Write.{Get, Patrol, Mark, Unknown}
use Rattle.registers.proofs.Writes.{known_0}
use Rattle.registers.proofs.Leaves.{command_again}
use Rattle.book.specs.Book.{Call, clear, put, get, patrol, report, mark, clear_window, Entry, call, write, hit}
use Rattle.book.specs.Book.{State, Said, says, nothing_said, Seen, seen, in_force, fresh_state, CallDone, EntryDone, Ran}
use Rattle.book.specs.Book.{Book, fresh_book, state_of, Booked}
use Rattle.book.specs.Again.{last_state, after_list, told_done, LastOfBook, LawfulAlways, CallAgain, WriteAgain, PlacedBy, PlacedTwice}
use Rattle.book.proofs.OneHit.{fresh_lawful}
use Rattle.book.proofs.Whole.{fresh_is}

-- ---- the state after a list
last_from : (b : Book) (σ : State) → σ ≡ state_of b → (es : List Entry) (ss : List Seen) (b' : Book) → Booked b es ss b' → last_state σ ss ≡ state_of b'
last_from b σ i [] [] b' Booked.end = i
last_from b σ i (e ∷ es) (s ∷ ss) b'' (Booked.then {b' = b'} w r) = last_from b' s.after w.after es ss b'' r
last_from b σ i [] (s ∷ ss) b' w = elim w [ ]
last_from b σ i (e ∷ es) [] b' w = elim w [ ]

pub last_of_book : LastOfBook
last_of_book n es ss b w = last_from (fresh_book n) (fresh_state n) (fresh_is n) es ss b w

-- ---- the mark record of a list is lawful
abbrev pub Lawful : State → Type 0
Lawful σ = LawfulMarks (in_force σ.rest)

as_seen : {s t : Seen} → s ≡ t → Lawful t.after → Lawful s.after
as_seen e l = subst (λ (x : Seen). Lawful x.after) (sym e) l

module _ (σ : State) (l : Lawful σ) where
  lawful_call : (c : Call) (s : Seen) → CallDone σ c s → Lawful s.after
  lawful_call clear s (a, bank, w, e) = as_seen e l
  lawful_call (put k rec) s (a, bank, rec', w, e) = as_seen e l
  lawful_call (get k out) s (a, bank, out', win, w, e) = as_seen e l
  lawful_call (patrol k) s (a, bank, win, w, e) = as_seen e l
  lawful_call report s (a, bank, w, e) = as_seen e l
  lawful_call (mark c) s (a, m, w, e) = as_seen e (mark_done_lawful (in_force σ.rest) c a m l w)
  lawful_call clear_window s (a, win, w, e) = as_seen e l

lawful_runs : (m : Marks) (c : Command) (bank out win : List ℕ) (a : Answer) (m' : Marks) (bank' out' win' : List ℕ)
    → Runs m c bank out win a m' bank' out' win' → LawfulMarks m → LawfulMarks m'
lawful_runs m (Get k) bank out win a m' bank' out' win' (w, e) l = subst LawfulMarks (sym e) l
lawful_runs m (Patrol k) bank out win a m' bank' out' win' (w, e, o) l = subst LawfulMarks (sym e) l
lawful_runs m (Mark c) bank out win a m' bank' out' win' (w, b, o, q) l = mark_done_lawful m c a m' l w
lawful_runs m Unknown bank out win a m' bank' out' win' w l = absurd w

lawful_write : (r : Registers) (a v : ℕ) (bank out win : List ℕ) (r' : Registers) (bank' out' win' : List ℕ) → Writes r a v bank out win r' bank' out' win'
    → LawfulMarks r.marks → LawfulMarks r'.marks
lawful_write r zero v bank out win r' bank' out' win' (a, m', w, e) l =
    subst (λ (x : Registers). LawfulMarks x.marks) (sym e) (lawful_runs r.marks (command_of r v) bank out win a m' bank' out' win' w l)
lawful_write r (suc a) v bank out win r' bank' out' win' (e, b, o, q) l = subst (λ (x : Registers). LawfulMarks x.marks) (sym e) l

lawful_entry : (σ : State) (e : Entry) (s : Seen) → Lawful σ → EntryDone σ e s → Lawful s.after
unfolding WriteDone
lawful_entry σ (call c) s l w = lawful_call σ l c s w
lawful_entry σ (write a v out) s l (x, r', bank', out', win', w, e) = as_seen e (go (write_cause σ.rest.registers a v) w)
  where
    r : Registers
    r = σ.rest.registers

    go : (n : ℕ)
        → By n x ((r' ≡ r) × (bank' ≡ σ.bank) × (out' ≡ out) × (win' ≡ σ.window)) ((x ≡ done) × Writes r a v σ.bank out σ.window r' bank' out' win')
        → LawfulMarks r'.marks
    go zero d = lawful_write r a v σ.bank out σ.window r' bank' out' win' d.1 l
    go (suc n) (f, u) = subst (λ (y : Registers). LawfulMarks y.marks) (sym u.0) l
lawful_entry σ (hit i x) s l (h, b, e) = as_seen e l

lawful_run : (σ : State) (es : List Entry) (ss : List Seen) → Lawful σ → Ran σ es ss → Lawful (last_state σ ss)
lawful_run σ [] [] l Ran.end = l
lawful_run σ (e ∷ es) (s ∷ ss) l (Ran.then w r) = lawful_run s.after es ss (lawful_entry σ e s l w) r
lawful_run σ [] (s ∷ ss) l w = elim w [ ]
lawful_run σ (e ∷ es) [] l w = elim w [ ]

pub lawful_always : LawfulAlways
lawful_always n es ss w = lawful_run (fresh_state n) es ss fresh_lawful w

-- ---- a mark that is there
pub same_call : (σ : State) (c : MarkCall) (s : Seen) → Lawful σ → Already (in_force σ.rest) c → CallDone σ (mark c) s → s ≡ seen (says done) [] σ
same_call σ c s l i (a, m', w, e) =
    let h = mark_again (in_force σ.rest) c a m' l i w in
    rw (h.0, h.1) at e

pub call_again : CallAgain
call_again n es ss w c i s d = same_call (after_list n ss) c s (lawful_always n es ss w) i d

pub same_write : (σ : State) (c : MarkCall) (v : ℕ) (out : List ℕ) (s : Seen) → Lawful σ → Already (in_force σ.rest) c
    → command_of σ.rest.registers v ≡ Mark c → EntryDone σ (write 0 v out) s
    → s ≡ told_done σ v out
same_write σ c v out s l i q (x, r', bank', out', win', w, e) =
    let h = command_again σ.rest.registers v c σ.bank out σ.window x r' bank' out' win' l q i w in
    rw (h.0, h.1, h.4, h.5, h.6) at e

pub write_again : WriteAgain
write_again n es ss w c i v q out s d = same_write (after_list n ss) c v out s (lawful_always n es ss w) i q d

-- ---- a mark that was placed
said_by : Said → Answer
said_by (says a) = a
said_by nothing_said = refused 0

-- where the call was not refused, the mark is there
done_there : (m : Marks) (c : MarkCall) (a : Answer) (m' : Marks) → places c ≡ true → MarkDone m c a m' → ((k : ℕ) → a ≢ refused (suc k)) → Already m' c
done_there m c a m' p w not_refused = go (mark_cause m c) refl
  where
    go : (k : ℕ) → mark_cause m c ≡ k → Already m' c
    go zero z = subst (λ (y : Marks). Already y c) (sym (mark_done m c a m' z w).1) (placed_there m c p z)
    go (suc k) z = absurd (not_refused k (mark_refused m c a m' k z w).0)

there_by : (σ : State) (c : MarkCall) (s : Seen) → places c ≡ true → PlacedBy σ c s → Already (in_force s.after.rest) c
unfolding said_by WriteDone
there_by σ c s p (inl ((a, m', w, e), q)) =
    let is : a ≡ done = ap said_by (sym (ap (λ (x : Seen). x.said) e) ∙ q) in
    subst (λ (x : Seen). Already (in_force x.after.rest) c) (sym e)
    (done_there (in_force σ.rest) c a m' p w (λ k z. omega (arith, ap number (sym z ∙ is))))
there_by σ c s p (inr (v, out, q, (x, r', bank', out', win', w, e), four)) =
    let r = σ.rest.registers in
    let d = (by_accepted (write_cause r 0 v) x _ _ (known_0 r v (Mark c) q refl) w).1 in
    let runs = subst (λ (y : Command). Runs r.marks y σ.bank out σ.window d.0 d.1 bank' out' win') q d.2 in
    let told : answer_byte d.0 ≡ 3 =
    sym (ap (λ (y : Registers). register y 4) d.3) ∙ sym (ap (λ (y : Seen). register y.after.rest.registers 4) e) ∙ four in
    subst (λ (y : Seen). Already (in_force y.after.rest) c) (sym e)
    (subst (λ (y : Registers). Already y.marks c) (sym d.3)
    (done_there r.marks c d.0 d.1 p runs.0 (λ k z. omega (arith, ap answer_byte (sym z) ∙ told))))

entry_by : (σ : State) (c : MarkCall) (s : Seen) → Lawful σ → PlacedBy σ c s → Lawful s.after
entry_by σ c s l (inl (d, q)) = lawful_call σ l (mark c) s d
entry_by σ c s l (inr (v, out, q, d, four)) = lawful_entry σ (write 0 v out) s l d

pub placed_twice : PlacedTwice
placed_twice n es ss w c p s d =
    let l = entry_by (after_list n ss) c s (lawful_always n es ss w) d in
    let there = there_by (after_list n ss) c s p d in
    (there, (λ t f. same_call s.after c t l there f), λ v q out t f. same_write s.after c v out t l there q f)
