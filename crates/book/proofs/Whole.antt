-- Demand 3, second sentence: all that is seen of any list of calls, register writes and hits is what the book says.
--
--   booked           a call, as it is seen
--   runs_next        a command, by the call that it stands for; write_next: a register write
--   step, whole_from one entry of any kind; any list
--   fresh_is         at the start the state is that of the book; whole_long: the book's blocks are 45 long after any list
--   whole            THE STATEMENT
use Prim.Native.Nat.{ℕ, zero, suc, ◌/◌, ◌%◌, ◌<◌}
use mathlib.Core.Path.{◌≡◌, refl, sym, ap, ap₂, ◌∙◌, subst}
use mathlib.Core.List.{List, [], ◌∷◌}
use lib.ListN.{set}
use Rattle.answer.specs.Answer.{Answer, done, By}
use Rattle.marks.specs.declared.Marks.{Marks}
use Rattle.code.specs.Block.{zeros}
use Rattle.window.specs.Window.{last_64, window_of, proposal}
use Rattle.window.proofs.Runs.{window_empty}
use Rattle.window.proofs.Proposed.{window_proposal}
use Rattle.registers.specs.Registers.{fresh_registers, raised}
use Rattle.registers.specs.Write.{command_of, Runs, ran, stored, write_cause, Writes, WriteDone}
use Rattle.registers.specs.declared.Registers.{Registers}
use Rattle.registers.specs.Write.{Command}
use Rattle.registers.specs.Write.{Get, Patrol, Mark, Unknown}
use Rattle.book.specs.Book.{Call, clear, put, get, patrol, report, mark, clear_window, Entry, call, write, hit}
use Rattle.book.specs.Book.{Rest, State, says, Seen, state, seen, rest_of, in_force, with_record, fresh_state}
use Rattle.book.specs.Book.{CallDone, EntryDone, Ran, Book, fresh_book, flat, state_of}
use Rattle.book.specs.Book.{registers_of, marks_of, held_at, with_held, with_front}
use Rattle.book.specs.Book.{CommandSays, WriteSays, Step, Booked, WholeList}
use Rattle.book.proofs.Blocks.{EachLong, each_replicate, replicate_flat}
use Rattle.book.proofs.Next.{Landed, Next, size_flat, clear_next, put_next, get_next, patrol_next, report_next, mark_next, clear_window_next, hit_next}

-- ---- one entry, on the book's own state
module _ (b : Book) (long : EachLong 45 b.held) where
  -- the interrupt is that of the registers in the state
  told : (τ : State) (b' : Book) → τ ≡ state_of b' → raised τ.rest.registers ≡ raised (registers_of b')
  told τ b' e = ap (λ (σ : State). raised σ.rest.registers) e

  -- and the proposal is that of the last 64 of the run
  proposes : (τ : State) (b' : Book) → τ ≡ state_of b' → proposal τ.window (in_force τ.rest) ≡ proposal (last_64 b'.run) (marks_of b')
  proposes τ b' e = ap (λ (σ : State). proposal σ.window (in_force σ.rest)) e ∙ window_proposal b'.run (marks_of b')

  booked : (c : Call) (a : Answer) (out : List ℕ) (τ : State) (s : Seen) → s ≡ seen (says a) out τ → Next b c a out τ
      → (b' : Book) × Step b (call c) s b' × EachLong 45 b'.held
  booked c a out τ s e v = rw e (
    v.0,
    record { says = (a, refl, v.1); after = v.2.state; interrupt = told _ v.0 v.2.state; proposal = proposes _ v.0 v.2.state },
    v.2.long,
  )

  call_step : (c : Call) (s : Seen) → CallDone (state_of b) c s → (b' : Book) × Step b (call c) s b' × EachLong 45 b'.held
  call_step clear s (a, bank, w, e) = booked clear a [] _ s e (clear_next b long a bank w)
  call_step (put k rec) s (a, bank, rec', w, e) = booked (put k rec) a [] _ s e (put_next b long k rec a bank rec' w)
  call_step (get k out) s (a, bank, out', win, w, e) = booked (get k out) a out' _ s e (get_next b long k out a bank out' win w)
  call_step (patrol k) s (a, bank, win, w, e) = booked (patrol k) a [] _ s e (patrol_next b long k a bank win w)
  call_step report s (a, bank, w, e) = booked report a [] _ s e (report_next b long a bank w)
  call_step (mark c) s (a, m, w, e) = booked (mark c) a [] _ s e (mark_next b long c a m w)
  call_step clear_window s (a, win, w, e) = booked clear_window a [] _ s e (clear_window_next b long a win w)

  -- a command that answered a and left the mark record m: the book after the call that it stands for, and then the registers
  command_next : (v : ℕ) (a : Answer) (m : Marks) (bank win : List ℕ) (w : Rest) (c : Book) → Landed c (state bank w win) → in_force w ≡ m
      → Landed (with_front c (ran (registers_of b) v a (marks_of c)).front) (state bank (rest_of (ran (registers_of b) v a m)) win)
  command_next v a m bank win w c l e = record {
    state =
        ap₂ (λ (x : List ℕ) (n : Marks). state x (rest_of (ran (registers_of b) v a n)) win) (ap (λ (τ : State). τ.bank) l.state)
        (sym e ∙ ap (λ (τ : State). in_force τ.rest) l.state)
        ∙ ap (λ (y : List ℕ). state (flat c.held) (rest_of (ran (registers_of b) v a (marks_of c))) y) (ap (λ (τ : State). τ.window) l.state);
    long = l.long;
  }

  runs_next : (v : ℕ) (c : Command) (lent : List ℕ) (a : Answer) (m : Marks) (bank out win : List ℕ)
      → Runs (marks_of b) c (flat b.held) lent (window_of b.run) a m bank out win
      → (c' : Book) × CommandSays b c lent a out c'
      × Landed (with_front c' (ran (registers_of b) v a (marks_of c')).front) (state bank (rest_of (ran (registers_of b) v a m)) win)
  runs_next v (Get k) lent a m bank out win (w, e) =
      let n = get_next b long k lent a bank out win w in
      (n.0, n.1, command_next v a m bank win b.rest n.0 n.2 (sym e))
  runs_next v (Patrol k) lent a m bank out win (w, e, o) =
      let n = patrol_next b long k a bank win w in
      (n.0, (n.1, o), command_next v a m bank win b.rest n.0 n.2 (sym e))
  runs_next v (Mark c) lent a m bank out win (w, e, o, f) =
      let n = mark_next b long c a m w in (
        n.0,
        (n.1, o),
        subst (λ (x : List ℕ). Landed (with_front n.0 (ran (registers_of b) v a (marks_of n.0)).front)
            (state x (rest_of (ran (registers_of b) v a m)) win)) (sym e)
            (subst (λ (y : List ℕ). Landed (with_front n.0 (ran (registers_of b) v a (marks_of n.0)).front)
            (state (flat b.held) (rest_of (ran (registers_of b) v a m)) y)) (sym f)
            (command_next v a m (flat b.held) (window_of b.run) (with_record b.rest m) n.0 n.2 refl)),
      )
  runs_next v Unknown lent a m bank out win w = absurd w

  write_next : (p v : ℕ) (lent : List ℕ) (x : Answer) (r : Registers) (bank out win : List ℕ)
      → WriteDone (registers_of b) p v (flat b.held) lent (window_of b.run) x r bank out win
      → (b' : Book) × By (write_cause (registers_of b) p v) x ((b' ≡ b) × (out ≡ lent)) ((x ≡ done) × WriteSays b p v lent out b')
      × Landed b' (state bank (rest_of r) win)
  unfolding WriteDone
  write_next p v lent x r bank out win w = by (write_cause (registers_of b) p v) w
    where
      same_state : (r' : Registers) → r ≡ r' → bank ≡ flat b.held → win ≡ window_of b.run
          → state bank (rest_of r) win ≡ state (flat b.held) (rest_of r') (window_of b.run)
      same_state r' e f g = ap₂ (λ (y : List ℕ) (s : Registers). state y (rest_of s) win) f e ∙ ap (λ (y : List ℕ). state (flat b.held) (rest_of r') y) g

      writes : (p : ℕ) → Writes (registers_of b) p v (flat b.held) lent (window_of b.run) r bank out win
          → (b' : Book) × WriteSays b p v lent out b' × Landed b' (state bank (rest_of r) win)
      writes zero (a, m, d, e) =
          let n = runs_next v (command_of (registers_of b) v) lent a m bank out win d in (
            with_front n.0 (ran (registers_of b) v a (marks_of n.0)).front,
            (a, n.0, n.1, refl),
            subst (λ (y : Registers). Landed (with_front n.0 (ran (registers_of b) v a (marks_of n.0)).front) (state bank (rest_of y) win))
                (sym e) n.2,
          )
      writes (suc p) (e, f, o, g) = (
        with_front b (stored (registers_of b) (suc p) v).front,
        (refl, o),
        record { state = same_state (stored (registers_of b) (suc p) v) e f g; long = long },
      )

      by : (n : ℕ) → By n x ((r ≡ registers_of b) × (bank ≡ flat b.held) × (out ≡ lent) × (win ≡ (window_of b.run)))
          ((x ≡ done) × Writes (registers_of b) p v (flat b.held) lent (window_of b.run) r bank out win)
          → (b' : Book) × By n x ((b' ≡ b) × (out ≡ lent)) ((x ≡ done) × WriteSays b p v lent out b') × Landed b' (state bank (rest_of r) win)
      by zero (e, d) = let n = writes p d in (n.0, (e, n.1), n.2)
      by (suc n) (e, (f, g, o, i)) = (b, (e, (refl, o)), record { state = same_state (registers_of b) f g i; long = long })

  pub step : (e : Entry) (s : Seen) → EntryDone (state_of b) e s → (b' : Book) × Step b e s b' × EachLong 45 b'.held
  step (call c) s w = call_step c s w
  step (write a v lent) s (x, r, bank, out, win, w, e) =
      let n = write_next a v lent x r bank out win w in
      rw e (
        n.0,
        record { says = (x, refl, n.1); after = n.2.state; interrupt = told _ n.0 n.2.state; proposal = proposes _ n.0 n.2.state },
        n.2.long,
      )
  step (hit i x) s (h, v, e) =
      let n = hit_next b long i x (subst (λ (l : ℕ). i < l) (size_flat b long) h) in
      rw e (
        with_held b (i / 45) (set (held_at b (i / 45)) (i % 45) x),
        record { says = (refl, refl, refl); after = n.state; interrupt = refl; proposal = window_proposal b.run (marks_of b) },
        n.long,
      )

-- ---- any list
whole_from : (b : Book) → EachLong 45 b.held → (σ : State) → σ ≡ state_of b → (es : List Entry) (ss : List Seen) → Ran σ es ss
    → (b' : Book) × Booked b es ss b' × EachLong 45 b'.held
whole_from b long σ i [] [] Ran.end = (b, Booked.end, long)
whole_from b long σ i (e ∷ es) (s ∷ ss) (Ran.then c r) =
    let n = step b long e s (subst (λ (τ : State). EntryDone τ e s) i c) in
    let w = whole_from n.0 n.2 s.after n.1.after es ss r in
    (w.0, Booked.then n.1 w.1, w.2)
whole_from b long σ i [] (s ∷ ss) r = elim r [ ]
whole_from b long σ i (e ∷ es) [] r = elim r [ ]

pub fresh_is : (n : ℕ) → fresh_state n ≡ state_of (fresh_book n)
fresh_is n = ap₂ (λ (l win : List ℕ). state l (rest_of fresh_registers) win) (replicate_flat 45 n 0) (sym window_empty)

-- and the book's blocks are 45 long
pub whole_long : (n : ℕ) (es : List Entry) (ss : List Seen) → Ran (fresh_state n) es ss → (b : Book) × Booked (fresh_book n) es ss b × EachLong 45 b.held
whole_long n es ss r = whole_from (fresh_book n) (each_replicate 45 n zeros refl) (fresh_state n) (fresh_is n) es ss r

pub whole : WholeList
whole n lo hi es ss r = let w = whole_long n es ss r in (w.0, w.1)
