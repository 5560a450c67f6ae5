-- All that is ever added to the window are positions.
--
--   changed_below    what a reading changes are positions
--   call_below, command_below, write_below, step_below   one entry adds positions alone
--   run_positions    THE STATEMENT
--   proposal_seen    the proposal that is seen is what the call says
use Prim.Native.Nat.{ℕ, zero, suc, ◌<◌}
use mathlib.Core.Path.{◌≡◌, subst, sym}
use mathlib.Core.Logic.{◌⊎◌, inl, inr}
use mathlib.Core.Bool.{Bool, true, false}
use mathlib.Core.List.{List, [], ◌∷◌, ◌++◌}
use lib.ListN.{length}
use Rattle.base.specs.Base.{if, In}
use Rattle.base.proofs.Those.{in_append}
use Rattle.answer.specs.Answer.{Answer, By}
use Rattle.marks.specs.Mark.{mark_cause}
use Rattle.code.specs.Block.{differing}
use Rattle.code.proofs.Differing.{differing_below}
use Rattle.block.specs.Read.{is_corrected, changed_at}
use Rattle.bank.specs.Calls.{clear_cause, put_cause, get_cause, patrol_cause}
use Rattle.registers.specs.Write.{command_of, write_cause}
use Rattle.registers.specs.Write.{Command}
use Rattle.registers.specs.Write.{Get, Patrol, Mark, Unknown}
use Rattle.book.specs.Book.{Call, clear, put, get, patrol, report, mark, clear_window, Entry, call, write, hit, Seen}
use Rattle.book.specs.Book.{Book, fresh_book, size, registers_of, marks_of, held_at, CallSays, CommandSays, WriteSays, Step, Booked}
use Rattle.book.specs.Noted.{RunOfPositions, ProposalSeen}

abbrev Below : List ℕ → Type 0
Below l = (p : ℕ) → In p l → p < 45

changed_below : (a : Answer) (b x : List ℕ) → Below (changed_at a b x)
changed_below a b x = go (is_corrected a)
  where
    go : (t : Bool) → Below (if t (differing b x) [])
    go true = differing_below b x
    go false = λ p i. absurd i

both_below : (l k : List ℕ) → Below l → Below k → Below (l ++ k)
both_below l k f g p i = pick (in_append p l k i)
  where
    pick : In p l ⊎ In p k → p < 45
    pick (inl j) = f p j
    pick (inr j) = g p j

same_run : {b b' : Book} → b' ≡ b → Below b.run → Below b'.run
same_run e f = subst (λ (x : Book). Below x.run) (sym e) f

-- where it is refused, and where it is done
by_below : (n : ℕ) (a : Answer) (b b' : Book) (D : Type 0) → Below b.run → (D → Below b'.run) → By n a (b' ≡ b) D → Below b'.run
by_below zero a b b' D f g d = g d
by_below (suc n) a b b' D f g (e, u) = same_run u f

both_by : (n : ℕ) (a : Answer) (b b' : Book) (O D : Type 0) → Below b.run → (D → Below b'.run) → By n a ((b' ≡ b) × O) D → Below b'.run
both_by zero a b b' O D f g d = g d
both_by (suc n) a b b' O D f g (e, u) = same_run u.0 f

call_below : (b : Book) (c : Call) (a : Answer) (out : List ℕ) (b' : Book) → Below b.run → CallSays b c a out b' → Below b'.run
call_below b clear a out b' f (o, w) = by_below (clear_cause (size b)) a b b' _ f (λ d. same_run d.1 f) w
call_below b (put k rec) a out b' f (o, w) = by_below (put_cause (size b) k (length rec)) a b b' _ f (λ d. same_run d.1.2 f) w
call_below b (get k lent) a out b' f w =
    both_by (get_cause (size b) k (marks_of b) (length lent)) a b b' _ _ f
    (λ d. same_run d.1 (both_below b.run _ f (changed_below a (held_at b k) out))) w
call_below b (patrol k) a out b' f (o, w) =
    by_below (patrol_cause (size b) k (marks_of b)) a b b' _ f (λ d. same_run d.2 (both_below b.run _ f (changed_below a (held_at b k) d.0))) w
call_below b report a out b' f (o, e, w) = same_run e f
call_below b (mark c) a out b' f (o, w) = by_below (mark_cause (marks_of b) c) a b b' _ f (λ d. same_run d.1 f) w
call_below b clear_window a out b' f (o, e, g) = same_run g (λ p i. absurd i)

command_below : (b : Book) (c : Command) (lent : List ℕ) (a : Answer) (out : List ℕ) (b' : Book) → Below b.run → CommandSays b c lent a out b'
    → Below b'.run
command_below b (Get k) lent a out b' f w = call_below b (get k lent) a out b' f w
command_below b (Patrol k) lent a out b' f w = call_below b (patrol k) a [] b' f w.0
command_below b (Mark c) lent a out b' f w = call_below b (mark c) a [] b' f w.0
command_below b Unknown lent a out b' f w = absurd w

write_below : (b : Book) (p v : ℕ) (lent out : List ℕ) (b' : Book) → Below b.run → WriteSays b p v lent out b' → Below b'.run
write_below b zero v lent out b' f (a, c, w, e) = same_run e (command_below b (command_of (registers_of b) v) lent a out c f w)
write_below b (suc p) v lent out b' f (e, o) = same_run e f

step_below : (b : Book) (e : Entry) (s : Seen) (b' : Book) → Below b.run → Step b e s b' → Below b'.run
step_below b (call c) s b' f w = call_below b c w.says.0 s.output b' f w.says.2
step_below b (write p v lent) s b' f w =
    both_by (write_cause (registers_of b) p v) w.says.0 b b' _ _ f (λ d. write_below b p v lent s.output b' f d.1) w.says.2
step_below b (hit i x) s b' f w = same_run w.says.2 f

all_below : (es : List Entry) (ss : List Seen) (b b'' : Book) → Below b.run → Booked b es ss b'' → Below b''.run
all_below [] [] b b'' f Booked.end = f
all_below (e ∷ es) (s ∷ ss) b b'' f (Booked.then {b' = b'} w r) = all_below es ss b' b'' (step_below b e s b' f w) r
all_below [] (s ∷ ss) b b'' f w = elim w [ ]
all_below (e ∷ es) [] b b'' f w = elim w [ ]

pub run_positions : RunOfPositions
run_positions n es ss b w = all_below es ss (fresh_book n) b (λ p i. absurd i) w

pub proposal_seen : ProposalSeen
proposal_seen σ said out r win' w = (w.proposed, w.kept)
