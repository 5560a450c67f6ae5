-- A block with one wrong byte patrolled by command: the position is added, a clear of the bank leaves it, and the window's clear takes it out.
--
--   patrol_then         what the book says of the command: the run is longer by that position
--   clear_keeps         a clear of the bank keeps the run, refused or done
--   patrol_by_command   THE STATEMENT
use Prim.Native.Nat.{ℕ, zero, suc, ◌+◌, ◌*◌, ◌/◌, ◌%◌, ◌≤◌, ◌<◌}
use mathlib.Core.Path.{◌≡◌, refl, ap, ◌∙◌, subst}
use mathlib.Core.Logic.{◌≢◌}
use mathlib.Core.List.{List, [], ◌∷◌, ◌++◌}
use native.Mathlib.Omega.{arith}
use lib.ListN.{length, set}
use Rattle.answer.specs.Answer.{Answer, done, By}
use Rattle.answer.proofs.Causes.{by_accepted}
use Rattle.marks.specs.Marks.{fresh_marks}
use Rattle.marks.specs.declared.Marks.{Marks}
use Rattle.code.specs.Block.{byte, zeros, Stored}
use Rattle.code.specs.Labels.{built_in}
use Rattle.reading.specs.Reading.{ReadsUnder}
use Rattle.window.specs.Window.{window_of, fresh_window}
use Rattle.window.proofs.Runs.{window_empty}
use Rattle.block.specs.Read.{changed_at}
use Rattle.bank.specs.Calls.{clear_cause, patrol_cause}
use Rattle.bank.proofs.Accepted.{accepts}
use Rattle.registers.specs.Write.{command_of}
use Rattle.registers.specs.Write.{Command}
use Rattle.registers.specs.Write.{Patrol}
use Rattle.registers.proofs.Writes.{known_0}
use Rattle.book.specs.Book.{clear, put, clear_window, call, write, hit, State, Seen, Book, fresh_book, size, registers_of, marks_of, held_at}
use Rattle.book.specs.Book.{with_front, CommandSays, Booked, Step}
use Rattle.book.specs.Noted.{PatrolByCommand}
use Rattle.book.proofs.Whole.{whole}
use Rattle.book.proofs.OneHit.{fresh_lawful, after, asking, put_then, held, written}
use Rattle.book.proofs.FourGets.{changed_is, many_is, stored_at}

module _ (rec good : List ℕ) (stored : Stored built_in rec good) (i x : ℕ) (h : i < 45) (n : byte good i ≢ x) where
  patrol_then : (b b' : Book) (k v : ℕ) (out : List ℕ) (u : Seen) → command_of (registers_of b) v ≡ Patrol k → held_at b k ≡ set good i x
      → marks_of b ≡ fresh_marks → patrol_cause (size b) k fresh_marks ≡ 0 → Step b (write 0 v out) u b' → b'.run ≡ b.run ++ (i ∷ [])
  patrol_then b b' k v out u e at m z w =
      let f = (by_accepted _ w.says.0 _ _ (known_0 (registers_of b) v (Patrol k) e refl) w.says.2).1 in
      let y = subst (λ (c : Command). CommandSays b c out f.0 u.output f.1) e f.2 in
      let d = by_accepted _ f.0 _ _ (ap (λ (c : Marks). patrol_cause (size b) k c) m ∙ z) y.0.1 in
      let r = subst (λ (c : Marks). ReadsUnder c (set good i x) (set good i x) f.0 d.0) m
      (subst (λ (l : List ℕ). ReadsUnder (marks_of b) l l f.0 d.0) at d.1) in
      ap (λ (c : Book). c.run) f.3 ∙ ap (λ (c : Book). c.run) d.2
      ∙ ap (λ (l : List ℕ). b.run ++ l)
      (ap (λ (l : List ℕ). changed_at f.0 l d.0) at ∙ changed_is rec good stored i x h n (set good i x) f.0 d.0 r)

clear_keeps : (z : ℕ) (a : Answer) (b b' c : Book) → c.run ≡ b.run → By z a (b' ≡ b) ((a ≡ done) × (b' ≡ c)) → b'.run ≡ b.run
clear_keeps zero a b b' c e w = ap (λ (y : Book). y.run) w.1 ∙ e
clear_keeps (suc z) a b b' c e w = ap (λ (y : Book). y.run) w.1

module _ (n k : ℕ) (hi : n ≤ 1024) (hk : k < n) (rec : List ℕ) (lr : length rec ≡ 34) (i x : ℕ) (h : i < 45) (good : List ℕ)
    (stored : Stored built_in rec good) where
  -- the book with the block's number in the registers
  abbrev ready : Book
  ready = with_front (after n k good i x) (asking n k hi hk rec zeros lr refl i x h).front

  patrols : command_of (registers_of ready) 2 ≡ Patrol k
  unfolding command_of
  patrols = ap Patrol (let e : k % 256 + 256 * (k / 256) ≡ k = omega arith in e)

  accepted : patrol_cause (size ready) k fresh_marks ≡ 0
  accepted =
      ap (λ (m : ℕ). patrol_cause (45 * m) k fresh_marks) (many_is n k hi hk rec zeros lr refl i x h good stored)
      ∙ (accepts (45 * n) k 34 45 fresh_marks).patrol.1 ((n, omega arith, hi, refl), omega arith, fresh_lawful)

  ends : byte good i ≢ x → (b₄ b₅ b₆ b₇ : Book) (out : List ℕ) (u c d : Seen) → b₄ ≡ ready → Step b₄ (write 0 2 out) u b₅ → Step b₅ (call clear) c b₆
      → Step b₆ (call clear_window) d b₇
      → (u.after.window ≡ window_of (i ∷ [])) × (c.after.window ≡ window_of (i ∷ [])) × (d.after.window ≡ fresh_window)
  ends ne b₄ b₅ b₆ b₇ out u c d e w₅ w₆ w₇ =
      let e₅ = patrol_then rec good stored i x h ne ready b₅ k 2 out u patrols (held n k hi hk rec zeros lr refl i x h good) refl accepted
      (subst (λ (b : Book). Step b (write 0 2 out) u b₅) e w₅) in
      let e₆ = clear_keeps (clear_cause (size b₅)) w₆.says.0 b₅ b₆ _ refl w₆.says.2.1 ∙ e₅ in (
        ap (λ (τ : State). τ.window) w₅.after ∙ ap window_of e₅,
        ap (λ (τ : State). τ.window) w₆.after ∙ ap window_of e₆,
        ap (λ (τ : State). τ.window) w₇.after ∙ ap (λ (b : Book). window_of b.run) w₇.says.2.2 ∙ window_empty,
      )

pub patrol_by_command : PatrolByCommand
patrol_by_command n k hi hk rec lent more out lr i x h s t p q u c d r ne =
    let v = whole n (omega arith) hi _ (s ∷ t ∷ p ∷ q ∷ u ∷ c ∷ d ∷ []) r in
    go v.0 v.1
  where
    go : (b : Book)
        → Booked (fresh_book n) (call (put k rec) ∷ hit (45 * k + i) x ∷ write 1 (k % 256) lent ∷ write 2 (k / 256) more ∷ write 0 2 out ∷ call clear
        ∷ call clear_window ∷ []) (s ∷ t ∷ p ∷ q ∷ u ∷ c ∷ d ∷ []) b
        → (u.after.window ≡ window_of (i ∷ [])) × (c.after.window ≡ window_of (i ∷ [])) × (d.after.window ≡ fresh_window)
    go b (Booked.then {b' = b₁} w₁ (Booked.then {b' = b₂} w₂ (Booked.then {b' = b₃} w₃ (Booked.then {b' = b₄} w₄
        (Booked.then {b' = b₅} w₅ (Booked.then {b' = b₆} w₆ (Booked.then {b' = b₇} w₇ Booked.end))))))) =
        let g = put_then n k hi hk rec zeros lr refl i x h s t b₁ b₂ w₁ w₂ in
        let at = stored_at n k hi hk rec zeros lr refl i x h g.0 g.2 s b₁ g.3 w₁.after in
        let e₄ = written n k hi hk rec zeros lr refl i x h lent more p q b₂ b₃ b₄ g.0 g.1 w₃ w₄ in
        ends n k hi hk rec lr i x h g.0 g.2 (subst (λ (l : List ℕ). byte l i ≢ x) at ne) b₄ b₅ b₆ b₇ out u c d e₄ w₅ w₆ w₇
