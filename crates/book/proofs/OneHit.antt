-- One byte of a block is hit after a put: the damage is allowed and of the chip kind, the get is not refused, and gives the record.
--
--   put_done    what the book says of a put that is not refused; last_is: and that its record is the one last put
--   one_byte    a block with one byte set differs from it by a change of the chip kind
--   one_hit, one_hit_by_command   THE STATEMENTS, with the get by the call and by the command
use Prim.Native.Nat.{ℕ, suc, ◌+◌, ◌*◌, ◌/◌, ◌%◌, ◌≤◌, ◌<◌}
use mathlib.Core.Path.{◌≡◌, refl, sym, ap, ◌∙◌, subst}
use mathlib.Core.Logic.{◌≢◌, ◌⊎◌, inl, inr}
use mathlib.Core.Bool.{Bool, ◌&&◌}
use mathlib.Core.List.{List, [], ◌∷◌, ◌++◌}
use native.Mathlib.Omega.{arith}
use lib.Dec.{eqb}
use lib.ListN.{length, take, replicate, set, length-set, length-replicate}
use lib.Seq.{get_or-set_same, get_or-set_other}
use borrow.Author.Tests.{eq-eqb}
use Rattle.std.proofs.lemmas.Bool.{cases_eq}
use Rattle.base.specs.Base.{if}
use Rattle.answer.specs.Answer.{Answer}
use Rattle.answer.proofs.Causes.{by_accepted}
use Rattle.marks.specs.Marks.{fresh_marks}
pub use Rattle.marks.proofs.Laws.{fresh_lawful}
use Rattle.code.specs.Block.{byte, zeros, Stored}
use Rattle.code.specs.Labels.{built_in}
use Rattle.reading.specs.Allowed.{ChipKind}
use Rattle.bank.specs.Calls.{get_cause}
use Rattle.bank.proofs.Accepted.{accepts}
use Rattle.registers.specs.Registers.{fresh_registers}
use Rattle.registers.specs.Write.{command_of, stored}
use Rattle.registers.specs.declared.Registers.{Registers}
use Rattle.registers.specs.Write.{Get}
use Rattle.registers.proofs.Writes.{plain_0}
use Rattle.book.specs.Book.{put, get, Entry, call, write, hit, says, Seen, State, fresh_state, Ran}
use Rattle.book.specs.Book.{Book, fresh_book, registers_of, marks_of, held_at, with_both, with_held, with_front, Booked, Step}
use Rattle.book.specs.Kept.{good_at, last_put, DamageAllowed, DamageOfChipKind, by_call, by_command, Corrected, Answers, GivesRecord}
use Rattle.book.specs.Kept.{OneHit, OneHitByCommand}
use Rattle.book.proofs.Whole.{whole}
use Rattle.book.proofs.Hits.{puts, put_from}
use Rattle.book.proofs.Calls.{calls_give_last_put}

pub one_byte : (b : List ℕ) (i x : ℕ) → ChipKind [] (set b i x) b
one_byte b i x = (i ∷ [], omega arith, λ p l. at p (cases_eq p i))
  where
    at : (p : ℕ) → (p ≡ i) ⊎ (p ≢ i) → (byte (set b i x) p ≡ byte b p) ⊎ (⊥ ⊎ ((p ≡ i) ⊎ ⊥))
    at p (inl e) = inr (inr (inl e))
    at p (inr n) = inl (get_or-set_other b i p x 0 n)

-- the book after the put and the hit: the block stored, and held with byte i set to x
abbrev pub after : ℕ → ℕ → List ℕ → ℕ → ℕ → Book
after n k good i x = with_held (with_both (fresh_book n) k good) k (set good i x)

module _ (n k : ℕ) (hi : n ≤ 1024) (hk : k < n) (rec : List ℕ) (lr : length rec ≡ 34) where
  pub put_done : (s : Seen) (b : Book) → Step (fresh_book n) (call (put k rec)) s b
      → (good : List ℕ) × Stored built_in rec good × (b ≡ with_both (fresh_book n) k good)
  put_done s b w = put_from n k hi hk rec lr (fresh_book n) (length-replicate n zeros) s b w

  -- the record last put is this one, whatever follows that puts none
  pub last_is : (es : List Entry) → ((r : List ℕ) → last_put n k r es ≡ r) → (r : List ℕ) → last_put n k r (call (put k rec) ∷ es) ≡ rec
  unfolding last_put
  last_is es keeps r =
      keeps _ ∙ ap (λ (t : Bool). if (t && eqb k k) rec r) (eq-eqb _ 0 (puts n k hi hk rec lr)) ∙ ap (λ (t : Bool). if t rec r) (eq-eqb k k refl)

module _ (n k : ℕ) (hi : n ≤ 1024) (hk : k < n) (rec out : List ℕ) (lr : length rec ≡ 34) (lq : length out ≡ 45) (i x : ℕ) (h : i < 45) where
  pub gets : get_cause (45 * n) k fresh_marks (length out) ≡ 0
  gets = (accepts (45 * n) k 34 (length out) fresh_marks).get.1 ((n, omega arith, hi, refl), omega arith, fresh_lawful, lq)

  hit_then : (b : Book) (y : List ℕ) → b ≡ with_both (fresh_book n) k y
      → with_held b ((45 * k + i) / 45) (set (held_at b ((45 * k + i) / 45)) ((45 * k + i) % 45) x) ≡ after n k y i x
  hit_then b y e =
      let q : (45 * k + i) / 45 ≡ k = omega arith in
      let r : (45 * k + i) % 45 ≡ i = omega arith in
      let there : held_at (with_both (fresh_book n) k y) k ≡ y = get_or-set_same (replicate n zeros) k y [] (omega (arith, length-replicate n zeros)) in
      rw (e, q, r, there) refl

  -- what the book says of the put, and then of the hit
  pub put_then : (s t : Seen) (b₁ b₂ : Book) → Step (fresh_book n) (call (put k rec)) s b₁ → Step b₁ (hit (45 * k + i) x) t b₂
      → (good : List ℕ) × (b₂ ≡ after n k good i x) × Stored built_in rec good × (b₁ ≡ with_both (fresh_book n) k good)
  put_then s t b₁ b₂ w v =
      let d = put_done n k hi hk rec lr s b₁ w in
      (d.0, v.says.2 ∙ hit_then b₁ d.0 d.2, d.1, d.2)

  module _ (good : List ℕ) where
    pub held : held_at (after n k good i x) k ≡ set good i x
    held = get_or-set_same (set (replicate n zeros) k good) k (set good i x) [] (omega (arith, length-set (replicate n zeros) k good, length-replicate n zeros))

    kept : good_at (after n k good i x) k ≡ good
    kept = get_or-set_same (replicate n zeros) k good [] (omega (arith, length-replicate n zeros))

    by_chips : DamageOfChipKind (after n k good i x) k
    by_chips = rw (held, kept) (one_byte good i x)

  -- the record last put is this one
  last : last_put n k (replicate 34 0) (call (put k rec) ∷ hit (45 * k + i) x ∷ []) ≡ rec
  unfolding last_put
  last = last_is n k hi hk rec lr (hit (45 * k + i) x ∷ []) (λ r. refl) (replicate 34 0)

  abbrev list : List Entry
  list = call (put k rec) ∷ hit (45 * k + i) x ∷ []

  -- damage of the chip kind never reads as "several"
  given : (b : Book) (e : Entry) (u : Seen) (r : List ℕ) → r ≡ rec → DamageOfChipKind b k → GivesRecord b k r e u
      → (a : Answer) × Answers e u a × Corrected a × (take 34 u.output ≡ rec)
  given b e u r q d (inl (a, w, z, y)) = (a, w, z, y ∙ q)
  given b e u r q d (inr (j, w, c, never)) = absurd (never d)

  record_back : (s t u : Seen) → Ran (fresh_state n) (list ++ (call (get k out) ∷ [])) ((s ∷ t ∷ []) ++ (u ∷ [])) → (b : Book)
      → Booked (fresh_book n) list (s ∷ t ∷ []) b → (a : Answer) × (u.said ≡ says a) × Corrected a × (take 34 u.output ≡ rec)
  record_back s t u r b (Booked.then {b' = b₁} w (Booked.then {b' = b₂} v Booked.end)) =
      let g = put_then s t b₁ b₂ w v in
      let d = by_chips g.0 in
      let fine = subst (λ (y : Book). (get_cause (45 * n) k (marks_of y) (length out) ≡ 0) × DamageAllowed y k × DamageOfChipKind y k) (sym g.1)
      (gets, inl d, d) in
      given b₂ (call (get k out)) u _ last fine.2
      (calls_give_last_put n (omega arith) hi list (s ∷ t ∷ []) k out (call (get k out)) u r b₂ (Booked.then w (Booked.then v Booked.end)) by_call
      fine.0 fine.1)

  -- ---- the get by command
  -- a register that is written
  write_then : (p v : ℕ) (lent : List ℕ) (s : Seen) (b b' : Book) → suc p < 8 → suc p ≢ 4 → suc p ≢ 5 → Step b (write (suc p) v lent) s b'
      → b' ≡ with_front b (stored (registers_of b) (suc p) v).front
  write_then p v lent s b b' l e f w =
      (by_accepted _ w.says.0 _ _ (plain_0 (registers_of b) v (suc p) (λ z. omega arith) l e f) w.says.2).1.0

  -- the registers with the block's number in them
  abbrev pub asking : Registers
  asking = stored (stored fresh_registers 1 (k % 256)) 2 (k / 256)

  asks : command_of asking 1 ≡ Get k
  unfolding command_of
  asks = ap Get (let e : k % 256 + 256 * (k / 256) ≡ k = omega arith in e)

  module _ (lent more : List ℕ) where
    abbrev longer : List Entry
    longer = call (put k rec) ∷ hit (45 * k + i) x ∷ write 1 (k % 256) lent ∷ write 2 (k / 256) more ∷ []

    last_longer : last_put n k (replicate 34 0) longer ≡ rec
    unfolding last_put
    last_longer = last

    pub written : (p q : Seen) (b₂ b₃ b₄ : Book) (good : List ℕ) → b₂ ≡ after n k good i x → Step b₂ (write 1 (k % 256) lent) p b₃
        → Step b₃ (write 2 (k / 256) more) q b₄ → b₄ ≡ with_front (after n k good i x) asking.front
    written p q b₂ b₃ b₄ good e w v =
        let f = write_then 0 (k % 256) lent p b₂ b₃ (omega arith) (λ z. omega arith) (λ z. omega arith) w in
        let g = write_then 1 (k / 256) more q b₃ b₄ (omega arith) (λ z. omega arith) (λ z. omega arith) v in
        g ∙ ap (λ (b : Book). with_front b (stored (registers_of b) 2 (k / 256)).front)
        (f ∙ ap (λ (b : Book). with_front b (stored (registers_of b) 1 (k % 256)).front) e)

    command_back : (s t p q u : Seen) → Ran (fresh_state n) (longer ++ (write 0 1 out ∷ [])) ((s ∷ t ∷ p ∷ q ∷ []) ++ (u ∷ [])) → (b : Book)
        → Booked (fresh_book n) longer (s ∷ t ∷ p ∷ q ∷ []) b → (a : Answer) × Answers (write 0 1 out) u a × Corrected a × (take 34 u.output ≡ rec)
    command_back s t p q u r b (Booked.then {b' = b₁} w (Booked.then {b' = b₂} v (Booked.then {b' = b₃} w' (Booked.then {b' = b₄} v' Booked.end)))) =
        let g = put_then s t b₁ b₂ w v in
        let d = by_chips g.0 in
        let fine = subst (λ (y : Book). (get_cause (45 * n) k (marks_of y) (length out) ≡ 0) × DamageAllowed y k × DamageOfChipKind y k
        × (command_of (registers_of y) 1 ≡ Get k)) (sym (written p q b₂ b₃ b₄ g.0 g.1 w' v')) (gets, inl d, d, asks) in
        given b₄ (write 0 1 out) u _ last_longer fine.2
        (calls_give_last_put n (omega arith) hi longer (s ∷ t ∷ p ∷ q ∷ []) k out (write 0 1 out) u r b₄
        (Booked.then w (Booked.then v (Booked.then w' (Booked.then v' Booked.end)))) (by_command 1 fine.3) fine.0 fine.1)

-- a list without its last entry
front : {σ : State} (e₁ e₂ e₃ : Entry) (s t u : Seen) → Ran σ (e₁ ∷ e₂ ∷ e₃ ∷ []) (s ∷ t ∷ u ∷ []) → Ran σ (e₁ ∷ e₂ ∷ []) (s ∷ t ∷ [])
front e₁ e₂ e₃ s t u (Ran.then d₁ (Ran.then d₂ r)) = Ran.then d₁ (Ran.then d₂ Ran.end)

pub one_hit : OneHit
one_hit n k hi hk rec out lr lq i x h s t u r =
    let v = whole n (omega arith) hi (list n k hi hk rec out lr lq i x h) (s ∷ t ∷ []) (front _ _ _ s t u r) in
    record_back n k hi hk rec out lr lq i x h s t u r v.0 v.1

front_five : {σ : State} (e₁ e₂ e₃ e₄ e₅ : Entry) (s t p q u : Seen) → Ran σ (e₁ ∷ e₂ ∷ e₃ ∷ e₄ ∷ e₅ ∷ []) (s ∷ t ∷ p ∷ q ∷ u ∷ [])
    → Ran σ (e₁ ∷ e₂ ∷ e₃ ∷ e₄ ∷ []) (s ∷ t ∷ p ∷ q ∷ [])
front_five e₁ e₂ e₃ e₄ e₅ s t p q u (Ran.then d₁ (Ran.then d₂ (Ran.then d₃ (Ran.then d₄ r)))) = Ran.then d₁ (Ran.then d₂ (Ran.then d₃ (Ran.then d₄ Ran.end)))

pub one_hit_by_command : OneHitByCommand
one_hit_by_command n k hi hk rec out lent more lr lq i x h s t p q u r =
    let v = whole n (omega arith) hi (longer n k hi hk rec out lr lq i x h lent more) (s ∷ t ∷ p ∷ q ∷ []) (front_five _ _ _ _ _ s t p q u r) in
    command_back n k hi hk rec out lr lq i x h lent more s t p q u r v.0 v.1
