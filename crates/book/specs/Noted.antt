-- Order 2 about lists: what the window comes to hold, and what is proposed then.
--
--   RunOfPositions   all that is ever added are positions, so that a 255 in the window is a place that is still free
--   ProposalSeen     the proposal that is seen after an entry is what the propose call says of that state
--   FourGets         a record put, one byte of its block hit, and four gets, with nothing marked: after the third get nothing is proposed, and after
--                    the fourth the chip that was hit
--   PatrolByCommand  such a block patrolled by command, a clear of the bank, and one of the window
use Rattle.std.specs.Prelude.{ℕ, ◌+◌, ◌*◌, ◌/◌, ◌%◌, ◌≤◌, ◌<◌, ◌≡◌, ◌≢◌, List, [], ◌∷◌, length}
use Rattle.base.specs.Base.{In}
use Rattle.code.specs.Block.{byte}
use Rattle.window.specs.Window.{window_of, fresh_window, ProposeDone}
use Rattle.window.specs.Window.{Proposal}
use Rattle.window.specs.Window.{Chip, Nothing}
use Rattle.bank.specs.Calls.{block}
use Rattle.book.specs.Book.{Entry, clear, put, get, clear_window, call, write, hit, State, Said, Seen, seen, in_force, fresh_state, Ran}
use Rattle.book.specs.Book.{Book, fresh_book, Booked}

abbrev pub RunOfPositions : Type 0
RunOfPositions = (n : ℕ) (es : List Entry) (ss : List Seen) (b : Book) → Booked (fresh_book n) es ss b → (p : ℕ) → In p b.run → p < 45

abbrev pub ProposalSeen : Type 0
ProposalSeen = (σ : State) (said : Said) (out : List ℕ) (r : Proposal) (win' : List ℕ) → ProposeDone σ.window (in_force σ.rest) r win'
    → (r ≡ (seen said out σ).proposal) × (win' ≡ σ.window)

-- the byte was another one before it was hit
abbrev pub FourGets : Type 0
FourGets = (n k : ℕ) → n ≤ 1024 → k < n → (rec out : List ℕ) → length rec ≡ 34 → length out ≡ 45 → (i x : ℕ) → i < 45 → (s t u₁ u₂ u₃ u₄ : Seen)
    → Ran (fresh_state n) (call (put k rec) ∷ hit (45 * k + i) x ∷ call (get k out) ∷ call (get k out) ∷ call (get k out) ∷ call (get k out) ∷ [])
    (s ∷ t ∷ u₁ ∷ u₂ ∷ u₃ ∷ u₄ ∷ []) → byte (block s.after.bank k) i ≢ x
    → (u₃.proposal ≡ Nothing) × (u₄.proposal ≡ Chip i) × (u₄.after.window ≡ window_of (i ∷ i ∷ i ∷ i ∷ []))

-- the block's number is written to bytes 1 and 2, and then 2 to byte 0; lent, more and out are any outputs
abbrev pub PatrolByCommand : Type 0
PatrolByCommand = (n k : ℕ) → n ≤ 1024 → k < n → (rec lent more out : List ℕ) → length rec ≡ 34 → (i x : ℕ) → i < 45 → (s t p q u c d : Seen)
    → Ran (fresh_state n)
    (call (put k rec) ∷ hit (45 * k + i) x ∷ write 1 (k % 256) lent ∷ write 2 (k / 256) more ∷ write 0 2 out ∷ call clear ∷ call clear_window ∷ [])
    (s ∷ t ∷ p ∷ q ∷ u ∷ c ∷ d ∷ []) → byte (block s.after.bank k) i ≢ x
    → (u.after.window ≡ window_of (i ∷ [])) × (c.after.window ≡ window_of (i ∷ [])) × (d.after.window ≡ fresh_window)
