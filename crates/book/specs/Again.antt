-- Order 3 about lists: a mark that is there, placed again.
--
--   last_state    the state after a list; after_list: from the start; LastOfBook: it is that of the book
--   LawfulAlways  after any list the mark record is lawful
--   CallAgain     after any list, a call that places a mark which is there is done and leaves the state as it was
--   WriteAgain    the same by command, but for the registers, which tell of it (told_done)
--   PlacedBy      an entry has placed a mark, by call or by command; PlacedTwice: it is there for the next one, by call or by command
--   TwoOfUs       a chip is marked by a call, by another call, and by a command
use Rattle.std.specs.Prelude.{ℕ, ◌<◌, ◌≡◌, ◌⊎◌, true, List, [], ◌∷◌}
use Rattle.answer.specs.Answer.{done}
use Rattle.marks.specs.Marks.{LawfulMarks}
use Rattle.marks.specs.Mark.{of_chips, places, Already}
use Rattle.std.specs.Prelude.{None}
use Rattle.marks.specs.declared.MarkCall.{MarkCall}
use Rattle.marks.specs.declared.MarkCall.TheVariants.{PlaceChip}
use Rattle.registers.specs.Registers.{register}
use Rattle.registers.specs.Write.{command_of, ran}
use Rattle.registers.specs.Write.{Mark}
use Rattle.book.specs.Book.{mark, Entry, call, write, State, says, Seen, state, seen, rest_of, in_force, fresh_state}
use Rattle.book.specs.Book.{CallDone, EntryDone, Ran, Book, fresh_book, state_of, Booked}

abbrev pub last_state : State → List Seen → State
last_state σ [] = σ
last_state σ (s ∷ ss) = last_state s.after ss

abbrev pub after_list : ℕ → List Seen → State
after_list n ss = last_state (fresh_state n) ss

abbrev pub LastOfBook : Type 0
LastOfBook = (n : ℕ) (es : List Entry) (ss : List Seen) (b : Book) → Booked (fresh_book n) es ss b → after_list n ss ≡ state_of b

abbrev pub LawfulAlways : Type 0
LawfulAlways = (n : ℕ) (es : List Entry) (ss : List Seen) → Ran (fresh_state n) es ss → LawfulMarks (in_force (after_list n ss).rest)

-- "Placing a mark that is already there is now accepted and changes nothing"
abbrev pub CallAgain : Type 0
CallAgain = (n : ℕ) (es : List Entry) (ss : List Seen) → Ran (fresh_state n) es ss
    → (c : MarkCall) → Already (in_force (after_list n ss).rest) c
    → (s : Seen) → CallDone (after_list n ss) (mark c) s → s ≡ seen (says done) [] (after_list n ss)

-- what is seen of a command that was done and changed the registers alone: bytes 0, 4, 5 and 7 tell of it
abbrev pub told_done : State → ℕ → List ℕ → Seen
told_done σ v out = seen (says done) out (state σ.bank (rest_of (ran σ.rest.registers v done (in_force σ.rest))) σ.window)

-- "The register command sets bit 0."
abbrev pub WriteAgain : Type 0
WriteAgain = (n : ℕ) (es : List Entry) (ss : List Seen) → Ran (fresh_state n) es ss
    → (c : MarkCall) → Already (in_force (after_list n ss).rest) c
    → (v : ℕ) → command_of (after_list n ss).rest.registers v ≡ Mark c
    → (out : List ℕ) (s : Seen) → EntryDone (after_list n ss) (write 0 v out) s → s ≡ told_done (after_list n ss) v out

-- a call that says done, or a command after which byte 4 is 3
abbrev pub PlacedBy : State → MarkCall → Seen → Type 0
PlacedBy σ c s = (CallDone σ (mark c) s × (s.said ≡ says done))
    ⊎ ((v : ℕ) × (out : List ℕ) × (command_of σ.rest.registers v ≡ Mark c) × EntryDone σ (write 0 v out) s
    × (register s.after.rest.registers 4 ≡ 3))

abbrev pub PlacedTwice : Type 0
PlacedTwice = (n : ℕ) (es : List Entry) (ss : List Seen) → Ran (fresh_state n) es ss
    → (c : MarkCall) → places c ≡ true → (s : Seen) → PlacedBy (after_list n ss) c s
    → Already (in_force s.after.rest) c
    × ((t : Seen) → CallDone s.after (mark c) t → t ≡ seen (says done) [] s.after)
    × ((v : ℕ) → command_of s.after.rest.registers v ≡ Mark c → (out : List ℕ) (t : Seen) → EntryDone s.after (write 0 v out) t
    → t ≡ told_done s.after v out)

-- "Two of us often mark the same chip.": any chip p, on a bank just cleared; the command is given p in byte 3
abbrev pub TwoOfUs : Type 0
TwoOfUs = (n p : ℕ) → p < 45 → (lent out : List ℕ) (s t u v : Seen)
    → Ran (fresh_state n) (call (mark (PlaceChip p)) ∷ call (mark (PlaceChip p)) ∷ write 3 p lent ∷ write 0 3 out ∷ []) (s ∷ t ∷ u ∷ v ∷ [])
    → (s.said ≡ says done) × (in_force s.after.rest ≡ of_chips None (p ∷ [])) × (t ≡ seen (says done) [] s.after) × (v.said ≡ says done)
    × (register v.after.rest.registers 4 ≡ 3) × (in_force v.after.rest ≡ of_chips None (p ∷ []))
    × PlacedBy (fresh_state n) (PlaceChip p) s × PlacedBy u.after (PlaceChip p) v
