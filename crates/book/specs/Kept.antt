-- Demand 3, last sentence, about the same lists: where the damage is allowed, a get gives the record last put, or "several".
--
--   last_put         the record last put into block k; zeros after a clear; a refused put counts for nothing
--   DamageAllowed    the difference between the good and the held block, just before the call
--   GetOf            a get of block k: the call, or the command that stands for it
--   Corrected        the answers of a block that is corrected
--   Answers          what such an entry answers: the call's answer, or the one that the registers tell
--   GivesRecord      the record, or "several", and when not "several"
--   GetsLastPut      the statement, of the book. It has no clause on patrols: damage that is allowed at the get is enough
--   CallsGiveLastPut the statement, of every list that ran and every book that the list gives
--   OneHit, OneHitByCommand   lists that meet its premises, and what it says of them
use Rattle.std.specs.Prelude.{ℕ, ◌+◌, ◌*◌, ◌/◌, ◌%◌, ◌≤◌, ◌<◌, ◌≡◌, true, ◌&&◌, ◌⊎◌, List, [], ◌∷◌, ◌++◌, eqb, length, take, replicate, get_or}
use Rattle.base.specs.Base.{if}
use Rattle.answer.specs.Answer.{Answer, done, refused_card}
use Rattle.marks.specs.Marks.{marked_chips}
use Rattle.std.specs.Prelude.{None}
use Rattle.reading.specs.Allowed.{Allowed, OfChipKind}
use Rattle.block.specs.Read.{is_corrected}
use Rattle.bank.specs.Calls.{put_cause, get_cause}
use Rattle.registers.specs.Write.{command_of}
use Rattle.registers.specs.Plain.{last_answer}
use Rattle.registers.specs.Write.{Get}
use Rattle.book.specs.Book.{clear, put, get, patrol, report, mark, clear_window, Entry, call, write, hit, says, Seen, fresh_state, Ran}
use Rattle.book.specs.Book.{Book, fresh_book, registers_of, marks_of, held_at, Booked, Step}

-- the record in block k after an entry, in a bank of n blocks
abbrev pub record_after : ℕ → ℕ → Entry → List ℕ → List ℕ
record_after n k (call clear) rec = replicate 34 0
record_after n k (call (put j new)) rec = if (eqb (put_cause (45 * n) j (length new)) 0 && eqb j k) new rec
record_after n k (call (get j out)) rec = rec
record_after n k (call (patrol j)) rec = rec
record_after n k (call report) rec = rec
record_after n k (call (mark c)) rec = rec
record_after n k (call clear_window) rec = rec
record_after n k (write a v out) rec = rec
record_after n k (hit i x) rec = rec

-- rec is the record before the list
unfoldable pub last_put : ℕ → ℕ → List ℕ → List Entry → List ℕ
last_put n k rec [] = rec
last_put n k rec (e ∷ es) = last_put n k (record_after n k e rec) es

abbrev pub good_at : Book → ℕ → List ℕ
good_at b k = get_or b.good k []

abbrev pub DamageAllowed : Book → ℕ → Type 0
DamageAllowed b k = Allowed (marks_of b).card (marked_chips (marks_of b)) (held_at b k) (good_at b k)

abbrev pub DamageOfChipKind : Book → ℕ → Type 0
DamageOfChipKind b k = OfChipKind (marks_of b).card (marked_chips (marks_of b)) (held_at b k) (good_at b k)

-- a get of block k with the output out, as the registers of the book b have it
pub data GetOf (b : Book) (k : ℕ) (out : List ℕ) : Entry → Type 0 where
  by_call : GetOf b k out (call (get k out))
  by_command : (v : ℕ) → command_of (registers_of b) v ≡ Get k → GetOf b k out (write 0 v out)

-- the call's answer; of a command, that the write is done, and the answer that the registers tell
abbrev pub Answers : Entry → Seen → Answer → Type 0
Answers (call c) s a = s.said ≡ says a
Answers (write p v out) s a = (s.said ≡ says done) × (last_answer s.after.rest.registers ≡ a)
Answers (hit i x) s a = ⊥

abbrev pub Corrected : Answer → Type 0
Corrected a = is_corrected a ≡ true

-- corrected, and the output begins with the record; or 11, and that neither with a card marked nor of damage of the chip kind
abbrev pub GivesRecord : Book → ℕ → List ℕ → Entry → Seen → Type 0
GivesRecord b k rec e s =
    ((a : Answer) × Answers e s a × Corrected a × (take 34 s.output ≡ rec))
    ⊎ ((j : ℕ) × Answers e s (refused_card 11 j) × ((marks_of b).card ≡ None) × (DamageOfChipKind b k → ⊥))

abbrev pub GetsLastPut : Type 0
GetsLastPut = (n : ℕ) → 1 ≤ n → n ≤ 1024 → (es : List Entry) (ss : List Seen) (b : Book) → Booked (fresh_book n) es ss b
    → (k : ℕ) (out : List ℕ) (e : Entry) → GetOf b k out e → (s : Seen) (b' : Book) → Step b e s b'
    → get_cause (45 * n) k (marks_of b) (length out) ≡ 0 → DamageAllowed b k → GivesRecord b k (last_put n k (replicate 34 0) es) e s

-- the same of what the functions do: in every list that ran and ends with that get, by every book of what came before it
abbrev pub CallsGiveLastPut : Type 0
CallsGiveLastPut = (n : ℕ) → 1 ≤ n → n ≤ 1024 → (es : List Entry) (ss : List Seen) (k : ℕ) (out : List ℕ) (e : Entry) (s : Seen)
    → Ran (fresh_state n) (es ++ (e ∷ [])) (ss ++ (s ∷ [])) → (b : Book) → Booked (fresh_book n) es ss b → GetOf b k out e
    → get_cause (45 * n) k (marks_of b) (length out) ≡ 0 → DamageAllowed b k → GivesRecord b k (last_put n k (replicate 34 0) es) e s

-- ---- the sentence is about something: a record put, any one byte of its block hit, and a get, with nothing marked
-- the get is not refused, the damage is allowed and of the chip kind, and so the record comes back
abbrev pub OneHit : Type 0
OneHit = (n k : ℕ) → n ≤ 1024 → k < n → (rec out : List ℕ) → length rec ≡ 34 → length out ≡ 45 → (i x : ℕ) → i < 45
    → (s t u : Seen) → Ran (fresh_state n) (call (put k rec) ∷ hit (45 * k + i) x ∷ call (get k out) ∷ []) (s ∷ t ∷ u ∷ [])
    → (a : Answer) × (u.said ≡ says a) × Corrected a × (take 34 u.output ≡ rec)

-- the same with the get by command: the block's number written to bytes 1 and 2, and then 1 to byte 0; lent and more are any outputs
abbrev pub OneHitByCommand : Type 0
OneHitByCommand = (n k : ℕ) → n ≤ 1024 → k < n → (rec out lent more : List ℕ) → length rec ≡ 34 → length out ≡ 45 → (i x : ℕ) → i < 45
    → (s t p q u : Seen)
    → Ran (fresh_state n) (call (put k rec) ∷ hit (45 * k + i) x ∷ write 1 (k % 256) lent ∷ write 2 (k / 256) more ∷ write 0 1 out ∷ [])
    (s ∷ t ∷ p ∷ q ∷ u ∷ [])
    → (a : Answer) × Answers (write 0 1 out) u a × Corrected a × (take 34 u.output ≡ rec)
