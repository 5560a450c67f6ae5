-- Order 11 about lists: a block that was put and then hit, so that exactly two of its chips are bad, and no marks.
--
--   PatrolOf        a patrol of block k: the call, or the command that stands for it; ByCommand: which commands do
--   GetsTwoBad      in any list that ran, a get of such a block: of one card that card, n = 2 and the record last put; of two cards 10, the
--                   output being as before
--   PatrolsTwoBad   a patrol of it: of one card the block in the bank is then the one that was put, of two cards it is as before
--   two_hits        a put, and hits of two bytes of the block; HitAt, HitTwice: whatever came before, this is such damage
--   ShownAt         such a list on a bank just cleared, with a get and a patrol, that can be run, and what is seen of it
--   CanBeHit        there is one for every record and every two bytes; AtTheLimits: in the smallest bank, and in the last block of the largest
use Rattle.std.specs.Prelude.{ℕ, ◌+◌, ◌*◌, ◌/◌, ◌%◌, ◌≤◌, ◌<◌, ◌≡◌, ◌≢◌, List, [], ◌∷◌, ◌++◌, length, take, replicate}
use Rattle.answer.specs.Answer.{Answer}
use Rattle.marks.specs.Marks.{fresh_marks}
use Rattle.code.specs.Block.{byte}
use Rattle.reading.specs.TwoBad.{TwoBad, TwoSay}
use Rattle.bank.specs.Calls.{block, get_cause, patrol_cause}
use Rattle.registers.specs.Registers.{register}
use Rattle.registers.specs.Write.{command_of}
use Rattle.registers.specs.Write.{Patrol}
use Rattle.book.specs.Book.{put, get, patrol, Entry, call, write, hit, says, Seen, in_force, fresh_state, Ran}
use Rattle.book.specs.Book.{Book, fresh_book, registers_of, marks_of, held_at, Booked}
use Rattle.book.specs.Kept.{good_at, last_put, GetOf, Answers}
use Rattle.book.specs.Possible.{Bytes}

-- ---- in any list
-- as the registers of the book b have it
pub data PatrolOf (b : Book) (k : ℕ) : Entry → Type 0 where
  patrolled_by_call : PatrolOf b k (call (patrol k))
  patrolled_by_command : (v : ℕ) (out : List ℕ) → command_of (registers_of b) v ≡ Patrol k → PatrolOf b k (write 0 v out)

-- with the block's number in bytes 1 and 2, 1 written to byte 0 is such a get, and 2 such a patrol
abbrev pub ByCommand : Type 0
ByCommand = (b : Book) (k : ℕ) (out : List ℕ) → register (registers_of b) 1 ≡ k % 256 → register (registers_of b) 2 ≡ k / 256
    → GetOf b k out (write 0 1 out) × PatrolOf b k (write 0 2 out)

-- in every list that ran and ends with that get, by every book of what came before it
abbrev pub GetsTwoBad : Type 0
GetsTwoBad = (n : ℕ) (es : List Entry) (ss : List Seen) (k : ℕ) (out : List ℕ) (e : Entry) (s : Seen)
    → Ran (fresh_state n) (es ++ (e ∷ [])) (ss ++ (s ∷ [])) → (b : Book) → Booked (fresh_book n) es ss b → GetOf b k out e
    → get_cause (45 * n) k (marks_of b) (length out) ≡ 0 → marks_of b ≡ fresh_marks → (p q : ℕ) → TwoBad (held_at b k) (good_at b k) p q
    → (a : Answer) × Answers e s a × TwoSay p q (good_at b k) out a s.output × (take 34 (good_at b k) ≡ last_put n k (replicate 34 0) es)

abbrev pub PatrolsTwoBad : Type 0
PatrolsTwoBad = (n : ℕ) (es : List Entry) (ss : List Seen) (k : ℕ) (e : Entry) (s : Seen)
    → Ran (fresh_state n) (es ++ (e ∷ [])) (ss ++ (s ∷ [])) → (b : Book) → Booked (fresh_book n) es ss b → PatrolOf b k e
    → patrol_cause (45 * n) k (marks_of b) ≡ 0 → marks_of b ≡ fresh_marks → (p q : ℕ) → TwoBad (held_at b k) (good_at b k) p q
    → (a : Answer) × Answers e s a × TwoSay p q (good_at b k) (held_at b k) a (block s.after.bank k)

-- ---- such damage: a record put, and two bytes of its block hit
abbrev pub two_hits : ℕ → List ℕ → ℕ → ℕ → ℕ → ℕ → List Entry
two_hits k rec p x q y = call (put k rec) ∷ hit (45 * k + p) x ∷ hit (45 * k + q) y ∷ []

-- in the book b, s being what was seen of the put and u of the last hit: block k is bad in two chips, good as it was put and held as it is in
-- the bank; the marks are those of the put
abbrev pub HitAt : ℕ → ℕ → ℕ → Seen → Seen → Book → Type 0
HitAt k p q s u b =
    TwoBad (held_at b k) (good_at b k) p q × (good_at b k ≡ block s.after.bank k) × (held_at b k ≡ block u.after.bank k)
    × (marks_of b ≡ in_force s.after.rest)

-- after any list; both bytes were others before they were hit
abbrev pub HitTwice : Type 0
HitTwice = (n k : ℕ) → n ≤ 1024 → k < n → (rec : List ℕ) → length rec ≡ 34 → (p q : ℕ) → p < 45 → q < 45 → p ≢ q → (x y : ℕ)
    → (es : List Entry) (ss : List Seen) (s t u : Seen) → Ran (fresh_state n) (es ++ two_hits k rec p x q y) (ss ++ (s ∷ t ∷ u ∷ []))
    → byte (block s.after.bank k) p ≢ x → byte (block s.after.bank k) q ≢ y
    → (b : Book) → Booked (fresh_book n) (es ++ two_hits k rec p x q y) (ss ++ (s ∷ t ∷ u ∷ [])) b
    → HitAt k p q s u b × (last_put n k (replicate 34 0) (es ++ two_hits k rec p x q y) ≡ rec)

-- ---- there are such lists
-- the get's answer is a, the patrol's is c, and the block that was put begins with the record
abbrev pub ShownAt : ℕ → ℕ → List ℕ → List ℕ → ℕ → ℕ → Type 0
ShownAt n k rec out p q = (x : ℕ) × (y : ℕ) × (s : Seen) × (t : Seen) × (u : Seen) × (v : Seen) × (w : Seen)
    × Ran (fresh_state n) (two_hits k rec p x q y ++ (call (get k out) ∷ call (patrol k) ∷ [])) (s ∷ t ∷ u ∷ v ∷ w ∷ [])
    × ((a : Answer) × (v.said ≡ says a) × TwoSay p q (block s.after.bank k) out a v.output)
    × ((c : Answer) × (w.said ≡ says c) × TwoSay p q (block s.after.bank k) (block u.after.bank k) c (block w.after.bank k))
    × (take 34 (block s.after.bank k) ≡ rec)

abbrev pub CanBeHit : Type 0
CanBeHit = (n k : ℕ) → n ≤ 1024 → k < n → (rec out : List ℕ) → Bytes rec → length rec ≡ 34 → length out ≡ 45
    → (p q : ℕ) → p < 45 → q < 45 → p ≢ q → ShownAt n k rec out p q

abbrev pub AtTheLimits : Type 0
AtTheLimits = (rec out : List ℕ) → Bytes rec → length rec ≡ 34 → length out ≡ 45
    → ShownAt 1 0 rec out 0 1 × ShownAt 1024 1023 rec out 44 43 × ShownAt 1024 1023 rec out 0 44
