-- Which lists can be asked for, so that the whole list of Book.antt is about something.
--
--   Bytes            bytes are numbers below 256
--   Possible         what an entry brings can be brought; AllPossible: each entry of a list
--   AnyList          every list that can be asked for can be run
use Rattle.std.specs.Prelude.{ℕ, ◌*◌, ◌<◌, List, [], ◌∷◌, length, get_or}
use Rattle.book.specs.Book.{clear, put, get, patrol, report, mark, clear_window, Entry, call, write, hit, Seen, fresh_state, Ran}

-- bytes are numbers below 256: a record's, and what a hit sets, which lies in the bank of n blocks; of a register write nothing is asked
abbrev pub Bytes : List ℕ → Type 0
Bytes l = (p : ℕ) → p < length l → get_or l p 0 < 256

abbrev pub Possible : ℕ → Entry → Type 0
Possible n (call clear) = Unit {0}
Possible n (call (put k rec)) = Bytes rec
Possible n (call (get k out)) = Unit {0}
Possible n (call (patrol k)) = Unit {0}
Possible n (call report) = Unit {0}
Possible n (call (mark c)) = Unit {0}
Possible n (call clear_window) = Unit {0}
Possible n (write a v out) = Unit {0}
Possible n (hit i x) = (i < 45 * n) × (x < 256)

abbrev pub AllPossible : ℕ → List Entry → Type 0
AllPossible n [] = Unit {0}
AllPossible n (e ∷ es) = Possible n e × AllPossible n es

-- every such list can be run
abbrev pub AnyList : Type 0
AnyList = (n : ℕ) (es : List Entry) → AllPossible n es → (ss : List Seen) × Ran (fresh_state n) es ss
