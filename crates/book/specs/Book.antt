-- The book, and lists of calls, register writes and hits. Document 01, "The book"; demand 3, second sentence; document 02, orders 1 to 3 and 6.
--
--   Call, Entry      a call's arguments; an entry of the list: a call, a register write, or a hit
--   Rest, State      what is kept from one entry to the next: the bank, the window, and the rest, which is the registers; the marks in force
--                    are in them
--   Seen             what is seen of an entry: answer, output, the state after it, the interrupt, and the proposal
--   CallDone, EntryDone, Ran   a call, an entry, a list of entries, done by the functions' contracts, each on what the entry before left
--   Book             for each block good and held, the run of positions added since the window's last clear, and the same rest
--   CallSays         what the book says of a call; CommandSays: of a command, which stands for one; WriteSays: of a register write
--   Step, Booked     what it says of an entry, of a list of entries
--   WholeList        all that is seen of any list is what the book says
--   OneBook          the book says one thing; TwoCabinets: a list, run twice, shows the same
use Rattle.std.specs.Prelude.{ℕ, zero, suc, ◌*◌, ◌/◌, ◌%◌, ◌≤◌, ◌<◌, ◌≡◌, Bool, List, [], ◌∷◌, ◌++◌, length, replicate, get_or, set}
use Rattle.answer.specs.Answer.{Answer, done, By}
use Rattle.marks.specs.Mark.{mark_cause, marked, MarkDone}
use Rattle.marks.specs.declared.Marks.{Marks}
use Rattle.marks.specs.declared.MarkCall.{MarkCall}
use Rattle.code.specs.Block.{zeros, OneMember, Stored}
use Rattle.code.specs.Labels.{built_in}
use Rattle.reading.specs.Reading.{ReadsUnder}
use Rattle.window.specs.Window.{last_64, window_of, fresh_window, proposal, ClearWindowDone}
use Rattle.window.specs.Window.{Proposal}
use Rattle.block.specs.Read.{changed_at}
use Rattle.bank.specs.Calls.{clear_cause, put_cause, get_cause, patrol_cause, report_cause}
use Rattle.bank.specs.Calls.{ClearDone, PutDone, GetDone, PatrolDone, ReportDone, CountsEach}
use Rattle.registers.specs.Registers.{fresh_registers, raised}
use Rattle.registers.specs.Write.{command_of, ran, stored, write_cause, WriteDone}
use Rattle.registers.specs.declared.Registers.{Registers}
use Rattle.registers.specs.Write.{Command}
use Rattle.registers.specs.Write.{Get, Patrol, Mark, Unknown}

-- ---- the list
pub data Call : Type 0 where
  clear : Call
  put : (k : ℕ) (rec : List ℕ) → Call
  get : (k : ℕ) (out : List ℕ) → Call
  patrol : (k : ℕ) → Call
  report : Call
  mark : (c : MarkCall) → Call
  clear_window : Call

-- a register write of v to address a brings an output of its own; a hit sets byte i of the bank to x
pub data Entry : Type 0 where
  call : Call → Entry
  write : (a v : ℕ) (out : List ℕ) → Entry
  hit : (i x : ℕ) → Entry

-- ---- what is kept, and what is seen
-- bytes 8 to 11 of the registers are the mark record, for calls and commands alike
pub record Rest : Type 0 where
  pub registers : Registers

pub record State : Type 0 where
  pub bank : List ℕ
  pub rest : Rest
  pub window : List ℕ

-- a hit is no call, and nothing is said
pub data Said : Type 0 where
  says : Answer → Said
  nothing_said : Said

pub record Seen : Type 0 where
  pub said : Said
  pub output : List ℕ
  pub after : State
  pub interrupt : Bool
  pub proposal : Proposal

abbrev pub state : List ℕ → Rest → List ℕ → State
state bank w win = record { bank = bank; rest = w; window = win }

-- the interrupt is asked for and the proposal called for after each entry: neither changes anything
abbrev pub seen : Said → List ℕ → State → Seen
seen said out σ = record {
  said = said;
  output = out;
  after = σ;
  interrupt = raised σ.rest.registers;
  proposal = proposal σ.window σ.rest.registers.marks;
}

abbrev pub rest_of : Registers → Rest
rest_of r = record { registers = r }

abbrev pub in_force : Rest → Marks
in_force w = w.registers.marks

-- the registers with the mark record m
abbrev pub with_record : Rest → Marks → Rest
with_record w m = rest_of (record { front = w.registers.front; marks = m })

-- n blocks, just cleared, fresh registers, and a window that holds nothing
abbrev pub fresh_state : ℕ → State
fresh_state n = state (replicate (45 * n) 0) (rest_of fresh_registers) fresh_window

-- ---- the calls: each does what the function's contract says, and leaves alone what the function is not handed
abbrev pub CallDone : State → Call → Seen → Type 0
CallDone σ clear s = (a : Answer) × (bank' : List ℕ) × ClearDone σ.bank a bank' × (s ≡ seen (says a) [] (state bank' σ.rest σ.window))
CallDone σ (put k rec) s =
    (a : Answer) × (bank' : List ℕ) × (rec' : List ℕ) × PutDone σ.bank k rec a bank' rec' × (s ≡ seen (says a) [] (state bank' σ.rest σ.window))
CallDone σ (get k out) s =
    (a : Answer) × (bank' : List ℕ) × (out' : List ℕ) × (win' : List ℕ) × GetDone σ.bank k (in_force σ.rest) out σ.window a bank' out' win'
    × (s ≡ seen (says a) out' (state bank' σ.rest win'))
CallDone σ (patrol k) s =
    (a : Answer) × (bank' : List ℕ) × (win' : List ℕ) × PatrolDone σ.bank k (in_force σ.rest) σ.window a bank' win'
    × (s ≡ seen (says a) [] (state bank' σ.rest win'))
CallDone σ report s =
    (a : Answer) × (bank' : List ℕ) × ReportDone σ.bank (in_force σ.rest) a bank' × (s ≡ seen (says a) [] (state bank' σ.rest σ.window))
CallDone σ (mark c) s =
    (a : Answer) × (m' : Marks) × MarkDone (in_force σ.rest) c a m'
    × (s ≡ seen (says a) [] (state σ.bank (with_record σ.rest m') σ.window))
CallDone σ clear_window s =
    (a : Answer) × (win' : List ℕ) × ClearWindowDone a win' × (s ≡ seen (says a) [] (state σ.bank σ.rest win'))

-- "A hit sets any one byte of the bank to any value"
abbrev pub EntryDone : State → Entry → Seen → Type 0
EntryDone σ (call c) s = CallDone σ c s
EntryDone σ (write a v out) s =
    (x : Answer) × (r' : Registers) × (bank' : List ℕ) × (out' : List ℕ) × (win' : List ℕ)
    × WriteDone σ.rest.registers a v σ.bank out σ.window x r' bank' out' win' × (s ≡ seen (says x) out' (state bank' (rest_of r') win'))
EntryDone σ (hit i x) s = (i < length σ.bank) × (x < 256) × (s ≡ seen nothing_said [] (state (set σ.bank i x) σ.rest σ.window))

pub data Ran : State → List Entry → List Seen → Type 0 where
  end : {σ : State} → Ran σ [] []
  then : {σ : State} {e : Entry} {es : List Entry} {s : Seen} {ss : List Seen} → EntryDone σ e s → Ran s.after es ss → Ran σ (e ∷ es) (s ∷ ss)

-- ---- the book
pub record Book : Type 0 where
  pub good : List (List ℕ)
  pub held : List (List ℕ)
  pub rest : Rest
  pub run : List ℕ

-- n blocks of zeros
abbrev pub zero_book : ℕ → Rest → List ℕ → Book
zero_book n w run = record { good = replicate n zeros; held = replicate n zeros; rest = w; run = run }

-- "The window starts empty"
abbrev pub fresh_book : ℕ → Book
fresh_book n = zero_book n (rest_of fresh_registers) []

-- the blocks one after the other
abbrev pub flat : List (List ℕ) → List ℕ
flat [] = []
flat (b ∷ bs) = b ++ flat bs

-- "The bank after each entry is the held blocks; the mark record is the marks in force."; the window holds the last 64 of the run
abbrev pub state_of : Book → State
state_of b = state (flat b.held) b.rest (window_of b.run)

-- how many blocks; the bytes of its bank; its registers, and its marks; block k as held
abbrev pub many : Book → ℕ
many b = length b.held

abbrev pub size : Book → ℕ
size b = 45 * many b

abbrev pub registers_of : Book → Registers
registers_of b = b.rest.registers

abbrev pub marks_of : Book → Marks
marks_of b = in_force b.rest

abbrev pub held_at : Book → ℕ → List ℕ
held_at b k = get_or b.held k []

abbrev pub with_marks : Book → Marks → Book
with_marks b m = record { good = b.good; held = b.held; rest = with_record b.rest m; run = b.run }

-- with other bytes 0 to 7
abbrev pub with_front : Book → List ℕ → Book
with_front b f = record { good = b.good; held = b.held; rest = rest_of (record { front = f; marks = marks_of b }); run = b.run }

abbrev pub with_held : Book → ℕ → List ℕ → Book
with_held b k x = record { good = b.good; held = set b.held k x; rest = b.rest; run = b.run }

abbrev pub with_both : Book → ℕ → List ℕ → Book
with_both b k x = record { good = set b.good k x; held = set b.held k x; rest = b.rest; run = b.run }

abbrev pub with_run : Book → List ℕ → Book
with_run b l = record { good = b.good; held = b.held; rest = b.rest; run = l }

-- with the positions ps added
abbrev pub noted : Book → List ℕ → Book
noted b ps = with_run b (b.run ++ ps)

-- what the book says of a call: the answer, the output, and the book after it
-- "Refused call: the lowest number of its causes, nothing changes."
abbrev pub CallSays : Book → Call → Answer → List ℕ → Book → Type 0
-- "every good and held block becomes zeros"
CallSays b clear a out b' = (out ≡ []) × By (clear_cause (size b)) a (b' ≡ b) ((a ≡ done) × (b' ≡ zero_book (many b) b.rest b.run))
-- "that good and held block become the lawful block that begins with the record"
CallSays b (put k rec) a out b' =
    (out ≡ []) × By (put_cause (size b) k (length rec)) a (b' ≡ b) ((a ≡ done) × ((x : List ℕ) × OneMember (Stored built_in rec) x × (b' ≡ with_both b k x)))
-- "S is taken for the held block under the marks in force."; "adds its changed positions, lowest first": those at which the held block and
-- the member differ
CallSays b (get k lent) a out b' =
    By (get_cause (size b) k (marks_of b) (length lent)) a ((b' ≡ b) × (out ≡ lent))
    (ReadsUnder (marks_of b) (held_at b k) lent a out × (b' ≡ noted b (changed_at a (held_at b k) out)))
-- "likewise without output; if corrected, the held block becomes that member"
CallSays b (patrol k) a out b' =
    (out ≡ [])
    × By (patrol_cause (size b) k (marks_of b)) a (b' ≡ b)
    ((x : List ℕ) × ReadsUnder (marks_of b) (held_at b k) (held_at b k) a x × (b' ≡ noted (with_held b k x) (changed_at a (held_at b k) x)))
-- "how many held blocks read as clean, chips, card, none and several"
CallSays b report a out b' =
    (out ≡ []) × (b' ≡ b)
    × By (report_cause (size b) (marks_of b)) a (Unit {0}) (CountsEach (held_at b) (many b) (marks_of b) a)
-- "Placing adds the mark, a chip after those there. Lifting takes it out."; "Placing a mark that is already there .. changes nothing"
CallSays b (mark c) a out b' =
    (out ≡ []) × By (mark_cause (marks_of b) c) a (b' ≡ b) ((a ≡ done) × (b' ≡ with_marks b (marked (marks_of b) c)))
-- "has a clear call of its own"
CallSays b clear_window a out b' = (out ≡ []) × (a ≡ done) × (b' ≡ with_run b [])

-- of a command: "Each command does what the library call does .., and may stand for it in demand 3's list."; the output, where the call
-- is not handed it, stays
abbrev pub CommandSays : Book → Command → List ℕ → Answer → List ℕ → Book → Type 0
CommandSays b (Get k) lent a out b' = CallSays b (get k lent) a out b'
CommandSays b (Patrol k) lent a out b' = CallSays b (patrol k) a [] b' × (out ≡ lent)
CommandSays b (Mark c) lent a out b' = CallSays b (mark c) a [] b' × (out ≡ lent)
CommandSays b Unknown lent a out b' = ⊥

-- of a register write that is not refused, by its address: a command and then the registers after it; or one register
abbrev pub WriteSays : Book → ℕ → ℕ → List ℕ → List ℕ → Book → Type 0
WriteSays b zero v lent out b' =
    (a : Answer) × (c : Book) × CommandSays b (command_of (registers_of b) v) lent a out c
    × (b' ≡ with_front c (ran (registers_of b) v a (marks_of c)).front)
WriteSays b (suc a) v lent out b' = (b' ≡ with_front b (stored (registers_of b) (suc a) v).front) × (out ≡ lent)

-- "that byte of the held block is set"
abbrev pub Says : Book → Entry → Said → List ℕ → Book → Type 0
Says b (call c) said out b' = (a : Answer) × (said ≡ says a) × CallSays b c a out b'
Says b (write a v lent) said out b' =
    (x : Answer) × (said ≡ says x) × By (write_cause (registers_of b) a v) x ((b' ≡ b) × (out ≡ lent)) ((x ≡ done) × WriteSays b a v lent out b')
Says b (hit i x) said out b' = (said ≡ nothing_said) × (out ≡ []) × (b' ≡ with_held b (i / 45) (set (held_at b (i / 45)) (i % 45) x))

pub record Step (b : Book) (e : Entry) (s : Seen) (b' : Book) : Type 0 where
  pub says : Says b e s.said s.output b'
  pub after : s.after ≡ state_of b'
  pub interrupt : s.interrupt ≡ raised (registers_of b')
  -- "the proposal must be that of the last 64 entries since"
  pub proposal : s.proposal ≡ proposal (last_64 b'.run) (marks_of b')

pub data Booked : Book → List Entry → List Seen → Book → Type 0 where
  end : {b : Book} → Booked b [] [] b
  then : {b b' b'' : Book} {e : Entry} {es : List Entry} {s : Seen} {ss : List Seen}
      → Step b e s b' → Booked b' es ss b'' → Booked b (e ∷ es) (s ∷ ss) b''

-- THE STATEMENT: from a cleared bank of n blocks, fresh registers and an empty window, whatever calls, register writes and hits are made, all
-- that is seen is what the book says
abbrev pub WholeList : Type 0
WholeList = (n : ℕ) → 1 ≤ n → n ≤ 1024 → (es : List Entry) (ss : List Seen) → Ran (fresh_state n) es ss → (b : Book) × Booked (fresh_book n) es ss b

-- ---- the book says one thing: what is said, told and left is decided by the list alone
abbrev pub OneBook : Type 0
OneBook = (n : ℕ) (es : List Entry) (ss ss' : List Seen) (b b' : Book) → Booked (fresh_book n) es ss b → Booked (fresh_book n) es ss' b'
    → (ss ≡ ss') × (b ≡ b')

-- order 6: two cabinets with the same calls, writes and damage show the same
abbrev pub TwoCabinets : Type 0
TwoCabinets = (n : ℕ) → 1 ≤ n → n ≤ 1024 → (es : List Entry) (ss ss' : List Seen) → Ran (fresh_state n) es ss → Ran (fresh_state n) es ss' → ss ≡ ss'
