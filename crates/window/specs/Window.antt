-- The window over the last 64 corrected positions, and the chip that is proposed by it. Document 02, order 2.
--
--   last_64 l       the last 64 of a list
--   window_of run   the window of a run of positions: 255 where there is none yet, and then the last 64 of the run
--   fresh_window    that of no run: "The window starts empty"
--   added w ps      the window after ps are added: they are its last, and as many leave, "the oldest leaving first"
--   times p l       how often p stands in the list l
--   due l m p       whether p stands in l four times or more and neither it nor its card is marked; due_by: by how often it stands there
--   Proposal        a position to mark, or none, or the number of a refusal; proposal_of: as the code says it
--   proposal l m    the lowest such position, or none (proposed); an unlawful mark record is refused with its number
--   ClearWindowDone, ProposeDone   the contracts
--
-- A window is 64 bytes, the oldest position first. Any 64 bytes may be lent as one: those of 45 and more are no positions, and none is proposed.
use Rattle.std.specs.Prelude.{ℕ, ◌+◌, ◌-◌, ◌/◌, ◌≡◌, Bool, ◌&&◌, not, List, [], ◌∷◌, ◌++◌, eqb, leb, ltb, length, drop, replicate}
use Rattle.base.specs.Base.{if, bit, least}
use Rattle.answer.specs.Answer.{Answer, done, refusal_number}
use Rattle.marks.specs.Marks.{is_marked, marks_cause}
use Rattle.marks.specs.Mark.{card_is}
use Rattle.marks.specs.declared.Marks.{Marks}
use Rattle.std.specs.declared.option.Option.{Option}
use Rattle.std.specs.declared.result.Result.{Result}
use Rattle.std.specs.Prelude.{Some, None, Ok, Err}
use Rattle.answer.specs.declared.Refusal.{Refusal}

-- ---- what it holds
-- "a run of which the last 64 are held"
abbrev pub last_64 : List ℕ → List ℕ
last_64 l = drop (length l - 64) l

unfoldable pub window_of : List ℕ → List ℕ
window_of run = replicate (64 - length run) 255 ++ last_64 run

abbrev pub fresh_window : List ℕ
fresh_window = replicate 64 255

unfoldable pub added : List ℕ → List ℕ → List ℕ
added w ps = drop (length ps) (w ++ ps)

-- ---- what it proposes
-- a position to mark, or none; or the number of the refusal
pub data Proposal : Type 0 where
  Chip : (p : ℕ) → Proposal
  Nothing : Proposal
  Refused : (number : ℕ) → Proposal

-- as the code says it
abbrev pub proposal_of : Result (Option ℕ) Refusal → Proposal
proposal_of (Ok (Some p)) = Chip p
proposal_of (Ok None) = Nothing
proposal_of (Err r) = Refused (refusal_number r)

-- a position below n, or none
abbrev pub position_below : ℕ → ℕ → Option ℕ
position_below n p = if (ltb p n) (Some p) None

abbrev pub times : ℕ → List ℕ → ℕ
times p [] = 0
times p (a ∷ l) = bit (eqb a p) + times p l

-- "exactly when its position stands there four times or more and neither it nor its card is marked"
unfoldable pub due_by : ℕ → Marks → ℕ → Bool
due_by n m p = leb 4 n && (not (is_marked m p) && not (card_is m.card (p / 9)))

abbrev pub due : List ℕ → Marks → ℕ → Bool
due l m p = due_by (times p l) m p

-- "among several the lowest, else none"
abbrev pub proposed : ℕ → Proposal
proposed p = if (ltb p 45) (Chip p) Nothing

unfoldable pub proposal : List ℕ → Marks → Proposal
proposal l m = if (eqb (marks_cause m) 0) (proposed (least 45 (due l m))) (Refused (marks_cause m))

-- ---- the contracts; a primed name is what the bytes hold after the call
-- "a clear call of its own"
abbrev pub ClearWindowDone : Answer → List ℕ → Type 0
ClearWindowDone a w' = (a ≡ done) × (w' ≡ fresh_window)

-- "Proposing places no mark": the mark record is not lent, and the window is as before
pub record ProposeDone (w : List ℕ) (m : Marks) (r : Proposal) (w' : List ℕ) : Type 0 where
  pub kept : w' ≡ w
  pub proposed : r ≡ proposal w m
