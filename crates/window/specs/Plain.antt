-- Order 2's window in plain words.
--
--   Due                 a position that may be proposed
--   ProposedExactly     which chip is proposed, when none is, and when the call is refused, each exactly when
--   ProposeSays         the same of what the code returns
--   proposal_number     the number of a refusal, 0 where nothing is refused
--   WindowFigures       windows and proposals in figures
use Rattle.std.specs.Prelude.{ℕ, ◌/◌, ◌≤◌, ◌<◌, ◌≡◌, ◌≢◌, ◌↔◌, List, [], ◌∷◌, ◌++◌, replicate}
use Rattle.base.specs.Base.{In}
use Rattle.marks.specs.Marks.{marked_chips, LawfulMarks, marks_cause, fresh_marks}
use Rattle.std.specs.declared.option.Option.{Option}
use Rattle.std.specs.declared.result.Result.{Result}
use Rattle.std.specs.Prelude.{None, Some, Ok, Err}
use Rattle.answer.specs.declared.Refusal.{Refusal}
use Rattle.answer.specs.declared.Refusal.TheVariants.{MarkRange, EqualMarks}
use Rattle.marks.specs.Said.{InRange, EqualChips}
use Rattle.marks.specs.declared.Marks.{Marks}
use Rattle.window.specs.Window.{window_of, fresh_window, added, times, proposal}
use Rattle.window.specs.Window.{Proposal}
use Rattle.window.specs.Window.{Chip, Nothing, Refused}

-- "its position stands there four times or more and neither it nor its card is marked"
pub record Due (l : List ℕ) (m : Marks) (p : ℕ) : Type 0 where
  pub position : p < 45
  pub often : 4 ≤ times p l
  pub unmarked : In p (marked_chips m) → ⊥
  pub card_unmarked : m.card ≢ Some (p / 9)

abbrev pub proposal_number : Proposal → ℕ
proposal_number (Chip p) = 0
proposal_number Nothing = 0
proposal_number (Refused n) = n

pub record ProposedExactly (l : List ℕ) (m : Marks) : Type 0 where
  pub chip : (p : ℕ) → (proposal l m ≡ Chip p) ↔ (LawfulMarks m × Due l m p × ((q : ℕ) → q < p → Due l m q → ⊥))
  pub nothing : (proposal l m ≡ Nothing) ↔ (LawfulMarks m × ((q : ℕ) → Due l m q → ⊥))
  pub refused : (n : ℕ) → (proposal l m ≡ Refused n) ↔ ((n ≡ marks_cause m) × (n ≢ 0))
  pub number : proposal_number (proposal l m) ≡ marks_cause m

-- the same of what the code returns
pub record ProposeSays (l : List ℕ) (m : Marks) (r : Result (Option ℕ) Refusal) : Type 0 where
  pub chip : (p : ℕ) → (r ≡ Ok (Some p)) ↔ (LawfulMarks m × Due l m p × ((q : ℕ) → q < p → Due l m q → ⊥))
  pub nothing : (r ≡ Ok None) ↔ (LawfulMarks m × ((q : ℕ) → Due l m q → ⊥))
  pub outside : (r ≡ Err MarkRange) ↔ (InRange m → ⊥)
  pub equal : (r ≡ Err EqualMarks) ↔ (InRange m × EqualChips m)

-- ---- in figures
-- chip 7 marked, and card 4
abbrev pub marks_7 : Marks
marks_7 = record { card = None; count = 1; first = 7; second = 255 }

abbrev pub marks_card_4 : Marks
marks_card_4 = record { card = Some 4; count = 0; first = 255; second = 255 }

pub record WindowFigures : Type 0 where
  -- three times and four times; the lowest of two
  pub three : proposal (window_of (7 ∷ 7 ∷ 7 ∷ [])) fresh_marks ≡ Nothing
  pub four : proposal (window_of (7 ∷ 44 ∷ 7 ∷ 7 ∷ 7 ∷ [])) fresh_marks ≡ Chip 7
  pub lowest : proposal (window_of (44 ∷ 44 ∷ 44 ∷ 44 ∷ 7 ∷ 7 ∷ 7 ∷ 7 ∷ [])) fresh_marks ≡ Chip 7
  -- the lowest is marked, and so is the card of the other
  pub marked : proposal (window_of (44 ∷ 44 ∷ 44 ∷ 44 ∷ 7 ∷ 7 ∷ 7 ∷ 7 ∷ [])) marks_7 ≡ Chip 44
  pub card : proposal (window_of (44 ∷ 44 ∷ 44 ∷ 44 ∷ [])) marks_card_4 ≡ Nothing
  -- an empty window, and one that no run leaves: neither 255 nor 45 is a position
  pub empty : proposal fresh_window fresh_marks ≡ Nothing
  pub none : proposal (replicate 64 45) fresh_marks ≡ Nothing
  -- 64 are held; one more, and the oldest is gone
  pub held : window_of (1 ∷ replicate 63 2) ≡ 1 ∷ replicate 63 2
  pub gone : window_of (1 ∷ replicate 64 2) ≡ replicate 64 2
  pub newest : added (replicate 62 255 ++ (5 ∷ 3 ∷ [])) (4 ∷ 8 ∷ []) ≡ replicate 60 255 ++ (5 ∷ 3 ∷ 4 ∷ 8 ∷ [])
  -- equal chips
  pub unlawful : proposal fresh_window (record { card = None; count = 2; first = 7; second = 7 }) ≡ Refused 7
