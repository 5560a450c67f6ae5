-- What a block's sums say under marks. The block itself is not looked at: what is said holds for every block with these sums.
--
--   Decoded, reading_of, change_of   what the decoder gives: the reading, and the change that it stands for
--   Answers     the reading and the change that stands for it, for any labels
--   Decodes     the contract: the same under a mark record, with the built-in labels; unlawful marks are refused with their number
use Rattle.std.specs.Prelude.{◌≡◌, ◌≢◌, List, ℕ}
use Rattle.answer.specs.Answer.{number, refused}
use Rattle.code.specs.Block.{Block}
use Rattle.marks.specs.Marks.{LawfulMarks, marks_cause}
use Rattle.std.specs.declared.option.Option.{Option}
use Rattle.marks.specs.declared.Marks.{Marks}
use Rattle.code.specs.Labels.{built_in}
use Rattle.sums.specs.Sums.{IsSums}
use Rattle.sums.specs.declared.Sums.{Sums}
use Rattle.change.specs.Change.{applied, no_change, WellFormed}
use Rattle.change.specs.declared.Change.{Change}
use Rattle.reading.specs.Reading.{Reading, reading_answer, Reads, ReadsUnder}
use Rattle.decode.specs.Search.{Known}
use Rattle.std.specs.declared.result.Result.{Result}
use Rattle.std.specs.Prelude.{Ok, Err}
use Rattle.reading.specs.declared.Fault.{Fault}
use Rattle.decode.specs.declared.Correction.{Correction}

abbrev pub Decoded : Type 0
Decoded = Result Correction Fault

abbrev pub reading_of : Decoded → Reading
reading_of (Ok d) = Ok d.kind
reading_of (Err f) = Err f

-- a fault changes nothing
abbrev pub change_of : Decoded → Change
change_of (Ok d) = d.change
change_of (Err f) = no_change

pub record Answers (labels : List ℕ) (c : Option ℕ) (ps : List ℕ) (s : Sums) (r : Decoded) : Type 0 where
  pub reads : (b : List ℕ) → Known labels b s → Reads labels c ps b b (reading_answer (reading_of r)) (applied b (change_of r))
  -- a refusal changes nothing
  pub unchanged : number (reading_answer (reading_of r)) ≢ 0 → (change_of r) ≡ no_change
  -- the change has each of its places once, so that they can be counted and listed
  pub formed : WellFormed (change_of r)

pub record Decodes (s : Sums) (m : Marks) (r : Decoded) : Type 0 where
  pub reads : LawfulMarks m → (b : List ℕ) → Block b → IsSums built_in b s → ReadsUnder m b b (reading_answer (reading_of r)) (applied b (change_of r))
  pub unlawful : marks_cause m ≢ 0 → reading_answer (reading_of r) ≡ refused (marks_cause m)
  pub unchanged : number (reading_answer (reading_of r)) ≢ 0 → (change_of r) ≡ no_change
  pub formed : WellFormed (change_of r)
