-- Every constant table of the library, beside what the tables program works out. Document 02, order 12: "its label at each position and every
-- table it uses must be shown equal to what it works out".
--
--   worked_inverse a   the inverse of a, by the printed powers and logarithms; 0 for 0
--   worked_word j i    the label of card j, chip i, a binary digit to a byte; 0 for a card above 4
--   EveryTable         what is printed, and the tables, crate by crate; audit/constants.py holds this list to the source
use Rattle.std.specs.Prelude.{ℕ, ◌+◌, ◌*◌, ◌<◌, ◌≡◌, eqb, ltb, get_or}
use Rattle.base.specs.Base.{if}
use Rattle.field.proofs.Constants.{InverseTable}
use Rattle.code.specs.Block.{byte, position}
use Rattle.code.specs.Labels.{label}
use Rattle.code.proofs.Constants.{LabelTable}
use Rattle.pairs.specs.Words.{byte_of, spread_of}
use Rattle.sums.proofs.Constants.{WordTable}
use Rattle.slip.specs.Limits.{limits_of, limits_said, allowed_of}
use Rattle.slip.proofs.Constants.{LimitTable}
use Rattle.sheet.specs.Lines.{LineByLine}
use Rattle.sheet.specs.ByTables.{logs_inverse}

abbrev pub worked_inverse : ℕ → ℕ
worked_inverse a = if (eqb a 0) 0 (logs_inverse a)

abbrev pub worked_word : ℕ → ℕ → ℕ
worked_word j i = if (ltb j 5) (spread_of 8 (label (position j i))) 0

pub record EveryTable : Type 0 where
  -- the tables program prints `power 2`, `log` and `label`, line by line
  pub printed : LineByLine
  -- code: the label of each position
  pub labels : LabelTable (λ labels. (p : ℕ) → p < 45 → byte labels p ≡ label p)
  -- field: the inverses of 8 · h to 8 · h + 7, in the bytes of a word
  pub inverses : InverseTable (λ h word. (i : ℕ) → h < 32 → i < 8 → byte_of word i ≡ worked_inverse (8 * h + i))
  -- sums: the words of card j
  pub words : WordTable (λ j words. (i : ℕ) → i < 9 → get_or words i 0 ≡ worked_word j i)
  -- slip: no values of the field, but the limits that order 8 sets (`behind_exactly` of slip says what they come to); the table itself, and
  -- back again
  pub limits : LimitTable (λ map table. (table ≡ allowed_of map) × (limits_said table ≡ limits_of map))
