-- The text line by line. Document 02, order 12: "one a line, after a heading line each".
--
--   lines_of text   its lines, without the newlines; in_front: a character in front of the first line
--   text_of lines   the lines, each with its newline
--   line_at k       line k of the text that the tables program prints, from 0 on
--   LineByLine      the text is 558 lines; line k below `powers` is the k-th power, line a − 1 below `logs` the logarithm of a, and line p below
--                   `labels` the label of position p
--   Long            the text is 1,992 bytes
use Rattle.std.specs.Prelude.{ℕ, ◌+◌, ◌<◌, ◌≡◌, List, [], ◌∷◌, ◌++◌, eqb, length, get_or}
use Rattle.base.specs.Base.{if}
use Rattle.field.specs.Field.{power}
use Rattle.code.specs.Labels.{label}
use Rattle.text.specs.Text.{ascii, decimal, line}
use Rattle.sheet.specs.Sheet.{log, sheet}

abbrev pub in_front : ℕ → List (List ℕ) → List (List ℕ)
in_front c [] = (c ∷ []) ∷ []
in_front c (w ∷ ws) = (c ∷ w) ∷ ws

-- 10 is the newline
unfoldable pub lines_of : List ℕ → List (List ℕ)
lines_of [] = []
lines_of (c ∷ text) = if (eqb c 10) ([] ∷ lines_of text) (in_front c (lines_of text))

abbrev pub text_of : List (List ℕ) → List ℕ
text_of [] = []
text_of (w ∷ ws) = line (w ∷ []) ++ text_of ws

abbrev pub line_at : ℕ → List ℕ
line_at k = get_or (lines_of sheet) k []

pub record LineByLine : Type 0 where
  pub whole : sheet ≡ text_of (lines_of sheet)
  pub many : length (lines_of sheet) ≡ 558
  pub powers_heading : line_at 0 ≡ ascii "powers"
  pub powers : (k : ℕ) → k < 255 → line_at (1 + k) ≡ decimal (power 2 k)
  pub logs_heading : line_at 256 ≡ ascii "logs"
  pub logs : (a : ℕ) → 0 < a → a < 256 → line_at (256 + a) ≡ decimal (log a)
  pub labels_heading : line_at 512 ≡ ascii "labels"
  pub labels : (p : ℕ) → p < 45 → line_at (513 + p) ≡ decimal (label p)

abbrev pub Long : Type 0
Long = length sheet ≡ 1992
