-- The lines of a table, put one behind the other.
--
--   one_more   the next number, behind the lines of those before it
use mathlib.Core.Path.{◌≡◌}
use mathlib.Core.List.{◌++◌}
use Prim.Native.Nat.{ℕ, ◌+◌}
use native.Mathlib.Numerals.{add-one}
use Rattle.text.specs.Text.{ascii, decimal}
use Rattle.text.specs.Put.{Added}
use Rattle.text.specs.declared.Text.{Text}
use Rattle.text.proofs.Pieces.{added}
use Rattle.sheet.specs.Sheet.{number_lines}

pub one_more : (f : ℕ → ℕ) (s k v : ℕ) {t u w : Text} → Added (number_lines f s k) t u → v ≡ f (s + k) → Added (decimal v ++ ascii "\n") u w
    → Added (number_lines f s (k + 1)) t w
unfolding number_lines
one_more f s k v p e q = rw (add-one k) (rw e at (added p q))
