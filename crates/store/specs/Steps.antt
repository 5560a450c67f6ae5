-- The steps of storing.
--
--   Begun             the record, zeros for bytes 34 and 35, and nine bytes as card 4
--   in_row b p e      e added at position p and at the next card's in its row
--
-- (A byte beyond the end of a list counts as 0.)
use Rattle.std.specs.Prelude.{◌≡◌, List, ℕ, ◌+◌, ◌<◌, length, set}
use Rattle.field.specs.Field.{◌⊕◌}
use Rattle.code.specs.Block.{byte}

pub record Begun (rec card b : List ℕ) : Type 0 where
  pub long : length b ≡ 45
  pub front : (p : ℕ) → p < 36 → byte b p ≡ byte rec p
  pub card_is : (i : ℕ) → i < 9 → byte b (36 + i) ≡ byte card i

abbrev pub added : List ℕ → ℕ → ℕ → List ℕ
added b p e = set b p (byte b p ⊕ e)

unfoldable pub in_row : List ℕ → ℕ → ℕ → List ℕ
in_row b p e = added (added b p e) (p + 9) e
