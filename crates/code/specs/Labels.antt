-- The labels. Document 01, "The field and the labels".
--
--   label p          the built-in label of position p; built-in lists the 45
--   entry labels j p position p's entry in card j's reduced matrix (source document 004, part III)
--   Separated        01's property: for every card its 36 sums are nonzero and all different
--   LabelSet         45 bytes with that property
use Rattle.std.specs.Prelude.{◌≢◌, List, ℕ, ◌+◌, ◌*◌, ◌/◌, ◌%◌, ◌<◌}
use Rattle.field.specs.Field.{◌⊕◌, power}
use Rattle.code.specs.Block.{byte, position, Block, block_of}

-- g is 2; card j, chip i has g ^ (i + 17 · j)
abbrev pub label : ℕ → ℕ
label p = power 2 (p % 9 + 17 * (p / 9))

unfoldable pub built_in : List ℕ
built_in = block_of label

-- "label of card m, chip i plus label of card j, chip i"
abbrev pub entry : List ℕ → ℕ → ℕ → ℕ
entry labels j p = byte labels p ⊕ byte labels (position j (p % 9))

pub record Separated (labels : List ℕ) : Type 0 where
  pub nonzero : (j p : ℕ) → j < 5 → p < 45 → p / 9 ≢ j → entry labels j p ≢ 0
  pub different : (j p q : ℕ) → j < 5 → p < 45 → q < 45 → p / 9 ≢ j → q / 9 ≢ j → p ≢ q → entry labels j p ≢ entry labels j q

pub record LabelSet (labels : List ℕ) : Type 0 where
  pub bytes : Block labels
  pub separated : Separated labels
