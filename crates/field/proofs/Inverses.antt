-- The table of inverses, each entry tested.
--
--   in_table           the entry for a, as the code takes it out of its word
--   in_table_inverse   it is the inverse of a; in_table_zero: the entry for 0
use mathlib.Core.Logic.{◌≢◌, ◌⊎◌, inl, inr}
use mathlib.Core.Path.{◌≡◌, refl, ◌∙◌}
use mathlib.Core.Bool.{Bool}
use Prim.Native.Nat.{ℕ, ◌*◌, ◌/◌, ◌%◌, ◌^◌, ◌<◌}
use lib.Dec.{T, eqb, eqb→eq}
use lib.ListN.{get_or}
use Rattle.field.specs.Field.{◌⊕◌, ◌·◌}
use Rattle.field.specs.Table.{inverse_words}
use Rattle.base.proofs.Tests.{either, either_cases, every, every_at}
use Rattle.field.proofs.Product.{times_x, rounds, mul}
use Rattle.field.proofs.Gf256.{in_rounds}

unfoldable pub in_table : ℕ → ℕ
in_table a = get_or inverse_words (a / 8) 0 / 2 ^ (8 * (a % 8)) % 256

abbrev holds_at : ℕ → Bool
holds_at a = either (eqb a 0) (eqb (mul 7 0x1D a (in_table a)) 1)

passes : T (every holds_at 256)
unfolding in_table mul rounds times_x ◌⊕◌
passes = tt

pub in_table_zero : in_table 0 ≡ 0
unfolding in_table
in_table_zero = refl

pub in_table_inverse : (a : ℕ) → a < 256 → a ≢ 0 → a · in_table a ≡ 1
in_table_inverse a h ne = pick (either_cases (eqb a 0) (eqb (mul 7 0x1D a (in_table a)) 1) (every_at holds_at 256 passes a h))
  where
    pick : T (eqb a 0) ⊎ T (eqb (mul 7 0x1D a (in_table a)) 1) → a · in_table a ≡ 1
    pick (inl z) = absurd (ne (eqb→eq a 0 z))
    pick (inr t) = in_rounds a (in_table a) ∙ eqb→eq (mul 7 0x1D a (in_table a)) 1 t
