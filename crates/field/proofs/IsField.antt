-- What is used of a field of 2 ^ w elements, 0 to 2 ^ w - 1, whose sum is ⊕. The ring laws hold of all numbers; 1 and
-- inverses ask the range.
--
--   IsField w mul    these laws, of the product mul
use mathlib.Core.Logic.{◌≢◌}
use mathlib.Core.Path.{◌≡◌}
use Prim.Native.Nat.{ℕ, ◌<◌, ◌^◌}
use Rattle.field.specs.Field.{◌⊕◌}

pub record IsField (w : ℕ) (mul : ℕ → ℕ → ℕ) : Type 0 where
  pub comm : (a b : ℕ) → mul a b ≡ mul b a
  pub assoc : (a b c : ℕ) → mul (mul a b) c ≡ mul a (mul b c)
  pub distrib : (a b c : ℕ) → mul a (b ⊕ c) ≡ mul a b ⊕ mul a c
  pub below : (a b : ℕ) → mul a b < 2 ^ w
  pub one_below : 1 < 2 ^ w
  pub one : (a : ℕ) → a < 2 ^ w → mul 1 a ≡ a
  pub inv : ℕ → ℕ
  pub inv_below : (a : ℕ) → inv a < 2 ^ w
  pub inverse : (a : ℕ) → a < 2 ^ w → a ≢ 0 → mul a (inv a) ≡ 1
