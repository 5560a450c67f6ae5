-- The chip places by the count, and the record after a chip mark is placed or lifted, as the code makes it.
--
--   chips_many                         the last case of a match on the count
--   place_new                          a chip that is not there; place_first, place_second: after none, after one
--   lift_only, lift_first, lift_second  a marked chip that is the only one, the first of two, the second of two
use Prim.Native.Nat.{ℕ, zero, suc}
use mathlib.Core.Path.{◌≡◌, refl, sym, ◌∙◌}
use mathlib.Core.Bool.{true, false, false≢true, or-false}
use mathlib.Core.List.{[], ◌∷◌, ◌++◌}
use lib.Dec.{eqb}
use borrow.Author.Tests.{eq-eqb, ne_eqb}
use Rattle.marks.specs.Marks.{chips_of, marked_chips, is_marked}
use Rattle.marks.specs.Mark.{of_chips, marked}
use Rattle.marks.specs.declared.Marks.{Marks}
use Rattle.marks.specs.declared.MarkCall.TheVariants.{PlaceChip, LiftChip}

-- ---- the last case of a match on the count
pub chips_many : (n a b : ℕ) → (n ≡ 0 → ⊥) → (n ≡ 1 → ⊥) → chips_of n a b ≡ a ∷ b ∷ []
chips_many zero a b h i = absurd (h refl)
chips_many (suc zero) a b h i = absurd (i refl)
chips_many (suc (suc n)) a b h i = refl

-- ---- the record after a chip mark is placed or lifted
module _ (m : Marks) (p : ℕ) where
  place_new : is_marked m p ≡ false → marked m (PlaceChip p) ≡ of_chips m.card (marked_chips m ++ (p ∷ []))
  unfolding marked is_marked
  place_new n = simp n

  pub place_first : is_marked m p ≡ false → m.count ≡ 0 → marked m (PlaceChip p) ≡ of_chips m.card (p ∷ [])
  place_first n e = place_new n ∙ simp e

  pub place_second : is_marked m p ≡ false → m.count ≡ 1 → marked m (PlaceChip p) ≡ of_chips m.card (m.first ∷ p ∷ [])
  place_second n e = place_new n ∙ simp e

  -- a marked chip that is the only one is the first
  only : m.count ≡ 1 → is_marked m p ≡ true → eqb p m.first ≡ true
  unfolding is_marked
  only e h = sym (or-false _) ∙ (simp e at h)

  pub lift_only : m.count ≡ 1 → is_marked m p ≡ true → marked m (LiftChip p) ≡ of_chips m.card []
  unfolding marked
  lift_only e h = simp (e, only e h)

  -- a marked chip that is not the only one is one of two
  many : is_marked m p ≡ true → (m.count ≡ 1 → ⊥) → marked_chips m ≡ m.first ∷ m.second ∷ []
  unfolding is_marked
  many h n = chips_many m.count m.first m.second (λ e. false≢true (simp e at h)) n

  pub lift_first : (m.count ≡ 1 → ⊥) → is_marked m p ≡ true → p ≡ m.first → marked m (LiftChip p) ≡ of_chips m.card (m.second ∷ [])
  unfolding marked
  lift_first n h e = simp (many h n, eq-eqb p m.first e)

  pub lift_second : (m.count ≡ 1 → ⊥) → is_marked m p ≡ true → (p ≡ m.first → ⊥)
      → marked m (LiftChip p) ≡ of_chips m.card (m.first ∷ [])
  unfolding marked is_marked
  lift_second n h d =
      let other = ne_eqb p m.first d in
      let second : eqb p m.second ≡ true = sym (or-false _) ∙ (simp (many h n, other) at h) in
      simp (many h n, other, second)
