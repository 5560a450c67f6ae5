-- The marked chips off a card, case by case as the code goes; and strays.
--
--   on, off                        one chip, on card j or off it
--   none_marked, second_on, first_on, both_off   the marked chips off card j, by their count and their cards
--   is_stray                       a row that is changed, and whose chip is not marked
use mathlib.Core.Logic.{◌≢◌}
use mathlib.Core.Path.{◌≡◌, sym, ap, ap₂, ◌∙◌}
use mathlib.Core.Bool.{Bool, ◌&&◌, not}
use mathlib.Core.List.{List, [], ◌∷◌}
use Prim.Native.Nat.{ℕ, ◌+◌, ◌*◌, ◌/◌}
use lib.Dec.{eqb}
use lib.ListN.{get_or}
use borrow.Author.Tests.{eq-eqb, ne_eqb}
use Rattle.base.specs.Base.{if}
use Rattle.code.specs.Reach.{keep}
use Rattle.marks.specs.Marks.{chips_of, marked_chips, is_marked}
use Rattle.marks.specs.declared.Marks.{Marks}
use Rattle.marks.proofs.Chips.{chips_many}
use Rattle.change.specs.declared.Change.{Change}
use Rattle.change.specs.Change.{nonzero}
use Rattle.decode.specs.Search.{stray}

pub on : (p j : ℕ) → p / 9 ≡ j → [] ≡ keep j (p ∷ [])
unfolding keep
on p j e = ap (λ (t : Bool). if t [] (p ∷ [])) (sym (eq-eqb (p / 9) j e))

pub off : (p j : ℕ) → p / 9 ≢ j → p ∷ [] ≡ keep j (p ∷ [])
unfolding keep
off p j e = ap (λ (t : Bool). if t [] (p ∷ [])) (sym (ne_eqb (p / 9) j e))

pub none_marked : (n a s j : ℕ) → n ≡ 0 → [] ≡ keep j (chips_of n a s)
unfolding keep
none_marked n a s j e = ap (λ (z : ℕ). keep j (chips_of z a s)) (sym e)

module _ (n a s j : ℕ) (n₀ : n ≢ 0) (n₁ : n ≢ 1) where
  two : keep j (a ∷ s ∷ []) ≡ keep j (chips_of n a s)
  two = ap (keep j) (sym (chips_many n a s n₀ n₁))

  pub second_on : (l : List ℕ) → s / 9 ≡ j → l ≡ keep j (a ∷ []) → l ≡ keep j (chips_of n a s)
  unfolding keep
  second_on l e h = h ∙ ap (λ (t : Bool). if (eqb (a / 9) j) (if t [] (s ∷ [])) (a ∷ if t [] (s ∷ []))) (sym (eq-eqb (s / 9) j e)) ∙ two

  pub first_on : (l : List ℕ) → a / 9 ≡ j → l ≡ keep j (s ∷ []) → l ≡ keep j (chips_of n a s)
  unfolding keep
  first_on l e h = h ∙ ap (λ (t : Bool). if t (keep j (s ∷ [])) (a ∷ keep j (s ∷ []))) (sym (eq-eqb (a / 9) j e)) ∙ two

  pub both_off : a / 9 ≢ j → s / 9 ≢ j → a ∷ s ∷ [] ≡ keep j (chips_of n a s)
  unfolding keep
  both_off p q = ap₂ (λ (t u : Bool). if t (if u [] (s ∷ [])) (a ∷ if u [] (s ∷ []))) (sym (ne_eqb (a / 9) j p)) (sym (ne_eqb (s / 9) j q)) ∙ two

-- ---- strays
pub is_stray : (d : Change) (m : Marks) (i : ℕ) (t : Bool) → t ≡ (nonzero (get_or d.rows i 0) && not (is_marked m (9 * d.card + i)))
    → t ≡ stray d (marked_chips m) i
unfolding stray is_marked
is_stray d m i t e = e
