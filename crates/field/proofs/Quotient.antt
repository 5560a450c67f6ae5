-- Quotients, in any field.
--
--   quot inv a d     a divided by d
--   quot_below       it is an element
--   times_quot       d times the quotient is a
--   quot_only        only the quotient is
use mathlib.Core.Logic.{◌≢◌}
use mathlib.Core.Path.{◌≡◌, sym, ap, ◌∙◌}
use Prim.Native.Nat.{ℕ, ◌<◌, ◌^◌}
use Rattle.field.proofs.IsField.{IsField}
use Rattle.field.proofs.Ring.{ring}

abbrev pub quot : (ℕ → ℕ → ℕ) → (ℕ → ℕ) → ℕ → ℕ → ℕ
quot mul inv a d = mul a (inv d)

module _ (w : ℕ) (◌·◌ : ℕ → ℕ → ℕ) (F : IsField w ◌·◌) where
  infixl 70 ◌·◌
  pub quot_below : (a d : ℕ) → quot ◌·◌ F.inv a d < 2 ^ w
  quot_below a d = F.below a (F.inv d)

  pub times_quot : (a d : ℕ) → a < 2 ^ w → d < 2 ^ w → d ≢ 0 → d · quot ◌·◌ F.inv a d ≡ a
  times_quot a d ha hd ne =
      (let e : d · (a · F.inv d) ≡ (d · F.inv d) · a = simp (ring, F) in e) ∙ ap (λ (x : ℕ). x · a) (F.inverse d hd ne) ∙ F.one a ha

  pub quot_only : (a d e : ℕ) → d < 2 ^ w → e < 2 ^ w → d ≢ 0 → d · e ≡ a → e ≡ quot ◌·◌ F.inv a d
  quot_only a d e hd he ne q =
      sym (ap (λ (x : ℕ). x · F.inv d) (sym q) ∙ (let z : (d · e) · F.inv d ≡ (d · F.inv d) · e = simp (ring, F) in z)
      ∙ ap (λ (x : ℕ). x · e) (F.inverse d hd ne) ∙ F.one e he)
