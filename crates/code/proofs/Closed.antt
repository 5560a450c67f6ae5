-- The closed form for no, one and two chips beside card j, from the two reduced sums.
--
--   red₁, red₂        the reduced sums: of entry times byte, and of entry squared times byte
--   patch y p e       y with e added at p
--   fits_none, fits_one, fits_two        when card j and so many chips reach a lawful block
--   closed_none, closed_one, closed_two  which block: what is added to the chips is known by the equations that the code divides by
--   closed_rows                          the same from the two rows themselves
--   first_nonzero, second_nonzero        what the code divides by is not 0
use mathlib.Core.Logic.{◌≢◌, inl, inr}
use mathlib.Core.Path.{◌≡◌, refl, sym, ap, ap₂, ◌∙◌, fun_ext}
use mathlib.Core.Bool.{Bool, true, false}
use mathlib.Core.List.{List, [], ◌∷◌}
use Prim.Native.Nat.{ℕ, zero, suc, ◌^◌, ◌<◌}
use native.Mathlib.Omega.{arith}
use lib.Dec.{eqb}
use borrow.Author.Tests.{eqb-true, eqb-false, eq-eqb, ne_eqb}
use Rattle.base.specs.Base.{if}
use Rattle.base.proofs.Tests.{both}
use Rattle.field.specs.Field.{sum, ◌⊕◌, ◌·◌}
use Rattle.field.proofs.Xor.{add_self, zero_add, add_zero, add_assoc, add_lt, sums, eq_of_sum}
use Rattle.field.proofs.Linear.{if_below}
use Rattle.field.proofs.Sum.{over}
use Rattle.field.proofs.IsField.{IsField}
use Rattle.field.proofs.Gf256.{field}
use Rattle.field.proofs.Ring.{ring}
use Rattle.field.proofs.Squares.{squared}
use Rattle.code.specs.Block.{byte, Block, block_of}
use Rattle.code.specs.Labels.{entry, LabelSet}
use Rattle.code.specs.Reach.{rules, Beside}
use Rattle.code.proofs.Few.{beside_two}
use Rattle.code.proofs.Eliminate as eliminate
use Rattle.code.proofs.Eliminate.{dot}
use Rattle.code.proofs.Card.{red, fill}
use Rattle.code.proofs.Reach.{fits, closed, free_columns, closed_by}

abbrev pub red₁ : List ℕ → ℕ → List ℕ → ℕ
red₁ ls j b = sum 45 (λ p. entry ls j p · byte b p)

abbrev pub red₂ : List ℕ → ℕ → List ℕ → ℕ
red₂ ls j b = sum 45 (λ p. (entry ls j p · entry ls j p) · byte b p)

unfoldable pub patch : (ℕ → ℕ) → ℕ → ℕ → ℕ → ℕ
patch y p e r = y r ⊕ if (eqb r p) e 0

-- ---- when it fits
pub fits_none : (ls : List ℕ) (j : ℕ) (b : List ℕ) → fits ls j [] b ≡ both (eqb (red₁ ls j b) 0) (eqb (red₂ ls j b) 0)
unfolding fits eliminate.fits squared
fits_none ls j b = turn (eqb (red₁ ls j b) 0) (eqb (red₂ ls j b) 0)
  where
    turn : (t u : Bool) → both u (both t true) ≡ both t u
    turn true true = refl
    turn true false = refl
    turn false true = refl
    turn false false = refl

pub fits_one : (ls : List ℕ) (j p : ℕ) (b : List ℕ) → fits ls j (p ∷ []) b ≡ eqb (red₂ ls j b) (entry ls j p · red₁ ls j b)
unfolding fits eliminate.fits squared
fits_one ls j p b = alone (eqb (red₂ ls j b ⊕ (entry ls j p · red₁ ls j b)) 0) ∙ sums_equal (red₂ ls j b) (entry ls j p · red₁ ls j b)
  where
    alone : (t : Bool) → both t true ≡ t
    alone true = refl
    alone false = refl

    sums_equal : (a c : ℕ) → eqb (a ⊕ c) 0 ≡ eqb a c
    sums_equal a c = go (eqb a c) refl
      where
        go : (t : Bool) → eqb a c ≡ t → eqb (a ⊕ c) 0 ≡ t
        go true e = eq-eqb (a ⊕ c) 0 (ap (λ (x : ℕ). x ⊕ c) (eqb-true a c e) ∙ add_self c)
        go false e = ne_eqb (a ⊕ c) 0 (λ z. eqb-false a c e (eq_of_sum a c z))

-- two columns are independent: every two sums are met, and more chips than rules leave no sum
pub fits_two : (ls : List ℕ) (j p q : ℕ) (ps b : List ℕ) → fits ls j (p ∷ q ∷ ps) b ≡ true
unfolding fits eliminate.fits
fits_two ls j p q [] b = refl
fits_two ls j p q (r ∷ ps) b = refl

-- ---- which block
pub closed_none : (ls : List ℕ) (j : ℕ) (b : List ℕ) → closed ls j [] b ≡ block_of (fill j (byte b))
unfolding closed eliminate.values
closed_none ls j b = ap (λ (y : ℕ → ℕ). block_of (fill j y)) (fun_ext (λ r. add_zero (byte b r)))

at_chip : (p e : ℕ) → if (eqb p p) e 0 ≡ e
at_chip p e = ap (λ (t : Bool). if t e 0) (eq-eqb p p refl)

elsewhere : (r p e : ℕ) → r ≢ p → if (eqb r p) e 0 ≡ 0
elsewhere r p e ne = ap (λ (t : Bool). if t e 0) (ne_eqb r p ne)

module _ (ls : List ℕ) (ok : LabelSet ls) (j : ℕ) (hj : j < 5) (b : List ℕ) (bb : Block b) (p : ℕ) where
  -- c · e ≡ t₁, where t₂ ≡ c · t₁
  pub closed_one : Beside j (p ∷ []) → (e : ℕ) → e < 2 ^ 8 → red₂ ls j b ≡ entry ls j p · red₁ ls j b → entry ls j p · e ≡ red₁ ls j b
      → closed ls j (p ∷ []) b ≡ block_of (fill j (patch (byte b) p e))
  unfolding patch over squared
  closed_one o e he fit h =
      (closed_by ls ok j hj b bb (p ∷ []) o (λ r. if (eqb r p) e 0) (λ r. if_below 8 (eqb r p) e 0 he (omega arith))
      (λ r n. elsewhere r p e (λ z. n (inl z))) each).1
    where
      c : ℕ
      c = entry ls j p

      each : (t : ℕ) → t < rules → dot ◌·◌ t (entry ls j) (p ∷ []) (λ r. if (eqb r p) e 0) ≡ red ◌·◌ ls t j (byte b)
      each zero l = add_zero (c · if (eqb p p) e 0) ∙ ap (λ (x : ℕ). c · x) (at_chip p e) ∙ h
      each (suc zero) l =
          add_zero ((c · c) · if (eqb p p) e 0) ∙ ap (λ (x : ℕ). (c · c) · x) (at_chip p e) ∙ field.assoc c c e ∙ ap (λ (x : ℕ). c · x) h ∙ sym fit
      each (suc (suc t)) l = absurd (omega arith)

-- (sorting wants the product as a variable, not as an abbreviation)
module _ (◌·◌ : ℕ → ℕ → ℕ) (F : IsField 8 ◌·◌) (c d e f t₁ t₂ : ℕ) where
  infixl 70 ◌·◌
  -- the two rows, from the equations that the code divides by
  first_row : d · f ≡ t₁ ⊕ (c · e) → (c · e) ⊕ (d · f) ≡ t₁
  first_row h = ap (λ (x : ℕ). (c · e) ⊕ x) h ∙ (let z : (c · e) ⊕ (t₁ ⊕ (c · e)) ≡ t₁ = simp sums in z)

  second_row : (c · (c ⊕ d)) · e ≡ t₂ ⊕ (d · t₁) → d · f ≡ t₁ ⊕ (c · e) → ((c · c) · e) ⊕ ((d · d) · f) ≡ t₂
  second_row g h =
      (let z : ((c · c) · e) ⊕ ((d · d) · f) ≡ ((c · (c ⊕ d)) · e) ⊕ ((d · (c · e)) ⊕ (d · (d · f))) = simp (ring, F) in z)
      ∙ ap₂ (λ (x y : ℕ). x ⊕ ((d · (c · e)) ⊕ (d · y))) g h
      ∙ (let z : (t₂ ⊕ (d · t₁)) ⊕ ((d · (c · e)) ⊕ (d · (t₁ ⊕ (c · e)))) ≡ t₂ = simp (ring, F) in z)

module _ (ls : List ℕ) (ok : LabelSet ls) (j : ℕ) (hj : j < 5) (b : List ℕ) (bb : Block b) (p q : ℕ)
    (o : Beside j (p ∷ q ∷ [])) where
  turned : Beside j (q ∷ p ∷ [])
  turned = beside_two j q p o.0.2.0 o.0.0 o.1.1.0 o.1.0 (λ e. o.0.1 (inl (sym e)))

  abbrev c : ℕ
  c = entry ls j p

  abbrev d : ℕ
  d = entry ls j q

  -- what the code divides by is not 0
  pub second_nonzero : d ≢ 0
  second_nonzero = (free_columns ls ok j hj (q ∷ p ∷ []) turned).0

  pub first_nonzero : c · (c ⊕ d) ≢ 0
  first_nonzero = (free_columns ls ok j hj (q ∷ p ∷ []) turned).1.0

  -- any e and f that meet the two rows
  pub closed_rows : (e f : ℕ) → e < 2 ^ 8 → f < 2 ^ 8 → (c · e) ⊕ (d · f) ≡ red₁ ls j b → ((c · c) · e) ⊕ ((d · d) · f) ≡ red₂ ls j b
      → closed ls j (p ∷ q ∷ []) b ≡ block_of (fill j (patch (patch (byte b) p e) q f))
  unfolding patch over squared
  closed_rows e f he hf h₁ h₂ =
      (closed_by ls ok j hj b bb (p ∷ q ∷ []) o v
      (λ r. add_lt 8 (if (eqb r p) e 0) (if (eqb r q) f 0) (if_below 8 (eqb r p) e 0 he (omega arith)) (if_below 8 (eqb r q) f 0 hf (omega arith)))
      (λ r n. ap₂ (λ (x y : ℕ). x ⊕ y) (elsewhere r p e (λ z. n (inl z))) (elsewhere r q f (λ z. n (inr (inl z)))) ∙ add_self 0) each).1
      ∙ ap (λ (y : ℕ → ℕ). block_of (fill j y)) (fun_ext (λ r. sym (add_assoc (byte b r) (if (eqb r p) e 0) (if (eqb r q) f 0))))
    where
      v : ℕ → ℕ
      v r = if (eqb r p) e 0 ⊕ if (eqb r q) f 0

      at_p : v p ≡ e
      at_p = ap₂ (λ (x y : ℕ). x ⊕ y) (at_chip p e) (elsewhere p q f (λ z. o.0.1 (inl z))) ∙ add_zero e

      at_q : v q ≡ f
      at_q = ap₂ (λ (x y : ℕ). x ⊕ y) (elsewhere q p e (λ z. o.0.1 (inl (sym z)))) (at_chip q f) ∙ zero_add f

      each : (t : ℕ) → t < rules → dot ◌·◌ t (entry ls j) (p ∷ q ∷ []) v ≡ red ◌·◌ ls t j (byte b)
      each zero l = ap (λ (x : ℕ). (c · v p) ⊕ x) (add_zero (d · v q)) ∙ ap₂ (λ (x y : ℕ). (c · x) ⊕ (d · y)) at_p at_q ∙ h₁
      each (suc zero) l = ap (λ (x : ℕ). ((c · c) · v p) ⊕ x) (add_zero ((d · d) · v q)) ∙ ap₂ (λ (x y : ℕ). ((c · c) · x) ⊕ ((d · d) · y)) at_p at_q ∙ h₂
      each (suc (suc t)) l = absurd (omega arith)

  -- (c · (c ⊕ d)) · e ≡ t₂ ⊕ d · t₁, and d · f ≡ t₁ ⊕ c · e
  pub closed_two : (e f : ℕ) → e < 2 ^ 8 → f < 2 ^ 8 → (c · (c ⊕ d)) · e ≡ red₂ ls j b ⊕ (d · red₁ ls j b) → d · f ≡ red₁ ls j b ⊕ (c · e)
      → closed ls j (p ∷ q ∷ []) b ≡ block_of (fill j (patch (patch (byte b) p e) q f))
  closed_two e f he hf g h =
      closed_rows e f he hf (first_row ◌·◌ field c d e f (red₁ ls j b) (red₂ ls j b) h) (second_row ◌·◌ field c d e f (red₁ ls j b) (red₂ ls j b) g h)
