-- The four factors by which the two label sums give bytes 34 and 35: specs/Factors.antt.
--
--   solved_once, solved_squared   with them the two sums become 0
--   any_factors         every set of labels has such factors
--   same_scale          two inverses of one value take a byte to the same
--   built_in_factors    those of the built-in labels; by_figures: any factors of theirs give the same
use mathlib.Core.Logic.{◌≢◌}
use mathlib.Core.Path.{◌≡◌, refl, sym, ap, ap₂, ◌∙◌, subst}
use mathlib.Core.List.{List}
use Prim.Native.Nat.{ℕ, ◌<◌, ◌^◌}
use native.Mathlib.Omega.{arith}
use Rattle.field.specs.Field.{sum, ◌⊕◌, ◌·◌, polynomial_product, remainder, product}
use Rattle.field.proofs.Xor.{add_lt, eq_of_sum}
use Rattle.field.proofs.IsField.{IsField}
use Rattle.field.proofs.Gf256.{field}
use Rattle.field.proofs.Ring.{ring, zero_divisor}
use Rattle.code.specs.Block.{byte}
use Rattle.code.specs.Labels.{built_in, LabelSet}
use Rattle.code.proofs.BuiltIn.{figures, in_figures, built_in_set}
use Rattle.code.proofs.Blocks.{label_below}
use Rattle.pairs.specs.Words.{paired}
use Rattle.store.specs.Factors.{D, E, Factors}

-- (sorting wants the product as a variable, not as an abbreviation)
module _ (◌∗◌ : ℕ → ℕ → ℕ) (F : IsField 8 ◌∗◌) (D E T s t : ℕ) where
  infixl 70 ◌∗◌
  once_is : (D ∗ ((s ∗ (T ∗ (E ∗ E))) ⊕ (t ∗ (T ∗ E)))) ⊕ (E ∗ ((s ∗ (T ∗ (D ∗ D))) ⊕ (t ∗ (T ∗ D)))) ≡ (T ∗ ((D ∗ E) ∗ (D ⊕ E))) ∗ s
  once_is = simp (ring, F)

  squared_is : ((D ∗ D) ∗ ((s ∗ (T ∗ (E ∗ E))) ⊕ (t ∗ (T ∗ E)))) ⊕ ((E ∗ E) ∗ ((s ∗ (T ∗ (D ∗ D))) ⊕ (t ∗ (T ∗ D)))) ≡ (T ∗ ((D ∗ E) ∗ (D ⊕ E))) ∗ t
  squared_is = simp (ring, F)

module _ (labels : List ℕ) (f g h k : ℕ) (F : Factors labels f g h k) (s t x y : ℕ) (hs : s < 2 ^ 8) (ht : t < 2 ^ 8)
    (x_is : x ≡ (s · f) ⊕ (t · g)) (y_is : y ≡ (s · h) ⊕ (t · k)) where
  x_by : x ≡ (s · (F.T · (E labels · E labels))) ⊕ (t · (F.T · E labels))
  x_by = x_is ∙ ap₂ (λ (p q : ℕ). (s · p) ⊕ (t · q)) F.f_is F.g_is

  y_by : y ≡ (s · (F.T · (D labels · D labels))) ⊕ (t · (F.T · D labels))
  y_by = y_is ∙ ap₂ (λ (p q : ℕ). (s · p) ⊕ (t · q)) F.h_is F.k_is

  times_one : (z : ℕ) → z < 2 ^ 8 → (F.T · ((D labels · E labels) · (D labels ⊕ E labels))) · z ≡ z
  times_one z hz = ap (λ (w : ℕ). w · z) F.one ∙ field.one z hz

  pub solved_once : (D labels · x) ⊕ (E labels · y) ≡ s
  solved_once =
      ap₂ (λ (p q : ℕ). (D labels · p) ⊕ (E labels · q)) x_by y_by ∙ once_is ◌·◌ field (D labels) (E labels) F.T s t ∙ times_one s hs

  pub solved_squared : ((D labels · D labels) · x) ⊕ ((E labels · E labels) · y) ≡ t
  solved_squared =
      ap₂ (λ (p q : ℕ). ((D labels · D labels) · p) ⊕ ((E labels · E labels) · q)) x_by y_by
      ∙ squared_is ◌·◌ field (D labels) (E labels) F.T s t ∙ times_one t ht

-- ---- they are there
abbrev pub scale : List ℕ → ℕ
scale labels = field.inv ((D labels · E labels) · (D labels ⊕ E labels))

module _ (d e : ℕ) (hd : d < 2 ^ 8) (he : e < 2 ^ 8) (nd : d ≢ 0) (ne : e ≢ 0) (n : d ≢ e) where
  nonzero : (d · e) · (d ⊕ e) ≢ 0
  nonzero z =
      n (eq_of_sum d e (zero_divisor 8 ◌·◌ field (d · e) (d ⊕ e) (field.below d e) (add_lt 8 d e hd he) (λ w. ne (zero_divisor 8 ◌·◌ field d e hd he nd w)) z))

  inverse_is : field.inv ((d · e) · (d ⊕ e)) · ((d · e) · (d ⊕ e)) ≡ 1
  inverse_is = field.comm (field.inv ((d · e) · (d ⊕ e))) ((d · e) · (d ⊕ e)) ∙ field.inverse ((d · e) · (d ⊕ e)) (field.below (d · e) (d ⊕ e)) nonzero

pub any_factors : (labels : List ℕ) → LabelSet labels
    → Factors labels (scale labels · (E labels · E labels)) (scale labels · E labels) (scale labels · (D labels · D labels)) (scale labels · D labels)
any_factors labels set = record {
  T = scale labels;
  one = inverse_is (D labels) (E labels) (add_lt 8 (byte labels 34) (byte labels 43) (label_below labels set 34) (label_below labels set 43))
      (add_lt 8 (byte labels 35) (byte labels 44) (label_below labels set 35) (label_below labels set 44))
      (set.separated.nonzero 4 34 (omega arith) (omega arith) (λ e. omega arith))
      (set.separated.nonzero 4 35 (omega arith) (omega arith) (λ e. omega arith))
      (set.separated.different 4 34 35 (omega arith) (omega arith) (omega arith) (λ e. omega arith) (λ e. omega arith) (λ e. omega arith));
  f_is = refl;
  g_is = refl;
  h_is = refl;
  k_is = refl;
}

-- ---- they are one set
-- (sorting wants the product as a variable, not as an abbreviation)
module _ (◌∗◌ : ℕ → ℕ → ℕ) (F : IsField 8 ◌∗◌) (T U Z X : ℕ) where
  infixl 70 ◌∗◌
  turned : T ∗ ((U ∗ Z) ∗ X) ≡ (T ∗ Z) ∗ (U ∗ X)
  turned = simp (ring, F)

-- two inverses of Z take a byte to the same
same_scale : (T U Z X : ℕ) → X < 2 ^ 8 → T · Z ≡ 1 → U · Z ≡ 1 → T · X ≡ U · X
same_scale T U Z X h e f =
    ap (λ (x : ℕ). T · x) (sym (field.one X h) ∙ ap (λ (x : ℕ). x · X) (sym f)) ∙ turned ◌·◌ field T U Z X
    ∙ ap (λ (x : ℕ). x · (U · X)) e ∙ field.one (U · X) (field.below U X)

figured : Factors figures 26 243 136 247
unfolding figures product remainder polynomial_product sum ◌⊕◌
figured = record { T = 52; one = refl; f_is = refl; g_is = refl; h_is = refl; k_is = refl }

pub built_in_factors : (f g h k : ℕ) → f ≡ 26 → g ≡ 243 → h ≡ 136 → k ≡ 247 → Factors built_in f g h k
built_in_factors f g h k p q r s = rw (p, q, r, s) (subst (λ (l : List ℕ). Factors l 26 243 136 247) (sym in_figures) figured)

-- any factors of the built-in labels are these
pub by_figures : (s t f g h k : ℕ) → Factors built_in f g h k
    → paired ((s · 26) ⊕ (t · 243)) ((s · 136) ⊕ (t · 247)) ≡ paired ((s · f) ⊕ (t · g)) ((s · h) ⊕ (t · k))
by_figures s t f g h k F =
    ap₂ paired
    (ap₂ (λ (x y : ℕ). (s · x) ⊕ (t · y))
    (known.f_is ∙ same (e · e) (field.below e e) ∙ sym F.f_is) (known.g_is ∙ same e e_below ∙ sym F.g_is))
    (ap₂ (λ (x y : ℕ). (s · x) ⊕ (t · y))
    (known.h_is ∙ same (d · d) (field.below d d) ∙ sym F.h_is) (known.k_is ∙ same d d_below ∙ sym F.k_is))
  where
    known : Factors built_in 26 243 136 247
    known = built_in_factors 26 243 136 247 refl refl refl refl

    d : ℕ
    d = D built_in

    e : ℕ
    e = E built_in

    d_below : D built_in < 2 ^ 8
    d_below = add_lt 8 (byte built_in 34) (byte built_in 43) (label_below built_in built_in_set 34) (label_below built_in built_in_set 43)

    e_below : E built_in < 2 ^ 8
    e_below = add_lt 8 (byte built_in 35) (byte built_in 44) (label_below built_in built_in_set 35) (label_below built_in built_in_set 44)

    same : (x : ℕ) → x < 2 ^ 8 → known.T · x ≡ F.T · x
    same x l = same_scale known.T F.T ((D built_in · E built_in) · (D built_in ⊕ E built_in)) x l known.one F.one
