-- The closed form of the block that is reached, as a described change of b.
--
--   bump_rows        the rows of a block, after a chip is changed
--   describes        a change with such rows makes the closed form
--   fits_is          the test by the reduced sums is code's
--   unsolved         where it fails, no lawful block is reached
--   solves_none, solves_one, solves_two   where it passes, the described change reaches it: with no further chip, one, two
use mathlib.Core.Logic.{◌≢◌, ◌⊎◌, inl, inr}
use mathlib.Core.Path.{◌≡◌, refl, sym, ap, ap₂, ◌∙◌, subst}
use mathlib.Core.Bool.{Bool, true, false, ◌&&◌}
use mathlib.Core.List.{List, [], ◌∷◌}
use Prim.Native.Nat.{ℕ, ◌/◌, ◌%◌, ◌^◌, ◌<◌}
use native.Mathlib.Omega.{arith}
use lib.Dec.{T, eqb}
use borrow.Author.Tests.{eq-eqb, ne_eqb}
use lib.ListN.{length, get_or, set, length-set}
use lib.Seq.{get_or-set_same, get_or-set_other}
use Rattle.std.proofs.lemmas.Bool.{cases_eq}
use Rattle.base.specs.Base.{if}
use Rattle.base.proofs.Tests.{both}
use Rattle.field.specs.Field.{sum, ◌⊕◌, ◌·◌}
use Rattle.field.proofs.Xor.{add_zero, sums}
use Rattle.field.proofs.Sum.{sum_add, sum_ext, sum_zero, sum_one}
use Rattle.code.specs.Block.{byte, position, block_of}
use Rattle.code.specs.Labels.{entry}
use Rattle.code.specs.Reach.{Beside, Reached}
use Rattle.code.proofs.Card.{row, fill}
use Rattle.code.proofs.Reach.{fits, closed, candidate, reached}
use Rattle.code.proofs.Closed.{patch, fits_none, fits_one, fits_two, closed_none, closed_one, closed_two, first_nonzero, second_nonzero}
use Rattle.code.proofs.Blocks.{same_block, block_of_at, block_of_length}
use Rattle.change.specs.Change.{adds, applied}
use Rattle.change.specs.declared.Change.{Change}
use Rattle.change.proofs.Made.{applied_long, applied_at}
use Rattle.decode.specs.Equations.{KnownAt, fits_by, rows_only, Solves}

-- ---- rows
row_patch : (y : ℕ → ℕ) (p e i : ℕ) → p < 45 → i < 9 → row (patch y p e) i ≡ row y i ⊕ if (eqb i (p % 9)) e 0
unfolding patch
row_patch y p e i hp hi =
    sum_add 5 (λ k. y (position k i)) (λ k. if (eqb (position k i) p) e 0) ∙ ap (λ (z : ℕ). row y i ⊕ z) (pick (cases_eq i (p % 9)))
  where
    pick : (i ≡ p % 9) ⊎ (i ≢ p % 9) → sum 5 (λ k. if (eqb (position k i) p) e 0) ≡ if (eqb i (p % 9)) e 0
    pick (inl q) =
        sum_ext 5 (λ k. if (eqb (position k i) p) e 0) (λ k. if (eqb k (p / 9)) e 0) (λ k l. ap (λ (t : Bool). if t e 0) (alike k (cases_eq k (p / 9))))
        ∙ sum_one 5 (p / 9) (λ k. e) (omega arith) ∙ sym (ap (λ (t : Bool). if t e 0) (eq-eqb i (p % 9) q))
      where
        alike : (k : ℕ) → (k ≡ p / 9) ⊎ (k ≢ p / 9) → eqb (position k i) p ≡ eqb k (p / 9)
        alike k (inl d) = eq-eqb (position k i) p (let t : position k i ≡ p = omega arith in t) ∙ sym (eq-eqb k (p / 9) d)
        alike k (inr d) = ne_eqb (position k i) p (λ z. let t : ⊥ = omega arith in t) ∙ sym (ne_eqb k (p / 9) d)
    pick (inr q) =
        sum_zero 5 (λ k. if (eqb (position k i) p) e 0) (λ k l. ap (λ (t : Bool). if t e 0) (ne_eqb (position k i) p (λ z. let t : ⊥ = omega arith in t)))
        ∙ sym (ap (λ (t : Bool). if t e 0) (ne_eqb i (p % 9) q))

bump_at : (r : List ℕ) (p e i : ℕ) → length r ≡ 9 → get_or (set r (p % 9) (get_or r (p % 9) 0 ⊕ e)) i 0 ≡ get_or r i 0 ⊕ if (eqb i (p % 9)) e 0
bump_at r p e i l = pick (cases_eq i (p % 9))
  where
    pick : (i ≡ p % 9) ⊎ (i ≢ p % 9) → get_or (set r (p % 9) (get_or r (p % 9) 0 ⊕ e)) i 0 ≡ get_or r i 0 ⊕ if (eqb i (p % 9)) e 0
    pick (inl q) =
        ap (λ (z : ℕ). get_or (set r (p % 9) (get_or r (p % 9) 0 ⊕ e)) z 0) q
        ∙ get_or-set_same r (p % 9) (get_or r (p % 9) 0 ⊕ e) 0 (omega (arith, l))
        ∙ ap (λ (z : ℕ). get_or r z 0 ⊕ e) (sym q) ∙ ap (λ (t : Bool). get_or r i 0 ⊕ if t e 0) (sym (eq-eqb i (p % 9) q))
    pick (inr q) =
        get_or-set_other r (p % 9) i (get_or r (p % 9) 0 ⊕ e) 0 q ∙ sym (add_zero (get_or r i 0))
        ∙ ap (λ (t : Bool). get_or r i 0 ⊕ if t e 0) (sym (ne_eqb i (p % 9) q))

pub bump_rows : (y : ℕ → ℕ) (r : List ℕ) (p e : ℕ) → p < 45 → length r ≡ 9 → ((i : ℕ) → i < 9 → get_or r i 0 ≡ row y i)
    → (i : ℕ) → i < 9 → get_or (set r (p % 9) (get_or r (p % 9) 0 ⊕ e)) i 0 ≡ row (patch y p e) i
bump_rows y r p e hp l h i hi = bump_at r p e i l ∙ ap (λ (z : ℕ). z ⊕ if (eqb i (p % 9)) e 0) (h i hi) ∙ sym (row_patch y p e i hp hi)

-- ---- the description and the closed form
regroup : (a x y z z' : ℕ) → z ≡ z' → a ⊕ (x ⊕ (y ⊕ z)) ≡ ((a ⊕ x) ⊕ y) ⊕ z'
regroup a x y z z' e = let q : a ⊕ (x ⊕ (y ⊕ z)) ≡ ((a ⊕ x) ⊕ y) ⊕ z = simp sums in q ∙ ap (λ (w : ℕ). ((a ⊕ x) ⊕ y) ⊕ w) e

-- a patch of 0 is none
if_zero : (t : Bool) → ◌≡◌ {A = ℕ} (if t 0 0) 0
if_zero true = refl
if_zero false = refl

patch_zero : (y : ℕ → ℕ) (p r : ℕ) → patch y p 0 r ≡ y r
unfolding patch
patch_zero y p r = ap (λ (z : ℕ). y r ⊕ z) (if_zero (eqb r p)) ∙ add_zero (y r)

row_zero : (y : ℕ → ℕ) (p i : ℕ) → row (patch y p 0) i ≡ row y i
row_zero y p i = sum_ext 5 (λ k. patch y p 0 (position k i)) (λ k. y (position k i)) (λ k l. patch_zero y p (position k i))

fill_zero : (j : ℕ) (y : ℕ → ℕ) (p : ℕ) → block_of (fill j (patch y p 0)) ≡ block_of (fill j y)
unfolding fill
fill_zero j y p =
    same_block (block_of (fill j (patch y p 0))) (block_of (fill j y)) (block_of_length (fill j (patch y p 0))) (block_of_length (fill j y))
    (λ r l. block_of_at (fill j (patch y p 0)) r l
    ∙ ap₂ (λ (u v : ℕ). u ⊕ if (eqb (r / 9) j) v 0) (patch_zero y p r) (row_zero y p (r % 9)) ∙ sym (block_of_at (fill j y) r l))

-- b with e added at p and f at q
abbrev further : List ℕ → Change → ℕ → ℕ
further b d = patch (patch (byte b) d.p d.e) d.q d.f

describes : (b : List ℕ) → length b ≡ 45 → (d : Change) → ((i : ℕ) → i < 9 → get_or d.rows i 0 ≡ row (further b d) i)
    → applied b d ≡ block_of (fill d.card (further b d))
unfolding fill patch
describes b l d h =
    same_block (applied b d) (block_of (fill d.card (further b d))) (applied_long b d l) (block_of_length (fill d.card (further b d)))
    (λ r m. applied_at b d l r m ∙ each r ∙ sym (block_of_at (fill d.card (further b d)) r m))
  where
    each : (r : ℕ) → byte b r ⊕ adds d r ≡ fill d.card (further b d) r
    each r =
        regroup (byte b r) (if (eqb r d.p) d.e 0) (if (eqb r d.q) d.f 0) (if (eqb (r / 9) d.card) (get_or d.rows (r % 9) 0) 0)
        (if (eqb (r / 9) d.card) (row (further b d) (r % 9)) 0) (ap (λ (v : ℕ). if (eqb (r / 9) d.card) v 0) (h (r % 9) (omega arith)))

both_and : (a b : Bool) → a && b ≡ both a b
both_and true b = refl
both_and false b = refl

-- ---- what is known beside card j
module _ (ls b z : List ℕ) (j : ℕ) (hj : j < 5) (t₁ t₂ : ℕ) (known : KnownAt ls b z j t₁ t₂) where
  fits_is : (qs : List ℕ) → fits_by ls j qs t₁ t₂ ≡ fits ls j qs b
  unfolding fits_by
  fits_is [] =
      both_and (eqb t₁ 0) (eqb t₂ 0) ∙ ap₂ (λ (x y : ℕ). both (eqb x 0) (eqb y 0)) known.sums.once known.sums.squared ∙ sym (fits_none ls j b)
  fits_is (p ∷ []) = ap₂ (λ (x y : ℕ). eqb x (entry ls j p · y)) known.sums.squared known.sums.once ∙ sym (fits_one ls j p b)
  fits_is (p ∷ q ∷ qs) = sym (fits_two ls j p q qs b)

  pub unsolved : (qs : List ℕ) → Beside j qs → fits_by ls j qs t₁ t₂ ≡ false → (x : List ℕ) → Reached ls j qs b x → ⊥
  unsolved qs o e x h = subst T (sym (fits_is qs) ∙ e) (candidate ls known.set j hj b known.block qs o x h).0

  reaches : (qs : List ℕ) → Beside j qs → fits_by ls j qs t₁ t₂ ≡ true → (d : Change) → applied b d ≡ closed ls j qs b → Reached ls j qs b (applied b d)
  reaches qs o e d gives =
      subst (Reached ls j qs b) (sym gives) (reached ls known.set j hj b known.block qs o (subst T (sym e ∙ fits_is qs) tt))

  -- ---- the change gives the closed form: no further chip; one; two
  gives_none : applied b (rows_only z j) ≡ closed ls j [] b
  gives_none =
      describes b known.block.long (rows_only z j) (λ i l. known.rows i l ∙ sym (row_zero (byte b) 0 i) ∙ sym (row_zero (patch (byte b) 0 0) 0 i))
      ∙ fill_zero j (patch (byte b) 0 0) 0 ∙ fill_zero j (byte b) 0 ∙ sym (closed_none ls j b)

  module _ (nine : length z ≡ 9) (p e : ℕ) (z' : List ℕ) (he : e < 2 ^ 8) (ez : z' ≡ set z (p % 9) (get_or z (p % 9) 0 ⊕ e)) where
    gives_one : Beside j (p ∷ []) → t₂ ≡ entry ls j p · t₁ → entry ls j p · e ≡ t₁
        → applied b (record { card = j; rows = z'; p = p; e = e; q = 0; f = 0 }) ≡ closed ls j (p ∷ []) b
    gives_one o fit ee =
        describes b known.block.long (record { card = j; rows = z'; p = p; e = e; q = 0; f = 0 })
        (λ i l. ap (λ (y : List ℕ). get_or y i 0) ez ∙ bump_rows (byte b) z p e o.0.0 nine known.rows i l ∙ sym (row_zero (patch (byte b) p e) 0 i))
        ∙ fill_zero j (patch (byte b) p e) 0
        ∙ sym (closed_one ls known.set j hj b known.block p o e he
        (sym known.sums.squared ∙ fit ∙ ap (λ (x : ℕ). entry ls j p · x) known.sums.once) (ee ∙ known.sums.once))

    gives_two : (q f : ℕ) (z'' : List ℕ) → Beside j (p ∷ q ∷ []) → f < 2 ^ 8
        → (entry ls j p · (entry ls j p ⊕ entry ls j q)) · e ≡ t₂ ⊕ (entry ls j q · t₁) → entry ls j q · f ≡ t₁ ⊕ (entry ls j p · e)
        → z'' ≡ set z' (q % 9) (get_or z' (q % 9) 0 ⊕ f)
        → applied b (record { card = j; rows = z''; p = p; e = e; q = q; f = f }) ≡ closed ls j (p ∷ q ∷ []) b
    gives_two q f z'' o hf ee ef ez' =
        describes b known.block.long (record { card = j; rows = z''; p = p; e = e; q = q; f = f })
        (λ i l. ap (λ (y : List ℕ). get_or y i 0) ez'
        ∙ bump_rows (patch (byte b) p e) z' q f o.0.2.0 (ap length ez ∙ length-set z (p % 9) (get_or z (p % 9) 0 ⊕ e) ∙ nine)
        (λ i l. ap (λ (y : List ℕ). get_or y i 0) ez ∙ bump_rows (byte b) z p e o.0.0 nine known.rows i l) i l)
        ∙ sym (closed_two ls known.set j hj b known.block p q o e f he hf
        (ee ∙ ap₂ (λ (x y : ℕ). x ⊕ (entry ls j q · y)) known.sums.squared known.sums.once)
        (ef ∙ ap (λ (x : ℕ). x ⊕ (entry ls j p · e)) known.sums.once))

-- ---- the change that reaches a lawful block
module _ (ls z : List ℕ) (j : ℕ) (hj : j < 5) (t₁ t₂ : ℕ) where
  pub solves_none : fits_by ls j [] t₁ t₂ ≡ true → Solves ls z j [] t₁ t₂ (rows_only z j)
  solves_none t = record {
    within = record { card = refl; first = inl refl; second = inl refl };
    reached = λ b k. reaches ls b z j hj t₁ t₂ k [] (tt, tt) t (rows_only z j) (gives_none ls b z j hj t₁ t₂ k);
  }

  module _ (nine : length z ≡ 9) (p e : ℕ) (z' : List ℕ) (he : e < 2 ^ 8) (ez : z' ≡ set z (p % 9) (get_or z (p % 9) 0 ⊕ e)) where
    pub solves_one : Beside j (p ∷ []) → t₂ ≡ entry ls j p · t₁ → (entry ls j p ≢ 0 → entry ls j p · e ≡ t₁)
        → Solves ls z j (p ∷ []) t₁ t₂ (record { card = j; rows = z'; p = p; e = e; q = 0; f = 0 })
    unfolding fits_by
    solves_one o t ee = record {
      within = record { card = refl; first = inr (inl refl); second = inl refl };
      reached = λ b k.
          reaches ls b z j hj t₁ t₂ k (p ∷ []) o (eq-eqb t₂ (entry ls j p · t₁) t) (record { card = j; rows = z'; p = p; e = e; q = 0; f = 0 })
          (gives_one ls b z j hj t₁ t₂ k nine p e z' he ez o t (ee (k.set.separated.nonzero j p hj o.0.0 o.1.0)));
    }

    pub solves_two : (q f : ℕ) (z'' : List ℕ) → Beside j (p ∷ q ∷ []) → f < 2 ^ 8
        → (entry ls j p · (entry ls j p ⊕ entry ls j q) ≢ 0 → (entry ls j p · (entry ls j p ⊕ entry ls j q)) · e ≡ t₂ ⊕ (entry ls j q · t₁))
        → (entry ls j p · (entry ls j p ⊕ entry ls j q) ≢ 0 → entry ls j q ≢ 0 → entry ls j q · f ≡ t₁ ⊕ (entry ls j p · e))
        → z'' ≡ set z' (q % 9) (get_or z' (q % 9) 0 ⊕ f)
        → Solves ls z j (p ∷ q ∷ []) t₁ t₂ (record { card = j; rows = z''; p = p; e = e; q = q; f = f })
    unfolding fits_by
    solves_two q f z'' o hf ee ef ez' = record {
      within = record { card = refl; first = inr (inl refl); second = inr (inr (inl refl), λ y. o.0.1 (inl (sym y))) };
      reached = λ b k.
          reaches ls b z j hj t₁ t₂ k (p ∷ q ∷ []) o refl (record { card = j; rows = z''; p = p; e = e; q = q; f = f })
          (gives_two ls b z j hj t₁ t₂ k nine p e z' he ez q f z'' o hf
          (ee (first_nonzero ls k.set j hj b k.block p q o))
          (ef (first_nonzero ls k.set j hj b k.block p q o) (second_nonzero ls k.set j hj b k.block p q o)) ez');
    }
