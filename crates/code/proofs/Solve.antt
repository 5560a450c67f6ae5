-- Card j and a few chips solved for, over any field and any number r of label rules: from the block b (a function of its symbols) they
-- reach a lawful block exactly when it fits, and then this one.
--
--   sums              the reduced sums of b
--   mended ps         b with the values of the chips ps added; filled in card j it is the block that is reached
--   mended_law        where it fits, that block is lawful
--   mended_only       whatever lawful block differs from b only in card j and in ps is that one, and it fits
--   law_alike         so two lawful blocks that differ only there are one
use mathlib.Core.Logic.{◌≢◌, ◌⊎◌, inl, inr}
use mathlib.Core.Path.{◌≡◌, refl, sym, ap, ◌∙◌}
use mathlib.Core.Bool.{Bool, true, false}
use mathlib.Core.List.{List}
use Prim.Native.Nat.{ℕ, ◌/◌, ◌<◌, ◌^◌}
use lib.Dec.{T}
use Rattle.base.proofs.Few.{few_in}
use Rattle.base.specs.Base.{if, In, is_in, Few}
use Rattle.base.proofs.Lists.{in_is_in, is_in_in}
use Rattle.base.proofs.Tally.{clash}
use Rattle.field.specs.Field.{◌⊕◌}
use Rattle.field.proofs.Xor.{add_self, add_zero, add_lt, add_self_left, eq_of_sum}
use Rattle.field.proofs.Linear.{if_below}
use Rattle.field.proofs.Sum.{sum_below}
use Rattle.field.proofs.IsField.{IsField}
use Rattle.field.proofs.Squares.{squared}
use Rattle.code.specs.Block.{byte}
use Rattle.code.specs.Labels.{entry}
use Rattle.code.proofs.Few.{member, few_once}
use Rattle.code.proofs.Eliminate.{dot, fits, values, values_off, Free, Below, solved, only}
use Rattle.code.proofs.Card.{entry_below, red, Law, fill, fill_only, law_red, red_off, red_add, red_over, fill_law}

abbrev pub mended : (ℕ → ℕ → ℕ) → (ℕ → ℕ) → List ℕ → ℕ → (ℕ → ℕ) → List ℕ → ℕ → ℕ
mended mul inv ls j b ps q = b q ⊕ values mul inv (entry ls j) ps (λ t. red mul ls t j b) q

module _ (w : ℕ) (◌·◌ : ℕ → ℕ → ℕ) (F : IsField w ◌·◌) (ls : List ℕ) (ls_below : (p : ℕ) → byte ls p < 2 ^ w) (r j : ℕ) (hj : j < 5) (b : ℕ → ℕ) where
  infixl 70 ◌·◌
  abbrev sums : ℕ → ℕ
  sums t = red ◌·◌ ls t j b

  sums_below : Below w sums
  sums_below t = sum_below w 45 (λ p. squared ◌·◌ t (entry ls j p) · b p) (λ p. F.below (squared ◌·◌ t (entry ls j p)) (b p))

  module _ (ps : List ℕ) (few : Few r ps) (free : Free ◌·◌ (entry ls j) ps) where
    abbrev change : ℕ → ℕ
    change = values ◌·◌ F.inv (entry ls j) ps sums

    -- a change within ps, as a sum over ps
    over_ps : (t : ℕ) (v : ℕ → ℕ) → ((p : ℕ) → (In p ps → ⊥) → v p ≡ 0) → red ◌·◌ ls t j v ≡ dot ◌·◌ t (entry ls j) ps v
    over_ps t v off = red_over w ◌·◌ F ls t j ps v (few_in r ps few) (few_once r ps few) off

    pub mended_law : T (fits ◌·◌ r (entry ls j) ps sums) → Law ◌·◌ ls r (fill j (mended ◌·◌ F.inv ls j b ps))
    mended_law ok =
        fill_law w ◌·◌ F ls r j hj (mended ◌·◌ F.inv ls j b ps)
        (λ t l. red_add w ◌·◌ F ls t j b change
        ∙ ap (λ (x : ℕ). sums t ⊕ x)
        (over_ps t change (values_off w ◌·◌ F (entry ls j) ps sums)
        ∙ solved w ◌·◌ F r (entry ls j) ps sums few (entry_below w ls ls_below j) sums_below free ok t l)
        ∙ add_self (sums t))

    module _ (x : ℕ → ℕ) (b_below : Below w b) (x_below : Below w x) (law : Law ◌·◌ ls r x)
        (near : (p : ℕ) → p < 45 → (b p ≡ x p) ⊎ ((p / 9 ≡ j) ⊎ In p ps)) where
      -- what x changes in ps
      made : ℕ → ℕ
      made q = if (is_in q ps) (b q ⊕ x q) 0

      made_below : Below w made
      unfolding made
      made_below q = if_below w (is_in q ps) (b q ⊕ x q) 0 (add_lt w (b q) (x q) (b_below q) (x_below q)) (lib.Pow.pow_pos w)

      made_off : (p : ℕ) → (In p ps → ⊥) → made p ≡ 0
      unfolding made
      made_off p n = go (is_in p ps) refl
        where
          go : (t : Bool) → is_in p ps ≡ t → if t (b p ⊕ x p) 0 ≡ 0
          go true e = absurd (n (is_in_in p ps e))
          go false e = refl

      -- off card j, x is b with that change
      is_made : (p : ℕ) → p < 45 → p / 9 ≢ j → x p ≡ b p ⊕ made p
      unfolding made
      is_made p hp np = go (is_in p ps) refl (near p hp)
        where
          go : (t : Bool) → is_in p ps ≡ t → (b p ≡ x p) ⊎ ((p / 9 ≡ j) ⊎ In p ps) → x p ≡ b p ⊕ if t (b p ⊕ x p) 0
          go true e o = sym (add_self_left (b p) (x p))
          go false e (inl d) = sym d ∙ sym (add_zero (b p))
          go false e (inr (inl d)) = absurd (np d)
          go false e (inr (inr i)) = absurd (clash (is_in p ps) (in_is_in p ps i) e)

      solves : (t : ℕ) → t < r → dot ◌·◌ t (entry ls j) ps made ≡ sums t
      solves t l =
          sym (over_ps t made made_off)
          ∙ sym (eq_of_sum (sums t) (red ◌·◌ ls t j made)
          (sym (red_add w ◌·◌ F ls t j b made) ∙ sym (red_off w ◌·◌ F ls t j x (λ p. b p ⊕ made p) is_made) ∙ law_red w ◌·◌ F ls r x law t j l))

      pub mended_only : T (fits ◌·◌ r (entry ls j) ps sums) × ((p : ℕ) → p < 45 → x p ≡ fill j (mended ◌·◌ F.inv ls j b ps) p)
      mended_only =
          let v = only w ◌·◌ F r (entry ls j) ps made sums few (entry_below w ls ls_below j) made_below free solves in (
            v.0,
            fill_only j hj x (mended ◌·◌ F.inv ls j b ps) law.rows
                (λ p hp np. is_made p hp np ∙ ap (λ (z : ℕ). b p ⊕ z) (each p v.1 (member p ps))),
          )
        where
          each : (p : ℕ) → ((q : ℕ) → In q ps → made q ≡ change q) → In p ps ⊎ (In p ps → ⊥) → made p ≡ change p
          each p h (inl i) = h p i
          each p h (inr n) = made_off p n ∙ sym (values_off w ◌·◌ F (entry ls j) ps sums p n)

-- two lawful blocks that differ only in card j and in ps are one: both are reached from the first
pub law_alike : (w : ℕ) (◌·◌ : ℕ → ℕ → ℕ) (F : IsField w ◌·◌) (ls : List ℕ) → ((p : ℕ) → byte ls p < 2 ^ w) → (r j : ℕ) → j < 5 → (ps : List ℕ) → Few r ps
    → Free ◌·◌ (entry ls j) ps → (x y : ℕ → ℕ) → Below w x → Below w y → Law ◌·◌ ls r x → Law ◌·◌ ls r y
    → ((p : ℕ) → p < 45 → (x p ≡ y p) ⊎ ((p / 9 ≡ j) ⊎ In p ps)) → (p : ℕ) → p < 45 → x p ≡ y p
law_alike w mul F ls hl r j hj ps few free x y hx hy lx ly near p l =
    (mended_only w mul F ls hl r j hj x ps few free x hx hx lx (λ q z. inl refl)).1 p l
    ∙ sym ((mended_only w mul F ls hl r j hj x ps few free y hx hy ly near).1 p l)
