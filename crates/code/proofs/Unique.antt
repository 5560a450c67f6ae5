-- The uniqueness on which everything rests, for every set of labels with 01's property.
--
--   columns_independent   any two columns of a card's reduced matrix are independent
--   alike                 two lawful blocks that differ only in one card and in at most two further chips are one block
--   four_apart            two different lawful blocks differ in at least four bytes
use mathlib.Core.Logic.{◌≢◌, ◌⊎◌, inl, inr}
use mathlib.Core.Path.{◌≡◌, refl, ap, ◌∙◌}
use mathlib.Core.Bool.{Bool, true, false, not}
use mathlib.Core.List.{List, [], ◌∷◌}
use Prim.Native.Nat.{ℕ, zero, suc, ◌/◌, ◌^◌, ◌<◌, ◌≤◌}
use native.Mathlib.Nat.{not-suc-le-zero}
use native.Mathlib.Decide.{dec_lt}
use native.Mathlib.Omega.{arith}
use lib.Dec.{eqb}
use lib.ListN.{length}
use borrow.Author.Tests.{eqb-true}
use Rattle.base.proofs.Few.{few_more}
use Rattle.base.specs.Base.{In, tally, Few}
use Rattle.base.proofs.Tests.{below_suc}
use Rattle.field.specs.Field.{◌·◌}
use Rattle.field.proofs.Gf256.{field}
use Rattle.code.specs.Block.{byte, Block, Lawful, DifferOnly, changes}
use Rattle.code.specs.Labels.{entry, LabelSet}
use Rattle.code.specs.Reach.{rules, Beside, keep}
use Rattle.code.proofs.Few.{Positions, few_of, keep_few, keep_beside, kept, widen}
use Rattle.code.proofs.Eliminate.{dot, independent}
use Rattle.code.proofs.Solve.{law_alike}
use Rattle.code.proofs.Blocks.{same_block, all_below, label_below, to_law}
use Rattle.code.proofs.Reach.{entries_below, free_columns}

module _ (ls : List ℕ) (ok : LabelSet ls) where
  pub columns_independent : (j : ℕ) → j < 5 → (ps : List ℕ) → Beside j ps → (v : ℕ → ℕ) → ((p : ℕ) → v p < 2 ^ 8)
      → ((t : ℕ) → t < rules → dot ◌·◌ t (entry ls j) ps v ≡ 0) → (p : ℕ) → In p ps → v p ≡ 0
  columns_independent j hj ps o v hv h =
      independent 8 ◌·◌ field rules (entry ls j) ps v o.0 (entries_below ls ok j hj) hv (free_columns ls ok j hj ps o) h

  -- THE UNIQUENESS; the chips on card j drop out
  pub alike : (j : ℕ) → j < 5 → (ps : List ℕ) → Few rules ps → (x y : List ℕ) → Block x → Lawful ls x → Block y → Lawful ls y
      → DifferOnly (λ p. (p / 9 ≡ j) ⊎ In p ps) x y → x ≡ y
  alike j hj ps few x y bx lx by ly only =
      same_block x y bx.long by.long
      (law_alike 8 ◌·◌ field ls (label_below ls ok) rules j hj (keep j ps) (keep_few rules j ps few)
      (free_columns ls ok j hj (keep j ps) (keep_beside j ps few)) (byte x) (byte y) (all_below x bx) (all_below y by) (to_law ls x lx) (to_law ls y ly)
      (widen (λ p. (p / 9 ≡ j) ⊎ In p ps) (λ p. (p / 9 ≡ j) ⊎ In p (keep j ps)) x y (kept j ps) only))

-- ---- the distance
-- the positions that differ, in a list as long as there are such positions
record Differing (n : ℕ) (x y : List ℕ) : Type 0 where
  list : List ℕ
  count : length list ≡ tally n (λ p. not (eqb (byte x p) (byte y p)))
  within : (p : ℕ) → In p list → p < n
  cover : (p : ℕ) → p < n → (byte x p ≡ byte y p) ⊎ In p list

differing : (n : ℕ) (x y : List ℕ) → Differing n x y
unfolding tally
differing zero x y = record { list = []; count = refl; within = λ p i. absurd i; cover = λ p l. absurd (not-suc-le-zero l) }
differing (suc n) x y = go (eqb (byte x n) (byte y n)) refl (differing n x y)
  where
    go : (t : Bool) → eqb (byte x n) (byte y n) ≡ t → Differing n x y → Differing (suc n) x y
    go true e w = record {
      list = w.list;
      count = w.count ∙ rw e (omega arith);
      within = λ p i. omega (arith, w.within p i);
      cover = below_suc (λ p. (byte x p ≡ byte y p) ⊎ In p w.list) n (inl (eqb-true (byte x n) (byte y n) e)) w.cover;
    }
    go false e w = record {
      list = n ∷ w.list;
      count = rw e (omega (arith, w.count));
      within = in_range;
      cover = below_suc (λ p. (byte x p ≡ byte y p) ⊎ In p (n ∷ w.list)) n (inr (inl refl)) (λ p l. later p (w.cover p l));
    }
      where
        in_range : (p : ℕ) → In p (n ∷ w.list) → p < suc n
        in_range p (inl q) = omega arith
        in_range p (inr i) = omega (arith, w.within p i)

        later : (p : ℕ) → (byte x p ≡ byte y p) ⊎ In p w.list → (byte x p ≡ byte y p) ⊎ In p (n ∷ w.list)
        later p (inl q) = inl q
        later p (inr i) = inr (inr i)

module _ (ls : List ℕ) (ok : LabelSet ls) (x y : List ℕ) (bx : Block x) (lx : Lawful ls x) (by : Block y) (ly : Lawful ls y) where
  -- at most three: the card of the first, and two further chips
  near : (l : List ℕ) → length l < 4 → ((p : ℕ) → In p l → p < 45) → DifferOnly (λ p. In p l) x y → x ≡ y
  near [] s h only = alike ls ok 0 (omega arith) [] tt x y bx lx by ly (widen (λ p. In p []) (λ p. (p / 9 ≡ 0) ⊎ In p []) x y (λ p l i. absurd i) only)
  near (q ∷ l) s h only = go (few_of l)
    where
      go : Positions l → x ≡ y
      go (ps, few, all) =
          alike ls ok (q / 9) (omega (arith, h q (inl refl))) ps (few_more (length l) rules ps (omega arith) few) x y bx lx by ly
          (widen (λ p. In p (q ∷ l)) (λ p. (p / 9 ≡ q / 9) ⊎ In p ps) x y each only)
        where
          each : (p : ℕ) → p < 45 → (p ≡ q) ⊎ In p l → (p / 9 ≡ q / 9) ⊎ In p ps
          each p z (inl e) = inl (ap (λ (x : ℕ). x / 9) e)
          each p z (inr i) = inr (all p z i)

  pub four_apart : x ≢ y → 4 ≤ changes x y
  unfolding changes
  four_apart ne = pick (dec_lt (changes x y) 4)
    where
      pick : Dec (changes x y < 4) → 4 ≤ changes x y
      pick (yes l) = let w = differing 45 x y in absurd (ne (near w.list (omega (arith, w.count)) w.within w.cover))
      pick (no h) = omega arith
