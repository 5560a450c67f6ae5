-- Every eleven sums are those of some block, so that what is said of all blocks with these sums is said of something.
--
--   every_sums     THE STATEMENT
use mathlib.Core.Path.{◌≡◌, sym, ap, ◌∙◌, subst}
use mathlib.Core.List.{List}
use Prim.Native.Nat.{ℕ, zero, suc, ◌<◌, ◌^◌}
use native.Mathlib.Decide.{dec_lt}
use native.Mathlib.Omega.{arith}
use lib.ListN.{get_or-eq_default}
use Rattle.field.specs.Field.{sum, ◌·◌}
use Rattle.field.proofs.Sum.{sum_ext}
use Rattle.field.proofs.Squares.{squared}
use Rattle.code.specs.Block.{byte, position, Block, block_of}
use Rattle.code.specs.Labels.{LabelSet}
use Rattle.code.proofs.Blocks.{block_of_at, block_of_length}
use Rattle.code.proofs.Onto.{onto}
use Rattle.sums.specs.Sums.{rows_of, IsSums}
use Rattle.sums.specs.declared.Sums.{Sums}
use Rattle.sums.proofs.Zero.{rows_below}

module _ (ls : List ℕ) (ok : LabelSet ls) (s : Sums)
    (low : s.low < 2 ^ 64) (high : s.high < 2 ^ 8) (once : s.once < 2 ^ 8) (twice : s.squared < 2 ^ 8) where
  all_below : (i : ℕ) → byte (rows_of s) i < 2 ^ 8
  all_below i = at (dec_lt i 9)
    where
      at : Dec (i < 9) → byte (rows_of s) i < 2 ^ 8
      at (yes l) = rows_below s high i l
      at (no n) = subst (λ (x : ℕ). x < 2 ^ 8) (sym (get_or-eq_default (rows_of s) 0 {n = i} (omega (arith, n)))) (lib.Pow.pow_pos 8)

  -- the label sums, by the number of the rule
  by_rule : ℕ → ℕ
  by_rule zero = s.once
  by_rule (suc t) = s.squared

  by_rule_below : (t : ℕ) → by_rule t < 2 ^ 8
  unfolding by_rule
  by_rule_below zero = once
  by_rule_below (suc t) = twice

  pub every_sums : (b : List ℕ) × Block b × IsSums ls b s
  unfolding by_rule squared
  every_sums = (
    block_of w.0,
    record { long = block_of_length w.0; bytes = λ p l. subst (λ (x : ℕ). x < 256) (sym (at p l)) (w.1 p) },
    record {
      rows = λ i l.
          sym (w.2 i l)
          ∙ sum_ext 5 (λ j. w.0 (position j i)) (λ j. byte (block_of w.0) (position j i)) (λ j h. sym (at (position j i) (omega arith)));
      eight = low;
      once = sym (w.3 0 (omega arith)) ∙ over (λ p. byte ls p);
      squared = sym (w.3 1 (omega arith)) ∙ over (λ p. byte ls p · byte ls p);
    },
  )
    where
      w : (y : ℕ → ℕ) × ((p : ℕ) → y p < 2 ^ 8) × ((i : ℕ) → i < 9 → sum 5 (λ k. y (position k i)) ≡ byte (rows_of s) i)
          × ((t : ℕ) → t < 2 → sum 45 (λ p. squared ◌·◌ t (byte ls p) · y p) ≡ by_rule t)
      w = onto ls ok (byte (rows_of s)) by_rule all_below by_rule_below

      at : (p : ℕ) → p < 45 → byte (block_of w.0) p ≡ w.0 p
      at p l = block_of_at w.0 p l

      over : (f : ℕ → ℕ) → sum 45 (λ p. f p · w.0 p) ≡ sum 45 (λ p. f p · byte (block_of w.0) p)
      over f = sum_ext 45 (λ p. f p · w.0 p) (λ p. f p · byte (block_of w.0) p) (λ p l. ap (λ (x : ℕ). f p · x) (sym (at p l)))
