-- The sums of a block, and those reduced to a card, for any labels and the words spread from them.
--
--   once_of, squared_of   the word that gathers 45 bytes gives their label sums; pair_once, pair_squared: as the code takes them from the pair
--   nine_rows             the rows, from the words that the code puts them together from
--   built_in_below        the built-in labels are bytes
--   in_part, no_part      one card's part of the words, as the code has it in figures, is its part of all; above card 4 there is none
--   reduced_sums   what the word that gathers the rows by card j's words adds to the label sums makes them those of card j's reduced matrix
use mathlib.Core.Path.{◌≡◌, sym, ap, ap₂, ◌∙◌, subst}
use mathlib.Core.List.{List}
use Prim.Native.Nat.{ℕ, ◌+◌, ◌*◌, ◌^◌, ◌<◌, ◌≤◌}
use native.Mathlib.Omega.{arith}
use lib.ListN.{length, get_or, take, drop, replicate, get_or-replicate, get_or-eq_default}
use lib.Seq.{get_or-take, get_or-drop}
use Rattle.field.specs.Field.{sum, ◌⊕◌, ◌·◌}
use Rattle.field.proofs.Gf256.{field}
use Rattle.field.proofs.Sum.{sum_ext, sum_below}
use Rattle.field.proofs.Squares.{squared}
use Rattle.code.specs.Block.{byte, position, Block}
use Rattle.code.specs.Labels.{built_in, entry, LabelSet}
use Rattle.code.proofs.Card.{row, red_sum}
use Rattle.code.proofs.BuiltIn.{figures, in_figures, built_in_set}
use Rattle.code.proofs.Blocks.{all_below, label_below}
use Rattle.pairs.specs.Words.{byte_of, spread_of, spread, gathered, at_point, at_both}
use Rattle.sums.specs.Sums.{rows_of, IsSums, ReducedSums}
use Rattle.sums.specs.declared.Sums.{Sums}
use Rattle.pairs.proofs.Points.{once_at, squared_at, spread_at, spread_length}
use Rattle.pairs.proofs.Fold.{once_from, squared_from}
use Rattle.sums.proofs.Cards.{nine_at}

pub built_in_below : (p : ℕ) → byte built_in p < 2 ^ 8
built_in_below = label_below built_in built_in_set

-- of 45 bytes, those of a block or of a part of more
module _ (labels : List ℕ) (b : ℕ → ℕ) (hl : (p : ℕ) → byte labels p < 2 ^ 8) (hb : (p : ℕ) → b p < 2 ^ 8)
    (u : ℕ) (e : u ≡ sum 45 (λ p. b p * get_or (spread labels) p 0)) where
  pub once_of : at_point 2 8 u ≡ sum 45 (λ p. byte labels p · b p)
  once_of = ap (at_point 2 8) e ∙ once_at 45 (byte labels) b (λ p. get_or (spread labels) p 0) (λ p l. spread_at labels p) (λ p l. hl p) (λ p l. hb p)

  pub squared_of : at_point 4 8 u ≡ sum 45 (λ p. (byte labels p · byte labels p) · b p)
  squared_of = ap (at_point 4 8) e ∙ squared_at 45 (byte labels) b (λ p. get_or (spread labels) p 0) (λ p l. spread_at labels p) (λ p l. hl p) (λ p l. hb p)

  -- as the code takes them from the pair
  pub pair_once : (v x : ℕ) → v ≡ at_both u → x ≡ byte_of v 0 → x ≡ sum 45 (λ p. byte labels p · b p)
  pair_once v x ev ex = ex ∙ ap (λ (y : ℕ). byte_of y 0) ev ∙ once_from u ∙ once_of

  pub pair_squared : (v x : ℕ) → v ≡ at_both u → x ≡ byte_of v 4 → x ≡ sum 45 (λ p. (byte labels p · byte labels p) · b p)
  pair_squared v x ev ex = ex ∙ ap (λ (y : ℕ). byte_of y 4) ev ∙ squared_from u ∙ squared_of

-- the nine rows, from the words of chips 0 to 7 and of chips 1 to 8
pub nine_rows : (s : Sums) (low high : ℕ) (row : ℕ → ℕ) → s.low ≡ low → s.high ≡ byte_of high 7
    → ((k : ℕ) → k < 8 → byte_of low k ≡ row (0 + k)) → ((k : ℕ) → k < 8 → byte_of high k ≡ row (1 + k))
    → (i : ℕ) → i < 9 → byte (rows_of s) i ≡ row i
nine_rows s low high row el eh hl hh =
    nine_at (byte_of s.low) s.high (λ i x. x ≡ row i)
    (λ i l. ap (λ (u : ℕ). byte_of u i) el ∙ hl i l ∙ ap row (let e : 0 + i ≡ i = omega arith in e))
    (eh ∙ hh 7 (omega arith))

-- ---- one card's part of the words
-- r holds card j's nine words
abbrev Holds : List ℕ → ℕ → Type 0
Holds r j = (i : ℕ) → i < 9 → get_or r i 0 ≡ get_or (spread built_in) (9 * j + i) 0

pub in_part : (r : List ℕ) (k j : ℕ) → j ≡ k → r ≡ take 9 (drop (9 * k) (spread figures)) → Holds r j
in_part r k j e h i l =
    ap (λ (v : List ℕ). get_or v i 0) (h ∙ ap₂ (λ (ls : List ℕ) (c : ℕ). take 9 (drop (9 * c) (spread ls))) (sym in_figures) (sym e))
    ∙ get_or-take 9 (drop (9 * j) (spread built_in)) i 0 l ∙ get_or-drop (9 * j) (spread built_in) i 0

pub no_part : (j : ℕ) → 5 ≤ j → Holds (replicate 9 0) j
no_part j h i l =
    let all : length (spread built_in) ≡ 45 = spread_length built_in ∙ built_in_set.bytes.long in
    get_or-replicate 9 i 0 0 l ∙ sym (get_or-eq_default (spread built_in) 0 {n = 9 * j + i} (omega (arith, all)))

-- ---- the reduced sums
module _ (labels b : List ℕ) (set : LabelSet labels) (block : Block b) (s : Sums) (known : IsSums labels b s) (j : ℕ) where
  -- card j's labels, under f, times the rows
  rows_times : (f : ℕ → ℕ) → sum 9 (λ i. f (byte labels (position j i)) · byte (rows_of s) i) ≡ sum 9 (λ i. f (byte labels (position j i)) · row (byte b) i)
  rows_times f =
      sum_ext 9 (λ i. f (byte labels (position j i)) · byte (rows_of s) i) (λ i. f (byte labels (position j i)) · row (byte b) i)
      (λ i l. ap (λ (y : ℕ). f (byte labels (position j i)) · y) (known.rows i l))

  once_is : s.once ⊕ sum 9 (λ i. byte labels (9 * j + i) · byte (rows_of s) i) ≡ sum 45 (λ p. entry labels j p · byte b p)
  unfolding squared
  once_is = ap₂ (λ (x y : ℕ). x ⊕ y) known.once (rows_times (λ x. x)) ∙ sym (red_sum 8 ◌·◌ field labels 0 j (byte b))

  squared_is : s.squared ⊕ sum 9 (λ i. (byte labels (9 * j + i) · byte labels (9 * j + i)) · byte (rows_of s) i)
      ≡ sum 45 (λ p. (entry labels j p · entry labels j p) · byte b p)
  unfolding squared
  squared_is = ap₂ (λ (x y : ℕ). x ⊕ y) known.squared (rows_times (λ x. x · x)) ∙ sym (red_sum 8 ◌·◌ field labels 1 j (byte b))

  -- sums of bytes
  bytes : (i : ℕ) → i < 9 → byte (rows_of s) i < 2 ^ 8
  bytes i l = subst (λ (x : ℕ). x < 2 ^ 8) (sym (known.rows i l)) (sum_below 8 5 (λ k. byte b (position k i)) (λ k. all_below b block (position k i)))

  module _ (h : j < 5) (words : List ℕ) (w : words ≡ spread labels) where
    is : (i : ℕ) → i < 9 → get_or words (9 * j + i) 0 ≡ spread_of 8 (byte labels (9 * j + i))
    is i l = ap (λ (v : List ℕ). get_or v (9 * j + i) 0) w ∙ spread_at labels (9 * j + i)

    own_below : (i : ℕ) → i < 9 → byte labels (9 * j + i) < 2 ^ 8
    own_below i l = label_below labels set (9 * j + i)

    pub reduced_sums : (u : ℕ) → u ≡ gathered (rows_of s) words j → ReducedSums labels b j (s.once ⊕ at_point 2 8 u) (s.squared ⊕ at_point 4 8 u)
    unfolding gathered
    reduced_sums u e =
        let ls : ℕ → ℕ = λ i. byte labels (9 * j + i) in
        let ws : ℕ → ℕ = λ i. get_or words (9 * j + i) 0 in
        record {
          once = ap (λ (x : ℕ). s.once ⊕ x) (ap (at_point 2 8) e ∙ once_at 9 ls (byte (rows_of s)) ws is own_below bytes) ∙ once_is;
          squared = ap (λ (x : ℕ). s.squared ⊕ x) (ap (at_point 4 8) e ∙ squared_at 9 ls (byte (rows_of s)) ws is own_below bytes) ∙ squared_is;
        }
