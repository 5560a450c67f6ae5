-- The lawful blocks that differ from b only in card j and in a few chips: there is the one in closed form, or there is none.
--
--   fits ls j ps b      whether card j and the chips ps, off card j, reach a lawful block
--   closed ls j ps b    the block that they then reach
--   free_columns        the columns of at most two chips off card j are free (Eliminate.antt), by 01's property of the labels
--   candidate           whatever is reached is the closed form, and it fits; candidate_few: of any chips
--   reached             where it fits, the closed form is reached; reached_few: by any chips
--   closed_by           the closed form from any values of the chips that meet the reduced sums
use mathlib.Core.Logic.{◌≢◌, ◌⊎◌, inl, inr}
use mathlib.Core.Path.{◌≡◌, sym, ap, ◌∙◌, fun_ext}
use mathlib.Core.Bool.{Bool}
use mathlib.Core.List.{List, [], ◌∷◌}
use Prim.Native.Nat.{ℕ, ◌/◌, ◌%◌, ◌^◌, ◌<◌}
use native.Mathlib.Omega.{arith}
use lib.Dec.{T, eqb}
use Rattle.std.proofs.lemmas.Bool.{cases_eq}
use Rattle.base.specs.Base.{if, In, Few}
use Rattle.field.specs.Field.{◌⊕◌, ◌·◌}
use Rattle.field.proofs.Xor.{add_zero, add_lt, eq_of_sum}
use Rattle.field.proofs.Linear.{if_below}
use Rattle.field.proofs.Sum.{sum_below}
use Rattle.field.proofs.Gf256.{field, inverse_of}
use Rattle.code.specs.Block.{byte, position, Block, block_of}
use Rattle.code.specs.Labels.{entry, LabelSet}
use Rattle.code.specs.Reach.{rules, Beside, keep, Reached}
use Rattle.code.proofs.Few.{member, keep_beside, kept, all_kept, widen}
use Rattle.code.proofs.Eliminate as eliminate
use Rattle.code.proofs.Eliminate.{Free, Solves, values_off, values_below, only}
use Rattle.code.proofs.Apart.{Apart, free}
use Rattle.code.proofs.Card.{entry_below, row, red, fill, fill_off}
use Rattle.code.proofs.Solve as solve
use Rattle.code.proofs.Solve.{mended_law, mended_only}
use Rattle.code.proofs.Blocks.{block_of_at, block_of_length, same_block, all_below, label_below, block_of_is_block, to_law, from_law}

unfoldable pub fits : List ℕ → ℕ → List ℕ → List ℕ → Bool
fits ls j ps b = eliminate.fits ◌·◌ rules (entry ls j) ps (λ t. red ◌·◌ ls t j (byte b))

unfoldable pub closed : List ℕ → ℕ → List ℕ → List ℕ → List ℕ
closed ls j ps b = block_of (fill j (solve.mended ◌·◌ inverse_of ls j (byte b) ps))

-- ---- the columns
module _ (ls : List ℕ) (ok : LabelSet ls) (j : ℕ) (hj : j < 5) where
  pub entries_below : (p : ℕ) → entry ls j p < 2 ^ 8
  entries_below = entry_below 8 ls (label_below ls ok) j

  -- no sum of some of at most two entries is 0
  apart : (ps : List ℕ) → Beside j ps → Apart (entry ls j) ps
  apart [] o = tt
  apart (p ∷ []) o = (ok.separated.nonzero j p hj o.0.0 o.1.0, tt)
  apart (p ∷ q ∷ []) o = (
    (
      ok.separated.nonzero j p hj o.0.0 o.1.0,
      λ z.
          ok.separated.different j p q hj o.0.0 o.0.2.0 o.1.0 o.1.1.0 (λ e. o.0.1 (inl e)) (eq_of_sum (entry ls j p) (entry ls j q) z),
    ),
    (ok.separated.nonzero j q hj o.0.2.0 o.1.1.0, tt),
  )
  apart (p ∷ q ∷ r ∷ ps) o = absurd o.0.2.2

  pub free_columns : (ps : List ℕ) → Beside j ps → Free ◌·◌ (entry ls j) ps
  free_columns ps o = free 8 ◌·◌ field (entry ls j) ps entries_below (apart ps o)

module _ (ls : List ℕ) (ok : LabelSet ls) (j : ℕ) (hj : j < 5) (b : List ℕ) (bb : Block b) where
  -- THE CANDIDATE
  pub candidate : (ps : List ℕ) → Beside j ps → (x : List ℕ) → Reached ls j ps b x → T (fits ls j ps b) × (x ≡ closed ls j ps b)
  unfolding fits closed field
  candidate ps o x h =
      let w = mended_only 8 ◌·◌ field ls (label_below ls ok) rules j hj (byte b) ps o.0 (free_columns ls ok j hj ps o)
      (byte x) (all_below b bb) (all_below x h.block) (to_law ls x h.lawful) h.only in (
        w.0,
        same_block x (closed ls j ps b) h.block.long (block_of_length (fill j y)) (λ p l. w.1 p l ∙ sym (block_of_at (fill j y) p l)),
      )
    where
      y : ℕ → ℕ
      y = solve.mended ◌·◌ inverse_of ls j (byte b) ps

  fill_below : (y : ℕ → ℕ) → ((r : ℕ) → y r < 2 ^ 8) → (r : ℕ) → fill j y r < 2 ^ 8
  unfolding fill
  fill_below y h r =
      add_lt 8 (y r) (if (eqb (r / 9) j) (row y (r % 9)) 0) (h r)
      (if_below 8 (eqb (r / 9) j) (row y (r % 9)) 0 (sum_below 8 5 (λ k. y (position k (r % 9))) (λ k. h (position k (r % 9)))) (omega arith))

  pub reached : (ps : List ℕ) → Beside j ps → T (fits ls j ps b) → Reached ls j ps b (closed ls j ps b)
  unfolding fits closed field
  reached ps o ok' = record {
    block = block_of_is_block (fill j y) (fill_below y (λ r. add_lt 8 (byte b r) (v r) (all_below b bb r) (values_below 8 ◌·◌ field (entry ls j) ps s r)));
    lawful = from_law ls (block_of (fill j y)) (fill j y) (block_of_at (fill j y))
        (mended_law 8 ◌·◌ field ls (label_below ls ok) rules j hj (byte b) ps o.0 (free_columns ls ok j hj ps o) ok');
    only = λ r l. each r l (cases_eq (r / 9) j) (member r ps);
  }
    where
      s : ℕ → ℕ
      s t = red ◌·◌ ls t j (byte b)

      v : ℕ → ℕ
      v = eliminate.values ◌·◌ inverse_of (entry ls j) ps s

      y : ℕ → ℕ
      y r = byte b r ⊕ v r

      each : (r : ℕ) → r < 45 → (r / 9 ≡ j) ⊎ (r / 9 ≢ j) → In r ps ⊎ (In r ps → ⊥) → (byte b r ≡ byte (block_of (fill j y)) r) ⊎ ((r / 9 ≡ j) ⊎ In r ps)
      each r l (inl e) o = inr (inl e)
      each r l (inr ne) (inl i) = inr (inr i)
      each r l (inr ne) (inr n) =
          inl (sym (block_of_at (fill j y) r l ∙ fill_off j y r ne
          ∙ ap (λ (z : ℕ). byte b r ⊕ z) (values_off 8 ◌·◌ field (entry ls j) ps s r n) ∙ add_zero (byte b r)))

  -- values of the chips that meet the reduced sums
  pub closed_by : (ps : List ℕ) → Beside j ps → (v : ℕ → ℕ) → ((r : ℕ) → v r < 2 ^ 8) → ((r : ℕ) → (In r ps → ⊥) → v r ≡ 0)
      → Solves ◌·◌ rules (entry ls j) ps v (λ t. red ◌·◌ ls t j (byte b)) → T (fits ls j ps b) × (closed ls j ps b ≡ block_of (fill j (λ r. byte b r ⊕ v r)))
  unfolding fits closed field
  closed_by ps o v hv zero_off h =
      let w = only 8 ◌·◌ field rules (entry ls j) ps v s o.0 (entries_below ls ok j hj) hv (free_columns ls ok j hj ps o) h in (
        w.0,
        ap (λ (f : ℕ → ℕ). block_of (fill j (λ r. byte b r ⊕ f r))) (fun_ext (λ r. sym (each r w.1 (member r ps)))),
      )
    where
      s : ℕ → ℕ
      s t = red ◌·◌ ls t j (byte b)

      each : (r : ℕ) → ((q : ℕ) → In q ps → v q ≡ eliminate.values ◌·◌ inverse_of (entry ls j) ps s q) → In r ps ⊎ (In r ps → ⊥)
          → v r ≡ eliminate.values ◌·◌ inverse_of (entry ls j) ps s r
      each r g (inl i) = g r i
      each r g (inr n) = zero_off r n ∙ sym (values_off 8 ◌·◌ field (entry ls j) ps s r n)

  -- ---- any few chips: those on card j drop out
  pub candidate_few : (ps : List ℕ) → Few rules ps → (x : List ℕ) → Reached ls j ps b x → T (fits ls j (keep j ps) b) × (x ≡ closed ls j (keep j ps) b)
  candidate_few ps few x h = candidate (keep j ps) (keep_beside j ps few) x (record {
    block = h.block;
    lawful = h.lawful;
    only = widen (λ p. (p / 9 ≡ j) ⊎ In p ps) (λ p. (p / 9 ≡ j) ⊎ In p (keep j ps)) b x (kept j ps) h.only;
  })

  pub reached_few : (ps : List ℕ) → Few rules ps → T (fits ls j (keep j ps) b) → Reached ls j ps b (closed ls j (keep j ps) b)
  reached_few ps few t =
      let h = reached (keep j ps) (keep_beside j ps few) t in
      record {
        block = h.block;
        lawful = h.lawful;
        only = widen (λ p. (p / 9 ≡ j) ⊎ In p (keep j ps)) (λ p. (p / 9 ≡ j) ⊎ In p ps) b (closed ls j (keep j ps) b) (all_kept j ps) h.only;
      }
