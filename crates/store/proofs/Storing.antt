-- The block that a record is stored as: it is there, and it is the only one. For any labels, and their factors.
--
--   begun_bytes           what the code writes first are bytes
--   is_stored             the block that the code ends with
--   refused_2, refused_3, stored   what the contract says, by its cause
use mathlib.Core.Logic.{◌≢◌, ◌⊎◌, inl, inr}
use mathlib.Core.Path.{◌≡◌, refl, sym, ap, ap₂, ◌∙◌, subst}
use mathlib.Core.Bool.{Bool, not}
use mathlib.Core.List.{List, [], ◌∷◌}
use Prim.Native.Nat.{ℕ, ◌+◌, ◌-◌, ◌/◌, ◌<◌, ◌≤◌, ◌^◌}
use native.Mathlib.Decide.{dec_lt}
use native.Mathlib.Omega.{arith}
use lib.Dec.{eqb}
use lib.ListN.{length, take, get_or-eq_default}
use lib.Seq.{length-take-le, ext_get_or, get_or-take}
use borrow.Author.Tests.{eq-eqb, ne_eqb}
use Rattle.base.specs.Base.{In, if}
use Rattle.std.proofs.lemmas.Bool.{cases_eq}
use Rattle.answer.specs.Answer.{done, refused}
use Rattle.answer.specs.Cause.{cause}
use Rattle.answer.proofs.Causes.{first_holds, by_refused, by_done}
use Rattle.field.specs.Field.{◌⊕◌, ◌·◌, sum}
use Rattle.field.proofs.Xor.{add_self, add_lt, add_assoc, add_zero}
use Rattle.field.proofs.Gf256.{field}
use Rattle.field.proofs.Linear.{if_below}
use Rattle.field.proofs.Sum.{sum_ext, sum_below}
use Rattle.field.proofs.Squares.{square_add}
use Rattle.code.specs.Block.{byte, position, Block, Lawful, OneMember, Stored}
use Rattle.code.specs.Labels.{built_in, LabelSet}
use Rattle.base.proofs.Few.{few_two}
use Rattle.code.proofs.Unique.{alike}
use Rattle.sums.specs.Sums.{chip_sum, begun}
use Rattle.sums.proofs.Begun.{begun_front, begun_card}
use Rattle.store.specs.Steps.{Begun, in_row}
use Rattle.store.specs.Store.{store_cause, StoreDone}
use Rattle.store.proofs.Written.{in_row_at, in_row_length}
use Rattle.store.proofs.Pairs.{row_kept, sum_moved}
use Rattle.store.specs.Factors.{Factors}
use Rattle.store.proofs.Solved.{solved_once, solved_squared}

-- a square of a sum
square : (a b : ℕ) → (a · a) ⊕ (b · b) ≡ (a ⊕ b) · (a ⊕ b)
square a b = sym (square_add 8 ◌·◌ field a b)

-- ---- the 45 bytes written first meet the rows
rows_met : (rec card b : List ℕ) → ((i : ℕ) → i < 9 → byte card i ≡ chip_sum rec i) → Begun rec card b → (i : ℕ) → i < 9
    → sum 5 (λ k. byte b (position k i)) ≡ 0
unfolding chip_sum sum
rows_met rec card b hc w i h =
    ap₂ (λ (x y : ℕ). x ⊕ y) (w.card_is i h ∙ hc i h)
    (sum_ext 4 (λ k. byte b (position k i)) (λ k. byte rec (position k i)) (λ k l. w.front (position k i) (omega arith)))
    ∙ add_self (sum 4 (λ k. byte rec (position k i)))

pub begun_bytes : (rec card b : List ℕ) → ((p : ℕ) → byte rec p < 2 ^ 8) → ((i : ℕ) → i < 9 → byte card i ≡ chip_sum rec i) → Begun rec card b
    → (p : ℕ) → byte b p < 2 ^ 8
unfolding chip_sum
begun_bytes rec card b h hc w p = at (dec_lt p 36) (dec_lt p 45)
  where
    at : Dec (p < 36) → Dec (p < 45) → byte b p < 2 ^ 8
    at (yes l) m = subst (λ (x : ℕ). x < 2 ^ 8) (sym (w.front p l)) (h p)
    at (no n) (yes m) =
        let e : 36 + (p - 36) ≡ p = omega (arith, n) in
        let l : p - 36 < 9 = omega (arith, n, m) in
        subst (λ (x : ℕ). x < 2 ^ 8) (sym (ap (byte b) (sym e) ∙ w.card_is (p - 36) l ∙ hc (p - 36) l))
        (sum_below 8 4 (λ k. byte rec (position k (p - 36))) (λ k. h (position k (p - 36))))
    at (no n) (no m) = subst (λ (x : ℕ). x < 2 ^ 8) (sym (get_or-eq_default b 0 {n = p} (omega (arith, w.long, m)))) (lib.Pow.pow_pos 8)

module _ (labels : List ℕ) (set : LabelSet labels) (f g h k : ℕ) (F : Factors labels f g h k)
    (rec card b b₁ b₂ : List ℕ) (lr : length rec ≡ 34) (below : (p : ℕ) → byte b p < 2 ^ 8)
    (hc : (i : ℕ) → i < 9 → byte card i ≡ chip_sum rec i) (w : Begun rec card b)
    (s t x y : ℕ) (s_by : s ≡ sum 45 (λ p. byte labels p · begun rec p)) (t_by : t ≡ sum 45 (λ p. (byte labels p · byte labels p) · begun rec p))
    (x_is : x ≡ (s · f) ⊕ (t · g)) (y_is : y ≡ (s · h) ⊕ (t · k)) (e₁ : b₁ ≡ in_row b 34 x) (e₂ : b₂ ≡ in_row b₁ 35 y) where
  -- the label sums of the block begun
  at_begun : (p : ℕ) → p < 45 → begun rec p ≡ byte b p
  at_begun p l = pick (dec_lt p 36)
    where
      pick : Dec (p < 36) → begun rec p ≡ byte b p
      pick (yes a) = begun_front rec p a ∙ sym (w.front p a)
      pick (no a) =
          let e : p ≡ 36 + (p - 36) = omega arith in
          ap (begun rec) e ∙ begun_card rec (p - 36) ∙ sym (hc (p - 36) (omega arith)) ∙ sym (w.card_is (p - 36) (omega arith)) ∙ ap (byte b) (sym e)

  s_is : s ≡ sum 45 (λ p. byte labels p · byte b p)
  s_is = s_by ∙ sum_ext 45 (λ p. byte labels p · begun rec p) (λ p. byte labels p · byte b p) (λ p l. ap (λ (z : ℕ). byte labels p · z) (at_begun p l))

  t_is : t ≡ sum 45 (λ p. (byte labels p · byte labels p) · byte b p)
  t_is =
      t_by
      ∙ sum_ext 45 (λ p. (byte labels p · byte labels p) · begun rec p) (λ p. (byte labels p · byte labels p) · byte b p)
      (λ p l. ap (λ (z : ℕ). (byte labels p · byte labels p) · z) (at_begun p l))

  long₁ : length b₁ ≡ 45
  long₁ = ap length e₁ ∙ in_row_length b 34 x ∙ w.long

  at₁ : (q : ℕ) → byte b₁ q ≡ byte b q ⊕ if (eqb q 34) x 0 ⊕ if (eqb q 43) x 0
  at₁ q = ap (λ (l : List ℕ). byte l q) e₁ ∙ in_row_at b 34 x (omega (arith, w.long)) q

  at₂ : (q : ℕ) → byte b₂ q ≡ byte b₁ q ⊕ if (eqb q 35) y 0 ⊕ if (eqb q 44) y 0
  at₂ q = ap (λ (l : List ℕ). byte l q) e₂ ∙ in_row_at b₁ 35 y (omega (arith, long₁)) q

  -- a sum of anything times byte
  moved : (c : ℕ → ℕ) → sum 45 (λ q. c q · byte b₂ q) ≡ sum 45 (λ q. c q · byte b q) ⊕ (((c 34 ⊕ c 43) · x) ⊕ ((c 35 ⊕ c 44) · y))
  moved c =
      sum_moved 8 y (omega arith) (byte b₁) (byte b₂) at₂ c
      ∙ ap (λ (z : ℕ). z ⊕ ((c 35 ⊕ c 44) · y)) (sum_moved 7 x (omega arith) (byte b) (byte b₁) at₁ c)
      ∙ add_assoc (sum 45 (λ q. c q · byte b q)) ((c 34 ⊕ c 43) · x) ((c 35 ⊕ c 44) · y)

  s_below : s < 2 ^ 8
  s_below = subst (λ (z : ℕ). z < 2 ^ 8) (sym s_is) (sum_below 8 45 (λ p. byte labels p · byte b p) (λ p. field.below (byte labels p) (byte b p)))

  t_below : t < 2 ^ 8
  t_below =
      subst (λ (z : ℕ). z < 2 ^ 8) (sym t_is)
      (sum_below 8 45 (λ p. (byte labels p · byte labels p) · byte b p) (λ p. field.below (byte labels p · byte labels p) (byte b p)))

  lawful : Lawful labels b₂
  lawful = record {
    chips = λ i l. row_kept 8 y (omega arith) (byte b₁) (byte b₂) at₂ i l ∙ row_kept 7 x (omega arith) (byte b) (byte b₁) at₁ i l
        ∙ rows_met rec card b hc w i l;
    once = moved (byte labels) ∙ ap₂ (λ (p q : ℕ). p ⊕ q) (sym s_is) (solved_once labels f g h k F s t x y s_below t_below x_is y_is) ∙ add_self s;
    squared = moved (λ q. byte labels q · byte labels q)
        ∙ ap₂ (λ (p q : ℕ). p ⊕ q) (sym t_is)
        (ap₂ (λ (p q : ℕ). (p · x) ⊕ (q · y)) (square (byte labels 34) (byte labels 43)) (square (byte labels 35) (byte labels 44))
        ∙ solved_squared labels f g h k F s t x y s_below t_below x_is y_is)
        ∙ add_self t;
  }

  block : Block b₂
  block = record { long = ap length e₂ ∙ in_row_length b₁ 35 y ∙ long₁; bytes = λ p l. bytes p }
    where
      hx : x < 2 ^ 8
      hx = subst (λ (z : ℕ). z < 2 ^ 8) (sym x_is) (add_lt 8 (s · f) (t · g) (field.below s f) (field.below t g))

      hy : y < 2 ^ 8
      hy = subst (λ (z : ℕ). z < 2 ^ 8) (sym y_is) (add_lt 8 (s · h) (t · k) (field.below s h) (field.below t k))

      plus : (a q r e : ℕ) → a < 2 ^ 8 → e < 2 ^ 8 → a ⊕ if (eqb q r) e 0 ⊕ if (eqb q (r + 9)) e 0 < 2 ^ 8
      plus a q r e ha he =
          add_lt 8 (a ⊕ if (eqb q r) e 0) (if (eqb q (r + 9)) e 0) (add_lt 8 a (if (eqb q r) e 0) ha (if_below 8 (eqb q r) e 0 he (omega arith)))
          (if_below 8 (eqb q (r + 9)) e 0 he (omega arith))

      bytes : (q : ℕ) → byte b₂ q < 2 ^ 8
      bytes q =
          subst (λ (z : ℕ). z < 2 ^ 8) (sym (at₂ q))
          (plus (byte b₁ q) q 35 y (subst (λ (z : ℕ). z < 2 ^ 8) (sym (at₁ q)) (plus (byte b q) q 34 x (below q) hx)) hy)

  front : (p : ℕ) → p < 34 → byte b₂ p ≡ byte rec p
  front p l =
      at₂ p ∙ ap (λ (z : ℕ). z ⊕ if (eqb p 35) y 0 ⊕ if (eqb p 44) y 0) (at₁ p)
      ∙ simp (off 34 x (omega arith), off 43 x (omega arith), off 35 y (omega arith), off 44 y (omega arith), add_zero) (w.front p (omega arith))
    where
      off : (q e : ℕ) → p < q → if (eqb p q) e 0 ≡ 0
      off q e h = ap (λ (t : Bool). if t e 0) (ne_eqb p q (λ z. omega arith))

  pub is_stored : OneMember (Stored labels rec) b₂
  is_stored = (record { block = block; lawful = lawful; begins = begins }, only)
    where
      begins : take 34 b₂ ≡ rec
      begins =
          let n : length (take 34 b₂) ≡ 34 = length-take-le 34 b₂ (omega (arith, block.long)) in
          ext_get_or 0 (take 34 b₂) rec (n ∙ sym lr) (λ i l. let q : i < 34 = subst (λ (m : ℕ). i < m) n l in get_or-take 34 b₂ i 0 q ∙ front i q)

      late : (p : ℕ) → 34 ≤ p → p < 45 → (p ≡ 34) ⊎ (p ≢ 34) → (p ≡ 35) ⊎ (p ≢ 35) → (p / 9 ≡ 4) ⊎ In p (34 ∷ 35 ∷ [])
      late p a l (inl e) o = inr (inl e)
      late p a l (inr n) (inl e) = inr (inr (inl e))
      late p a l (inr n) (inr m) = inl (omega arith)

      differ : (z : List ℕ) → Stored labels rec z → (p : ℕ) → p < 45 → Dec (p < 34) → (byte z p ≡ byte b₂ p) ⊎ ((p / 9 ≡ 4) ⊎ In p (34 ∷ 35 ∷ []))
      differ z st p l (yes a) = inl (sym (get_or-take 34 z p 0 a) ∙ ap (λ (v : List ℕ). byte v p) st.begins ∙ sym (front p a))
      differ z st p l (no a) = inr (late p (omega arith) l (cases_eq p 34) (cases_eq p 35))

      -- bytes 34, 35 and card 4 are "one card and two chips"
      only : (z : List ℕ) → Stored labels rec z → z ≡ b₂
      only z st =
          alike labels set 4 (omega arith) (34 ∷ 35 ∷ []) (few_two 34 35 (omega arith) (omega arith) (λ e. omega arith)) z b₂ st.block
          st.lawful block lawful
          (λ p l. differ z st p l (dec_lt p 34))

-- ---- the contract, by its cause
pub refused_2 : (rec out : List ℕ) → length out ≢ 45 → StoreDone rec out (refused 2) rec out
unfolding store_cause
refused_2 rec out n = record {
  record_kept = refl;
  by_cause = by_refused (store_cause rec out) 2 _ _ (rw (ne_eqb (length out) 45 n) (first_holds 2 (cause 3 (not (eqb (length rec) 34)) ∷ []) tt))
      (λ e. omega arith) refl;
}

pub refused_3 : (rec out : List ℕ) → length out ≡ 45 → length rec ≢ 34 → StoreDone rec out (refused 3) rec out
unfolding store_cause
refused_3 rec out e n = record {
  record_kept = refl;
  by_cause = by_refused (store_cause rec out) 3 _ _ (rw (eq-eqb (length out) 45 e, ne_eqb (length rec) 34 n)) (λ z. omega arith) refl;
}

pub stored : (rec out out' : List ℕ) → length out ≡ 45 → length rec ≡ 34 → OneMember (Stored built_in rec) out' → StoreDone rec out done rec out'
unfolding store_cause
stored rec out out' e r one = record {
  record_kept = refl;
  by_cause = by_done (store_cause rec out) done _ _ (rw (eq-eqb (length out) 45 e, eq-eqb (length rec) 34 r)) (refl, one);
}
