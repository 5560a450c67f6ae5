-- Lists that the code writes.
--
--   begun        the record copied in, two zeros, and card 4
--   added_at, in_row_at, in_row_length   a block after an amount is added at a place, and at two places of a row
use mathlib.Core.Logic.{◌≢◌, ◌⊎◌, inl, inr}
use mathlib.Core.Path.{◌≡◌, sym, ap, ap₂, ◌∙◌}
use mathlib.Core.Bool.{Bool}
use mathlib.Core.List.{List, ◌++◌}
use Prim.Native.Nat.{ℕ, ◌+◌, ◌<◌, ◌≤◌}
use native.Mathlib.Omega.{arith}
use lib.Dec.{eqb}
use lib.ListN.{length, set, take, drop, length-set, length-append, length-drop, get_or-append, get_or-eq_default}
use lib.Seq.{length-take-le, get_or-take, get_or-set_same, get_or-set_other}
use Rattle.std.proofs.lemmas.List.{get_or-append-add}
use borrow.Rule.Slice.PartMut.{post_of, put_mid}
use borrow.Author.Tests.{eq-eqb, ne_eqb}
use Rattle.std.proofs.lemmas.Bool.{cases_eq}
use Rattle.field.specs.Field.{◌⊕◌}
use Rattle.field.proofs.Xor.{add_zero}
use Rattle.code.specs.Block.{byte}
use Rattle.base.specs.Base.{if}
use Rattle.store.specs.Steps.{Begun, added, in_row}

-- ---- the 45 bytes written first
pub begun : (rec card out from to : List ℕ) → length rec ≡ 34 → length card ≡ 9 → length out ≡ 45 → from ≡ rec → to ≡ card
    → Begun rec card (put_mid 36 9 (set (set (from ++ post_of 0 34 out) 34 0) 35 0) to)
begun rec card out from to lr lc lo ef et = rw (ef, et) (record {
  long = length-append (take 36 w) (card ++ post_of 36 9 w) ∙ omega (arith, lf, length-append card (post_of 36 9 w), lc, lp);
  front = λ p h.
      get_or-append (take 36 w) (card ++ post_of 36 9 w) 0 p (omega (arith, lf, h)) ∙ get_or-take 36 w p 0 h
      ∙ at p h (cases_eq p 35) (cases_eq p 34);
  card_is = λ i h.
      ap (λ (n : ℕ). byte (put_mid 36 9 w card) (n + i)) (sym lf) ∙ get_or-append-add (take 36 w) (card ++ post_of 36 9 w) i 0
      ∙ get_or-append card (post_of 36 9 w) 0 i (omega (arith, lc, h));
})
  where
    a : List ℕ
    a = rec ++ post_of 0 34 out

    w : List ℕ
    w = set (set a 34 0) 35 0

    la : length a ≡ 45
    la = length-append rec (post_of 0 34 out) ∙ omega (arith, lr, length-drop 34 (drop 0 out), length-drop 0 out, lo)

    lw : length w ≡ 45
    lw = length-set (set a 34 0) 35 0 ∙ length-set a 34 0 ∙ la

    lf : length (take 36 w) ≡ 36
    lf = length-take-le 36 w (omega (arith, lw))

    lp : length (post_of 36 9 w) ≡ 0
    lp = omega (arith, length-drop 9 (drop 36 w), length-drop 36 w, lw)

    -- a byte beyond the record's end
    beyond : (p : ℕ) → 34 ≤ p → 0 ≡ byte rec p
    beyond p h = sym (get_or-eq_default rec 0 {n = p} (omega (arith, lr)))

    at : (p : ℕ) → p < 36 → (p ≡ 35) ⊎ (p ≢ 35) → (p ≡ 34) ⊎ (p ≢ 34) → byte w p ≡ byte rec p
    at p h (inl e) o = ap (byte w) e ∙ get_or-set_same (set a 34 0) 35 0 0 (simp length-set (omega (arith, la))) ∙ beyond p (omega arith)
    at p h (inr n) (inl e) =
        get_or-set_other (set a 34 0) 35 p 0 0 n ∙ ap (byte (set a 34 0)) e ∙ get_or-set_same a 34 0 0 (omega (arith, la)) ∙ beyond p (omega arith)
    at p h (inr n) (inr m) =
        get_or-set_other (set a 34 0) 35 p 0 0 n ∙ get_or-set_other a 34 p 0 0 m ∙ get_or-append rec (post_of 0 34 out) 0 p (omega (arith, lr))

-- ---- an amount added
pub added_at : (b : List ℕ) (p e : ℕ) → p < length b → (q : ℕ) → byte (added b p e) q ≡ byte b q ⊕ if (eqb q p) e 0
added_at b p e h q = pick (cases_eq q p)
  where
    pick : (q ≡ p) ⊎ (q ≢ p) → byte (added b p e) q ≡ byte b q ⊕ if (eqb q p) e 0
    pick (inl i) =
        ap (byte (added b p e)) i ∙ get_or-set_same b p (byte b p ⊕ e) 0 h
        ∙ ap₂ (λ (x : ℕ) (t : Bool). byte b x ⊕ if t e 0) (sym i) (sym (eq-eqb q p i))
    pick (inr n) =
        get_or-set_other b p q (byte b p ⊕ e) 0 n ∙ sym (add_zero (byte b q)) ∙ ap (λ (t : Bool). byte b q ⊕ if t e 0) (sym (ne_eqb q p n))

pub in_row_at : (b : List ℕ) (p e : ℕ) → p + 9 < length b → (q : ℕ) → byte (in_row b p e) q ≡ byte b q ⊕ if (eqb q p) e 0 ⊕ if (eqb q (p + 9)) e 0
unfolding in_row
in_row_at b p e h q =
    added_at (added b p e) (p + 9) e (simp length-set (omega arith)) q
    ∙ ap (λ (x : ℕ). x ⊕ if (eqb q (p + 9)) e 0) (added_at b p e (omega arith) q)

pub in_row_length : (b : List ℕ) (p e : ℕ) → length (in_row b p e) ≡ length b
unfolding in_row
in_row_length b p e = simp length-set
