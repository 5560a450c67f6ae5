-- Blocks as lists and as functions of their positions.
--
--   block_of_at, block_of_length   what the list of 45 values holds
--   same_block                     a block is known by its bytes
--   all_below                      bytes are below 256, beyond the end too; label_below: so are labels
--   block_of_is_block              45 bytes make a block
--   to_law, from_law               the check rules of a list, and of a function
use mathlib.Core.Logic.{◌⊎◌, inl, inr}
use mathlib.Core.Path.{◌≡◌, sym, ap, ◌∙◌, subst}
use mathlib.Core.List.{List, [], ◌∷◌}
use Prim.Native.Nat.{ℕ, zero, suc, ◌+◌, ◌^◌, ◌<◌, ◌≤◌}
use native.Mathlib.Nat.{not-suc-le-zero, le_of_suc-le-suc, eq-or-lt_of_le}
use native.Mathlib.Decide.{dec_lt}
use native.Mathlib.Omega.{arith}
use lib.ListN.{length, get_or, get_or-eq_default}
use lib.Seq.{ext_get_or}
use Rattle.field.specs.Field.{◌·◌}
use Rattle.field.proofs.Sum.{sum_ext}
use Rattle.field.proofs.Squares.{squared}
use Rattle.code.specs.Block.{byte, position, Block, Lawful, listed, block_of}
use Rattle.code.specs.Labels.{LabelSet}
use Rattle.code.specs.Reach.{rules}
use Rattle.code.proofs.Card.{rule, Law}

listed_length : (y : ℕ → ℕ) (n : ℕ) (l : List ℕ) → length (listed y n l) ≡ n + length l
listed_length y zero l = sym (native.Mathlib.Nat.zero-add (length l))
listed_length y (suc n) l = listed_length y n (y n ∷ l) ∙ (let e : n + suc (length l) ≡ suc n + length l = omega arith in e)

listed_after : (y : ℕ → ℕ) (n i : ℕ) (l : List ℕ) → get_or (listed y n l) (n + i) 0 ≡ get_or l i 0
listed_after y zero i l = ap (λ (k : ℕ). get_or l k 0) (native.Mathlib.Nat.zero-add i)
listed_after y (suc n) i l =
    let e : suc n + i ≡ n + suc i = omega arith in
    ap (λ (k : ℕ). get_or (listed y n (y n ∷ l)) k 0) e ∙ listed_after y n (suc i) (y n ∷ l)

listed_at : (y : ℕ → ℕ) (n : ℕ) (l : List ℕ) (p : ℕ) → p < n → get_or (listed y n l) p 0 ≡ y p
listed_at y zero l p h = absurd (not-suc-le-zero h)
listed_at y (suc n) l p h = pick (eq-or-lt_of_le (le_of_suc-le-suc h)) (λ z. listed_at y n (y n ∷ l) p z)
  where
    pick : (p ≡ n) ⊎ (p < n) → (p < n → get_or (listed y n (y n ∷ l)) p 0 ≡ y p) → get_or (listed y n (y n ∷ l)) p 0 ≡ y p
    pick (inl e) g =
        let q : p ≡ n + 0 = omega arith in
        ap (λ (k : ℕ). get_or (listed y n (y n ∷ l)) k 0) q ∙ listed_after y n 0 (y n ∷ l) ∙ ap y (sym e)
    pick (inr z) g = g z

pub block_of_at : (y : ℕ → ℕ) (p : ℕ) → p < 45 → byte (block_of y) p ≡ y p
unfolding block_of
block_of_at y p h = listed_at y 45 [] p h

pub block_of_length : (y : ℕ → ℕ) → length (block_of y) ≡ 45
unfolding block_of
block_of_length y = listed_length y 45 []

pub same_block : (x x' : List ℕ) → length x ≡ 45 → length x' ≡ 45 → ((r : ℕ) → r < 45 → byte x r ≡ byte x' r) → x ≡ x'
same_block x x' h h' e = ext_get_or 0 x x' (h ∙ sym h') (λ i l. e i (subst (λ (n : ℕ). i < n) h l))

pub all_below : (b : List ℕ) → Block b → (p : ℕ) → byte b p < 2 ^ 8
all_below b bb p = pick (dec_lt p 45)
  where
    pick : Dec (p < 45) → byte b p < 2 ^ 8
    pick (yes l) = bb.bytes p l
    pick (no h) =
        let q : byte b p ≡ 0 = get_or-eq_default b 0 (subst (λ (n : ℕ). n ≤ p) (sym bb.long) (omega arith)) in
        subst (λ (z : ℕ). z < 2 ^ 8) (sym q) (omega arith)

pub label_below : (ls : List ℕ) → LabelSet ls → (p : ℕ) → byte ls p < 2 ^ 8
label_below ls ok = all_below ls ok.bytes

pub block_of_is_block : (y : ℕ → ℕ) → ((r : ℕ) → y r < 2 ^ 8) → Block (block_of y)
block_of_is_block y h = record { long = block_of_length y; bytes = λ p l. subst (λ (z : ℕ). z < 256) (sym (block_of_at y p l)) (h p) }

-- ---- the rules
pub to_law : (ls x : List ℕ) → Lawful ls x → Law ◌·◌ ls rules (byte x)
unfolding squared
to_law ls x h = record { rows = h.chips; labels = each }
  where
    each : (t : ℕ) → t < rules → rule ◌·◌ ls t (byte x) ≡ 0
    each zero z = h.once
    each (suc zero) z = h.squared
    each (suc (suc t)) z = absurd (omega arith)

pub from_law : (ls x : List ℕ) (y : ℕ → ℕ) → ((r : ℕ) → r < 45 → byte x r ≡ y r) → Law ◌·◌ ls rules y → Lawful ls x
unfolding squared
from_law ls x y e h = record {
  chips = λ i l. sum_ext 5 (λ j. byte x (position j i)) (λ j. y (position j i)) (λ j z. e (position j i) (omega arith)) ∙ h.rows i l;
  once = sum_ext 45 (λ p. byte ls p · byte x p) (λ p. byte ls p · y p) (λ p l. ap (λ (a : ℕ). byte ls p · a) (e p l)) ∙ h.labels 0 (omega arith);
  squared =
      sum_ext 45 (λ p. (byte ls p · byte ls p) · byte x p) (λ p. (byte ls p · byte ls p) · y p) (λ p l. ap (λ (a : ℕ). (byte ls p · byte ls p) · a) (e p l))
      ∙ h.labels 1 (omega arith);
}
