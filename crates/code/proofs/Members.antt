-- What sets of blocks, and stored records, are like.
--
--   one_alike                   a set with one member has no other; one_not_none, one_not_two: nor is it empty, nor has it two
--   one_only, none_empty, two_pair    sets with one member, with none, and with two
--   zero_stored                 the record of 34 zeros is stored as the block of 45 zeros
--   stored_alike                a record is stored as one block only
use mathlib.Core.Logic.{◌≢◌, ◌⊎◌, inl, inr}
use mathlib.Core.Path.{◌≡◌, refl, sym, ap, ◌∙◌}
use mathlib.Core.List.{List, [], ◌∷◌}
use Prim.Native.Nat.{ℕ, ◌/◌, ◌<◌, ◌≤◌}
use native.Mathlib.Decide.{dec_lt}
use native.Mathlib.Omega.{arith}
use lib.Seq.{get_or-take}
use Rattle.std.proofs.lemmas.Bool.{cases_eq}
use Rattle.base.specs.Base.{In}
use Rattle.field.specs.Field.{◌·◌}
use Rattle.field.proofs.Sum.{sum_zero}
use Rattle.field.proofs.Ring.{mul_zero}
use Rattle.field.proofs.Gf256.{field}
use Rattle.code.specs.Block.{byte, position, Stored, listed, block_of, OneMember, NoMember, TwoMembers}
use Rattle.code.specs.Labels.{LabelSet}
use Rattle.base.proofs.Few.{few_two}
use Rattle.code.proofs.Blocks.{block_of_at, block_of_is_block}
use Rattle.code.proofs.Unique.{alike}

module _ (P : List ℕ → Type 0) (x : List ℕ) where
  pub one_alike : (y : List ℕ) → OneMember P x → OneMember P y → x ≡ y
  one_alike y h g = g.1 x h.0

  pub one_not_none : OneMember P x → NoMember P → ⊥
  one_not_none h n = n x h.0

  pub one_not_two : OneMember P x → TwoMembers P → ⊥
  one_not_two h (y, z, hy, hz, ne) = ne (h.1 y hy ∙ sym (h.1 z hz))

pub one_only : (x : List ℕ) → OneMember (λ y. y ≡ x) x
one_only x = (refl, λ y e. e)

pub none_empty : NoMember (λ y. ⊥)
none_empty y h = h

pub two_pair : (x y : List ℕ) → x ≢ y → TwoMembers (λ z. (z ≡ x) ⊎ (z ≡ y))
two_pair x y ne = (x, y, inl refl, inr refl, ne)

-- ---- storing
pub zero_stored : (ls : List ℕ) → Stored ls (listed (λ p. 0) 34 []) (listed (λ p. 0) 45 [])
unfolding block_of
zero_stored ls = record {
  block = block_of_is_block (λ p. 0) (λ p. omega arith);
  lawful = record {
    chips = λ i l. sum_zero 5 (λ j. byte z (position j i)) (λ j h. block_of_at (λ p. 0) (position j i) (omega arith));
    once = sum_zero 45 (λ p. byte ls p · byte z p) (λ p l. at p l (byte ls p));
    squared = sum_zero 45 (λ p. (byte ls p · byte ls p) · byte z p) (λ p l. at p l (byte ls p · byte ls p));
  };
  begins = refl;
}
  where
    z : List ℕ
    z = block_of (λ p. 0)

    at : (p : ℕ) → p < 45 → (c : ℕ) → c · byte z p ≡ 0
    at p l c = ap (λ (x : ℕ). c · x) (block_of_at (λ p. 0) p l) ∙ mul_zero 8 ◌·◌ field c

-- bytes 34 and 35 and card 4 are one card and two chips
pub stored_alike : (ls : List ℕ) → LabelSet ls → (r x y : List ℕ) → Stored ls r x → Stored ls r y → x ≡ y
stored_alike ls ok r x y s t =
    alike ls ok 4 (omega arith) (34 ∷ 35 ∷ []) (few_two 34 35 (omega arith) (omega arith) (λ e. omega arith)) x y s.block s.lawful t.block t.lawful
    (λ p l. differ p l (dec_lt p 34))
  where
    late : (p : ℕ) → 34 ≤ p → p < 45 → (p ≡ 34) ⊎ (p ≢ 34) → (p ≡ 35) ⊎ (p ≢ 35) → (p / 9 ≡ 4) ⊎ In p (34 ∷ 35 ∷ [])
    late p a l (inl e) o = inr (inl e)
    late p a l (inr n) (inl e) = inr (inr (inl e))
    late p a l (inr n) (inr m) = inl (omega arith)

    differ : (p : ℕ) → p < 45 → Dec (p < 34) → (byte x p ≡ byte y p) ⊎ ((p / 9 ≡ 4) ⊎ In p (34 ∷ 35 ∷ []))
    differ p l (yes a) = inl (sym (get_or-take 34 x p 0 a) ∙ ap (λ (v : List ℕ). byte v p) (s.begins ∙ sym t.begins) ∙ get_or-take 34 y p 0 a)
    differ p l (no a) = inr (late p (omega arith) l (cases_eq p 34) (cases_eq p 35))
