-- Every record is stored as one block, and only one, for every set of labels with 01's property. Demand 2, first sentence.
--
--   stored          a lawful block that differs from the record's bytes in the check bytes only begins with the record
--   stored_exists   there is one, and no other
use mathlib.Core.Logic.{◌⊎◌, inl, inr}
use mathlib.Core.Path.{◌≡◌, sym, ap, ◌∙◌, subst}
use mathlib.Core.List.{List, [], ◌∷◌, ◌++◌}
use Prim.Native.Nat.{ℕ, ◌+◌, ◌-◌, ◌/◌, ◌<◌}
use native.Mathlib.Decide.{dec_lt}
use native.Mathlib.Omega.{arith}
use lib.Dec.{T}
use lib.ListN.{length, take, replicate, length-append, get_or-append, get_or-replicate}
use lib.Seq.{length-take-le, ext_get_or, get_or-take, get_or-append-add}
use Rattle.base.specs.Base.{In}
use Rattle.code.specs.Block.{byte, Block, OneMember, Stored}
use Rattle.code.specs.Labels.{LabelSet}
use Rattle.code.specs.Reach.{Reached}
use Rattle.code.proofs.Few.{beside_two}
use Rattle.code.proofs.Reach.{reached, closed}
use Rattle.code.proofs.Closed.{fits_two}
use Rattle.code.proofs.Members.{stored_alike}

-- the two check bytes off card 4
abbrev pub checks : List ℕ
checks = 34 ∷ 35 ∷ []

module _ (ls : List ℕ) (ok : LabelSet ls) (rec : List ℕ) (lr : length rec ≡ 34) where
  pub stored : (l : List ℕ) → ((p : ℕ) → p < 34 → byte l p ≡ byte rec p) → (x : List ℕ) → Reached ls 4 checks l x → Stored ls rec x
  stored l front x h = record { block = h.block; lawful = h.lawful; begins = begins }
    where
      same_at : (p : ℕ) → p < 34 → (byte l p ≡ byte x p) ⊎ ((p / 9 ≡ 4) ⊎ In p checks) → byte x p ≡ byte rec p
      same_at p g (inl e) = sym e ∙ front p g
      same_at p g (inr (inl e)) = absurd (omega arith)
      same_at p g (inr (inr (inl e))) = absurd (omega arith)
      same_at p g (inr (inr (inr (inl e)))) = absurd (omega arith)
      same_at p g (inr (inr (inr (inr z)))) = absurd z

      begins : take 34 x ≡ rec
      begins =
          let n : length (take 34 x) ≡ 34 = length-take-le 34 x (omega (arith, h.block.long)) in
          ext_get_or 0 (take 34 x) rec (n ∙ sym lr)
          (λ i g. let q : i < 34 = subst (λ (m : ℕ). i < m) n g in get_or-take 34 x i 0 q ∙ same_at i q (h.only i (omega (arith, q))))

  -- the record, and zeros where the check bytes are to stand
  with_zeros : ((p : ℕ) → p < 34 → byte rec p < 256) → Block (rec ++ replicate 11 0)
  with_zeros h = record {
    long = length-append rec (replicate 11 0) ∙ (let e : length rec + 11 ≡ 45 = omega (arith, lr) in e);
    bytes = λ p g. at p (dec_lt p 34) g;
  }
    where
      at : (p : ℕ) → Dec (p < 34) → p < 45 → byte (rec ++ replicate 11 0) p < 256
      at p (yes l) g = subst (λ (v : ℕ). v < 256) (sym (get_or-append rec (replicate 11 0) 0 p (omega (arith, lr)))) (h p l)
      at p (no n) g =
          let e : p ≡ length rec + (p - 34) = omega (arith, lr) in
          subst (λ (v : ℕ). v < 256)
          (sym (ap (byte (rec ++ replicate 11 0)) e ∙ get_or-append-add rec (replicate 11 0) (p - 34) 0 ∙ get_or-replicate 11 (p - 34) 0 0 (omega arith)))
          (omega arith)

  pub stored_exists : ((p : ℕ) → p < 34 → byte rec p < 256) → (x : List ℕ) × OneMember (Stored ls rec) x
  stored_exists h =
      let l = rec ++ replicate 11 0 in
      let x = closed ls 4 checks l in
      let r = reached ls ok 4 (omega arith) l (with_zeros h) checks
      (beside_two 4 34 35 (omega arith) (omega arith) (λ e. omega arith) (λ e. omega arith) (λ e. omega arith))
      (subst T (sym (fits_two ls 4 34 35 [] l)) tt) in
      let s = stored l (λ p g. get_or-append rec (replicate 11 0) 0 p (omega (arith, lr))) x r in
      (x, (s, λ y t. stored_alike ls ok rec y x t s))
