-- The equations' steps as the code goes: quotients, and a chip sought by its entry.
--
--   quotient                    s times the inverse of d, times d, is s
--   first_by, second_by         two unknowns, from the steps of the code
--   and_first, and_not          a test of two sums
--   one_fits                    what the test says of one chip
--   has_entry, no_entry         a chip has the entry v, or not, by its label
--   further_none, further_zero, further_off   no chip has the entry that the sums ask for; it is 0; this one has it
use mathlib.Core.Logic.{◌≢◌}
use mathlib.Core.Path.{◌≡◌, sym, ap, ap₂, ◌∙◌}
use mathlib.Core.Bool.{Bool, true, ◌&&◌}
use mathlib.Core.List.{List, [], ◌∷◌}
use Prim.Native.Nat.{ℕ, ◌+◌, ◌*◌, ◌/◌, ◌%◌, ◌^◌, ◌<◌}
use native.Mathlib.Omega.{arith}
use lib.Dec.{eqb}
use Rattle.std.specs.Prelude.{Some, None}
use borrow.Author.Tests.{eq-eqb, ne_eqb, eqb-true}
use Rattle.field.specs.Field.{◌⊕◌, ◌·◌}
use Rattle.field.proofs.IsField.{IsField}
use Rattle.field.proofs.Gf256.{field}
use Rattle.field.proofs.Ring.{ring, zero_mul, mul_zero}
use Rattle.field.proofs.Xor.{add_self, add_self_left, add_comm, add_lt}
use Rattle.code.specs.Block.{byte}
use Rattle.code.specs.Labels.{entry, LabelSet}
use Rattle.field.proofs.Quotient.{quot_only}
use Rattle.code.proofs.Blocks.{label_below}
use Rattle.decode.specs.Equations.{fits_by, Further}

-- ---- quotients
module _ (◌∗◌ : ℕ → ℕ → ℕ) (F : IsField 8 ◌∗◌) where
  infixl 70 ◌∗◌
  regroup : (d s i : ℕ) → d ∗ (s ∗ i) ≡ (d ∗ i) ∗ s
  regroup d s i = simp (ring, F)

  split : (c y e : ℕ) → (c ∗ y) ∗ e ≡ y ∗ (c ∗ e)
  split c y e = simp (ring, F)

-- no factor of what is not 0 is 0
left_nonzero : (c y : ℕ) → c · y ≢ 0 → c ≢ 0
left_nonzero c y n z = n (ap (λ (x : ℕ). x · y) z ∙ zero_mul 8 ◌·◌ field y)

right_nonzero : (c y : ℕ) → c · y ≢ 0 → y ≢ 0
right_nonzero c y n z = n (ap (λ (x : ℕ). c · x) z ∙ mul_zero 8 ◌·◌ field c)

pub quotient : (s d i r : ℕ) → s < 2 ^ 8 → (d ≢ 0 → d · i ≡ 1) → r ≡ s · i → d ≢ 0 → d · r ≡ s
quotient s d i r hs inverse e ne =
    ap (λ (x : ℕ). d · x) e ∙ regroup ◌·◌ field d s i ∙ ap (λ (x : ℕ). x · s) (inverse ne) ∙ field.one s hs

-- what chip p takes of the first sum is g, a part of that sum by the two sums alone
pub first_by : (c d t₁ t₂ e a x y g : ℕ) → (y ≢ 0 → y · g ≡ a) → a ≡ t₂ ⊕ x → x ≡ d · t₁ → y ≡ c ⊕ d → (c ≢ 0 → c · e ≡ g)
    → c · (c ⊕ d) ≢ 0 → (c · (c ⊕ d)) · e ≡ t₂ ⊕ (d · t₁)
first_by c d t₁ t₂ e a x y g h qa qx qy own ne =
    split ◌·◌ field c (c ⊕ d) e ∙ ap₂ (λ (p q : ℕ). p · q) (sym qy) (own (left_nonzero c (c ⊕ d) ne))
    ∙ h (λ z. right_nonzero c (c ⊕ d) ne (sym qy ∙ z)) ∙ qa ∙ ap (λ (z : ℕ). t₂ ⊕ z) qx

pub second_by : (c d t₁ e f b g : ℕ) → (d ≢ 0 → d · f ≡ b) → b ≡ t₁ ⊕ g → (c ≢ 0 → c · e ≡ g) → c · (c ⊕ d) ≢ 0 → d ≢ 0 → d · f ≡ t₁ ⊕ (c · e)
second_by c d t₁ e f b g h qb own ne nd = h nd ∙ qb ∙ ap (λ (z : ℕ). t₁ ⊕ z) (sym (own (left_nonzero c (c ⊕ d) ne)))

-- the same, of the entries that the code read
pub by_entries : (c c' d d' e f t₁ t₂ : ℕ) → c ≡ c' → d ≡ d'
    → (c · (c ⊕ d) ≢ 0 → (c · (c ⊕ d)) · e ≡ t₂ ⊕ (d · t₁)) → (c · (c ⊕ d) ≢ 0 → d ≢ 0 → d · f ≡ t₁ ⊕ (c · e))
    → (c' · (c' ⊕ d') ≢ 0 → (c' · (c' ⊕ d')) · e ≡ t₂ ⊕ (d' · t₁)) × (c' · (c' ⊕ d') ≢ 0 → d' ≢ 0 → d' · f ≡ t₁ ⊕ (c' · e))
by_entries c c' d d' e f t₁ t₂ p q h g = rw (← p, ← q) (h, g)

-- ---- the test
pub and_first : (a : ℕ) (t : Bool) → a ≡ 0 → t ≡ eqb a 0 && t
and_first a t e = ap (λ (z : Bool). z && t) (sym (eq-eqb a 0 e))

pub and_not : (a : ℕ) (t : Bool) → a ≢ 0 → eqb a 0 ≡ eqb a 0 && t
and_not a t e = ne_eqb a 0 e ∙ ap (λ (z : Bool). z && t) (sym (ne_eqb a 0 e))

pub one_fits : (ls : List ℕ) (j p t₁ t₂ : ℕ) → fits_by ls j (p ∷ []) t₁ t₂ ≡ true → t₂ ≡ entry ls j p · t₁
unfolding fits_by
one_fits ls j p t₁ t₂ t = eqb-true t₂ (entry ls j p · t₁) t

-- ---- a chip sought by its entry
-- the entry of card m's chip i is v exactly where its label is the sum of v and the label of the card's own chip i, as the code makes it
module _ (ls : List ℕ) (j m i v wanted : ℕ) (l : i < 9) (e : wanted ≡ byte ls (9 * j + i) ⊕ v) where
  entry_is : entry ls j (9 * m + i) ≡ byte ls (9 * j + i) ⊕ byte ls (9 * m + i)
  entry_is = let q : (9 * m + i) % 9 ≡ i = omega arith in
      ap (λ (k : ℕ). byte ls (9 * m + i) ⊕ byte ls (9 * j + k)) q ∙ add_comm (byte ls (9 * m + i)) (byte ls (9 * j + i))

  pub has_entry : byte ls (9 * m + i) ≡ wanted → entry ls j (9 * m + i) ≡ v
  has_entry h = entry_is ∙ ap (λ (x : ℕ). byte ls (9 * j + i) ⊕ x) (h ∙ e) ∙ add_self_left (byte ls (9 * j + i)) v

  pub no_entry : byte ls (9 * m + i) ≢ wanted → entry ls j (9 * m + i) ≢ v
  no_entry n h = n (sym (add_self_left (byte ls (9 * j + i)) (byte ls (9 * m + i))) ∙ ap (λ (x : ℕ). byte ls (9 * j + i) ⊕ x) (sym entry_is ∙ h) ∙ sym e)

entry_lt : (ls : List ℕ) → LabelSet ls → (j p : ℕ) → entry ls j p < 2 ^ 8
entry_lt ls set j p = add_lt 8 (byte ls p) (byte ls (9 * j + p % 9)) (label_below ls set p) (label_below ls set (9 * j + p % 9))

module _ (ls : List ℕ) (set : LabelSet ls) (j : ℕ) (hj : j < 5) (t₁ t₂ v : ℕ) (h₁ : t₁ < 2 ^ 8) (hv : v < 2 ^ 8) (n : t₁ ≢ 0) (q : t₁ · v ≡ t₂) where
  -- the sums are a multiple of chip p's column exactly where its entry is v
  pub is_wanted : (p : ℕ) → t₂ ≡ entry ls j p · t₁ → entry ls j p ≡ v
  is_wanted p e =
      quot_only 8 ◌·◌ field t₂ t₁ (entry ls j p) h₁ (entry_lt ls set j p) n (field.comm t₁ (entry ls j p) ∙ sym e)
      ∙ sym (quot_only 8 ◌·◌ field t₂ t₁ v h₁ hv n q)

  pub further_off : (p : ℕ) → p < 45 → v ≢ 0 → entry ls j p ≡ v → Further ls j t₁ t₂ (Some p)
  further_off p hp nv e = (hp, (λ on. nv (sym e ∙ own_zero on)), sym q ∙ field.comm t₁ v ∙ ap (λ (x : ℕ). x · t₁) (sym e))
    where
      own_zero : p / 9 ≡ j → entry ls j p ≡ 0
      own_zero on = let r : 9 * j + p % 9 ≡ p = omega (arith, on) in ap (λ (k : ℕ). byte ls p ⊕ byte ls k) r ∙ add_self (byte ls p)

  -- where none has the entry; where it is 0, which is the card's own
  pub further_none : ((i : ℕ) → i < 9 → (m : ℕ) → m < 5 → entry ls j (9 * m + i) ≢ v) → Further ls j t₁ t₂ None
  further_none none i hi ni z =
      let r : 9 * (i / 9) + i % 9 ≡ i = omega arith in
      none (i % 9) (omega arith) (i / 9) (omega arith) (ap (entry ls j) r ∙ is_wanted i z)

  pub further_zero : v ≡ 0 → Further ls j t₁ t₂ None
  further_zero e i hi ni z = set.separated.nonzero j i hj hi ni (is_wanted i z ∙ e)
