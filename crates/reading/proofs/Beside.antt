-- The laws of the table's row with a card marked. What is marked on that card makes no difference to it.
--
--   beside_fewer          the fewer marks count, the more further chips are allowed
--   beside_most           with the marked chips that count they are two at most; beside_both: and so are those of two changes
--   more_further          a change with at most n further chips is one with at most k, where k is no less
--   by_kept, from_kept    it is one by the marked chips off the card alone
--   u_kept                u is that of the marked chips off the card; u_off: and of chips that are all off it, their number
--   u_on                  of chips that are all on the card none counts
--   by_off, from_off      a change of the row, by chips that are all off the card
--   kind_kept, kind_from  a change of the row, by the marked chips off the card alone; in_kept, in_from: a member of S likewise
use mathlib.Core.Logic.{◌⊎◌, inl, inr}
use mathlib.Core.Path.{◌≡◌, refl, sym, ap, ◌∙◌, subst}
use mathlib.Core.Bool.{Bool}
use mathlib.Core.List.{List, [], ◌∷◌}
use Prim.Native.Nat.{ℕ, zero, suc, ◌+◌, ◌/◌, ◌<◌, ◌≤◌}
use native.Mathlib.Omega.{arith}
use lib.ListN.{length}
use borrow.Author.Tests.{eq-eqb}
use Rattle.base.specs.Base.{if, In}
use Rattle.code.specs.Reach.{Off, keep}
use Rattle.code.proofs.Few.{in_keep, keep_in, keep_off, keep_all, widen}
use Rattle.std.specs.Prelude.{Some}
use Rattle.reading.specs.Allowed.{u, further_beside, BesideUpTo, BesideKind}
use Rattle.reading.specs.Reading.{S}

pub beside_fewer : (m n : ℕ) → m ≤ n → further_beside n ≤ further_beside m
beside_fewer zero zero h = omega arith
beside_fewer zero (suc n) h = omega arith
beside_fewer (suc m) zero h = absurd (omega arith)
beside_fewer (suc m) (suc n) h = omega arith

pub beside_most : (n : ℕ) → n ≤ 2 → n + further_beside n ≤ 2
beside_most zero h = omega arith
beside_most (suc n) h = omega arith

pub beside_both : (n : ℕ) → n ≤ 2 → n + (further_beside n + further_beside n) ≤ 2
beside_both zero h = omega arith
beside_both (suc n) h = omega arith

module _ (j : ℕ) (ps b x : List ℕ) where
  pub more_further : (n k : ℕ) → n ≤ k → BesideUpTo n j ps b x → BesideUpTo k j ps b x
  more_further n k l (fs, h, d) = (fs, omega (arith, l, h), d)

  pub by_kept : (n : ℕ) → BesideUpTo n j ps b x → BesideUpTo n j (keep j ps) b x
  by_kept n (fs, h, d) = (fs, h, widen (λ p. (p / 9 ≡ j) ⊎ (In p ps ⊎ In p fs)) (λ p. (p / 9 ≡ j) ⊎ (In p (keep j ps) ⊎ In p fs)) b x each d)
    where
      at : (p : ℕ) → (p / 9 ≡ j) ⊎ In p (keep j ps) → (p / 9 ≡ j) ⊎ (In p (keep j ps) ⊎ In p fs)
      at p (inl e) = inl e
      at p (inr i) = inr (inl i)

      each : (p : ℕ) → p < 45 → (p / 9 ≡ j) ⊎ (In p ps ⊎ In p fs) → (p / 9 ≡ j) ⊎ (In p (keep j ps) ⊎ In p fs)
      each p l (inl e) = inl e
      each p l (inr (inl i)) = at p (in_keep j p ps i)
      each p l (inr (inr i)) = inr (inr i)

  pub from_kept : (n : ℕ) → BesideUpTo n j (keep j ps) b x → BesideUpTo n j ps b x
  from_kept n (fs, h, d) = (fs, h, widen (λ p. (p / 9 ≡ j) ⊎ (In p (keep j ps) ⊎ In p fs)) (λ p. (p / 9 ≡ j) ⊎ (In p ps ⊎ In p fs)) b x each d)
    where
      each : (p : ℕ) → p < 45 → (p / 9 ≡ j) ⊎ (In p (keep j ps) ⊎ In p fs) → (p / 9 ≡ j) ⊎ (In p ps ⊎ In p fs)
      each p l (inl e) = inl e
      each p l (inr (inl i)) = inr (inl (keep_in j p ps i))
      each p l (inr (inr i)) = inr (inr i)

-- ---- how many marks count
pub u_kept : (j : ℕ) (ps : List ℕ) → u (Some j) (keep j ps) ≡ u (Some j) ps
u_kept j ps = omega (arith, ap length (keep_all j (keep j ps) (keep_off j ps)))

pub u_off : (j : ℕ) (qs : List ℕ) → Off j qs → u (Some j) qs ≡ length qs
u_off j qs off = omega (arith, ap length (keep_all j qs off))

pub u_on : (j : ℕ) (ps : List ℕ) → ((p : ℕ) → In p ps → p / 9 ≡ j) → u (Some j) ps ≡ 0
unfolding keep
u_on j [] h = refl
u_on j (p ∷ ps) h =
    ap (λ (t : Bool). length (if t (keep j ps) (p ∷ keep j ps))) (eq-eqb (p / 9) j (h p (inl refl))) ∙ u_on j ps (λ q i. h q (inr i))

-- ---- the row
module _ (j : ℕ) (qs b x : List ℕ) (off : Off j qs) where
  pub by_off : BesideKind j qs b x → BesideUpTo (further_beside (length qs)) j qs b x
  by_off = subst (λ (n : ℕ). BesideUpTo (further_beside n) j qs b x) (u_off j qs off)

  pub from_off : BesideUpTo (further_beside (length qs)) j qs b x → BesideKind j qs b x
  from_off = subst (λ (n : ℕ). BesideUpTo (further_beside n) j qs b x) (sym (u_off j qs off))

module _ (j : ℕ) (ps b x : List ℕ) where
  pub kind_kept : BesideKind j ps b x → BesideKind j (keep j ps) b x
  kind_kept h =
      subst (λ (n : ℕ). BesideUpTo (further_beside n) j (keep j ps) b x) (sym (u_kept j ps)) (by_kept j ps b x (further_beside (u (Some j) ps)) h)

  pub kind_from : BesideKind j (keep j ps) b x → BesideKind j ps b x
  kind_from h =
      from_kept j ps b x (further_beside (u (Some j) ps)) (subst (λ (n : ℕ). BesideUpTo (further_beside n) j (keep j ps) b x) (u_kept j ps) h)

  pub in_kept : (ls : List ℕ) → S ls (Some j) ps b x → S ls (Some j) (keep j ps) b x
  in_kept ls s = record { block = s.block; lawful = s.lawful; allowed = kind_kept s.allowed }

  pub in_from : (ls : List ℕ) → S ls (Some j) (keep j ps) b x → S ls (Some j) ps b x
  in_from ls s = record { block = s.block; lawful = s.lawful; allowed = kind_from s.allowed }
