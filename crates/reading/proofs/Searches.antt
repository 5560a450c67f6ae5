-- S as the union of searches: of a card and the marked chips, for each of five cards; or beside a marked card.
--
--   further_one, further_most       at most one further chip is ever allowed, and with the marked chips two at most
--   further_some, further_none      where one is, and where none is
--   covered, covers                 with no card marked: what the five cards reach, with the marked chips
--   beside_chips                    the chips of a search beside a marked card: the marked ones, or with none marked one further chip
--   some_beside                     a change that such a search looks for, every marked chip being counted
--   covered_beside, covers_beside   with a card marked, and no chip of it: what those searches reach
use mathlib.Core.Logic.{◌⊎◌, inl, inr}
use mathlib.Core.Path.{◌≡◌, ap, subst}
use mathlib.Core.List.{List, [], ◌∷◌}
use Prim.Native.Nat.{ℕ, zero, suc, ◌+◌, ◌/◌, ◌<◌, ◌≤◌}
use native.Mathlib.Decide.{dec_lt}
use native.Mathlib.Omega.{arith}
use lib.ListN.{length}
use Rattle.base.proofs.Few.{few_one}
use Rattle.base.specs.Base.{In, Few}
use Rattle.code.specs.Block.{DifferOnly}
use Rattle.code.specs.Reach.{rules, Off, Reached}
use Rattle.code.proofs.Few.{widen}
use Rattle.std.specs.Prelude.{None, Some}
use Rattle.reading.specs.Allowed.{further, further_beside, BesideUpTo, Allowed}
use Rattle.reading.specs.Reading.{S}
use Rattle.reading.proofs.Beside.{by_off, from_off}

-- at most one further chip
at_most_one : (fs : List ℕ) → length fs ≤ 1 → (f : ℕ) × (f < 45) × ((p : ℕ) → p < 45 → In p fs → p ≡ f)
at_most_one [] h = (0, omega arith, λ p l i. absurd i)
at_most_one (f ∷ []) h = go (dec_lt f 45)
  where
    go : Dec (f < 45) → (g : ℕ) × (g < 45) × ((p : ℕ) → p < 45 → In p (f ∷ []) → p ≡ g)
    go (yes l) = (f, l, each)
      where
        each : (p : ℕ) → p < 45 → In p (f ∷ []) → p ≡ f
        each p z (inl e) = e
        each p z (inr i) = absurd i
    go (no n) = (0, omega arith, each)
      where
        each : (p : ℕ) → p < 45 → In p (f ∷ []) → p ≡ 0
        each p z (inl e) = absurd (n (subst (λ (x : ℕ). x < 45) e z))
        each p z (inr i) = absurd i
at_most_one (f ∷ g ∷ fs) h = absurd (omega arith)

pub further_one : (n : ℕ) → further n ≤ 1
further_one zero = omega arith
further_one (suc zero) = omega arith
further_one (suc (suc n)) = omega arith

-- the numbers of the table, as the code tells them
pub further_some : (u n : ℕ) → u < 2 → n ≡ 1 → n ≡ further u
further_some zero n h e = e
further_some (suc zero) n h e = e
further_some (suc (suc u)) n h e = absurd (omega arith)

pub further_none : (u n : ℕ) → 2 ≤ u → n ≡ 0 → n ≡ further u
further_none zero n h e = absurd (omega arith)
further_none (suc zero) n h e = absurd (omega arith)
further_none (suc (suc u)) n h e = e

pub further_most : (n : ℕ) → n ≤ 2 → n + further n ≤ 2
further_most zero h = omega arith
further_most (suc zero) h = omega arith
further_most (suc (suc n)) h = omega arith

abbrev pub beside_chips : List ℕ → ℕ → List ℕ
beside_chips [] f = f ∷ []
beside_chips (p ∷ ps) f = p ∷ ps

pub beside_few : (ps : List ℕ) → Few rules ps → (f : ℕ) → f < 45 → Few rules (beside_chips ps f)
beside_few [] few f l = few_one f l
beside_few (p ∷ ps) few f l = few

module _ (ls ps b y : List ℕ) where
  -- ---- no card marked
  pub covered : S ls None ps b y → (j : ℕ) × (j < 5) × Reached ls j ps b y
  covered s = go s.allowed
    where
      go : Allowed None ps b y → (j : ℕ) × (j < 5) × Reached ls j ps b y
      go (inr (j, l, h)) = (j, l, record { block = s.block; lawful = s.lawful; only = h })
      go (inl (fs, l, h)) =
          let w = at_most_one fs (omega (arith, l, further_one (length ps))) in
          let only = widen (λ p. In p ps ⊎ In p fs) (λ p. (p / 9 ≡ w.0 / 9) ⊎ In p ps) b y (each w.0 w.2) h in
          (w.0 / 9, omega (arith, w.1), record { block = s.block; lawful = s.lawful; only = only })
        where
          each : (f : ℕ) → ((p : ℕ) → p < 45 → In p fs → p ≡ f) → (p : ℕ) → p < 45 → In p ps ⊎ In p fs → (p / 9 ≡ f / 9) ⊎ In p ps
          each f is p z (inl i) = inr i
          each f is p z (inr i) = inl (ap (λ (x : ℕ). x / 9) (is p z i))

  pub covers : (j : ℕ) → j < 5 → Reached ls j ps b y → S ls None ps b y
  covers j l h = record { block = h.block; lawful = h.lawful; allowed = inr (j, l, h.only) }

-- ---- card m marked
module _ (m : ℕ) (b y : List ℕ) where
  pub some_beside : (ps : List ℕ) → BesideUpTo (further_beside (length ps)) m ps b y
      → (f : ℕ) × (f < 45) × DifferOnly (λ p. (p / 9 ≡ m) ⊎ In p (beside_chips ps f)) b y
  some_beside [] (fs, l, h) =
      let w = at_most_one fs l in
      (w.0, w.1, widen (λ p. (p / 9 ≡ m) ⊎ (⊥ ⊎ In p fs)) (λ p. (p / 9 ≡ m) ⊎ In p (w.0 ∷ [])) b y (each w.0 w.2) h)
    where
      each : (f : ℕ) → ((p : ℕ) → p < 45 → In p fs → p ≡ f) → (p : ℕ) → p < 45 → (p / 9 ≡ m) ⊎ (⊥ ⊎ In p fs) → (p / 9 ≡ m) ⊎ In p (f ∷ [])
      each f is p z (inl e) = inl e
      each f is p z (inr (inl i)) = absurd i
      each f is p z (inr (inr i)) = inr (inl (is p z i))
  some_beside (q ∷ ps) ([], l, h) =
      (0, omega arith, widen (λ p. (p / 9 ≡ m) ⊎ (In p (q ∷ ps) ⊎ ⊥)) (λ p. (p / 9 ≡ m) ⊎ In p (q ∷ ps)) b y each h)
    where
      each : (p : ℕ) → p < 45 → (p / 9 ≡ m) ⊎ (In p (q ∷ ps) ⊎ ⊥) → (p / 9 ≡ m) ⊎ In p (q ∷ ps)
      each p z (inl e) = inl e
      each p z (inr (inl i)) = inr i
      each p z (inr (inr i)) = absurd i
  some_beside (q ∷ ps) (f ∷ fs, l, h) = absurd (omega arith)

  beside_some : (ps : List ℕ) (f : ℕ) → DifferOnly (λ p. (p / 9 ≡ m) ⊎ In p (beside_chips ps f)) b y → BesideUpTo (further_beside (length ps)) m ps b y
  beside_some [] f h = (f ∷ [], omega arith, widen (λ p. (p / 9 ≡ m) ⊎ In p (f ∷ [])) (λ p. (p / 9 ≡ m) ⊎ (⊥ ⊎ In p (f ∷ []))) b y each h)
    where
      each : (p : ℕ) → p < 45 → (p / 9 ≡ m) ⊎ In p (f ∷ []) → (p / 9 ≡ m) ⊎ (⊥ ⊎ In p (f ∷ []))
      each p z (inl e) = inl e
      each p z (inr i) = inr (inr i)
  beside_some (q ∷ ps) f h = ([], omega arith, widen (λ p. (p / 9 ≡ m) ⊎ In p (q ∷ ps)) (λ p. (p / 9 ≡ m) ⊎ (In p (q ∷ ps) ⊎ ⊥)) b y each h)
    where
      each : (p : ℕ) → p < 45 → (p / 9 ≡ m) ⊎ In p (q ∷ ps) → (p / 9 ≡ m) ⊎ (In p (q ∷ ps) ⊎ ⊥)
      each p z (inl e) = inl e
      each p z (inr i) = inr (inl i)

  module _ (ls ps : List ℕ) (off : Off m ps) where
    pub covered_beside : S ls (Some m) ps b y → (f : ℕ) × (f < 45) × Reached ls m (beside_chips ps f) b y
    covered_beside s =
        let w = some_beside ps (by_off m ps b y off s.allowed) in
        (w.0, w.1, record { block = s.block; lawful = s.lawful; only = w.2 })

    pub covers_beside : (f : ℕ) → Reached ls m (beside_chips ps f) b y → S ls (Some m) ps b y
    covers_beside f h = record { block = h.block; lawful = h.lawful; allowed = from_off m ps b y off (beside_some ps f h.only) }
