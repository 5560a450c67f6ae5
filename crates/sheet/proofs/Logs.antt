-- Powers and logarithms by computation: the 255 powers in a list, and each number's place in it.
--
--   place l a         the first place of a in l; the length where a is not there
--   powers            1, 2, 4, ..: the 255 powers of g; at_power: place k is the k-th
--   log_place         the logarithm of a is its place among the powers
--   log_of_power, power_of_log, zero_has_none, all_nonzero   powers and logarithms undo each other, and every nonzero value is met once
use mathlib.Core.Logic.{◌≢◌}
use mathlib.Core.Path.{◌≡◌, refl, sym, ap, ◌∙◌, subst}
use mathlib.Core.Bool.{Bool, true, false}
use mathlib.Core.List.{List, [], ◌∷◌}
use Prim.Native.Nat.{ℕ, zero, suc, ◌+◌, ◌≤◌, ◌<◌}
use native.Mathlib.Omega.{arith}
use lib.Dec.{T, eqb, eqb→eq, ltb, ltb→lt}
use lib.ListN.{length, get_or}
use borrow.Author.Tests.{eq-eqb, ne_eqb, eqb-true, eqb-false}
use Rattle.base.specs.Base.{if}
use Rattle.base.proofs.Tests.{every, every_at}
use Rattle.base.proofs.Those.{least_one}
use Rattle.field.specs.Field.{◌⊕◌, power}
use Rattle.field.proofs.Product.{times_x}
use Rattle.field.proofs.Powers.{run, run_at, generator}
use Rattle.sheet.specs.Sheet.{log}
use Rattle.sheet.specs.Undo.{LogOfPower, PowerOfLog, ZeroHasNone, AllNonzero}

-- ---- places in a list
abbrev pub place : List ℕ → ℕ → ℕ
place [] a = 0
place (b ∷ l) a = if (eqb b a) 0 (suc (place l a))

record First (l : List ℕ) (a m : ℕ) : Type 0 where
  most : m ≤ length l
  there : m < length l → get_or l m 0 ≡ a
  below : (i : ℕ) → i < m → get_or l i 0 ≢ a

place_first : (l : List ℕ) (a : ℕ) → First l a (place l a)
place_first [] a = record { most = omega arith; there = λ h. absurd (omega arith); below = λ i h. absurd (omega arith) }
place_first (b ∷ l) a = go (place_first l a) (eqb b a) refl
  where
    go : First l a (place l a) → (t : Bool) → eqb b a ≡ t → First (b ∷ l) a (if t 0 (suc (place l a)))
    go w true e = record { most = omega arith; there = λ h. eqb-true b a e; below = λ i h. absurd (omega arith) }
    go w false e = record { most = omega (arith, w.most); there = λ h. w.there (omega arith); below = λ i h. later i h }
      where
        later : (i : ℕ) → i < suc (place l a) → get_or (b ∷ l) i 0 ≢ a
        later zero h = eqb-false b a e
        later (suc i) h = w.below i (omega arith)

-- ---- the powers
unfoldable pub powers : List ℕ
powers = run 255 1

powers_long : length powers ≡ 255
unfolding powers run times_x ◌⊕◌
powers_long = refl

pub at_power : (k : ℕ) → k < 255 → get_or powers k 0 ≡ power 2 k
unfolding powers power
at_power k h = let q : k + 0 ≡ k = omega arith in run_at 255 0 1 k (omega arith) refl h ∙ ap (power 2) q

pub log_place : (a : ℕ) → log a ≡ place powers a
unfolding log
log_place a =
    let w = place_first powers a in
    let most : place powers a ≤ 255 = omega (arith, w.most, powers_long) in
    sym (least_one 255 (λ k. eqb (power 2 k) a) (place powers a) (record {
      most = most;
      passes = λ h. eq-eqb _ a (sym (at_power (place powers a) h) ∙ w.there (omega (arith, h, powers_long)));
      below = λ i h. ne_eqb _ a (λ e. w.below i h (at_power i (omega arith) ∙ e));
    }))

-- ---- each power is first met at its own place
passes : T (every (λ k. eqb (place powers (get_or powers k 0)) k) 255)
unfolding powers run times_x ◌⊕◌
passes = tt

bytes : T (every (λ k. ltb (get_or powers k 0) 256) 255)
unfolding powers run times_x ◌⊕◌
bytes = tt

no_zero : T (every (λ k. ltb 0 (get_or powers k 0)) 255)
unfolding powers run times_x ◌⊕◌
no_zero = tt

pub log_of_power : LogOfPower
log_of_power k h =
    ap log (sym (at_power k h)) ∙ log_place (get_or powers k 0)
    ∙ eqb→eq (place powers (get_or powers k 0)) k (every_at (λ k. eqb (place powers (get_or powers k 0)) k) 255 passes k h)

pub power_of_log : PowerOfLog
power_of_log a p h =
    let w = generator a h (λ e. omega arith) in
    let e : log a ≡ w.0 = ap log (sym w.2) ∙ log_of_power w.0 w.1 in
    (subst (λ (k : ℕ). k < 255) (sym e) w.1, ap (power 2) e ∙ w.2)

pub zero_has_none : ZeroHasNone
unfolding powers run times_x ◌⊕◌
zero_has_none = log_place 0 ∙ refl

pub all_nonzero : AllNonzero
all_nonzero = record {
  nonzero = λ k h. (
    subst (λ (a : ℕ). 0 < a) (at_power k h) (ltb→lt 0 (get_or powers k 0) (every_at (λ k. ltb 0 (get_or powers k 0)) 255 no_zero k h)),
    subst (λ (a : ℕ). a < 256) (at_power k h) (ltb→lt (get_or powers k 0) 256 (every_at (λ k. ltb (get_or powers k 0) 256) 255 bytes k h)),
  );
  met = λ a p h. let w = power_of_log a p h in (log a, w.0, w.1);
  once = λ k l hk hl e. sym (log_of_power k hk) ∙ ap log e ∙ log_of_power l hl;
}
