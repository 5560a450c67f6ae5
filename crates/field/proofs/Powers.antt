-- The powers of 2. Document 01: "Let g be 2; its powers run through all 255 nonzero values."
--
--   run n a      a, 2 · a, 4 · a, ..: n values; run_at: place k of those from the i-th power on is the power k places further
--   generator    each nonzero value is a power of 2 below the 255th
--   power_below  a power is below 256
--   power_add    powers multiply where their exponents add
--   round        the 255th power is 1; modulo: so exponents count modulo 255
use mathlib.Core.Logic.{◌≢◌, inl, inr}
use mathlib.Core.Path.{◌≡◌, refl, sym, ap, ap₂, ◌∙◌, subst}
use mathlib.Core.Bool.{Bool}
use mathlib.Core.List.{List, [], ◌∷◌}
use Prim.Native.Nat.{ℕ, zero, suc, ◌+◌, ◌*◌, ◌/◌, ◌%◌, ◌<◌, ◌^◌}
use native.Mathlib.Nat.{suc-add}
use native.Mathlib.Omega.{arith}
use lib.Dec.{T, eqb}
use lib.ListN.{get_or}
use borrow.Author.Tests.{ne_eqb}
use Rattle.base.specs.Base.{In, is_in}
use Rattle.base.proofs.Tests.{is_true, either, every, every_at}
use Rattle.base.proofs.Lists.{is_in_in}
use Rattle.field.specs.Field.{◌⊕◌, ◌·◌, power}
use Rattle.field.proofs.Product.{times_x, x_lt}
use Rattle.field.proofs.Gf256.{m_lt, two_mul, field}

unfoldable pub run : ℕ → ℕ → List ℕ
run zero a = []
run (suc n) a = a ∷ run n (times_x 7 0x1D a)

pub run_at : (n i a k : ℕ) → a < 2 ^ 8 → a ≡ power 2 i → k < n → get_or (run n a) k 0 ≡ power 2 (k + i)
unfolding run power
run_at zero i a k h e l = absurd (omega arith)
run_at (suc n) i a zero h e l = let q : i ≡ 0 + i = omega arith in e ∙ ap (power 2) q
run_at (suc n) i a (suc k) h e l =
    let q : k + suc i ≡ suc k + i = omega arith in
    run_at n (suc i) (times_x 7 0x1D a) k (x_lt 7 0x1D m_lt a) (sym (two_mul a h) ∙ ap (λ (y : ℕ). 2 · y) e) (omega arith) ∙ ap (power 2) q

in_run : (n i a x : ℕ) → a < 2 ^ 8 → a ≡ power 2 i → In x (run n a) → (k : ℕ) × (k < n + i) × (x ≡ power 2 k)
unfolding run power
in_run zero i a x h e q = absurd q
in_run (suc n) i a x h e (inl q) = (i, omega arith, q ∙ e)
in_run (suc n) i a x h e (inr q) =
    let w = in_run n (suc i) (times_x 7 0x1D a) x (x_lt 7 0x1D m_lt a) (sym (two_mul a h) ∙ ap (λ (y : ℕ). 2 · y) e) q in
    (w.0, omega (arith, w.1), w.2)

abbrev covers : List ℕ → Bool
covers l = every (λ x. either (eqb x 0) (is_in x l)) 256

passes : T (covers (run 255 1))
unfolding run times_x ◌⊕◌
passes = tt

pub generator : (x : ℕ) → x < 256 → x ≢ 0 → (k : ℕ) × (k < 255) × (power 2 k ≡ x)
unfolding power
generator x h ne =
    let w = in_run 255 0 1 x (omega arith) refl (is_in_in x (run 255 1) (is_true (is_in x (run 255 1))
    (subst (λ (t : Bool). T (either t (is_in x (run 255 1)))) (ne_eqb x 0 ne) (every_at (λ x. either (eqb x 0) (is_in x (run 255 1))) 256 passes x h)))) in
    (w.0, omega (arith, w.1), sym w.2)

-- ---- exponents add
pub power_below : (k : ℕ) → power 2 k < 2 ^ 8
unfolding power
power_below zero = omega arith
power_below (suc k) = field.below 2 (power 2 k)

pub power_add : (m n : ℕ) → power 2 (m + n) ≡ power 2 m · power 2 n
unfolding power
power_add zero n = let e : 0 + n ≡ n = omega arith in ap (power 2) e ∙ sym (field.one (power 2 n) (power_below n))
power_add (suc m) n =
    ap (power 2) (suc-add m n) ∙ ap (λ (x : ℕ). 2 · x) (power_add m n) ∙ sym (field.assoc 2 (power 2 m) (power 2 n))

-- ---- exponents modulo 255
run_round : get_or (run 256 1) 255 0 ≡ 1
unfolding run times_x ◌⊕◌
run_round = refl

pub round : power 2 255 ≡ 1
unfolding power
round = sym (run_at 256 0 1 255 (omega arith) refl (omega arith)) ∙ run_round

rounds : (q : ℕ) → power 2 (255 * q) ≡ 1
unfolding power
rounds zero = refl
rounds (suc q) =
    let e : 255 * suc q ≡ 255 + 255 * q = omega arith in
    ap (power 2) e ∙ power_add 255 (255 * q) ∙ ap₂ (λ (x y : ℕ). x · y) round (rounds q) ∙ field.one 1 (omega arith)

pub modulo : (n : ℕ) → power 2 (n % 255) ≡ power 2 n
modulo n =
    let e : n ≡ 255 * (n / 255) + n % 255 = omega arith in
    sym (ap (power 2) e ∙ power_add (255 * (n / 255)) (n % 255) ∙ ap (λ (x : ℕ). x · power 2 (n % 255)) (rounds (n / 255))
    ∙ field.one (power 2 (n % 255)) (power_below (n % 255)))
