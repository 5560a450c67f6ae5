-- What the rounding comes to: the statements of specs/Halves.antt.
--
--   pred_suc       a factor of a product that is not 0 is one more than the number before it
--   Nearest        no whole number is nearer to a / n
--   half_at_most   such a number is a half away at most
--   TwoNearest, two_nearest   where two whole numbers are nearest, they are neighbours, and each is a half away
--   rounds_exist, rounds_agree   there is a number that `Rounds` means, and one only
--   rounds_decided, two_at_halves, as_it_was, only_odd_halves
use mathlib.Core.Path.{◌≡◌, refl}
use mathlib.Core.Logic.{◌≢◌, ◌↔◌, ◌⊎◌, inl, inr, ⊎_elim}
use Prim.Native.Nat.{ℕ, ◌+◌, ◌*◌, ◌-◌, ◌/◌, ◌%◌, ◌≤◌, ◌<◌}
use native.Mathlib.Nat.{mul-le-mul_right, eq-zero-or-pos, le-div_iff_mul-le, div-lt_iff_lt-mul}
use native.Mathlib.Omega.{arith}
use lib.Dec.{eqb}
use borrow.Author.Tests.{eq-eqb, ne_eqb}
use Rattle.std.proofs.lemmas.Bool.{cases_eq, cases_lt}
use Rattle.base.specs.Base.{if}
use Rattle.rounding.specs.Rounding.{off, Rounds}
use Rattle.rounding.specs.Halves.{RoundsDecided, TwoAtHalves, HalvesUp, AsItWas, OnlyOddHalves}
use Rattle.rounding.proofs.Rounding.{scaled, scaled_0, near, of_nothing, lower, upper, middle}

pub pred_suc : (q n : ℕ) → 1 ≤ q * n → q ≡ q - 1 + 1
pred_suc q n l = ⊎_elim (λ z. absurd (omega (arith, scaled n z))) (λ y. omega arith) (eq-zero-or-pos q)

abbrev Nearest : ℕ → ℕ → ℕ → Type 0
Nearest a n q = (p : ℕ) → off a n q ≤ off a n p

-- p is below a / n, and q, the next whole number, above it
record TwoNearest (a n p q : ℕ) : Type 0 where
  pub next : q ≡ p + 1
  pub under : p * n < a
  pub first : 2 * off a n p ≡ n
  pub second : 2 * off a n q ≡ n

module _ (a n : ℕ) (h : 1 ≤ n) where
  -- the whole number below q, if there is one, is no nearer, nor is the one above
  pub half_at_most : (q : ℕ) → Nearest a n q → 2 * off a n q ≤ n
  half_at_most q f =
      ⊎_elim
      (λ z. omega (arith, scaled n z, f (q + 1)))
      (λ z. let e : q ≡ q - 1 + 1 = omega arith in omega (arith, scaled n e, f (q - 1), f (q + 1)))
      (eq-zero-or-pos q)

  two_nearest : (p q : ℕ) → Nearest a n p → Nearest a n q → p < q → TwoNearest a n p q
  two_nearest p q f g l = ⊎_elim (λ m. absurd (far m)) (λ m. close (omega arith)) (cases_lt (p + 1) q)
    where
      far : p + 1 < q → ⊥
      far m = omega (arith, mul-le-mul_right {m = p + 2} {n = q} n (omega arith), f q, g p, half_at_most p f)

      close : q ≡ p + 1 → TwoNearest a n p q
      close e =
          let d = scaled n e in
          record { next = e; under = omega (arith, f q, g p); first = omega (arith, f q, g p); second = omega (arith, f q, g p) }

  either_way : (p q : ℕ) → Nearest a n p → Nearest a n q → p ≢ q → TwoNearest a n p q ⊎ TwoNearest a n q p
  either_way p q f g ne = ⊎_elim (λ l. inl (two_nearest p q f g l)) (λ l. inr (two_nearest q p g f (omega arith))) (cases_lt p q)

  -- two neighbours are not both even
  never_two : (p q : ℕ) → Rounds a n p → Rounds a n q → TwoNearest a n p q → ⊥
  never_two p q f g t = omega (arith, t.next, f.even t.first, g.even t.second)

  some : (q : ℕ) × Rounds a n q
  some =
      ⊎_elim
      (λ l. (a / n, lower a n _ h refl l))
      (λ l. ⊎_elim (λ m. (a / n + 1, upper a n _ h refl m)) (λ m. (a / n + a / n % 2, even (omega arith))) (cases_lt n (2 * (a % n))))
      (cases_lt (2 * (a % n)) n)
    where
      even : 2 * (a % n) ≡ n → Rounds a n (a / n + a / n % 2)
      even e = middle a n _ h (omega arith) (omega arith) (omega arith) e

-- ---- there is one number, and no other
pub rounds_exist : (a n : ℕ) → (q : ℕ) × Rounds a n q
rounds_exist a n = ⊎_elim (λ z. (0, of_nothing a n z)) (some a n) (eq-zero-or-pos n)

pub rounds_agree : (a n p q : ℕ) → Rounds a n p → Rounds a n q → p ≡ q
rounds_agree a n p q f g =
    ⊎_elim
    (λ z. omega (arith, f.nothing z, g.nothing z))
    (λ h. ⊎_elim (λ e. e) (λ ne. absurd (two h ne)) (cases_eq p q))
    (eq-zero-or-pos n)
  where
    two : 1 ≤ n → p ≢ q → ⊥
    two h ne = ⊎_elim (never_two a n h p q f g) (never_two a n h q p g f) (either_way a n h p q f.nearest g.nearest ne)

pub rounds_decided : RoundsDecided
rounds_decided a n = let w = rounds_exist a n in (w.0, w.1, λ p f. rounds_agree a n p w.0 f w.1)

-- ---- halves
pub two_at_halves : TwoAtHalves
two_at_halves a n q h f = (half, other)
  where
    half : (p : ℕ) × (p ≢ q) × (off a n p ≡ off a n q) → 2 * off a n q ≡ n
    half (p, ne, e) =
        ⊎_elim (λ t. t.second) (λ t. t.first)
        (either_way a n h p q (λ r. omega (arith, f.nearest r)) f.nearest ne)

    -- the neighbour on the other side of a / n
    other : 2 * off a n q ≡ n → (p : ℕ) × (p ≢ q) × (off a n p ≡ off a n q)
    other e =
        ⊎_elim
        (λ l. (q + 1, (λ z. omega arith), omega arith))
        (λ l. let z = pred_suc q n (omega arith) in (q - 1, (λ y. omega arith), omega (arith, scaled n z)))
        (cases_lt (q * n) a)

-- a number of the old rule is at most a half away, and where it is a half away no smaller
up_decided : (a n p q : ℕ) → HalvesUp a n p → HalvesUp a n q → p ≡ q
up_decided a n p q f g =
    ⊎_elim
    (λ z. omega (arith, f.nothing z, g.nothing z))
    (λ h. ⊎_elim (λ e. e) (λ ne. absurd (⊎_elim (never p f) (never q g) (either_way a n h p q f.nearest g.nearest ne))) (cases_eq p q))
    (eq-zero-or-pos n)
  where
    never : {r : ℕ} (p : ℕ) → HalvesUp a n p → TwoNearest a n p r → ⊥
    never p f t = omega (arith, t.under, f.up t.first)

pub as_it_was : AsItWas
as_it_was a n q = ((λ f. up_decided a n q _ f was), λ e. rw e was)
  where
    -- x · 2n ≤ 2a + n < (x + 1) · 2n
    rounded : (h : 1 ≤ n) (x : ℕ) → x ≡ (2 * a + n) / (2 * n) → HalvesUp a n x
    rounded h x e =
        let l : x * (2 * n) ≤ 2 * a + n = (le-div_iff_mul-le {k = 2 * n} (omega arith)).0 (omega arith) in
        let u : 2 * a + n < (x + 1) * (2 * n) = (div-lt_iff_lt-mul {k = 2 * n} (omega arith)).0 (omega arith) in
        record { nearest = near a n x (omega (arith, l, u)); up = λ d. omega (arith, l, u); nothing = λ z. absurd (omega arith) }

    was : HalvesUp a n (if (eqb n 0) 0 ((2 * a + n) / (2 * n)))
    was =
        ⊎_elim
        (λ z. rw (eq-eqb n 0 z) (record { nearest = λ p. omega (arith, scaled_0 p z); up = λ d. omega arith; nothing = λ y. omega arith }))
        (λ h. rw (ne_eqb n 0 (λ z. omega arith)) (rounded h _ refl))
        (eq-zero-or-pos n)

pub only_odd_halves : OnlyOddHalves
only_odd_halves a n p q f g = ⊎_elim alike apart (eq-zero-or-pos n)
  where
    alike : n ≡ 0 → (p ≢ q ↔ ((2 * off a n p ≡ n) × (p % 2 ≡ 1))) × (p ≢ q → p ≡ q + 1)
    alike z =
        let e : p ≡ q = omega (arith, f.nothing z, g.nothing z) in
        ((λ ne. absurd (ne e), λ w _. omega (arith, f.nothing z, w.1)), λ ne. absurd (ne e))

    above : 1 ≤ n → p ≢ q → TwoNearest a n q p
    above h ne =
        ⊎_elim (λ t. absurd (omega (arith, t.under, f.up t.first))) (λ t. t)
        (either_way a n h p q f.nearest g.nearest ne)

    odd : TwoNearest a n q p → (2 * off a n p ≡ n) × (p % 2 ≡ 1)
    odd t = (t.second, omega (arith, t.next, g.even t.first))

    differ : (2 * off a n p ≡ n) × (p % 2 ≡ 1) → p ≡ q → ⊥
    differ w e = omega (arith, w.1, g.even (rw e at w.0))

    apart : 1 ≤ n → (p ≢ q ↔ ((2 * off a n p ≡ n) × (p % 2 ≡ 1))) × (p ≢ q → p ≡ q + 1)
    apart h = ((λ ne. odd (above h ne), λ w e. differ w e), λ ne. (above h ne).next)
