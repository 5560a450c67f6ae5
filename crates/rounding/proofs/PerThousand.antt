-- The per-thousand figure: the statements of specs/PerThousand.antt.
--
--   even_part, eighth   where an even number is an odd number of times m, m is even; so of 1000 · s three times
--   rest_off            the rest is as far from its figure as the part is from the part's
--   worked, sixteenths, at_most_all, all_or_none, add_up
use mathlib.Core.Path.{◌≡◌, refl, sym, ap, ◌∙◌}
use mathlib.Core.Logic.{⊎_elim, ◌↔◌}
use Prim.Native.Nat.{ℕ, ◌+◌, ◌*◌, ◌-◌, ◌/◌, ◌%◌, ◌≤◌, ◌<◌}
use native.Mathlib.Nat.{mul-le-mul_right, mul-mod_right, eq-zero-or-pos}
use native.Mathlib.Omega.{arith}
use Rattle.std.proofs.lemmas.Bool.{cases_lt}
use Rattle.rounding.specs.Rounding.{off, Rounds}
use Rattle.rounding.specs.PerThousand.{PerThousand, Worked, Sixteenths, AtMostAll, AllOrNone, AddUp}
use Rattle.rounding.proofs.Rounding.{scaled, within}
use Rattle.rounding.proofs.Halves.{pred_suc, half_at_most, rounds_agree}

pub worked : Worked
worked = (within 1000 16 62 (omega arith) (omega arith) (λ e. refl), within 3000 16 188 (omega arith) (omega arith) (λ e. refl))

-- of an even number 2 · t that is an odd number 2 · k + 1 of m, m is even, and t is as many of m / 2
even_part : (t k m : ℕ) → 2 * t ≡ 2 * (k * m) + m → (m ≡ 2 * (m / 2)) × (t ≡ 2 * (k * (m / 2)) + m / 2)
even_part t k m e =
    let d : m ≡ 2 * (m / 2) = omega arith in
    let f = ap (λ (x : ℕ). k * x) d in
    (d, omega arith)

-- 1000 is 8 · 125
eighth : (s k m : ℕ) → 1000 * s ≡ 2 * (k * m) + m → (i : ℕ) × (m ≡ 8 * i)
eighth s k m e =
    let f = even_part (500 * s) k m (omega arith) in
    let g = even_part (250 * s) k (m / 2) (omega (arith, f.1)) in
    let h = even_part (125 * s) k (m / 2 / 2) (omega (arith, g.1)) in
    (m / 2 / 2 / 2, omega (arith, f.0, g.0, h.0))

pub sixteenths : Sixteenths
sixteenths n = (divides, some_half)
  where
    by_odd : (s k m : ℕ) → n ≡ 2 * m → 1000 * s ≡ 2 * (k * m) + m → n % 16 ≡ 0
    by_odd s k m d e =
        let w = eighth s k m e in
        let f : n ≡ 16 * w.0 = omega (arith, w.1) in
        ap (λ (x : ℕ). x % 16) f ∙ mul-mod_right 16 w.0

    divides : (s q : ℕ) → 2 * off (1000 * s) n q ≡ n → n % 16 ≡ 0
    divides s q e = ⊎_elim above below (cases_lt (1000 * s) (q * n))
      where
        above : 1000 * s < q * n → n % 16 ≡ 0
        above l =
            let m = q * n - 1000 * s in
            let d : n ≡ 2 * m = omega arith in
            let z = pred_suc q n (omega arith) in
            by_odd s (q - 1) m d (omega (arith, scaled n z, ap (λ (x : ℕ). (q - 1) * x) d))

        below : q * n ≤ 1000 * s → n % 16 ≡ 0
        below l =
            let m = 1000 * s - q * n in
            let d : n ≡ 2 * m = omega arith in
            by_odd s q m d (omega (arith, ap (λ (x : ℕ). q * x) d))

    -- 1000 / 16 is 62 and a half
    some_half : n % 16 ≡ 0 → (s : ℕ) × (q : ℕ) × (s ≤ n) × (2 * off (1000 * s) n q ≡ n)
    some_half e = (n / 16, 62, omega arith, omega arith)

pub at_most_all : AtMostAll
at_most_all s n q l f =
    ⊎_elim
    (λ z. omega (arith, f.nothing z))
    (λ h. ⊎_elim (λ g. absurd (over h g)) (λ g. g) (cases_lt 1000 q))
    (eq-zero-or-pos n)
  where
    over : 1 ≤ n → 1000 < q → ⊥
    over h g = omega (arith, mul-le-mul_right {m = 1001} {n = q} n g, half_at_most (1000 * s) n h q f.nearest)

pub all_or_none : AllOrNone
all_or_none n h = (only, λ g. ⊎_elim (λ l. l) (λ l. absurd (all_but_one l g)) (cases_lt n 2000))
  where
    only : n < 2000 → (s q : ℕ) → s ≤ n → PerThousand s n q → (q ≡ 1000 ↔ s ≡ n) × (q ≡ 0 ↔ s ≡ 0)
    only l s q m f =
        let a = half_at_most (1000 * s) n h q f.nearest in
        let b = at_most_all s n q m f in
        let all : s ≡ n → q ≡ 1000 = λ e. ⊎_elim
        (λ g. absurd (omega (arith, mul-le-mul_right {m = q + 1} {n = 1000} n (omega arith)))) (λ g. omega arith) (cases_lt q 1000) in
        let none : s ≡ 0 → q ≡ 0 = λ e. ⊎_elim (λ z. z) (λ g. absurd (omega (arith, mul-le-mul_right {m = 1} {n = q} n g))) (eq-zero-or-pos q) in
        ((λ e. omega (arith, scaled n e), all), (λ e. omega (arith, scaled n e), none))

    -- all but one of 2,000 or more are a half away from 1,000 at most
    all_but_one : 2000 ≤ n → ((s q : ℕ) → s ≤ n → PerThousand s n q → (q ≡ 1000 ↔ s ≡ n) × (q ≡ 0 ↔ s ≡ 0)) → ⊥
    all_but_one l g = omega (arith, (g (n - 1) 1000 (omega arith) (within (1000 * (n - 1)) n 1000 h (omega arith) (λ e. refl))).0.0 refl)

-- the rest is as far from its figure as the part is from the part's
rest_off : (s t n p r : ℕ) → s + t ≡ n → p + r ≡ 1000 → off (1000 * t) n r ≡ off (1000 * s) n p
rest_off s t n p r e z = omega (arith, scaled n z)

pub add_up : AddUp
add_up s t n p q h e f g = omega (arith, rounds_agree (1000 * t) n q (1000 - p) g rest, b)
  where
    b : p ≤ 1000
    b = at_most_all s n p (omega arith) f

    o : off (1000 * t) n (1000 - p) ≡ off (1000 * s) n p
    o = rest_off s t n p (1000 - p) e (omega (arith, b))

    rest : Rounds (1000 * t) n (1000 - p)
    rest =
        within (1000 * t) n (1000 - p) h (omega (arith, o, half_at_most (1000 * s) n h p f.nearest))
        (λ d. omega (arith, b, f.even (ap (λ (x : ℕ). 2 * x) (sym o) ∙ d)))
