-- A map made of shifts, masks and sums is additive, so that it is known by its values at the powers of 2.
--
--   after, low_add, part_add, up_add   maps one after the other, masks and shifts are additive
--   paired_add                    pairs are added byte by byte; no_pair: that of 0 and 0 is 0
--   lesser_is                     what the code's reduction of two polynomials 32 digits apart comes to (Lesser.antt)
--   halves, both                  the bytes of a word as a polynomial at x, and 32 digits up at x squared, not yet reduced
--   both_is                       reduced, it is the value at both points
--   paired_digits                 two bytes 32 digits apart as one number; first_of, second_of: each of the two, taken from it
--   once_from, squared_from       each of the two points' values, taken from both
use mathlib.Core.Path.{◌≡◌, refl, sym, ap, ap₂, ◌∙◌}
use Prim.Native.Nat.{ℕ, ◌+◌, ◌*◌, ◌/◌, ◌%◌, ◌^◌, ◌<◌, min}
use native.Mathlib.Omega.{arith}
use lib.Arith.{bin_ind}
use lib.Bits.{bit_and, bit_xor, differ, and_step, xor_step, xor_shr, xor_mod, and_shr, and_mod, xor_shifted, xor_comm}
use lib.Dec.{T, eqb}
use Rattle.field.specs.Field.{◌⊕◌, sum, polynomial_product, remainder, product}
use Rattle.base.proofs.Tests.{every}
use Rattle.field.proofs.Xor.{sums, add_shr, add_mod, swap}
use Rattle.field.proofs.Remainder.{times_pow_add, remainder_add}
use Rattle.field.proofs.Linear.{bit_lt, bit_ind, Additive}
use Rattle.pairs.specs.Words.{byte_of, at_point, paired, at_both, reduced}
use Rattle.pairs.specs.Shifts.{low, part, up}
use Rattle.pairs.proofs.Lesser.{quotients, lesser}
use Rattle.pairs.proofs.Points.{at_point_add, at_point_below, agree}

digit : (x y z : ℕ) → x < 2 → y < 2 → z < 2 → min (bit_xor x y) z ≡ differ (bit_and x z) (bit_and y z)
digit x y z hx hy hz =
    bit_ind (λ (x : ℕ). min (bit_xor x y) z ≡ differ (bit_and x z) (bit_and y z))
    (bit_ind (λ (y : ℕ). min (bit_xor 0 y) z ≡ differ (bit_and 0 z) (bit_and y z))
    (bit_ind (λ (z : ℕ). min (bit_xor 0 0) z ≡ differ (bit_and 0 z) (bit_and 0 z)) refl refl z hz)
    (bit_ind (λ (z : ℕ). min (bit_xor 0 1) z ≡ differ (bit_and 0 z) (bit_and 1 z)) refl refl z hz) y hy)
    (bit_ind (λ (y : ℕ). min (bit_xor 1 y) z ≡ differ (bit_and 1 z) (bit_and y z))
    (bit_ind (λ (z : ℕ). min (bit_xor 1 0) z ≡ differ (bit_and 1 z) (bit_and 0 z)) refl refl z hz)
    (bit_ind (λ (z : ℕ). min (bit_xor 1 1) z ≡ differ (bit_and 1 z) (bit_and 1 z)) refl refl z hz) y hy) x hx

raw_and : (a b m : ℕ) → bit_and (bit_xor a b) m ≡ bit_xor (bit_and a m) (bit_and b m)
raw_and =
    bin_ind (λ (n : ℕ). (b m : ℕ) → bit_and (bit_xor n b) m ≡ bit_xor (bit_and n m) (bit_and b m)) (λ b m. refl)
    (λ n ih b m.
    and_step (bit_xor n b) m
    ∙ ap₂ (λ (x y : ℕ). bit_and x (m / 2) * 2 + min y (m % 2)) (xor_shr n b 1) (xor_mod n b 1)
    ∙ ap₂ (λ (x y : ℕ). x * 2 + y) (ih (b / 2) (m / 2)) (digit (n % 2) (b % 2) (m % 2) (bit_lt n) (bit_lt b) (bit_lt m))
    ∙ sym (ap₂ (λ (x y : ℕ). bit_xor x (bit_and (b / 2) (m / 2)) * 2 + differ y (bit_and (b % 2) (m % 2))) (and_shr n m 1) (and_mod n m 1))
    ∙ sym (ap₂ (λ (x y : ℕ). bit_xor (bit_and n m / 2) x * 2 + differ (bit_and n m % 2) y) (and_shr b m 1) (and_mod b m 1))
    ∙ sym (xor_step (bit_and n m) (bit_and b m)))

pub low_add : (m : ℕ) → Additive (low m)
unfolding low ◌⊕◌
low_add m a b = raw_and a b m

pub part_add : (s m : ℕ) → Additive (part s m)
unfolding part ◌⊕◌
part_add s m a b = ap (λ (x : ℕ). bit_and x m) (xor_shr a b s) ∙ raw_and (a / 2 ^ s) (b / 2 ^ s) m

pub after : (f g : ℕ → ℕ) → Additive f → Additive g → Additive (λ a. f (g a))
after f g hf hg a b = ap f (hg a b) ∙ hf (g a) (g b)

pub up_add : (s : ℕ) → Additive (up s)
unfolding up
up_add s a b = ap (λ (x : ℕ). x % 2 ^ 64) (times_pow_add a b s) ∙ add_mod (a * 2 ^ s) (b * 2 ^ s) 64

pub paired_add : (a b c d : ℕ) → paired (a ⊕ b) (c ⊕ d) ≡ paired a c ⊕ paired b d
paired_add a b c d = ap (λ (x : ℕ). (a ⊕ b) ⊕ x) (times_pow_add c d 32) ∙ swap a b (c * 2 ^ 32) (d * 2 ^ 32)

pub no_pair : paired 0 0 ≡ 0
unfolding ◌⊕◌
no_pair = refl

-- ---- two polynomials 32 digits apart, each by the modulus: how often it goes into them, by digits that are bits, and what is left
quotients_add : Additive quotients
unfolding quotients
quotients_add a b = simp (low_add, part_add, add_shr, sums)

lesser_add : Additive lesser
unfolding lesser
lesser_add a b = simp (quotients_add, low_add, up_add, sums)

pub reduced_add : Additive reduced
unfolding reduced
reduced_add a b =
    ap₂ paired
    (ap (remainder 8 0x11D 14) (add_mod a b 22) ∙ remainder_add 8 0x11D 14 (a % 2 ^ 22) (b % 2 ^ 22))
    (ap (λ (x : ℕ). remainder 8 0x11D 14 (x % 2 ^ 22)) (add_shr a b 32) ∙ ap (remainder 8 0x11D 14) (add_mod (a / 2 ^ 32) (b / 2 ^ 32) 22)
    ∙ remainder_add 8 0x11D 14 (a / 2 ^ 32 % 2 ^ 22) (b / 2 ^ 32 % 2 ^ 22))
    ∙ paired_add (remainder 8 0x11D 14 (a % 2 ^ 22)) (remainder 8 0x11D 14 (b % 2 ^ 22)) (remainder 8 0x11D 14 (a / 2 ^ 32 % 2 ^ 22))
    (remainder 8 0x11D 14 (b / 2 ^ 32 % 2 ^ 22))

lesser_test : T (every (λ i. eqb (lesser (2 ^ i)) (reduced (2 ^ i))) 64)
unfolding low part up quotients lesser reduced remainder ◌⊕◌
lesser_test = tt

pub lesser_is : (v : ℕ) → v < 2 ^ 64 → lesser v ≡ reduced v
lesser_is = agree lesser reduced lesser_add reduced_add 64 lesser_test

-- ---- both points at once, the second 32 digits up
unfoldable pub halves : (s t : ℕ) → ℕ → ℕ
halves s t u =
    let odd : ℕ = part 8 0x00ff00ff00ff00ff u in
    let one : ℕ = low 0x00ff00ff00ff00ff u ⊕ up s odd in
    low 0x0000ffff0000ffff (one ⊕ (one / 2 ^ t))

unfoldable pub both : ℕ → ℕ
both u =
    let pairs : ℕ = halves 1 14 u in
    let fours : ℕ = halves 2 12 u in
    low 0xffffffff (pairs ⊕ (pairs / 2 ^ 28)) ⊕ up 32 (fours ⊕ (fours / 2 ^ 24))

halves_add : (s t : ℕ) → Additive (halves s t)
unfolding halves
halves_add s t a b = simp (low_add, part_add, up_add, add_shr, sums)

both_add : Additive both
unfolding both
both_add a b = simp (halves_add, low_add, up_add, add_shr, sums)

at_both_add : Additive at_both
at_both_add a b = simp (at_point_add, times_pow_add, sums)

both_test : T (every (λ i. eqb (reduced (both (2 ^ i))) (at_both (2 ^ i))) 64)
unfolding low part up halves both reduced at_point product remainder polynomial_product sum ◌⊕◌
both_test = tt

pub both_is : (u : ℕ) → u < 2 ^ 64 → reduced (both u) ≡ at_both u
both_is = agree (λ u. reduced (both u)) at_both (after reduced both reduced_add both_add) at_both_add 64 both_test

-- ---- one of two
pub paired_digits : (a b : ℕ) → a < 2 ^ 8 → paired a b ≡ b * 2 ^ 32 + a
unfolding ◌⊕◌
paired_digits a b h = xor_comm a (b * 2 ^ 32) ∙ xor_shifted b 32 a (omega (arith, h))

pub first_of : (a b : ℕ) → a < 2 ^ 8 → byte_of (paired a b) 0 ≡ a
unfolding byte_of
first_of a b h = omega (arith, paired_digits a b h, h)

pub second_of : (a b : ℕ) → a < 2 ^ 8 → b < 2 ^ 8 → byte_of (paired a b) 4 ≡ b
unfolding byte_of
second_of a b h g = omega (arith, paired_digits a b h, h, g)

pub once_from : (u : ℕ) → byte_of (at_both u) 0 ≡ at_point 2 8 u
once_from u = first_of (at_point 2 8 u) (at_point 4 8 u) (at_point_below 2 8 u)

pub squared_from : (u : ℕ) → byte_of (at_both u) 4 ≡ at_point 4 8 u
squared_from u = second_of (at_point 2 8 u) (at_point 4 8 u) (at_point_below 2 8 u) (at_point_below 4 8 u)
