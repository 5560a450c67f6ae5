-- The field of 256 elements. Document 01: "Sum is bitwise exclusive or. Product is that of polynomials over bits, reduced by 0x11D."
--
--   a ⊕ b      the sum
--   sum n f    f 0 ⊕ .. ⊕ f (n - 1)
--   a · b      the product
--   power a n  a · .. · a, n times
--   polynomial_product, remainder, product    of polynomials over bits; the product is the remainder of the polynomials' product
--
-- A number stands for the polynomial over bits whose coefficients are its binary digits. The product is given for any degree k and any
-- modulus of that degree; the field is the one of degree 8 and modulus 0x11D.
--
-- Shown in proofs/: the remainder is below 2 ^ k and differs from the polynomial by a multiple of the modulus, and nothing else does
-- (Remainder.antt: remainder_below, remainder_differs, remainder_only); so is a · b the remainder of the polynomials' product by 0x11D
-- (Gf256.antt: product_differs, product_only); sum and product make a field (field); and the powers of 2 run through all 255 nonzero
-- values (Powers.antt: generator).
use Rattle.std.specs.Prelude.{ℕ, zero, suc, ◌+◌, ◌*◌, ◌/◌, ◌%◌, ◌^◌}
use Rattle.std.specs.Int.Bits.{bit_xor}

infixl 65 ◌⊕◌
unfoldable pub ◌⊕◌ : ℕ → ℕ → ℕ
a ⊕ b = bit_xor a b

unfoldable pub sum : ℕ → (ℕ → ℕ) → ℕ
sum zero f = 0
sum (suc n) f = f n ⊕ sum n f

-- the product of the polynomials a and b, b of n digits: a shifted by i for each digit i of b that is set
unfoldable pub polynomial_product : ℕ → ℕ → ℕ → ℕ
polynomial_product n a b = sum n (λ i. b / 2 ^ i % 2 * (a * 2 ^ i))

-- the remainder of the polynomial y, of k + n digits, by a modulus of degree k: from the top digit down, the modulus is shifted under
-- each digit that is set, and taken away
unfoldable pub remainder : ℕ → ℕ → ℕ → ℕ → ℕ
remainder k modulus zero y = y
remainder k modulus (suc n) y = remainder k modulus n (y ⊕ (y / 2 ^ (k + n) % 2 * (modulus * 2 ^ n)))

-- the product of two polynomials of k digits, by a modulus of degree k (of larger numbers the k low digits count, so that the laws of the
-- product hold of all numbers)
unfoldable pub product : ℕ → ℕ → ℕ → ℕ → ℕ
product k modulus a b = remainder k modulus k (polynomial_product k (a % 2 ^ k) b)

infixl 70 ◌·◌
abbrev pub ◌·◌ : ℕ → ℕ → ℕ
a · b = product 8 0x11D a b

unfoldable pub power : ℕ → ℕ → ℕ
power a zero = 1
power a (suc n) = a · power a n
