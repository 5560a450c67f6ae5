-- The words that the sums are made from.
--
--   byte_of u i       byte i of the word u, from the lowest
--   spread_of n x     the n lowest binary digits of x, one to a byte of a word
--   spread labels     the labels so
--   gathered          the sum of byte times word, over nine bytes and card j's words; of spread labels, byte k gathers the bytes whose label has
--                     digit k
--   at_point c n u    the n bytes of u as a polynomial's coefficients, the lowest first, at the point c of the field
--   paired a b        two bytes as a pair, 32 digits apart; at_both: the values at x and at x squared so
--   reduced v         two polynomials of degree 21 at most, 32 digits apart, each by the field's modulus
use Rattle.std.specs.Prelude.{List, [], ◌∷◌, ℕ, zero, suc, ◌+◌, ◌*◌, ◌/◌, ◌%◌, ◌^◌, get_or}
use Rattle.field.specs.Field.{◌⊕◌, ◌·◌, sum, remainder}
use Rattle.code.specs.Block.{byte}

unfoldable pub byte_of : ℕ → ℕ → ℕ
byte_of u i = u / 2 ^ (8 * i) % 2 ^ 8

unfoldable pub spread_of : ℕ → ℕ → ℕ
spread_of zero x = 0
spread_of (suc n) x = spread_of n (x / 2) * 2 ^ 8 + x % 2

abbrev pub spread : List ℕ → List ℕ
spread [] = []
spread (x ∷ labels) = spread_of 8 x ∷ spread labels

unfoldable pub gathered : List ℕ → List ℕ → ℕ → ℕ
gathered bytes words j = sum 9 (λ i. byte bytes i * get_or words (9 * j + i) 0)

unfoldable pub at_point : ℕ → ℕ → ℕ → ℕ
at_point c zero u = 0
at_point c (suc n) u = (u % 2 ^ 8) ⊕ (c · at_point c n (u / 2 ^ 8))

abbrev pub paired : ℕ → ℕ → ℕ
paired a b = a ⊕ (b * 2 ^ 32)

abbrev pub at_both : ℕ → ℕ
at_both u = paired (at_point 2 8 u) (at_point 4 8 u)

unfoldable pub reduced : ℕ → ℕ
reduced v = paired (remainder 8 0x11D 14 (v % 2 ^ 22)) (remainder 8 0x11D 14 (v / 2 ^ 32 % 2 ^ 22))
