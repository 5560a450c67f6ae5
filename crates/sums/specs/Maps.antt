-- The maps that the code's shifts, masks and sums make of words. No promise rests on them: proofs/ shows what they come to.
--
--   lower, upper      five cards' words as polynomials with bytes for digits, card j's times 152 ^ j, from p, q, b and a: the digits 0 to 7,
--                     and 8 to 15
--   quotient, wrapped sixteen such digits brought down to eight by the field's modulus
--   turned, times, settled   a product in each of the two bytes of a pair, before and after the modulus
use Rattle.std.specs.Prelude.{ℕ, ◌/◌, ◌^◌}
use Rattle.field.specs.Field.{◌⊕◌}
use Rattle.pairs.specs.Shifts.{low, part, up}

unfoldable pub lower : (p q b a : ℕ) → ℕ
lower p q b a = p ⊕ up 8 (a ⊕ up 8 (b ⊕ up 8 (a ⊕ q ⊕ up 8 (q ⊕ up 16 (b ⊕ up 8 q)))))

unfoldable pub upper : (p q b a : ℕ) → ℕ
upper p q b a = q ⊕ ((b ⊕ ((q ⊕ ((a ⊕ q ⊕ ((b ⊕ ((a ⊕ (p / 2 ^ 8)) / 2 ^ 8)) / 2 ^ 8)) / 2 ^ 8)) / 2 ^ 16)) / 2 ^ 8)

-- how often the modulus goes into h times x ^ 8, by digits that are bytes
unfoldable pub quotient : ℕ → ℕ
quotient h = h ⊕ ((h ⊕ ((h ⊕ (h / 2 ^ 8)) / 2 ^ 8)) / 2 ^ 32)

unfoldable pub wrapped : (l h : ℕ) → ℕ
wrapped l h = l ⊕ quotient h ⊕ up 16 (quotient h ⊕ up 8 (quotient h ⊕ up 8 (quotient h)))

-- 152 times the lower byte of a pair, and 78 times the upper one, as polynomials; how often the modulus goes into each, and what is left
unfoldable pub turned : ℕ → ℕ
turned v =
    let one : ℕ = low 0x000000ff v in
    let two : ℕ = low 0x000000ff00000000 v in
    (up 3 one ⊕ up 4 one ⊕ up 7 one) ⊕ (up 1 two ⊕ up 2 two ⊕ up 3 two ⊕ up 6 two)

unfoldable pub times : ℕ → ℕ
times p = let h : ℕ = part 8 0x0000007f0000007f p in low 0x000000ff000000ff (h ⊕ ((h ⊕ ((h ⊕ (h / 2 ^ 1)) / 2 ^ 1)) / 2 ^ 4))

unfoldable pub settled : ℕ → ℕ
settled p = let q : ℕ = times p in low 0x000000ff000000ff (p ⊕ q ⊕ up 2 (q ⊕ up 1 (q ⊕ up 1 q)))
