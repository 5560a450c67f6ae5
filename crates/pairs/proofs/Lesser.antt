-- The code's reduction of two polynomials 32 digits apart, by shifts, masks and sums.
--
--   quotients v    how often the modulus goes into each
--   lesser v       what is left of each
use Prim.Native.Nat.{ℕ, ◌/◌, ◌^◌}
use Rattle.field.specs.Field.{◌⊕◌}
use Rattle.pairs.specs.Shifts.{low, part, up}

unfoldable pub quotients : ℕ → ℕ
quotients v =
    let h : ℕ = part 8 0x00003fff00003fff v in
    low 0x000000ff000000ff (h ⊕ ((h ⊕ ((h ⊕ ((h ⊕ ((h ⊕ (h / 2 ^ 3)) / 2 ^ 4)) / 2 ^ 1)) / 2 ^ 1)) / 2 ^ 4))

unfoldable pub lesser : ℕ → ℕ
lesser v =
    let q : ℕ = quotients v in
    low 0x000000ff000000ff (v ⊕ q ⊕ up 2 (q ⊕ up 1 (q ⊕ up 1 q)))
