-- The shifts and masks that the code's maps are made of. No promise rests on them: proofs/ shows what they come to.
--
--   low, part         a mask; a shift down and a mask
--   up s v            v shifted up by s, in 64 digits
use Rattle.std.specs.Prelude.{ℕ, ◌*◌, ◌/◌, ◌%◌, ◌^◌}
use Rattle.std.specs.Int.Bits.{bit_and}

unfoldable pub low : ℕ → ℕ → ℕ
low m v = bit_and v m

unfoldable pub part : ℕ → ℕ → ℕ → ℕ
part s m v = bit_and (v / 2 ^ s) m

unfoldable pub up : ℕ → ℕ → ℕ
up s v = v * 2 ^ s % 2 ^ 64
