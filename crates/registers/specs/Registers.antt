-- The register file: twelve bytes, their bits, and the interrupt. Document 02, order 1.
--
--   register_bytes r    the twelve bytes; registers_in b: the registers that twelve bytes hold
--   register r a        the byte at an address below 8
--   fresh_registers     the registers at the start
--   is_set i x          whether bit i of x is set; with_bits, without_bits: bits set, and cleared
--   raised r            whether the interrupt is raised; Raised: bytes 6 and 7 share a set bit
use Rattle.std.specs.Prelude.{ℕ, zero, suc, ◌+◌, ◌/◌, ◌%◌, ◌^◌, ◌<◌, ◌≡◌, Bool, true, false, ◌&&◌, ◌||◌, List, [], ◌∷◌, ◌++◌, eqb, get_or, replicate}
use Rattle.std.specs.Int.Bits.{bit_and, bit_or, bit_xor}
use Rattle.marks.specs.Marks.{bytes, marks_in, fresh_marks}
use Rattle.registers.specs.declared.Registers.{Registers}

-- ---- the twelve bytes
-- n of the bytes of b, from the one at p on
abbrev pub cells : List ℕ → ℕ → ℕ → List ℕ
cells b p zero = []
cells b p (suc n) = get_or b p 0 ∷ cells b (p + 1) n

-- "0 command; 1 and 2 block number, low byte first; 3 chip or card; 4 last answer; 5 n, plus 16 times the card; 6 enable bits; 7 pending
-- bits; 8 to 11 the mark record"
abbrev pub register_bytes : Registers → List ℕ
register_bytes r = cells r.front 0 8 ++ bytes r.marks

unfoldable pub registers_in : List ℕ → Registers
registers_in b = record { front = cells b 0 8; marks = marks_in (cells b 8 4) }

abbrev pub register : Registers → ℕ → ℕ
register r a = get_or r.front a 0

-- "All bytes start at 0 but the mark record, which starts fresh."
abbrev pub fresh_registers : Registers
fresh_registers = record { front = replicate 8 0; marks = fresh_marks }

-- ---- bits
abbrev pub is_set : ℕ → ℕ → Bool
is_set i x = eqb (x / 2 ^ i % 2) 1

-- the bits of v set too
unfoldable pub with_bits : ℕ → ℕ → ℕ
with_bits x v = bit_or x v

-- the bits of v cleared: those that are set in both turned over
unfoldable pub without_bits : ℕ → ℕ → ℕ
without_bits x v = bit_xor x (bit_and x v)

-- ---- the interrupt
-- some bit below n is set in both
abbrev pub share : ℕ → ℕ → ℕ → Bool
share zero x y = false
share (suc n) x y = (is_set n x && is_set n y) || share n x y

unfoldable pub raised : Registers → Bool
raised r = share 8 (register r 6) (register r 7)

-- bytes 6 and 7 share a set bit
abbrev pub Raised : Registers → Type 0
Raised r = (i : ℕ) × (i < 8) × (is_set i (register r 6) ≡ true) × (is_set i (register r 7) ≡ true)
