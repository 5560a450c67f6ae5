-- Fault slips. Document 02, order 8: "A slip is one reading of one block".
--
--   InRanges a      the values of a reading's answer are within the order's ranges
--   HasSlip k a     block k, read as a, has a slip
--   field i bs      a field: its bit in the map, and its bytes; block_field, kind_field, card_field, n_field, refusal_field: the five
--   fields k a      those of block k, read as a
--   bits_of, bytes_of   their bits, and their bytes; bit_map: the map in which these bits stand
--   slip k a        the slip: the map, and the fields behind it
use Rattle.std.specs.Prelude.{ℕ, ◌+◌, ◌/◌, ◌%◌, ◌^◌, ◌≤◌, ◌<◌, ◌≡◌, List, [], ◌∷◌, ◌++◌}
use Rattle.answer.specs.Answer.{Answer, done, clean, in_chips, in_card, counted, refused, refused_card}

-- "card, 0 to 4"; "n, 1 to 2 for chips and 1 to 11 for a card"; "refusal, 10 or 11", and 11 alone has a card; no other answer is a reading
abbrev pub InRanges : Answer → Type 0
InRanges clean = Unit {0}
InRanges (in_chips n) = (1 ≤ n) × (n ≤ 2)
InRanges (in_card j n) = (j ≤ 4) × (1 ≤ n) × (n ≤ 11)
InRanges (refused r) = r ≡ 10
InRanges (refused_card r j) = (r ≡ 11) × (j ≤ 4)
InRanges done = ⊥
InRanges (counted v w x y z) = ⊥

-- "block number, .. below 1,024"
abbrev pub HasSlip : ℕ → Answer → Type 0
HasSlip k a = (k < 1024) × InRanges a

-- a field, by its bit in the map
pub data Field : Type 0 where
  field : (bit : ℕ) (bytes : List ℕ) → Field

-- "Bit 0 block number, two bytes (the others one), low first .. bit 1 kind .. bit 2 card .. bit 3 n .. bit 4 refusal"
abbrev pub block_field : ℕ → Field
block_field k = field 0 (k % 256 ∷ k / 256 ∷ [])

abbrev pub kind_field : ℕ → Field
kind_field x = field 1 (x ∷ [])

abbrev pub card_field : ℕ → Field
card_field j = field 2 (j ∷ [])

abbrev pub n_field : ℕ → Field
n_field n = field 3 (n ∷ [])

abbrev pub refusal_field : ℕ → Field
refusal_field r = field 4 (r ∷ [])

-- "kind, 0 clean, 1 chips, 2 card"; no other answer is a reading, and has none
abbrev pub fields : ℕ → Answer → List Field
fields k clean = block_field k ∷ kind_field 0 ∷ []
fields k (in_chips n) = block_field k ∷ kind_field 1 ∷ n_field n ∷ []
fields k (in_card j n) = block_field k ∷ kind_field 2 ∷ card_field j ∷ n_field n ∷ []
fields k (refused r) = block_field k ∷ refusal_field r ∷ []
fields k (refused_card r j) = block_field k ∷ card_field j ∷ refusal_field r ∷ []
fields k done = []
fields k (counted v w x y z) = []

-- "a bit map byte first, then only the fields whose bit stands, in bit order"
abbrev pub bits_of : List Field → List ℕ
bits_of [] = []
bits_of (field i b ∷ fs) = i ∷ bits_of fs

abbrev pub bit_map : List ℕ → ℕ
bit_map [] = 0
bit_map (i ∷ is) = 2 ^ i + bit_map is

abbrev pub bytes_of : List Field → List ℕ
bytes_of [] = []
bytes_of (field i b ∷ fs) = b ++ bytes_of fs

unfoldable pub slip : ℕ → Answer → List ℕ
slip k a = bit_map (bits_of (fields k a)) ∷ bytes_of (fields k a)
