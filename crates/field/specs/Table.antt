-- The table of inverses, as the code keeps it.
--
--   inverse_words    the inverses of 0 to 255, with 0 for 0: eight to a word, the first in the lowest byte
use Rattle.std.specs.Prelude.{List, [], ◌∷◌, ℕ}

abbrev pub inverse_words : List ℕ
inverse_words =
    0xba7aa747f48e0100 ∷ 0x965daa3d98dd9dad ∷ 0x664c3ee058c072d8 ∷ 0x2a4b83a08055de90
    ∷ 0x8a2c56605139ed6c ∷ 0x6e338b264a1fd070 ∷ 0x5e40c3a42e6f8948 ∷ 0xe1150caba9cf2250
    ∷ 0x04a64e92d5f85f36 ∷ 0x934567161e2b8830 ∷ 0x61251a818c682338 ∷ 0x41370e9763cbc113
    ∷ 0x4d17c4b95bca5724 ∷ 0x322fec20b3ef8d52 ∷ 0x79dafbe9d911d128 ∷ 0xfcfecd84bb0677db
    ∷ 0xb0e4cc7c1da1541b ∷ 0xf50269532d273149 ∷ 0x5c0fbc9b4f44df18 ∷ 0xa2c709ac94bddc0b
    ∷ 0x0546c234c69f821c ∷ 0xb7be089c3c0d3bce ∷ 0xafbff2eb6beee587 ∷ 0xb6ae9a957b0764c5
    ∷ 0x9ea3b86535a55912 ∷ 0x3aa87d855a62f7d2 ∷ 0xd6d743f9f6c87129 ∷ 0x91190a9978767310
    ∷ 0xf1e2b186f0e63f14 ∷ 0x6ab2216db4f374fa ∷ 0xc9d38f03eab5e7e3 ∷ 0xfd7eff7f75e8d442 ∷ []
