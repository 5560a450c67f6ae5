-- Text as ASCII codes: words, lines and decimal numbers.
--
--   ascii "word"        the codes of a text's characters
--   decimal n           the decimal digits of n, with no zero in front; "0" for 0
--   line words          the words with a space between, and a newline
use Rattle.std.specs.Prelude.{ℕ, zero, suc, ◌+◌, ◌/◌, ◌%◌, List, [], ◌∷◌, ◌++◌, ltb}
use Prim.Native.Char.{code}
use Prim.Native.String.{String}
use Prim.Native.String.{[] as end, ◌∷◌ as ◌then◌}
use Rattle.base.specs.Base.{if}

-- ---- words
abbrev pub ascii : String → List ℕ
ascii end = []
ascii (c then s) = code c ∷ ascii s

abbrev pub line : List (List ℕ) → List ℕ
line [] = ascii "\n"
line (w ∷ []) = w ++ ascii "\n"
line (w ∷ v ∷ ws) = w ++ (ascii " " ++ line (v ∷ ws))

-- ---- numbers
abbrev pub digit : ℕ → List ℕ
digit d = (48 + d) ∷ []

-- the digits of n, where they are at most as many as the first number says
unfoldable pub digits_up_to : ℕ → ℕ → List ℕ
digits_up_to zero n = []
digits_up_to (suc most) n = if (ltb n 10) (digit n) (digits_up_to most (n / 10) ++ digit (n % 10))

-- n has at most n + 1 digits
unfoldable pub decimal : ℕ → List ℕ
decimal n = digits_up_to (suc n) n
