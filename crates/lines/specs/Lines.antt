-- The lines of text that the bank program prints, as ASCII codes. Document 01, "The bank program"; document 02, orders 6 and 7.
--
--   count_line n        "blocks N"
--   block_line k a      what is printed of block k, which reads as a
--   totals_line         "clean A chips B card C none D several E"
--   SoundFigure .. q    q is the figure of the sound line, by the five totals
--   sound_line q        "sound Q"
--   refused_line n      "refused N"
--   SoundPut            the sound line of five totals, put into lent bytes
use Rattle.std.specs.Prelude.{ℕ, ◌+◌, List, [], ◌∷◌}
use Rattle.text.specs.Text.{ascii, decimal, line}
use Rattle.text.specs.Put.{Put}
use Rattle.rounding.specs.PerThousand.{PerThousand}
use Rattle.answer.specs.Answer.{Answer, done, clean, in_chips, in_card, counted, refused, refused_card}

abbrev pub count_line : ℕ → List ℕ
count_line n = line (ascii "blocks" ∷ decimal n ∷ [])

-- "a line for each block that is not clean, with block number, then `chips` and n, or `card`, card number and n, or `none`, or
-- `several`"; order 6: "becomes `several` and that card"; a reading gives no other answer, "none" is its only refusal without a card
abbrev pub block_line : ℕ → Answer → List ℕ
block_line k clean = []
block_line k (in_chips n) = line (decimal k ∷ ascii "chips" ∷ decimal n ∷ [])
block_line k (in_card j n) = line (decimal k ∷ ascii "card" ∷ decimal j ∷ decimal n ∷ [])
block_line k (refused n) = line (decimal k ∷ ascii "none" ∷ [])
block_line k (refused_card n j) = line (decimal k ∷ ascii "several" ∷ decimal j ∷ [])
block_line k done = []
block_line k (counted v w x y z) = []

-- "one line of five totals"
abbrev pub totals_line : (clean chips card none several : ℕ) → List ℕ
totals_line v w x y z =
    line
    (ascii "clean"
    ∷ decimal v
    ∷ ascii "chips"
    ∷ decimal w
    ∷ ascii "card"
    ∷ decimal x
    ∷ ascii "none"
    ∷ decimal y
    ∷ ascii "several"
    ∷ decimal z
    ∷ [])

-- "and the sound blocks (the first three totals) per thousand of all", rounded as order 7 says
abbrev pub SoundFigure : (clean chips card none several q : ℕ) → Type 0
SoundFigure v w x y z q = PerThousand (v + w + x) (v + w + x + y + z) q

abbrev pub sound_line : ℕ → List ℕ
sound_line q = line (ascii "sound" ∷ decimal q ∷ [])

-- "`refused` and the lowest number, on a line alone"
abbrev pub refused_line : ℕ → List ℕ
refused_line n = line (ascii "refused" ∷ decimal n ∷ [])

pub record SoundPut (clean chips card none several : ℕ) (out : List ℕ) (at next : ℕ) (out' : List ℕ) : Type 0 where
  pub figure : ℕ
  pub rounded : SoundFigure clean chips card none several figure
  pub put : Put (sound_line figure) out at next out'
