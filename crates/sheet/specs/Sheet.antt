-- What the tables program prints, whole. Document 02, order 12; document 01, "The field and the labels": "Let g be 2".
--
--   log a              the logarithm of a: the k from 0 to 254 whose power of g is a; 255 for a number that is no such power
--   number_lines f s n the n numbers f s, f (s + 1), .., in decimal, one a line
--   section            a heading, and numbers below it
--   sheet              the text
--   SheetDone          the contract of `say`: what is given, and the output after it
use Rattle.std.specs.Prelude.{ℕ, zero, suc, ◌+◌, ◌≤◌, ◌<◌, ◌≡◌, List, [], ◌∷◌, ◌++◌, eqb, length, drop}
use Prim.Native.String.{String}
use Rattle.base.specs.Base.{least}
use Rattle.field.specs.Field.{power}
use Rattle.code.specs.Labels.{label}
use Rattle.text.specs.Text.{ascii, decimal, line}

unfoldable pub log : ℕ → ℕ
log a = least 255 (λ k. eqb (power 2 k) a)

-- "as decimal numbers, one a line"
unfoldable pub number_lines : (ℕ → ℕ) → ℕ → ℕ → List ℕ
number_lines f s zero = []
number_lines f s (suc n) = number_lines f s n ++ line (decimal (f (s + n)) ∷ [])

-- "after a heading line each"
abbrev pub section : String → (ℕ → ℕ) → ℕ → ℕ → List ℕ
section heading f s n = line (ascii heading ∷ []) ++ number_lines f s n

-- "the powers of g from 0 to 254, the logarithms of 1 to 255, and the 45 labels"
unfoldable pub sheet : List ℕ
sheet = section "powers" (power 2) 0 255 ++ (section "logs" log 1 255 ++ section "labels" label 0 45)

-- an output without room for the text is left as it was; in any other the text stands at the front, and the rest is as before
pub record SheetDone (out : List ℕ) (n : ℕ) (out' : List ℕ) : Type 0 where
  pub small : length out < length sheet → (n ≡ 0) × (out' ≡ out)
  pub said : length sheet ≤ length out → (n ≡ length sheet) × (out' ≡ sheet ++ drop n out)
