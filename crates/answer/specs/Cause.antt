-- Causes of refusal, and the number that is given.
--
--   cause n t     number n, and whether its cause holds
--   lowest        the lowest number whose cause holds, wherever it stands in the list; 0 where none does
--
-- Document 01: "Where several causes hold, the lowest number is given."
use Rattle.std.specs.Prelude.{ℕ, zero, suc, Bool, List, [], ◌∷◌, ltb}
use Rattle.base.specs.Base.{if}

pub data Cause : Type 0 where
  cause : (number : ℕ) (holds : Bool) → Cause

-- the lesser of two numbers, 0 standing for none
abbrev pub lesser : ℕ → ℕ → ℕ
lesser n zero = n
lesser n (suc m) = if (ltb (suc m) n) (suc m) n

abbrev pub lowest : List Cause → ℕ
lowest [] = 0
lowest (cause n t ∷ cs) = if t (lesser n (lowest cs)) (lowest cs)
