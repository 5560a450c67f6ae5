-- What the report has counted.
--
--   five            the five totals, in the order of their classes; EachAtMost n t: none is above n
--   CountsOne       one reading more is counted; CountsMore: the next c blocks
--   CountedBlocks   t has the five totals of the first n blocks
use Rattle.std.specs.Prelude.{◌≡◌, List, [], ◌∷◌, ℕ, ◌+◌, ◌<◌, ◌≤◌, length, get_or, set}
use Rattle.answer.specs.Answer.{Answer}
use Rattle.answer.specs.declared.Totals.{Totals}
use Rattle.marks.specs.declared.Marks.{Marks}
use Rattle.bank.specs.Calls.{block, EachReads, how_many, class}

abbrev pub five : Totals → List ℕ
five t = t.clean ∷ t.chips ∷ t.card ∷ t.none ∷ t.several ∷ []

abbrev pub EachAtMost : ℕ → Totals → Type 0
EachAtMost n t = (t.clean ≤ n) × (t.chips ≤ n) × (t.card ≤ n) × (t.none ≤ n) × (t.several ≤ n)

-- the total of a's class is one more, and no other is changed
abbrev pub CountsOne : Answer → Totals → Totals → Type 0
CountsOne a t t' = five t' ≡ set (five t) (class a) (get_or (five t) (class a) 0 + 1)

pub record CountedBlocks (bank : List ℕ) (m : Marks) (n : ℕ) (t : List ℕ) : Type 0 where
  pub answers : ℕ → Answer
  pub reads : EachReads (block bank) n m answers
  pub five : length t ≡ 5
  pub each : (i : ℕ) → i < 5 → get_or t i 0 ≡ how_many answers n i

-- wherever the c blocks of b come after n blocks of a bank that t has counted, t' has counted them too
abbrev pub CountsMore : List ℕ → Marks → ℕ → Totals → Totals → Type 0
CountsMore b m c t t' = (bank : List ℕ) (n : ℕ) → ((i : ℕ) → i < c → block b i ≡ block bank (n + i))
    → CountedBlocks bank m n (five t) → CountedBlocks bank m (n + c) (five t')
