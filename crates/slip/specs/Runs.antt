-- A run of slips: each is written or read at the offset that the one before it gave.
--
--   Note           a block number, and how the block reads
--   run os         the slips of notes, one after the other; EachHasSlip: each has one
--   WroteRun       notes written one after the other, from the offset i on; n is the offset after them
--   ReadRun        notes read one after the other, likewise
--   RunBack        what is written so is read so; RunOnly: and nothing else is read
--   RunBytes       the bytes that a run leaves; RunFits: any notes that have slips, and room, can be written
use Rattle.std.specs.Prelude.{ℕ, ◌+◌, ◌≤◌, ◌≡◌, List, [], ◌∷◌, ◌++◌, length, take, drop}
use Rattle.answer.specs.Answer.{Answer}
use Rattle.reading.specs.Reading.{reading_answer}
use Rattle.reading.specs.Reading.{Reading}
use Rattle.slip.specs.Slip.{HasSlip, slip}
use Rattle.slip.specs.Calls.{WriteSlipDone, ReadSlipDone}
use Rattle.slip.specs.Wrote.{Next}
use Rattle.slip.specs.Found.{Slip}

pub record Note : Type 0 where
  pub block : ℕ
  pub answer : Answer

abbrev pub run : List Note → List ℕ
run [] = []
run (o ∷ os) = slip o.block o.answer ++ run os

abbrev pub EachHasSlip : List Note → Type 0
EachHasSlip [] = Unit {0}
EachHasSlip (o ∷ os) = HasSlip o.block o.answer × EachHasSlip os

abbrev pub WroteRun : List Note → List ℕ → ℕ → ℕ → List ℕ → Type 0
WroteRun [] s i n s' = (n ≡ i) × (s' ≡ s)
WroteRun (o ∷ os) s i n s' =
    (q : ℕ) × (t : List ℕ) × WriteSlipDone s i o.block o.answer (Next q) t × WroteRun os t q n s'

abbrev pub ReadRun : List Note → List ℕ → ℕ → ℕ → Type 0
ReadRun [] s i n = n ≡ i
ReadRun (o ∷ os) s i n =
    (q : ℕ) × (r : Reading) × (o.answer ≡ reading_answer r) × ReadSlipDone s i (Slip o.block r q) s × ReadRun os s q n

abbrev pub RunBack : Type 0
RunBack = (os : List Note) (s : List ℕ) (i n : ℕ) (s' : List ℕ) → WroteRun os s i n s' → ReadRun os s' i n

abbrev pub RunOnly : Type 0
RunOnly = (os os' : List Note) (s : List ℕ) (i n n' : ℕ) → length os ≡ length os' → ReadRun os s i n → ReadRun os' s i n' → (os ≡ os') × (n ≡ n')

-- i is within the slice
abbrev pub RunBytes : Type 0
RunBytes = (os : List Note) (s : List ℕ) (i n : ℕ) (s' : List ℕ) → i ≤ length s → WroteRun os s i n s'
    → (n ≡ i + length (run os)) × (n ≤ length s) × (s' ≡ take i s ++ (run os ++ drop n s))

abbrev pub RunFits : Type 0
RunFits = (os : List Note) (s : List ℕ) (i : ℕ) → EachHasSlip os → i + length (run os) ≤ length s
    → (s' : List ℕ) × WroteRun os s i (i + length (run os)) s'
