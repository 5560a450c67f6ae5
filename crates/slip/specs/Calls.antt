-- The two calls. Document 02, order 8: "A call writes or reads one slip at an offset of a lent slice."
--
--   from_to s i p     the bytes of s from i up to p
--   WriteSlipDone     the contract of write: block k, read as a, into the slice s at the offset i
--   Follows bs x      some slip begins with bs, and then x
--   CutOff, Against   the causes of 15 and of 16, each with its offset
--   ReadSlipDone      the contract of read
--   wrote_number, found_number   document 02's numbers of the two answers
--
-- A primed name is what the bytes hold after the call.
use Rattle.std.specs.Prelude.{ℕ, ◌+◌, ◌-◌, ◌≤◌, ◌<◌, ◌≡◌, ◌⊎◌, List, ◌∷◌, ◌++◌, length, take, drop, get_or}
use Rattle.answer.specs.Answer.{Answer}
use Rattle.reading.specs.Reading.{reading_answer}
use Rattle.slip.specs.Slip.{HasSlip, slip}
use Rattle.slip.specs.Wrote.{Wrote}
use Rattle.slip.specs.Wrote.{Next, Refused}
use Rattle.slip.specs.Found.{Found}
use Rattle.slip.specs.Found.{Slip, Refused as RefusedAt}

abbrev pub from_to : List ℕ → ℕ → ℕ → List ℕ
from_to s i p = take (p - i) (drop i s)

-- ---- writing
-- "16: .. value against these rules, .. given to the writer"; "17: no space for the whole slip, after 16; the writer's refusals change no byte"
unfoldable pub WriteSlipDone : List ℕ → ℕ → ℕ → Answer → Wrote → List ℕ → Type 0
WriteSlipDone s i k a (Next n) s' =
    HasSlip k a × (n ≡ i + length (slip k a)) × (n ≤ length s) × (s' ≡ take i s ++ (slip k a ++ drop n s))
WriteSlipDone s i k a (Refused n) s' =
    (((n ≡ 16) × (HasSlip k a → ⊥)) ⊎ ((n ≡ 17) × HasSlip k a × (length s < i + length (slip k a)))) × (s' ≡ s)

-- ---- reading
pub record Follows (bs : List ℕ) (x : ℕ) : Type 0 where
  pub block : ℕ
  pub answer : Answer
  pub has : HasSlip block answer
  pub rest : List ℕ
  pub begins : slip block answer ≡ bs ++ (x ∷ rest)

-- "15: the slice ends before the slip does."; "A reader's refusal carries its cause's offset: for 15 the slice's length"
abbrev pub CutOff : List ℕ → ℕ → ℕ → Type 0
CutOff s i p = (p ≡ length s) × ((x : ℕ) × Follows (drop i s) x)

-- "16: a bit or value against these rules, read ..; the earlier cause in the slice wins": the bytes before p begin a slip, and no slip that
-- begins so goes on with the byte at p
pub record Against (s : List ℕ) (i p : ℕ) : Type 0 where
  pub from : i ≤ p
  pub below : p < length s
  pub so_far : (x : ℕ) × Follows (from_to s i p) x
  pub here : Follows (from_to s i p) (get_or s p 0) → ⊥

-- what is read is the slip of block k, read as r, and n is the offset after it; the slice is as before
unfoldable pub ReadSlipDone : List ℕ → ℕ → Found → List ℕ → Type 0
ReadSlipDone s i (Slip k r n) s' =
    (HasSlip k (reading_answer r) × (n ≡ i + length (slip k (reading_answer r))) × (from_to s i n ≡ slip k (reading_answer r))) × (s' ≡ s)
ReadSlipDone s i (RefusedAt n p) s' = (((n ≡ 15) × CutOff s i p) ⊎ ((n ≡ 16) × Against s i p)) × (s' ≡ s)

-- ---- numbers
abbrev pub wrote_number : Wrote → ℕ
wrote_number (Next n) = 0
wrote_number (Refused n) = n

abbrev pub found_number : Found → ℕ
found_number (Slip k r n) = 0
found_number (RefusedAt n p) = n
