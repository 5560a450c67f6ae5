-- Order 8 in plain words.
--
--   SlipFigures         the five slips, byte by byte; BitOrder: their fields stand in bit order
--   OneOutcome          bytes begin with the slip of one outcome at most
--   EveryReading        whatever a reading says has a slip; GetHasSlip, PatrolHasSlip: of the bank's calls
--   WriteNumbers        when a write is refused, and with which number; WriteChanges: which bytes it changes; WritesNumbers, WritesChange:
--                       of the call
--   MapsExactly, BehindExactly   what may begin a slip, and what may stand behind its beginning
--   ReadNumbers, ReadsNumbers    when a read is refused, and with which number
--   WrittenReads        what is written is read: that outcome, and no other; ReadWrites, ReadsWrite: what is read is written as it stood
--   Beyond              an offset at or beyond the slice's end
--   ReadsAs, ReadFigures   slips and refusals in figures
--   WriteDecided, ReadDecided   two outcomes of a call agree
use Rattle.std.specs.Prelude.{ℕ, ◌+◌, ◌/◌, ◌%◌, ◌≤◌, ◌<◌, ◌≡◌, ◌⊎◌, ◌↔◌, List, [], ◌∷◌, ◌++◌, length, get_or, drop}
use Rattle.base.specs.Base.{In, Rising}
use Rattle.answer.specs.Answer.{Answer, clean, in_chips, in_card, refused, refused_card}
use Rattle.marks.specs.Marks.{LawfulMarks}
use Rattle.marks.specs.declared.Marks.{Marks}
use Rattle.reading.specs.Reading.{reading_answer, ReadsUnder}
use Rattle.reading.specs.declared.Kind.TheVariants.{OneCard}
use Rattle.reading.specs.Reading.{Reading}
use Rattle.std.specs.Prelude.{Ok}
use Rattle.bank.specs.Calls.{get_cause, patrol_cause, GetDone, PatrolDone}
use Rattle.slip.specs.Slip.{InRanges, HasSlip, fields, bits_of, slip}
use Rattle.slip.specs.Calls.{from_to, WriteSlipDone, Follows, Against, ReadSlipDone, wrote_number, found_number}
use Rattle.slip.specs.Limits.{limits_of, Within}
use Rattle.slip.specs.Wrote.{Wrote}
use Rattle.slip.specs.Wrote.{Next, Refused}
use Rattle.slip.specs.Found.{Found}
use Rattle.slip.specs.Found.{Slip, Refused as RefusedAt}

-- ---- the format
pub record SlipFigures (k j n r : ℕ) : Type 0 where
  pub of_clean : slip k clean ≡ 3 ∷ k % 256 ∷ k / 256 ∷ 0 ∷ []
  pub of_chips : slip k (in_chips n) ≡ 11 ∷ k % 256 ∷ k / 256 ∷ 1 ∷ n ∷ []
  pub of_card : slip k (in_card j n) ≡ 15 ∷ k % 256 ∷ k / 256 ∷ 2 ∷ j ∷ n ∷ []
  pub of_none : slip k (refused r) ≡ 17 ∷ k % 256 ∷ k / 256 ∷ r ∷ []
  pub of_several : slip k (refused_card r j) ≡ 21 ∷ k % 256 ∷ k / 256 ∷ j ∷ r ∷ []

-- "in bit order"
abbrev pub BitOrder : Type 0
BitOrder = (k : ℕ) (a : Answer) → Rising (bits_of (fields k a))

-- "Each outcome has one slip, and each slip that is read has one outcome."
abbrev pub OneOutcome : Type 0
OneOutcome = (k k' : ℕ) (a a' : Answer) → HasSlip k a → HasSlip k' a' → (l l' : List ℕ) → slip k a ++ l ≡ slip k' a' ++ l' → (k ≡ k') × (a ≡ a')

-- ---- "A slip is one reading of one block": of 45 bytes, under lawful marks
abbrev pub EveryReading : Type 0
EveryReading = (m : Marks) → LawfulMarks m → (b : List ℕ) → length b ≡ 45 → (out : List ℕ) (a : Answer) (out' : List ℕ) → ReadsUnder m b out a out'
    → InRanges a

-- a get or patrol that its arguments don't refuse
abbrev pub GetHasSlip : Type 0
GetHasSlip = (bank : List ℕ) (k : ℕ) (m : Marks) (out w : List ℕ) (a : Answer) (bank' out' w' : List ℕ) → get_cause (length bank) k m (length out) ≡ 0
    → GetDone bank k m out w a bank' out' w' → HasSlip k a

abbrev pub PatrolHasSlip : Type 0
PatrolHasSlip = (bank : List ℕ) (k : ℕ) (m : Marks) (w : List ℕ) (a : Answer) (bank' w' : List ℕ) → patrol_cause (length bank) k m ≡ 0
    → PatrolDone bank k m w a bank' w' → HasSlip k a

-- ---- the writer
pub record WriteNumbers (s : List ℕ) (i k : ℕ) (a : Answer) (w : Wrote) : Type 0 where
  pub written : (wrote_number w ≡ 0) ↔ (HasSlip k a × (i + length (slip k a) ≤ length s))
  pub sixteen : (wrote_number w ≡ 16) ↔ (HasSlip k a → ⊥)
  pub seventeen : (wrote_number w ≡ 17) ↔ (HasSlip k a × (length s < i + length (slip k a)))

-- on success exactly the slip's bytes change, and n is the offset after them
pub record WriteChanges (s : List ℕ) (i k : ℕ) (a : Answer) (n : ℕ) (s' : List ℕ) : Type 0 where
  pub long : length s' ≡ length s
  pub there : from_to s' i n ≡ slip k a
  pub others : (p : ℕ) → (p < i) ⊎ (n ≤ p) → get_or s' p 0 ≡ get_or s p 0

abbrev pub WritesNumbers : Type 0
WritesNumbers = (s : List ℕ) (i k : ℕ) (a : Answer) (w : Wrote) (s' : List ℕ) → WriteSlipDone s i k a w s' → WriteNumbers s i k a w

abbrev pub WritesChange : Type 0
WritesChange = (s : List ℕ) (i k : ℕ) (a : Answer) (n : ℕ) (s' : List ℕ) → WriteSlipDone s i k a (Next n) s' → WriteChanges s i k a n s'

-- ---- what may stand where
-- "The only maps are 3 (clean), 11 (chips), 15 (card), 17 (refusal 10) and 21 (refusal 11)."
abbrev pub MapsExactly : Type 0
MapsExactly = (m : ℕ) → Follows [] m ↔ In m (3 ∷ 11 ∷ 15 ∷ 17 ∷ 21 ∷ [])

-- behind a map and the bytes bs: not all of the slip is there yet, and bs and x are within their limits
abbrev pub BehindExactly : Type 0
BehindExactly = (m : ℕ) (bs : List ℕ) (x : ℕ)
    → Follows (m ∷ bs) x ↔ ((length bs < (limits_of m).size) × Within (limits_of m).least (limits_of m).most (bs ++ (x ∷ [])))

-- ---- the reader: a slip stands there, or the slice ends before it does, or some byte is against the rules
pub record ReadNumbers (s : List ℕ) (i : ℕ) (f : Found) : Type 0 where
  pub read : (found_number f ≡ 0) ↔ ((k : ℕ) × (a : Answer) × HasSlip k a × (from_to s i (i + length (slip k a)) ≡ slip k a))
  pub fifteen : (found_number f ≡ 15) ↔ ((x : ℕ) × Follows (drop i s) x)
  pub sixteen : (found_number f ≡ 16) ↔ ((p : ℕ) × Against s i p)

abbrev pub ReadsNumbers : Type 0
ReadsNumbers = (s : List ℕ) (i : ℕ) (f : Found) (s' : List ℕ) → ReadSlipDone s i f s' → ReadNumbers s i f

-- ---- round trips
abbrev pub WrittenReads : Type 0
WrittenReads = (s : List ℕ) (i k : ℕ) (a : Answer) (n : ℕ) (s' : List ℕ) → WriteSlipDone s i k a (Next n) s'
    → (r : Reading) × (reading_answer r ≡ a) × ReadSlipDone s' i (Slip k r n) s'
    × ((f : Found) (s'' : List ℕ) → ReadSlipDone s' i f s'' → f ≡ Slip k r n)

-- written again where it was read, the slice stays; written anywhere, its bytes are those that were read
pub record ReadWrites (s : List ℕ) (i k : ℕ) (r : Reading) (n : ℕ) : Type 0 where
  pub again : (w : Wrote) (s' : List ℕ) → WriteSlipDone s i k (reading_answer r) w s' → (w ≡ Next n) × (s' ≡ s)
  pub anywhere : (t : List ℕ) (j q : ℕ) (t' : List ℕ) → WriteSlipDone t j k (reading_answer r) (Next q) t' → from_to t' j q ≡ from_to s i n

abbrev pub ReadsWrite : Type 0
ReadsWrite = (s : List ℕ) (i k : ℕ) (r : Reading) (n : ℕ) (s' : List ℕ) → ReadSlipDone s i (Slip k r n) s' → ReadWrites s i k r n

-- ---- offsets beyond, and figures
pub record Beyond (s : List ℕ) (i : ℕ) : Type 0 where
  pub read : length s ≤ i → (f : Found) (s' : List ℕ) → ReadSlipDone s i f s' → f ≡ RefusedAt 15 (length s)
  pub written : length s ≤ i → (k : ℕ) (a : Answer) (w : Wrote) (s' : List ℕ) → HasSlip k a → WriteSlipDone s i k a w s' → (w ≡ Refused 17) × (s' ≡ s)

-- whatever is read of these bytes at i is so
abbrev pub ReadsAs : List ℕ → ℕ → Found → Type 0
ReadsAs s i f = (f' : Found) (s' : List ℕ) → ReadSlipDone s i f' s' → f' ≡ f

pub record ReadFigures : Type 0 where
  pub whole : ReadsAs (15 ∷ 255 ∷ 3 ∷ 2 ∷ 4 ∷ 11 ∷ []) 0 (Slip 1023 (Ok (OneCard 4 11)) 6)
  pub empty : ReadsAs [] 0 (RefusedAt 15 0)
  -- no such map
  pub map : ReadsAs (7 ∷ []) 0 (RefusedAt 16 0)
  -- "for a block number its high byte"; "the earlier cause in the slice wins"
  pub high_byte : ReadsAs (15 ∷ 0 ∷ 4 ∷ []) 0 (RefusedAt 16 2)
  pub cut : ReadsAs (15 ∷ 0 ∷ []) 0 (RefusedAt 15 2)
  -- behind another slip
  pub second : ReadsAs (3 ∷ 0 ∷ 0 ∷ 0 ∷ 15 ∷ 0 ∷ 4 ∷ []) 4 (RefusedAt 16 6)
  -- "a kind or refusal that disagrees with the map stands at its own byte"
  pub kind : ReadsAs (3 ∷ 0 ∷ 0 ∷ 1 ∷ []) 0 (RefusedAt 16 3)
  pub refusal : ReadsAs (17 ∷ 255 ∷ 3 ∷ 11 ∷ []) 0 (RefusedAt 16 3)
  pub refusal_11 : ReadsAs (21 ∷ 255 ∷ 3 ∷ 4 ∷ 10 ∷ []) 0 (RefusedAt 16 4)
  -- "card, 0 to 4"
  pub card : ReadsAs (21 ∷ 255 ∷ 3 ∷ 5 ∷ 11 ∷ []) 0 (RefusedAt 16 3)
  pub card_of_card : ReadsAs (15 ∷ 0 ∷ 0 ∷ 2 ∷ 5 ∷ 1 ∷ []) 0 (RefusedAt 16 4)
  -- "n, 1 to 2 for chips and 1 to 11 for a card"
  pub chips_0 : ReadsAs (11 ∷ 0 ∷ 0 ∷ 1 ∷ 0 ∷ []) 0 (RefusedAt 16 4)
  pub chips_3 : ReadsAs (11 ∷ 0 ∷ 0 ∷ 1 ∷ 3 ∷ []) 0 (RefusedAt 16 4)
  pub card_0 : ReadsAs (15 ∷ 0 ∷ 0 ∷ 2 ∷ 4 ∷ 0 ∷ []) 0 (RefusedAt 16 5)
  pub card_12 : ReadsAs (15 ∷ 0 ∷ 0 ∷ 2 ∷ 4 ∷ 12 ∷ []) 0 (RefusedAt 16 5)

-- ---- what the calls say is decided
abbrev pub WriteDecided : Type 0
WriteDecided = (s : List ℕ) (i k : ℕ) (a : Answer) (w w' : Wrote) (s' s'' : List ℕ) → WriteSlipDone s i k a w s' → WriteSlipDone s i k a w' s''
    → (w ≡ w') × (s' ≡ s'')

abbrev pub ReadDecided : Type 0
ReadDecided = (s : List ℕ) (i : ℕ) (f f' : Found) (s' s'' : List ℕ) → ReadSlipDone s i f s' → ReadSlipDone s i f' s'' → (f ≡ f') × (s' ≡ s'')
