-- What write and read themselves return, in plain words. Nothing here cites Wrote, Found, or what gives them of a result.
--
--   WritesSlip s i k a r s'   block k, read as a, written into s at the offset i: what was returned, and the bytes after it
--   ReadsSlip s i r s'        read from s at the offset i
--   WritesExactly, ReadsExactly   each answer, exactly when
--   WritesOne, ReadsOne       two outcomes of a call are equal, answer and bytes
use Rattle.std.specs.Prelude.{ℕ, ◌+◌, ◌≤◌, ◌<◌, ◌≡◌, ◌⊎◌, ◌↔◌, List, ◌++◌, length, take, drop, Ok, Err}
use Rattle.std.specs.declared.result.Result.{Result}
use Rattle.answer.specs.Answer.{Answer}
use Rattle.answer.specs.declared.Refusal.{Refusal}
use Rattle.answer.specs.declared.Refusal.TheVariants.{SlipCutOff, NoSuchSlip, NoRoom}
use Rattle.reading.specs.Reading.{reading_answer}
use Rattle.slip.specs.declared.SlipRead.{SlipRead}
use Rattle.slip.specs.declared.NoSlip.{NoSlip}
use Rattle.slip.specs.Slip.{HasSlip, slip}
use Rattle.slip.specs.Calls.{from_to, CutOff, Against}

-- ---- by cases
-- the offset after the slip, which stands there; or why not, and the slice is as before
abbrev pub WritesSlip : List ℕ → ℕ → ℕ → Answer → Result ℕ Refusal → List ℕ → Type 0
WritesSlip s i k a (Ok n) s' = HasSlip k a × (n ≡ i + length (slip k a)) × (n ≤ length s) × (s' ≡ take i s ++ (slip k a ++ drop n s))
WritesSlip s i k a (Err e) s' =
    (((e ≡ NoSuchSlip) × (HasSlip k a → ⊥)) ⊎ ((e ≡ NoRoom) × HasSlip k a × (length s < i + length (slip k a)))) × (s' ≡ s)

-- the slip of a block and a reading stands up to the offset that is given
abbrev pub StandsThere : List ℕ → ℕ → SlipRead → Type 0
StandsThere s i x =
    HasSlip x.block (reading_answer x.reading) × (x.next ≡ i + length (slip x.block (reading_answer x.reading)))
    × (from_to s i x.next ≡ slip x.block (reading_answer x.reading))

abbrev pub ReadsSlip : List ℕ → ℕ → Result SlipRead NoSlip → List ℕ → Type 0
ReadsSlip s i (Ok x) s' = StandsThere s i x × (s' ≡ s)
ReadsSlip s i (Err e) s' = (((e.refusal ≡ SlipCutOff) × CutOff s i e.at) ⊎ ((e.refusal ≡ NoSuchSlip) × Against s i e.at)) × (s' ≡ s)

-- ---- exactly when
pub record WritesExactly (s : List ℕ) (i k : ℕ) (a : Answer) (r : Result ℕ Refusal) : Type 0 where
  pub written : (n : ℕ) → (r ≡ Ok n) ↔ (HasSlip k a × (n ≡ i + length (slip k a)) × (n ≤ length s))
  pub no_slip : (r ≡ Err NoSuchSlip) ↔ (HasSlip k a → ⊥)
  pub no_room : (r ≡ Err NoRoom) ↔ (HasSlip k a × (length s < i + length (slip k a)))

abbrev pub none_read : Refusal → ℕ → NoSlip
none_read e p = record { refusal = e; at = p }

pub record ReadsExactly (s : List ℕ) (i : ℕ) (r : Result SlipRead NoSlip) : Type 0 where
  pub found : (x : SlipRead) → (r ≡ Ok x) ↔ StandsThere s i x
  pub cut_off : (p : ℕ) → (r ≡ Err (none_read SlipCutOff p)) ↔ CutOff s i p
  pub no_slip : (p : ℕ) → (r ≡ Err (none_read NoSuchSlip p)) ↔ Against s i p

-- ---- decided, of what the code returns
abbrev pub WritesOne : Type 0
WritesOne = (s : List ℕ) (i k : ℕ) (a : Answer) (r r' : Result ℕ Refusal) (s' s'' : List ℕ) → WritesSlip s i k a r s' → WritesSlip s i k a r' s''
    → (r ≡ r') × (s' ≡ s'')

abbrev pub ReadsOne : Type 0
ReadsOne = (s : List ℕ) (i : ℕ) (r r' : Result SlipRead NoSlip) (s' s'' : List ℕ) → ReadsSlip s i r s' → ReadsSlip s i r' s''
    → (r ≡ r') × (s' ≡ s'')
