-- The sums that the check rules ask to be 0 (together: the syndrome of a block).
--
--   rows_of s         the nine rows, by chips
--   IsSums            s holds the eleven sums of the block b
--   all_zero s        all eleven are 0
--   BlockSums         what is asked of a block's sums: of 45 bytes they are its sums under the built-in labels, of any other length zeros
--   chip_sum rec i    the sum of a record's bytes of chip i
--   begun rec p       byte p of the block that a record begins, with zeros for bytes 34 and 35 and its chip sums as card 4
--   RecordSums        what is asked of a record's sums: of 34 bytes its chip sums and the label sums of that block, of any other length zeros
--   taken s j         what the rows add to both label sums where card j takes them, as a pair
--   next v            what card j + 1 takes, from what card j takes
--   FourLeft          which of four blocks one after the other are not lawful, a binary digit each
--   Holds b k w       the bytes of w are the eight of b from k on; Word: w is their word
--   CardWords b i ws  ws are the words of the five cards of b, from chip i on; RowsWord b i u: u is their sum
--   SumsOver          s holds the label sums of the 45 bytes b, and nine rows
--   ReducedSums       the two sums of card j's reduced matrix: card j has dropped out
--
-- (A byte beyond the end of a list counts as 0.)
use Rattle.std.specs.Prelude.{◌≡◌, ◌≢◌, ◌↔◌, Bool, ◌&&◌, List, [], ◌∷◌, ℕ, ◌+◌, ◌-◌, ◌*◌, ◌^◌, ◌<◌, eqb, ltb, length, get_or, take, drop}
use Rattle.base.specs.Base.{if, digit}
use Rattle.field.specs.Field.{◌·◌, sum}
use Rattle.code.specs.Block.{byte, position, listed, Lawful}
use Rattle.code.specs.Labels.{entry, built_in}
use Rattle.pairs.specs.Words.{byte_of, spread, gathered, paired, at_both}
use Rattle.sums.specs.declared.Sums.{Sums}

abbrev pub rows_of : Sums → List ℕ
rows_of s = listed (byte_of s.low) 8 (s.high ∷ [])

pub record IsSums (labels b : List ℕ) (s : Sums) : Type 0 where
  pub rows : (i : ℕ) → i < 9 → byte (rows_of s) i ≡ sum 5 (λ j. byte b (position j i))
  -- eight bytes are all of the word
  pub eight : s.low < 2 ^ 64
  pub once : s.once ≡ sum 45 (λ p. byte labels p · byte b p)
  pub squared : s.squared ≡ sum 45 (λ p. (byte labels p · byte labels p) · byte b p)

abbrev pub no_sums : Sums
no_sums = record { low = 0; high = 0; once = 0; squared = 0 }

abbrev pub all_zero : Sums → Bool
all_zero s = eqb s.low 0 && (eqb s.high 0 && (eqb s.once 0 && eqb s.squared 0))

-- b' is the block after the call
pub record BlockSums (b : List ℕ) (s : Sums) (b' : List ℕ) : Type 0 where
  pub block : length b ≡ 45 → IsSums built_in b s
  pub other : length b ≢ 45 → s ≡ no_sums
  pub kept : b' ≡ b

-- ---- a record
unfoldable pub chip_sum : List ℕ → ℕ → ℕ
chip_sum rec i = sum 4 (λ k. byte rec (position k i))

abbrev pub begun : List ℕ → ℕ → ℕ
begun rec p = if (ltb p 36) (byte rec p) (chip_sum rec (p - 36))

pub record IsRecordSums (labels rec : List ℕ) (s : Sums) : Type 0 where
  pub rows : (i : ℕ) → i < 9 → byte (rows_of s) i ≡ chip_sum rec i
  pub eight : s.low < 2 ^ 64
  pub once : s.once ≡ sum 45 (λ p. byte labels p · begun rec p)
  pub squared : s.squared ≡ sum 45 (λ p. (byte labels p · byte labels p) · begun rec p)

-- rec' is the record after the call
pub record RecordSums (rec : List ℕ) (s : Sums) (rec' : List ℕ) : Type 0 where
  pub record_sums : length rec ≡ 34 → IsRecordSums built_in rec s
  pub other : length rec ≢ 34 → s ≡ no_sums
  pub kept : rec' ≡ rec

-- ---- one card after the other
abbrev pub taken : Sums → ℕ → ℕ
taken s j = at_both (gathered (rows_of s) (spread built_in) j)

-- card j + 1's labels are card j's times the label of card 1, chip 0
unfoldable pub next : ℕ → ℕ
next v = paired (byte built_in 9 · byte_of v 0) ((byte built_in 9 · byte built_in 9) · byte_of v 4)

-- ---- blocks one after the other
-- b' are the bytes after the call
pub record FourLeft (b : List ℕ) (r : ℕ) (b' : List ℕ) : Type 0 where
  pub below : r < 16
  pub four : length b ≡ 180 → (k : ℕ) → k < 4 → (digit r k ≡ 0) ↔ Lawful built_in (take 45 (drop (45 * k) b))
  pub other : length b ≢ 180 → r ≡ 15
  pub kept : b' ≡ b

-- ---- what the code makes the sums from: no promise rests on these
abbrev pub Holds : (ℕ → ℕ) → ℕ → ℕ → Type 0
Holds b k w = (i : ℕ) → i < 8 → byte_of w i ≡ b (k + i)

abbrev pub Word : (ℕ → ℕ) → ℕ → ℕ → Type 0
Word b k w = (w < 2 ^ 64) × Holds b k w

abbrev pub CardWords : (ℕ → ℕ) → ℕ → List ℕ → Type 0
CardWords b i words = (j : ℕ) → j < 5 → Word b (9 * j + i) (get_or words j 0)

pub record RowsWord (b : ℕ → ℕ) (i u : ℕ) : Type 0 where
  pub words : List ℕ
  pub cards : CardWords b i words
  pub total : u ≡ sum 5 (λ j. get_or words j 0)

pub record SumsOver (labels : List ℕ) (b row : ℕ → ℕ) (s : Sums) : Type 0 where
  pub rows : (i : ℕ) → i < 9 → byte (rows_of s) i ≡ row i
  pub eight : s.low < 2 ^ 64
  pub once : s.once ≡ sum 45 (λ p. byte labels p · b p)
  pub squared : s.squared ≡ sum 45 (λ p. (byte labels p · byte labels p) · b p)

pub record ReducedSums (labels b : List ℕ) (j t₁ t₂ : ℕ) : Type 0 where
  pub once : t₁ ≡ sum 45 (λ p. entry labels j p · byte b p)
  pub squared : t₂ ≡ sum 45 (λ p. (entry labels j p · entry labels j p) · byte b p)
