-- Blocks, and the check rules. Document 01, "Bytes and cards" and "Check rules".
--
--   byte x p          the byte at position p
--   position j i      the position of card j, chip i; position p is chip p % 9 of card p / 9
--   Block x           x is a block: 45 bytes
--   zeros             the block of 45 zeros
--   Lawful labels x   x meets the check rules (01's "lawful": a codeword)
--   block_of f        the 45 bytes f 0, .., f 44
--   DifferOnly P b x  b and x differ only at positions of P
--   changes b x       how many bytes differ
--   differing b x     the positions at which they differ, lowest first; DifferAt, DifferingExactly: the same in plain words
--   Stored labels r x x is a lawful block that begins with the record r
--   OneMember P x     x is the one member of the set P; NoMember, TwoMembers: it has none, at least two
use Rattle.std.specs.Prelude.{◌≡◌, not, ◌⊎◌, ◌≢◌, ◌↔◌, List, [], ◌∷◌, ℕ, zero, suc, ◌+◌, ◌*◌, ◌<◌, eqb, length, get_or, take, replicate}
use Rattle.base.specs.Base.{In, Rising, tally, those}
use Rattle.field.specs.Field.{◌·◌, sum}

abbrev pub byte : List ℕ → ℕ → ℕ
byte x p = get_or x p 0

abbrev pub position : ℕ → ℕ → ℕ
position j i = 9 * j + i

pub record Block (x : List ℕ) : Type 0 where
  pub long : length x ≡ 45
  pub bytes : (p : ℕ) → p < 45 → byte x p < 256

abbrev pub zeros : List ℕ
zeros = replicate 45 0

-- for each chip its five bytes sum to 0; so do label times byte, and label squared times byte, over the 45 positions
pub record Lawful (labels x : List ℕ) : Type 0 where
  pub chips : (i : ℕ) → i < 9 → sum 5 (λ j. byte x (position j i)) ≡ 0
  pub once : sum 45 (λ p. byte labels p · byte x p) ≡ 0
  pub squared : sum 45 (λ p. (byte labels p · byte labels p) · byte x p) ≡ 0

-- f 0 ∷ .. ∷ f (n - 1) ∷ l
abbrev pub listed : (ℕ → ℕ) → ℕ → List ℕ → List ℕ
listed f zero l = l
listed f (suc n) l = listed f n (f n ∷ l)

unfoldable pub block_of : (ℕ → ℕ) → List ℕ
block_of f = listed f 45 []

abbrev pub DifferOnly : (ℕ → Type 0) → List ℕ → List ℕ → Type 0
DifferOnly P b x = (p : ℕ) → p < 45 → (byte b p ≡ byte x p) ⊎ P p

unfoldable pub changes : List ℕ → List ℕ → ℕ
changes b x = tally 45 (λ p. not (eqb (byte b p) (byte x p)))

unfoldable pub differing : List ℕ → List ℕ → List ℕ
differing b x = those 0 45 (λ p. not (eqb (byte b p) (byte x p)))

pub record DifferAt (b x l : List ℕ) : Type 0 where
  pub exactly : (p : ℕ) → In p l ↔ ((p < 45) × (byte b p ≢ byte x p))
  pub rising : Rising l
  pub many : length l ≡ changes b x

abbrev pub DifferingExactly : Type 0
DifferingExactly = (b x : List ℕ) → DifferAt b x (differing b x)

pub record Stored (labels r x : List ℕ) : Type 0 where
  pub block : Block x
  pub lawful : Lawful labels x
  pub begins : take 34 x ≡ r

-- ---- sets of blocks
abbrev pub OneMember : (List ℕ → Type 0) → List ℕ → Type 0
OneMember P x = P x × ((y : List ℕ) → P y → y ≡ x)

abbrev pub NoMember : (List ℕ → Type 0) → Type 0
NoMember P = (y : List ℕ) → P y → ⊥

abbrev pub TwoMembers : (List ℕ → Type 0) → Type 0
TwoMembers P = (x : List ℕ) × (y : List ℕ) × P x × P y × (x ≢ y)
