-- What a change does to a block.
--
--   adds d r      what the change d adds at position r
--   applied b d   the block b with d made in it; bytes that are no block stay as they are
--   no_change     the change that adds nothing
--   weight d      how many of its eleven places add something
--   WellFormed    its card is a card, and where it adds something further, that is at two different positions off that card
--   Counted       n is the number of bytes that d changes
--   before, after, row_test   a further position before the card's chips, and after them; a row that adds something
--   places d      the positions that it adds to, in this order: lowest first where it is well formed and p is not above q
--   ordered d     the same change with p not above q
--   positions ps  the positions that a Positions holds; filled l: the one that holds l, and then zeros
--   Listed        ps holds the places of d; of a well-formed one these are the positions that it changes, lowest first
--   Pushed          ps' holds what ps does and l after it
--   AddedAt         a step in which a change is made: x added at one position; RowsAdded: nine rows added to card j
use Rattle.std.specs.Prelude.{◌≡◌, Bool, ◌&&◌, not, ◌⊎◌, ◌≢◌, List, [], ◌∷◌, ◌++◌, ℕ, ◌+◌, ◌-◌, ◌*◌, ◌/◌, ◌%◌, ◌<◌, eqb, leb, ltb, length, take, drop, get_or, replicate}
use Rattle.base.specs.Base.{if, bit, tally, only, those}
use Rattle.field.specs.Field.{◌⊕◌}
use Rattle.code.specs.Block.{byte, block_of, changes, differing}
use Rattle.change.specs.declared.Change.{Change}
use Rattle.change.specs.declared.Positions.{Positions}

-- e at position p, f at position q, and row i at chip i of the card
abbrev pub adds : Change → ℕ → ℕ
adds d r = if (eqb r d.p) d.e 0 ⊕ (if (eqb r d.q) d.f 0 ⊕ if (eqb (r / 9) d.card) (get_or d.rows (r % 9) 0) 0)

unfoldable pub applied : List ℕ → Change → List ℕ
applied b d = if (eqb (length b) 45) (block_of (λ r. byte b r ⊕ adds d r)) b

abbrev pub no_change : Change
no_change = record { card = 0; rows = 0 ∷ 0 ∷ 0 ∷ 0 ∷ 0 ∷ 0 ∷ 0 ∷ 0 ∷ 0 ∷ []; p = 0; e = 0; q = 0; f = 0 }

-- ---- how many bytes it changes
abbrev pub nonzero : ℕ → Bool
nonzero v = not (eqb v 0)

abbrev pub nonzero_at : List ℕ → ℕ → Bool
nonzero_at z i = nonzero (get_or z i 0)

unfoldable pub weight : Change → ℕ
weight d = tally 9 (nonzero_at d.rows) + (bit (nonzero d.e) + bit (nonzero d.f))

pub record WellFormed (d : Change) : Type 0 where
  pub card : d.card < 5
  pub first : (d.e ≡ 0) ⊎ ((d.p < 45) × (d.p / 9 ≢ d.card))
  pub second : (d.f ≡ 0) ⊎ ((d.q < 45) × (d.q / 9 ≢ d.card) × (d.q ≢ d.p))

pub record Counted (d : Change) (n : ℕ) : Type 0 where
  pub weight : n ≡ weight d
  pub changes : WellFormed d → (b : List ℕ) → length b ≡ 45 → n ≡ changes b (applied b d)

-- ---- which bytes it changes
-- p, where something is added there and it stands before card j's chips; where it doesn't
abbrev pub before : ℕ → ℕ → ℕ → List ℕ
before j p e = only (nonzero e && ltb p (9 * j)) p

abbrev pub after : ℕ → ℕ → ℕ → List ℕ
after j p e = only (nonzero e && leb (9 * j) p) p

-- the chips of card j that rows are added to
abbrev pub row_test : List ℕ → ℕ → Bool
row_test z r = ltb r 45 && nonzero_at z (r % 9)

unfoldable pub places : Change → List ℕ
places d =
    before d.card d.p d.e ++ (before d.card d.q d.f ++ (those (9 * d.card) 9 (row_test d.rows)
    ++ (after d.card d.p d.e ++ after d.card d.q d.f)))

unfoldable pub ordered : Change → Change
ordered d = if (ltb d.q d.p) (record { card = d.card; rows = d.rows; p = d.q; e = d.f; q = d.p; f = d.e }) d

abbrev pub positions : Positions → List ℕ
positions ps = take ps.count ps.at

abbrev pub filled : List ℕ → Positions
filled l = record { count = length l; at = l ++ replicate (11 - length l) 0 }

pub record Listed (d : Change) (ps : Positions) : Type 0 where
  pub whole : ps ≡ filled (places (ordered d))
  pub changed : WellFormed d → (b : List ℕ) → length b ≡ 45 → positions ps ≡ differing b (applied b d)

-- a step in which they are listed: l comes after those that are there, and behind it all is as it was
pub record Pushed (l : List ℕ) (ps ps' : Positions) : Type 0 where
  pub count : ps'.count ≡ ps.count + length l
  pub held : positions ps' ≡ positions ps ++ l
  pub behind : drop ps'.count ps'.at ≡ drop ps'.count ps.at
  pub long : length ps'.at ≡ length ps.at

-- ---- the steps in which it is made
abbrev pub AddedAt : ℕ → ℕ → List ℕ → List ℕ → Type 0
AddedAt at x b b' = (length b' ≡ length b) × ((r : ℕ) → r < length b → byte b' r ≡ byte b r ⊕ if (eqb r at) x 0)

abbrev pub RowsAdded : ℕ → List ℕ → List ℕ → List ℕ → Type 0
RowsAdded j z b b' = (length b' ≡ length b) × ((r : ℕ) → r < length b → byte b' r ≡ byte b r ⊕ if (eqb (r / 9) j) (get_or z (r % 9) 0) 0)
