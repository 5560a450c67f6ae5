-- The lawful blocks that a change of one card and of a few chips reaches.
--
--   rules                 how many label rules there are: so many chips can be found beside a card
--   Off j ps              none of them on card j
--   Beside j ps           so few that they can be found beside card j, and none on it
--   keep j ps             those of ps that are not on card j
--   Reached labels j ps   x is lawful, and differs from b only in card j and in the chips ps
use Rattle.std.specs.Prelude.{◌≡◌, ◌⊎◌, ◌≢◌, List, [], ◌∷◌, ℕ, ◌/◌, eqb}
use Rattle.base.specs.Base.{if, In, Few}
use Rattle.code.specs.Block.{Block, Lawful, DifferOnly}

abbrev pub rules : ℕ
rules = 2

abbrev pub Off : ℕ → List ℕ → Type 0
Off j [] = Unit {0}
Off j (p ∷ ps) = (p / 9 ≢ j) × Off j ps

abbrev pub Beside : ℕ → List ℕ → Type 0
Beside j ps = Few rules ps × Off j ps

unfoldable pub keep : ℕ → List ℕ → List ℕ
keep j [] = []
keep j (p ∷ ps) = if (eqb (p / 9) j) (keep j ps) (p ∷ keep j ps)

pub record Reached (labels : List ℕ) (j : ℕ) (ps b x : List ℕ) : Type 0 where
  pub block : Block x
  pub lawful : Lawful labels x
  pub only : DifferOnly (λ p. (p / 9 ≡ j) ⊎ In p ps) b x
