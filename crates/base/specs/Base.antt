-- Words that every layer uses.
--
--   if t a b     a where the test t passes, else b
--   In p l       p is one of the list l; is_in p l: the same as a test
--   Rising l     each of the list is above the one before it
--   Few n ps     at most n positions of a block, none twice
--   bit t        1 where the test t passes, else 0
--   tally n g    how many numbers below n pass the test g
--   those s n g  of the n numbers from s on, those that pass the test g, lowest first; only t p: p alone where the test t passes
--   least n g    the least number below n that passes the test g; n where none does
--   digit r k    binary digit k of r
use Rattle.std.specs.Prelude.{ℕ, zero, suc, ◌+◌, ◌/◌, ◌%◌, ◌^◌, ◌<◌, ◌≡◌, ◌⊎◌, Bool, true, false, ◌||◌, List, [], ◌∷◌, ◌++◌, eqb, ltb}

abbrev pub if : {A : Type 0} → Bool → A → A → A
if true a b = a
if false a b = b

abbrev pub In : ℕ → List ℕ → Type 0
In p [] = ⊥
In p (a ∷ l) = (p ≡ a) ⊎ In p l

abbrev pub is_in : ℕ → List ℕ → Bool
is_in p [] = false
is_in p (a ∷ l) = eqb p a || is_in p l

abbrev pub Rising : List ℕ → Type 0
Rising [] = Unit {0}
Rising (a ∷ l) = ((p : ℕ) → In p l → a < p) × Rising l

abbrev pub Few : ℕ → List ℕ → Type 0
Few n [] = Unit {0}
Few zero (p ∷ ps) = ⊥
Few (suc n) (p ∷ ps) = (p < 45) × (In p ps → ⊥) × Few n ps

abbrev pub bit : Bool → ℕ
bit t = if t 1 0

unfoldable pub tally : ℕ → (ℕ → Bool) → ℕ
tally zero g = 0
tally (suc n) g = bit (g n) + tally n g

abbrev pub only : Bool → ℕ → List ℕ
only t p = if t (p ∷ []) []

unfoldable pub those : ℕ → ℕ → (ℕ → Bool) → List ℕ
those s zero g = []
those s (suc n) g = only (g s) s ++ those (suc s) n g

unfoldable pub least : ℕ → (ℕ → Bool) → ℕ
least zero g = 0
least (suc n) g = if (ltb (least n g) n) (least n g) (if (g n) n (suc n))

abbrev pub digit : ℕ → ℕ → ℕ
digit r k = r / 2 ^ k % 2
