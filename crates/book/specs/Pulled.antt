-- Order 5 about lists: "We mark the card and pull it, and the chip mark on it stays behind".
--
--   HitsOn k j es    the entries are hits, all on card j in block k
--   pulled           a record put into block k, chip p marked and then its card, and hits; the last one anywhere in the block
--   CardPulled       a get of that block gives the record
--   all_hit          hits of the first m chips of card j; CanBePulled: with all nine such a list can be run
use Rattle.std.specs.Prelude.{ℕ, zero, suc, ◌+◌, ◌*◌, ◌/◌, ◌%◌, ◌≤◌, ◌<◌, ◌≡◌, List, [], ◌∷◌, ◌++◌, length, take}
use Rattle.answer.specs.Answer.{Answer}
use Rattle.marks.specs.declared.MarkCall.TheVariants.{PlaceChip, PlaceCard}
use Rattle.book.specs.Book.{put, get, mark, Entry, call, write, hit, says, Seen, fresh_state, Ran}
use Rattle.book.specs.Kept.{Corrected}
use Rattle.book.specs.Possible.{Bytes}

-- any bytes of the card, in any order and to any values
abbrev pub HitsOn : ℕ → ℕ → List Entry → Type 0
HitsOn k j [] = Unit {0}
HitsOn k j (hit i x ∷ es) = (i / 45 ≡ k) × (i % 45 / 9 ≡ j) × HitsOn k j es
HitsOn k j (call c ∷ es) = ⊥
HitsOn k j (write a v out ∷ es) = ⊥

abbrev pub pulled : ℕ → List ℕ → ℕ → List Entry → ℕ → ℕ → List Entry
pulled k rec p hits i x =
    call (put k rec) ∷ call (mark (PlaceChip p)) ∷ call (mark (PlaceCard (p / 9))) ∷ (hits ++ (hit (45 * k + i) x ∷ []))

-- "and takes away the one further chip": no longer
abbrev pub CardPulled : Type 0
CardPulled = (n k : ℕ) → n ≤ 1024 → k < n → (rec out : List ℕ) → length rec ≡ 34 → length out ≡ 45 → (p : ℕ) → p < 45
    → (hits : List Entry) → HitsOn k (p / 9) hits → (i x : ℕ) → i < 45 → (ss : List Seen) (s : Seen)
    → Ran (fresh_state n) (pulled k rec p hits i x ++ (call (get k out) ∷ [])) (ss ++ (s ∷ []))
    → (a : Answer) × (s.said ≡ says a) × Corrected a × (take 34 s.output ≡ rec)

-- ---- it is about something: all nine bytes of the card, and any further one
abbrev pub all_hit : ℕ → ℕ → ℕ → ℕ → List Entry
all_hit k j y zero = []
all_hit k j y (suc m) = hit (45 * k + (9 * j + m)) y ∷ all_hit k j y m

abbrev pub CanBePulled : Type 0
CanBePulled = (n k : ℕ) → k < n → (rec out : List ℕ) → Bytes rec → (p : ℕ) → p < 45 → (y : ℕ) → y < 256 → (i x : ℕ) → i < 45 → x < 256
    → HitsOn k (p / 9) (all_hit k (p / 9) y 9)
    × ((ss : List Seen) × Ran (fresh_state n) (pulled k rec p (all_hit k (p / 9) y 9) i x ++ (call (get k out) ∷ [])) ss)
