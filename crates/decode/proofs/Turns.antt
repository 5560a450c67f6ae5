-- A turn of the search over cards, with marked chips.
--
--   set_of, told              the built-in labels are a label set, and an answer under them
--   beside                    the marked chips off a card can be found beside it
--   sums_by, sums_of_pair     the reduced sums, as the code adds them; and as it has both from one pair
--   few_enough, too_many      the test of the chip kind, as the code makes it
--   unfit, found_chips, found_card, second_card   what card j adds: nothing, a block by chips, a first or a second block that is not
--   card_answers              the answer, where one card reaches a block
--   held_first, held_passed, held_answers   the same of the change that is held from card to card
use mathlib.Core.Path.{◌≡◌, refl, sym, ap, ◌∙◌, subst}
use mathlib.Core.Bool.{Bool, true, false}
use mathlib.Core.List.{List}
use Prim.Native.Nat.{ℕ, ◌+◌, ◌<◌, ◌≤◌}
use lib.Dec.{leb}
use lib.ListN.{length}
use Rattle.std.specs.Prelude.{Option, Some, None}
use borrow.Author.Tests.{leb-true, leb-false}
use Rattle.base.specs.Base.{Few}
use Rattle.field.specs.Field.{◌⊕◌}
use Rattle.answer.specs.Answer.{in_card}
use Rattle.code.specs.Labels.{built_in, LabelSet}
use Rattle.code.specs.Reach.{rules, Beside, keep, Reached}
use Rattle.code.proofs.BuiltIn.{built_in_set}
use Rattle.code.proofs.Few.{keep_beside}
use Rattle.marks.specs.Marks.{marked_chips, LawfulMarks}
use Rattle.std.specs.Prelude.{None}
use Rattle.marks.specs.declared.Marks.{Marks}
use Rattle.marks.proofs.Laws.{chips_counted, few_chips}
use Rattle.pairs.specs.Words.{byte_of, at_both, spread, gathered, at_point}
use Rattle.pairs.proofs.Fold.{once_from, squared_from}
use Rattle.sums.specs.Sums.{rows_of, ReducedSums}
use Rattle.sums.specs.declared.Sums.{Sums}
use Rattle.change.specs.Change.{applied, weight}
use Rattle.change.specs.declared.Change.{Change}
use Rattle.reading.specs.Allowed.{further}
use Rattle.reading.specs.Reading.{Reads}
use Rattle.reading.specs.declared.Kind.{Kind}
use Rattle.reading.specs.declared.Kind.TheVariants.{OneCard}
use Rattle.std.specs.Prelude.{Ok}
use Rattle.decode.specs.Equations.{fits_by, Solves}
use Rattle.decode.specs.Search.{Known, SumsAt, strays, chips_kind, Looked, LookedTwice, Held}
use Rattle.decode.specs.Decode.{Decoded, Answers}
use Rattle.decode.proofs.Kind.{formed}
use Rattle.decode.proofs.Describe.{unsolved}
use Rattle.decode.proofs.Answer.{correction, known_beside}
use Rattle.decode.proofs.Alone.{sums_at}
use Rattle.decode.proofs.Cards.{passed, from_keep, to_keep, first_found, second_found, not_chips, card_reads, chips_reads}

pub set_of : (ls : List ℕ) → ls ≡ built_in → LabelSet ls
set_of ls is = subst LabelSet (sym is) built_in_set

pub told : (ls : List ℕ) → ls ≡ built_in → (c : Option ℕ) (ps : List ℕ) (s : Sums) (r : Decoded) → Answers ls c ps s r → Answers built_in c ps s r
told ls is c ps s r a = subst (λ (l : List ℕ). Answers l c ps s r) is a

pub beside : (m : Marks) → LawfulMarks m → (j : ℕ) (qs : List ℕ) → qs ≡ keep j (marked_chips m) → Beside j qs
beside m lawful j qs e = subst (Beside j) (sym e) (keep_beside j (marked_chips m) (few_chips m lawful))

pub sums_by : (ls : List ℕ) → LabelSet ls → (s : Sums) (j : ℕ) → j < 5 → (words : List ℕ) → words ≡ spread ls → (z : List ℕ) → z ≡ rows_of s
    → (u a c t₁ t₂ : ℕ) → u ≡ gathered z words j → a ≡ at_point 2 8 u → c ≡ at_point 4 8 u → t₁ ≡ s.once ⊕ a → t₂ ≡ s.squared ⊕ c
    → SumsAt ls s j t₁ t₂
sums_by ls ok s j hj words w z ez u a c t₁ t₂ eu ea ec e₁ e₂ b k =
    let h = sums_at ls ok s j hj words w u (eu ∙ ap (λ (y : List ℕ). gathered y words j) ez) b k in
    subst (λ (x : ℕ). ReducedSums ls b j x t₂) (sym (e₁ ∙ ap (λ (x : ℕ). s.once ⊕ x) ea))
    (subst (ReducedSums ls b j (s.once ⊕ at_point 2 8 u)) (sym (e₂ ∙ ap (λ (x : ℕ). s.squared ⊕ x) ec)) h)

pub sums_of_pair : (ls : List ℕ) → LabelSet ls → ls ≡ built_in → (s : Sums) (j : ℕ) → j < 5 → (z : List ℕ) → z ≡ rows_of s
    → (own a c t₁ t₂ : ℕ) → own ≡ at_both (gathered z (spread built_in) j) → a ≡ byte_of own 0 → c ≡ byte_of own 4
    → t₁ ≡ s.once ⊕ a → t₂ ≡ s.squared ⊕ c → SumsAt ls s j t₁ t₂
sums_of_pair ls ok is s j hj z ez own a c t₁ t₂ eo ea ec e₁ e₂ =
    let u : ℕ = gathered z (spread built_in) j in
    sums_by ls ok s j hj (spread built_in) (ap spread (sym is)) z ez u a c t₁ t₂ refl
    (ea ∙ ap (λ (v : ℕ). byte_of v 0) eo ∙ once_from u) (ec ∙ ap (λ (v : ℕ). byte_of v 4) eo ∙ squared_from u) e₁ e₂

module _ (m : Marks) (lawful : LawfulMarks m) (d : Change) (t : Bool) (e : t ≡ leb (strays d (marked_chips m)) (further m.count)) where
  same_further : further m.count ≡ further (length (marked_chips m))
  same_further = ap further (sym (chips_counted m lawful))

  pub few_enough : t ≡ true → strays d (marked_chips m) ≤ further (length (marked_chips m))
  few_enough q =
      subst (λ (n : ℕ). strays d (marked_chips m) ≤ n) same_further (leb-true (strays d (marked_chips m)) (further m.count) (sym e ∙ q))

  pub too_many : t ≡ false → further (length (marked_chips m)) < strays d (marked_chips m)
  too_many q =
      subst (λ (n : ℕ). n < strays d (marked_chips m)) same_further (leb-false (strays d (marked_chips m)) (further m.count) (sym e ∙ q))

-- ---- card j
module _ (ls : List ℕ) (ok : LabelSet ls) (ps : List ℕ) (few : Few rules ps) (s : Sums) (j : ℕ) (hj : j < 5) (t₁ t₂ : ℕ) (at : SumsAt ls s j t₁ t₂) where
  off : Beside j (keep j ps)
  off = keep_beside j ps few

  pub unfit : fits_by ls j (keep j ps) t₁ t₂ ≡ false → (b : List ℕ) → Known ls b s → (x : List ℕ) → Reached ls j ps b x → ⊥
  unfit e b k x r = unsolved ls b (rows_of s) j hj t₁ t₂ (known_beside ls b ok s k j t₁ t₂ at) (keep j ps) off e x (to_keep ls j ps b x r)

  module _ (d : Change) (v : Solves ls (rows_of s) j (keep j ps) t₁ t₂ d) where
    reach : (b : List ℕ) → Known ls b s → Reached ls j (keep j ps) b (applied b d)
    reach b k = v.reached b (known_beside ls b ok s k j t₁ t₂ at)

    pub found_chips : strays d ps ≤ further (length ps) → (n : ℕ) → n ≡ weight d → (kind : Kind) → kind ≡ chips_kind n
        → Answers ls None ps s (Ok (record { kind = kind; change = d }))
    found_chips h n en kind q =
        subst (λ (x : Kind). Answers ls None ps s (Ok (record { kind = x; change = d }))) (sym (q ∙ ap chips_kind en))
        (correction ls None ps s (chips_kind (weight d)) d (formed d j hj (keep j ps) v.within off)
        (λ b k. chips_reads ls ok ps few b k.block j hj d v.within (reach b k) h))

    pub found_card : further (length ps) < strays d ps → (b : List ℕ) → Known ls b s → Looked ls ps b j None → Looked ls ps b (j + 1) (Some j)
    found_card h b k =
        first_found ls ok ps few b j (applied b d) (from_keep ls j ps b (applied b d) (reach b k))
        (not_chips ls ok ps few b k.block j hj d v.within (reach b k) h)

    pub second_card : (b : List ℕ) → Known ls b s → (card : ℕ) → Looked ls ps b j (Some card) → LookedTwice ls ps b card
    second_card b k card = second_found ls ok ps few b j hj (applied b d) (from_keep ls j ps b (applied b d) (reach b k)) card

    pub card_answers : (n : ℕ) → n ≡ weight d → ((b : List ℕ) → Known ls b s → Looked ls ps b 5 (Some j))
        → Answers ls None ps s (Ok (record { kind = OneCard j n; change = d }))
    card_answers n en looked =
        correction ls None ps s (OneCard j n) d (formed d j hj (keep j ps) v.within off)
        (λ b k. subst (λ (x : ℕ). Reads ls None ps b b (in_card j x) (applied b d)) (sym en)
        (card_reads ls ok ps few b k.block j hj d v.within (reach b k) (looked b k)))

-- ---- what is held from card to card
module _ (ls : List ℕ) (ok : LabelSet ls) (ps : List ℕ) (few : Few rules ps) (s : Sums) where
  -- card j reaches a block, the first one, and not by chips
  pub held_first : (j : ℕ) → j < 5 → (t₁ t₂ : ℕ) → SumsAt ls s j t₁ t₂ → (d : Change) → Solves ls (rows_of s) j (keep j ps) t₁ t₂ d
      → fits_by ls j (keep j ps) t₁ t₂ ≡ true → further (length ps) < strays d ps → Held ls s ps j None → Held ls s ps (j + 1) (Some d)
  held_first j hj t₁ t₂ at d v fit many h = there (sym v.within.card)
    where
      there : j ≡ d.card → Held ls s ps (j + 1) (Some d)
      there e = subst (λ (i : ℕ). (i < 5) × ((b : List ℕ) → Known ls b s → Looked ls ps b (j + 1) (Some i))
          × ((t₁ : ℕ) × (t₂ : ℕ) × SumsAt ls s i t₁ t₂ × (fits_by ls i (keep i ps) t₁ t₂ ≡ true) × Solves ls (rows_of s) i (keep i ps) t₁ t₂ d)) e
          (hj, (λ b k. found_card ls ok ps few s j hj t₁ t₂ at d v many b k (h b k)), (t₁, t₂, at, fit, v))

  -- it reaches none
  pub held_passed : (j : ℕ) (held : Option Change) → ((b : List ℕ) → Known ls b s → (x : List ℕ) → Reached ls j ps b x → ⊥)
      → Held ls s ps j held → Held ls s ps (j + 1) held
  held_passed j None n h = λ b k. passed ls ok ps few b j None (n b k) (h b k)
  held_passed j (Some d) n h = (h.0, (λ b k. passed ls ok ps few b j (Some d.card) (n b k) (h.1 b k)), h.2)

  -- the answer, where one card reaches a block
  pub held_answers : (d : Change) → Held ls s ps 5 (Some d) → (n : ℕ) → n ≡ weight d
      → Answers ls None ps s (Ok (record { kind = OneCard d.card n; change = d }))
  held_answers d h n en = let v = h.2 in card_answers ls ok ps few s d.card h.0 v.0 v.1 v.2 d v.4 n en h.1
