-- The search over cards, while no card is marked: what one card adds, and the answers at the end.
--
--   from_keep, to_keep          the chips on the card itself make no difference
--   passed                      a card that reaches nothing
--   first_found, second_found   one that reaches a block not of the chip kind, the first one or the second
--   none_reads, several_reads, card_reads, chips_reads   the answers
use mathlib.Core.Logic.{◌≢◌, ◌⊎◌, inl, inr}
use mathlib.Core.Path.{◌≡◌, refl, sym, ◌∙◌, subst}
use mathlib.Core.List.{List}
use Prim.Native.Nat.{ℕ, zero, suc, ◌+◌, ◌/◌, ◌<◌, ◌≤◌}
use native.Mathlib.Omega.{arith}
use lib.ListN.{length}
use Rattle.std.proofs.lemmas.Bool.{cases_eq}
use Rattle.std.specs.Prelude.{Option, Some, None}
use Rattle.base.specs.Base.{In, Few}
use Rattle.answer.specs.Answer.{in_card, refused, refused_card}
use Rattle.code.specs.Block.{Block, OneMember}
use Rattle.code.specs.Labels.{LabelSet}
use Rattle.code.specs.Reach.{rules, Beside, keep, Reached}
use Rattle.code.proofs.Few.{in_keep, keep_in, keep_beside, widen}
use Rattle.std.specs.Prelude.{None}
use Rattle.change.specs.Change.{applied, weight}
use Rattle.change.specs.declared.Change.{Change}
use Rattle.change.proofs.Weight.{changes_weight, unmoved, moved}
use Rattle.reading.specs.Allowed.{further, ChipKind}
use Rattle.reading.specs.Reading.{S, reading_answer, Reads}
use Rattle.std.specs.Prelude.{Ok}
use Rattle.reading.proofs.Searches.{covered, covers}
use Rattle.reading.proofs.Facts.{chip_one, reached_one, apart, by_marked, reaches, reached_by}
use Rattle.decode.specs.Equations.{Within}
use Rattle.decode.specs.Search.{strays, chips_kind, NoneBut, Looked, LookedTwice}
use Rattle.decode.proofs.Kind.{formed, chip_yes, chip_no}

-- ---- the chips on card j itself make no difference
module _ (ls : List ℕ) (j : ℕ) (ps b x : List ℕ) where
  pub from_keep : Reached ls j (keep j ps) b x → Reached ls j ps b x
  from_keep h = record {
    block = h.block;
    lawful = h.lawful;
    only = widen (λ p. (p / 9 ≡ j) ⊎ In p (keep j ps)) (λ p. (p / 9 ≡ j) ⊎ In p ps) b x each h.only;
  }
    where
      each : (p : ℕ) → p < 45 → (p / 9 ≡ j) ⊎ In p (keep j ps) → (p / 9 ≡ j) ⊎ In p ps
      each p l (inl e) = inl e
      each p l (inr i) = inr (keep_in j p ps i)

  pub to_keep : Reached ls j ps b x → Reached ls j (keep j ps) b x
  to_keep h = record {
    block = h.block;
    lawful = h.lawful;
    only = widen (λ p. (p / 9 ≡ j) ⊎ In p ps) (λ p. (p / 9 ≡ j) ⊎ In p (keep j ps)) b x each h.only;
  }
    where
      each : (p : ℕ) → p < 45 → (p / 9 ≡ j) ⊎ In p ps → (p / 9 ≡ j) ⊎ In p (keep j ps)
      each p l (inl e) = inl e
      each p l (inr i) = in_keep j p ps i

module _ (ls : List ℕ) (ok : LabelSet ls) (ps : List ℕ) (few : Few rules ps) (b : List ℕ) where
  -- ---- one card more
  more : (j : ℕ) (P : ℕ → Type 0) → (P j ⊎ ((x : List ℕ) → Reached ls j ps b x → ⊥)) → NoneBut ls ps b j P → NoneBut ls ps b (j + 1) P
  more j P n h i l ne x r = pick (cases_eq i j)
    where
      here : i ≡ j → P j ⊎ ((y : List ℕ) → Reached ls j ps b y → ⊥) → ⊥
      here q (inl z) = ne (subst P (sym q) z)
      here q (inr f) = f x (subst (λ (k : ℕ). Reached ls k ps b x) q r)

      pick : (i ≡ j) ⊎ (i ≢ j) → ⊥
      pick (inl q) = here q n
      pick (inr q) = h i (omega arith) ne x r

  pub passed : (j : ℕ) (found : Option ℕ) → ((x : List ℕ) → Reached ls j ps b x → ⊥) → Looked ls ps b j found → Looked ls ps b (j + 1) found
  passed j None n h = more j (λ i. ⊥) (inr n) h
  passed j (Some card) n h = (omega (arith, h.0), h.1, more j (λ i. i ≡ card) (inr n) h.2)

  pub first_found : (j : ℕ) (x : List ℕ) → Reached ls j ps b x → (ChipKind ps b x → ⊥) → Looked ls ps b j None → Looked ls ps b (j + 1) (Some j)
  first_found j x r n h = (omega arith, (x, r, n), more j (λ i. i ≡ j) (inl refl) (λ i l ne. h i l (λ z. z)))

  pub second_found : (j : ℕ) → j < 5 → (x : List ℕ) → Reached ls j ps b x → (card : ℕ) → Looked ls ps b j (Some card) → LookedTwice ls ps b card
  second_found j hj x r card (below, (y, q, n), none) = (
    (
      y,
      x,
      covers ls ps b y card (omega arith) q,
      covers ls ps b x j hj r,
      λ e. n (by_marked ps b y (apart ps b y card j (λ z. omega (arith, below)) q.only
          (subst (λ (z : List ℕ). Reached ls j ps b z) (sym e) r).only)),
    ),
    (reaches ls ps b card (omega arith) y q, λ k l r. let w = (reached_by ls ps b k r).1 in none k (omega (arith, below)) (λ z. omega arith) w.0 w.1),
  )

  -- ---- the answers
  pub none_reads : Looked ls ps b 5 None → Reads ls None ps b b (refused 10) b
  none_reads h = (refl, (λ y m. let w = covered ls ps b y m in h w.0 w.1 (λ z. z) y w.2), refl)

  pub several_reads : (card : ℕ) → LookedTwice ls ps b card → Reads ls None ps b b (refused_card 11 card) b
  several_reads card h = (refl, h.0, h.1, refl)

  module _ (bb : Block b) (j : ℕ) (hj : j < 5) (d : Change) (w : Within j (keep j ps) d) (r : Reached ls j (keep j ps) b (applied b d)) where
    off : Beside j (keep j ps)
    off = keep_beside j ps few

    reached : Reached ls j ps b (applied b d)
    reached = from_keep ls j ps b (applied b d) r

    pub not_chips : further (length ps) < strays d ps → ChipKind ps b (applied b d) → ⊥
    not_chips = chip_no d j hj (keep j ps) w off b bb.long ps (λ p i. keep_in j p ps i)

    pub card_reads : Looked ls ps b 5 (Some j) → Reads ls None ps b b (in_card j (weight d)) (applied b d)
    card_reads (below, (x, q, n), none) =
        let e : x ≡ applied b d = reached_one ls ok ps few b j hj x (applied b d) q reached in (
          (covers ls ps b (applied b d) j hj reached, λ y m. let v = covered ls ps b y m in pick y v.0 v.1 v.2 (cases_eq v.0 j)),
          sym (changes_weight d (formed d j hj (keep j ps) w off) b bb.long),
          subst (λ (z : List ℕ). ChipKind ps b z → ⊥) e n,
          (hj, reached.only),
        )
      where
        pick : (y : List ℕ) (i : ℕ) → i < 5 → Reached ls i ps b y → (i ≡ j) ⊎ (i ≢ j) → y ≡ applied b d
        pick y i hi v (inl z) = reached_one ls ok ps few b j hj y (applied b d) (subst (λ (k : ℕ). Reached ls k ps b y) z v) reached
        pick y i hi v (inr z) = absurd (none i hi z y v)

    pub chips_reads : strays d ps ≤ further (length ps) → Reads ls None ps b b (reading_answer (Ok (chips_kind (weight d)))) (applied b d)
    chips_reads h = go (weight d) refl
      where
        chips : ChipKind ps b (applied b d)
        chips = chip_yes d j hj (keep j ps) w off b bb.long ps (λ p i. keep_in j p ps i) h

        one : OneMember (S ls None ps b) (applied b d)
        one = chip_one ls ok ps few b None tt (applied b d) (covers ls ps b (applied b d) j hj reached) chips

        go : (n : ℕ) → weight d ≡ n → Reads ls None ps b b (reading_answer (Ok (chips_kind n))) (applied b d)
        go zero e = (one, unmoved d (formed d j hj (keep j ps) w off) b bb.long e)
        go (suc n) e = (
          one,
          moved d (formed d j hj (keep j ps) w off) b bb.long (subst (λ (k : ℕ). 1 ≤ k) (sym e) (omega arith)),
          sym e ∙ sym (changes_weight d (formed d j hj (keep j ps) w off) b bb.long),
          chips,
        )
