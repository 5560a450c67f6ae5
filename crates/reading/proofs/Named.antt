-- The card that is named with 11.
--
--   lowest_of          where a card reaches a lawful block, one that is no higher is the lowest that does
--   two_cards          two members of S are reached by two cards; not_last: of which the lowest is not card 4
--   still_allowed, only_the_card, never_card_4, all_or_one, unmarked_names_0   THE STATEMENTS
use mathlib.Core.Path.{refl, ap, subst}
use mathlib.Core.Logic.{◌≢◌, ◌⊎◌, inl, inr}
use mathlib.Core.List.{List, []}
use Prim.Native.Nat.{ℕ, zero, suc, ◌≤◌, ◌<◌}
use native.Mathlib.Omega.{arith}
use lib.Dec.{T}
use Rattle.std.proofs.lemmas.Bool.{cases_lt}
use Rattle.base.specs.Base.{Few}
use Rattle.base.proofs.Tests.{Found, find}
use Rattle.answer.specs.Answer.{done, clean, in_chips, in_card, counted, refused, refused_card}
use Rattle.code.specs.Block.{Block, TwoMembers}
use Rattle.code.specs.Labels.{built_in, LabelSet}
use Rattle.code.specs.Reach.{rules, keep, Reached}
use Rattle.code.proofs.BuiltIn.{built_in_set}
use Rattle.code.proofs.Reach.{fits, closed, candidate_few, reached_few}
use Rattle.code.proofs.AllOrOne.{all_fit}
use Rattle.std.specs.Prelude.{None, Some}
use Rattle.reading.specs.Reading.{S, Reaches, LowestReaching}
use Rattle.reading.specs.Named.{StillAllowed, OnlyTheCard, NeverCard4, AllOrOne, UnmarkedNames0}
use Rattle.reading.proofs.Searches.{covered}
use Rattle.reading.proofs.Facts.{not_several, reached_one, reaches, reached_by}
use Rattle.reading.proofs.Exists.{reached_or_not}

pub still_allowed : StillAllowed
still_allowed ls c ps b out clean x h = h
still_allowed ls c ps b out (in_chips n) x h = h
still_allowed ls c ps b out (in_card j n) x h = h
still_allowed ls c ps b out (refused n) x h = h
still_allowed ls c ps b out (refused_card n j) x (e, two, low, z) = (e, two, low.0, z)
still_allowed ls c ps b out done x h = h
still_allowed ls c ps b out (counted v w y z t) x h = h

module _ (ls : List ℕ) (ok : LabelSet ls) (ps : List ℕ) (few : Few rules ps) (b : List ℕ) where
  lowest_of : Block b → (i : ℕ) → Reaches ls ps b i → (j : ℕ) × (j ≤ i) × LowestReaching ls ps b j
  lowest_of bb i r = go (find (Reaches ls ps b) 5 (λ j l. at j l (reached_or_not ls ok ps few b bb j l ps few)))
    where
      at : (j : ℕ) → j < 5 → ((x : List ℕ) × Reached ls j ps b x) ⊎ ((x : List ℕ) → Reached ls j ps b x → ⊥) → Reaches ls ps b j ⊎ (Reaches ls ps b j → ⊥)
      at j l (inl (x, h)) = inl (reaches ls ps b j l x h)
      at j l (inr none) = inr (λ q. let w = reached_by ls ps b j q in none w.1.0 w.1.1)

      go : Found (Reaches ls ps b) 5 → (j : ℕ) × (j ≤ i) × LowestReaching ls ps b j
      go (inr none) = absurd (none i r.0 r)
      go (inl (j, l, h, none)) = below (cases_lt i j)
        where
          below : (i < j) ⊎ (j ≤ i) → (j : ℕ) × (j ≤ i) × LowestReaching ls ps b j
          below (inl z) = absurd (none i z r)
          below (inr z) = (j, z, (h, none))

  two_cards : TwoMembers (S ls None ps b) → (i : ℕ) × (k : ℕ) × (i ≢ k) × Reaches ls ps b i × Reaches ls ps b k
  two_cards (x, y, s, t, ne) =
      let w = covered ls ps b x s in
      let v = covered ls ps b y t in (
        w.0,
        v.0,
        (λ e. ne (reached_one ls ok ps few b v.0 v.1 x y (subst (λ (j : ℕ). Reached ls j ps b x) e w.2) v.2)),
        reaches ls ps b w.0 w.1 x w.2,
        reaches ls ps b v.0 v.1 y v.2,
      )

  -- of two cards that reach one, the lowest is not the last
  not_last : (i k : ℕ) → i ≢ k → Reaches ls ps b i → Reaches ls ps b k → (j : ℕ) → LowestReaching ls ps b j → j < 4
  not_last i k ne r q j (h, none) = pick (cases_lt i j) (cases_lt k j)
    where
      pick : (i < j) ⊎ (j ≤ i) → (k < j) ⊎ (j ≤ k) → j < 4
      pick (inl l) o = absurd (none i l r)
      pick (inr l) (inl m) = absurd (none k m q)
      pick (inr l) (inr m) = both (cases_lt i k) (cases_lt k i)
        where
          both : (i < k) ⊎ (k ≤ i) → (k < i) ⊎ (i ≤ k) → j < 4
          both (inl z) o = omega (arith, q.0)
          both (inr z) (inl o) = omega (arith, r.0)
          both (inr z) (inr o) = absurd (ne (omega arith))

pub only_the_card : OnlyTheCard
only_the_card ls ok c ps few b bb out clean x h = (clean, inl refl, h)
only_the_card ls ok c ps few b bb out (in_chips n) x h = (in_chips n, inl refl, h)
only_the_card ls ok c ps few b bb out (in_card j n) x h = (in_card j n, inl refl, h)
only_the_card ls ok c ps few b bb out (refused n) x h = (refused n, inl refl, h)
only_the_card ls ok c ps few b bb out (refused_card n i) x (e, two, r, z) =
    let w = lowest_of ls ok ps few b bb i r in
    (refused_card 11 w.0, inr (i, w.0, ap (λ (k : ℕ). refused_card k i) e, refl, w.1), (refl, two, w.2, z))
only_the_card ls ok c ps few b bb out done x h = absurd h
only_the_card ls ok c ps few b bb out (counted v w y z t) x h = absurd h

pub never_card_4 : NeverCard4
never_card_4 ls ok (Some m) hm ps few b out n j x (e, two, low, z) = absurd (not_several ls ok m hm b ps few two)
never_card_4 ls ok None r ps few b out n j x (e, two, low, z) =
    let w = two_cards ls ok ps few b two in
    not_last ls ok ps few b w.0 w.1 w.2 w.3 w.4 j low

-- ---- the built-in labels, with no marks
pub all_or_one : AllOrOne
unfolding keep
all_or_one b bb i j ne r q k hk =
    let f = all_fit b i j r.0 q.0 ne (fit i r) (fit j q) k hk in
    reaches built_in [] b k hk (closed built_in k [] b) (reached_few built_in built_in_set k hk b bb [] tt f)
  where
    fit : (i : ℕ) → Reaches built_in [] b i → T (fits built_in i [] b)
    fit i r = let w = reached_by built_in [] b i r in (candidate_few built_in built_in_set i w.0 b bb [] tt w.1.0 w.1.1).0

pub unmarked_names_0 : UnmarkedNames0
unmarked_names_0 b bb out n zero x h = refl
unmarked_names_0 b bb out n (suc j) x (e, two, low, z) =
    let w = two_cards built_in built_in_set [] tt b two in
    absurd (low.1 0 (omega arith) (all_or_one b bb w.0 w.1 w.2 w.3 w.4 0 (omega arith)))
