-- The rule of order 5 against the rule before it.
--
--   fewer         the old rule counted as many marks, or more; wider: and so allowed no other changes beside a card
--   only_grows, one_stays, never_several, corrected_still, same_without_card, same_beside_card   THE STATEMENTS
use mathlib.Core.Path.{sym, subst}
use mathlib.Core.List.{List}
use Prim.Native.Nat.{ℕ, ◌≤◌}
use Rattle.answer.specs.Answer.{done, clean, in_chips, in_card, counted, refused, refused_card}
use Rattle.code.specs.Block.{TwoMembers}
use Rattle.code.proofs.Few.{keep_short}
use Rattle.std.specs.Prelude.{None, Some}
use Rattle.reading.specs.Allowed.{u, further_beside, BesideUpTo, BesideKind, CardChanged}
use Rattle.reading.specs.Reading.{LawfulIn, S, LowestReaching, ReadsBy}
use Rattle.reading.specs.Before.{u_before, AllowedBefore, SBefore}
use Rattle.reading.specs.Before.{OnlyGrows, OneStays, NeverSeveral, CorrectedStill, SameWithoutCard, SameBesideCard}
use Rattle.reading.proofs.Beside.{beside_fewer, more_further, u_off}
use Rattle.reading.proofs.Facts.{card_one, not_several}

-- fewer marks count now, or as many
fewer : (j : ℕ) (ps : List ℕ) → u (Some j) ps ≤ u_before (Some j) ps
fewer j ps = keep_short j ps

wider : (j : ℕ) (ps b x : List ℕ) → AllowedBefore (Some j) ps b x → BesideKind j ps b x
wider j ps b x =
    more_further j ps b x (further_beside (u_before (Some j) ps)) (further_beside (u (Some j) ps))
    (beside_fewer (u (Some j) ps) (u_before (Some j) ps) (fewer j ps))

pub only_grows : OnlyGrows
only_grows ls None ps b x s = s
only_grows ls (Some j) ps b x s = record { block = s.block; lawful = s.lawful; allowed = wider j ps b x s.allowed }

pub one_stays : OneStays
one_stays ls ok None r ps few b x one = one
one_stays ls ok (Some j) r ps few b x one =
    let s = only_grows ls (Some j) ps b x one.0 in
    (s, λ y t. card_one ls ok ps few b j r y x t s)

pub never_several : NeverSeveral
never_several ls ok j hj ps few b = ((λ (x, y, s, t, ne). now (x, y, grown x s, grown y t, ne)), now)
  where
    now : TwoMembers (S ls (Some j) ps b) → ⊥
    now = not_several ls ok j hj b ps few

    grown : (x : List ℕ) → SBefore ls (Some j) ps b x → S ls (Some j) ps b x
    grown x = only_grows ls (Some j) ps b x

pub corrected_still : CorrectedStill
corrected_still ls ok None r ps few b out a x z h = h
corrected_still ls ok (Some j) r ps few b out clean x z h = (one_stays ls ok (Some j) r ps few b x h.0, h.1)
corrected_still ls ok (Some j) r ps few b out (in_chips n) x z h =
    (one_stays ls ok (Some j) r ps few b x h.0, h.1, h.2, (wider j ps b x h.3.0, h.3.1))
corrected_still ls ok (Some j) r ps few b out (in_card i n) x z h =
    (one_stays ls ok (Some j) r ps few b x h.0, h.1, (λ k. h.2 (h.0.0.allowed, k.1)), h.3)
corrected_still ls ok (Some j) r ps few b out (refused n) x z h = absurd (z h.0)
corrected_still ls ok (Some j) r ps few b out (refused_card n i) x z h = absurd ((never_several ls ok j r ps few b).0 h.1)
corrected_still ls ok (Some j) r ps few b out done x z h = absurd h
corrected_still ls ok (Some j) r ps few b out (counted u v w y t) x z h = absurd h

pub same_without_card : SameWithoutCard
same_without_card ls ps b out a x = ((λ h. h), λ h. h)

pub same_beside_card : SameBesideCard
same_beside_card ls j ps off b out a x = (subst By (sym (u_off j ps off)), subst By (u_off j ps off))
  where
    -- the reading, n marks being counted
    By : ℕ → Type 0
    By n =
        ReadsBy (LawfulIn ls (λ y. BesideUpTo (further_beside n) j ps b y)) (λ y. BesideUpTo (further_beside n) j ps b y × (CardChanged j b y → ⊥))
        (LowestReaching ls ps b) (Some j) ps b out a x
