use mathlib.Core.Path.{◌≡◌, refl, ap, ◌∙◌, subst}
use mathlib.Core.Bool.{true, false}
use mathlib.Core.List.{List}
use Prim.Native.Nat.{ℕ, ◌+◌, ◌<◌}
use native.Mathlib.Omega.{arith}
use Rattle.base.proofs.Tally.{passes, fails}
use Rattle.code.specs.Reach.{keep}
use Rattle.marks.specs.Marks.{marked_chips}
use Rattle.std.specs.Prelude.{None}
use Rattle.sums.specs.Sums.{rows_of, taken, next}
use Rattle.sums.proofs.Next.{next_taken}
use Rattle.std.specs.Prelude.{Err}
use Rattle.reading.specs.declared.Fault.TheVariants.{Several, Refused}
use Rattle.marks.proofs.Laws.{few_chips}
use Rattle.decode.specs.Equations.{fits_by, Solves}
use Rattle.decode.proofs.Answer.{refusal}
use Rattle.decode.proofs.Cards.{none_reads, several_reads}
use Rattle.decode.proofs.Turns.{set_of, told, beside, sums_of_pair, few_enough, too_many, unfit, found_chips, second_card, held_first, held_passed, held_answers}
use Rattle.change.specs.declared.Change.{Change}
use Rattle.marks.specs.declared.Marks.{Marks}
use Rattle.sums.specs.declared.Sums.{Sums}
use Rattle.decode.proofs.over_cards.Goals as goal
use Rattle.decode.proofs.over_cards.Goals.{then-fits+else-of_chip_kind+in_default, else-fits}

-- ---- a turn
-- the change solves for the marked chips off the card
solved : (ls : List ℕ) (s : Sums) (m : Marks) (j : ℕ) (rows qs : List ℕ) (t₁ t₂ : ℕ) (d : Change) → rows ≡ rows_of s → qs ≡ keep j (marked_chips m)
    → Solves ls rows j qs t₁ t₂ d → Solves ls (rows_of s) j (keep j (marked_chips m)) t₁ t₂ d
solved ls s m j rows qs t₁ t₂ d r e v =
    subst (λ (ps : List ℕ). Solves ls (rows_of s) j ps t₁ t₂ d) e (subst (λ (z : List ℕ). Solves ls z j qs t₁ t₂ d) r v)

pub fits-requires : goal.fits-requires
fits-requires c = beside c.args.m c.requires c.cards.j _ c.off_card-w.ensures

pub solve-d-requires-clause-off : goal.solve-d-requires-clause-off
solve-d-requires-clause-off c = beside c.args.m c.requires c.cards.j _ c.off_card-w.ensures

pub returns-then-of_chip_kind : goal.returns-then-of_chip_kind
returns-then-of_chip_kind c =
    let ls = c.labels-labels.result in
    let s = c.args.s in
    let m = c.args.m in
    let j = c.cards.j in
    let ok = set_of ls c.labels-labels.ensures in
    let here = c.cards-test.true in
    let at = sums_of_pair ls ok c.labels-labels.ensures s j here _ refl _ _ _ _ _ (c.cards.invariant.0 here) c.once.ensures c.squared.ensures
    c.add.ensures c.add-in-cards.ensures in
    let v = solved ls s m j _ _ c.add.result c.add-in-cards.result c.solve-d.result c.rows-rows.ensures c.off_card-w.ensures c.solve-d.ensures in
    told ls c.labels-labels.ensures _ _ _ _
    (found_chips ls ok (marked_chips m) (few_chips m c.requires) s j here _ _ at c.solve-d.result v
    (few_enough m c.requires c.solve-d.result _ c.of_chip_kind.ensures c.if-of_chip_kind.true) c.count-n.result c.count-n.ensures.weight _
    c.chips_kind.ensures)

-- a second card reaches a block
pub returns-in-Some : goal.returns-in-Some
returns-in-Some c =
    let ls = c.labels-labels.result in
    let s = c.args.s in
    let m = c.args.m in
    let j = c.cards.j in
    let ok = set_of ls c.labels-labels.ensures in
    let here = c.cards-test.true in
    let few = few_chips m c.requires in
    let lowest = c.in-Some.lowest in
    let at = sums_of_pair ls ok c.labels-labels.ensures s j here _ refl _ _ _ _ _ (c.cards.invariant.0 here) c.once.ensures c.squared.ensures
    c.add.ensures c.add-in-cards.ensures in
    let v = solved ls s m j _ _ c.add.result c.add-in-cards.result c.solve-d.result c.rows-rows.ensures c.off_card-w.ensures c.solve-d.ensures in
    let held = rw c.in-Some.is at c.cards.invariant.1 in
    told ls c.labels-labels.ensures _ _ _ _
    (refusal ls None (marked_chips m) s (Err (Several lowest.card)) (Several lowest.card) refl
    (λ b k. several_reads ls ok (marked_chips m) few b lowest.card
    (second_card ls ok (marked_chips m) few s j here _ _ at c.solve-d.result v b k lowest.card (held.1 b k))))

pub cards-preserved : goal.cards-preserved
cards-preserved c =
    let ls = c.labels-labels.result in
    let s = c.args.s in
    let m = c.args.m in
    let ps = marked_chips m in
    let j = c.cards.j in
    let ok = set_of ls c.labels-labels.ensures in
    let few = few_chips m c.requires in
    let here = c.cards-test.true in
    let t₁ = c.add.result in
    let t₂ = c.add-in-cards.result in
    let at = sums_of_pair ls ok c.labels-labels.ensures s j here _ refl _ _ _ _ _ (c.cards.invariant.0 here) c.once.ensures c.squared.ensures
    c.add.ensures c.add-in-cards.ensures in
    let own : j + 1 < 5 → c.next_card-own.result ≡ taken s (j + 1) =
    λ z. c.next_card-own.ensures ∙ ap next (c.cards.invariant.0 here) ∙ next_taken s j (omega (arith, c.well_formed)) (omega (arith, z)) in
    elim c.if-fits.branch [
      | then-fits+else-of_chip_kind+in_default w ↦
          let many = too_many m c.requires w.solve-d.result _ w.of_chip_kind.ensures w.if-of_chip_kind.false in
          let v = solved ls s m j _ _ t₁ t₂ w.solve-d.result c.rows-rows.ensures c.off_card-w.ensures w.solve-d.ensures in
          let fit = subst (λ (qs : List ℕ). fits_by ls j qs t₁ t₂ ≡ true) c.off_card-w.ensures (passes c.fits.ensures w.if-fits.true) in
          rw w.held-is (own, held_first ls ok ps few s j here t₁ t₂ at w.solve-d.result v fit many (rw w.in_default.is at c.cards.invariant.1))
      | else-fits w ↦
          rw w.held-is (
            own,
            held_passed ls ok ps few s j c.cards.held
                (λ b k. unfit ls ok ps few s j here t₁ t₂ at
                (subst (λ (qs : List ℕ). fits_by ls j qs t₁ t₂ ≡ false) c.off_card-w.ensures (fails c.fits.ensures w.if-fits.false)) b k)
                c.cards.invariant.1,
          )
    ]

-- ---- after the loop
pub returns-in_default-held : goal.returns-in_default-held
returns-in_default-held c =
    let ls = c.labels-labels.result in
    let m = c.args.m in
    let e : c.cards.j ≡ 5 = omega (arith, c.cards-test.false, c.cards.auto.j-end) in
    let held = rw (e, c.in_default-held.is) at c.cards.invariant.1 in
    told ls c.labels-labels.ensures _ _ _ _
    (refusal ls None (marked_chips m) c.args.s (Err c.into.result) (Refused 10) (ap Err c.into.ensures)
    (λ b k. none_reads ls (set_of _ c.labels-labels.ensures) (marked_chips m) (few_chips m c.requires) b (held b k)))

pub returns : goal.returns
returns c =
    let m = c.args.m in
    let e : c.cards.j ≡ 5 = omega (arith, c.cards-test.false, c.cards.auto.j-end) in
    let held = rw (e, c.in-Some-held.is) at c.cards.invariant.1 in
    told _ c.labels-labels.ensures _ _ _ _
    (held_answers c.labels-labels.result (set_of _ c.labels-labels.ensures) (marked_chips m) (few_chips m c.requires) c.args.s c.in-Some-held.d held c.count-n-2.result
    c.count-n-2.ensures.weight)
