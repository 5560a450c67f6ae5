-- The marked card's reduced sums, and one search: with the marked chips off the card, or, where there are none, beside the card alone.
use mathlib.Core.Logic.{◌≢◌}
use mathlib.Core.Path.{◌≡◌, sym, ap, subst}
use Rattle.std.specs.Prelude.{Err}
use mathlib.Core.Bool.{false}
use mathlib.Core.List.{List}
use Prim.Native.Nat.{ℕ, ◌<◌}
use native.Mathlib.Omega.{arith}
use Rattle.base.proofs.Tally.{clash, fails}
use Rattle.code.specs.Labels.{built_in}
use Rattle.code.specs.Reach.{keep}
use Rattle.marks.specs.Marks.{marked_chips, LawfulMarks}
use Rattle.std.specs.Prelude.{Some}
use Rattle.marks.specs.declared.Marks.{Marks}
use Rattle.sums.specs.Sums.{rows_of}
use Rattle.sums.specs.declared.Sums.{Sums}
use Rattle.marks.proofs.Laws.{few_chips}
use Rattle.decode.specs.Equations.{fits_by, Solves, chips_off}
use Rattle.decode.specs.Decode.{Answers}
use Rattle.decode.specs.Decode.{Decoded}
use Rattle.decode.specs.declared.chips.OffCard.{OffCard}
use Rattle.decode.specs.declared.chips.OffCard.TheVariants.{Zero}
use Rattle.decode.proofs.Turns.{set_of, told, beside, sums_of_pair}
use Rattle.decode.proofs.Beside.{none_answers, found_answers, unmarked_answers, beside_marked}
use Rattle.decode.proofs.under_card.Goals as goal
use Rattle.decode.proofs.under_card.Goals.{in-Zero, in_default}

-- what is answered for the marked chips off the card is the answer
for_chips : (ls : List ℕ) → ls ≡ built_in → (m : Marks) → LawfulMarks m → (j : ℕ) → j < 5 → (qs : List ℕ) → qs ≡ keep j (marked_chips m)
    → (s : Sums) (r : Decoded) → Answers ls (Some j) qs s r → Answers built_in (Some j) (marked_chips m) s r
for_chips ls is m lawful j hj qs e s r a =
    told ls is (Some j) (marked_chips m) s r
    (unmarked_answers ls (set_of ls is) j hj (marked_chips m) (few_chips m lawful) s r (subst (λ (ps : List ℕ). Answers ls (Some j) ps s r) e a))

pub returns-then-alone : goal.returns-then-alone
returns-then-alone c =
    let ls = c.labels-labels.result in
    let s = c.args.s in
    let j = c.args.j in
    let ok = set_of ls c.labels-labels.ensures in
    let w = c.off_card-w.result in
    let none : w ≡ Zero =
    elim c.match-matches.branch [ in-Zero v ↦ v.in-Zero.is | in_default v ↦ absurd (clash c.match-matches.matches c.if-alone.true v.matches-is) ] in
    let at = sums_of_pair ls ok c.labels-labels.ensures s j c.requires.card _ c.rows-rows.ensures _ _ _ _ _ c.on_card-own.ensures c.once.ensures
    c.squared.ensures c.add-once.ensures c.add-squared.ensures in
    for_chips ls c.labels-labels.ensures c.args.m c.requires.lawful j c.requires.card (chips_off w) c.off_card-w.ensures s c.beside_card.result
    (subst (λ (x : OffCard). Answers ls (Some j) (chips_off x) s c.beside_card.result) (sym none)
    (c.beside_card.ensures s c.rows-rows.ensures at))

pub beside_card-requires : goal.beside_card-requires
beside_card-requires c = set_of _ c.labels-labels.ensures

pub fits-requires : goal.fits-requires
fits-requires c = beside c.args.m c.requires.lawful c.args.j _ c.off_card-w.ensures

pub solve-d-requires-clause-off : goal.solve-d-requires-clause-off
solve-d-requires-clause-off c = beside c.args.m c.requires.lawful c.args.j _ c.off_card-w.ensures

pub returns-then-fits : goal.returns-then-fits
returns-then-fits c =
    let ls = c.labels-labels.result in
    let s = c.args.s in
    let j = c.args.j in
    let ok = set_of ls c.labels-labels.ensures in
    let w = c.off_card-w.result in
    let d = c.solve-d.result in
    let t₁ = c.add-once.result in
    let t₂ = c.add-squared.result in
    let here = beside c.args.m c.requires.lawful j (chips_off w) c.off_card-w.ensures in
    let some : w ≢ Zero = λ z.
    elim c.match-matches.branch [ in-Zero v ↦ clash c.match-matches.matches v.matches-is c.if-alone.false | in_default v ↦ v.in_default.not-Zero z ] in
    let at = sums_of_pair ls ok c.labels-labels.ensures s j c.requires.card _ c.rows-rows.ensures _ _ _ _ _ c.on_card-own.ensures c.once.ensures
    c.squared.ensures c.add-once.ensures c.add-squared.ensures in
    for_chips ls c.labels-labels.ensures c.args.m c.requires.lawful j c.requires.card (chips_off w) c.off_card-w.ensures s _
    (found_answers ls ok s j c.requires.card (chips_off w) here t₁ t₂ at 0 (omega arith) d
    (subst (λ (qs : List ℕ). Solves ls (rows_of s) j qs t₁ t₂ d) (sym (beside_marked j w here some 0))
    (subst (λ (z : List ℕ). Solves ls z j (chips_off w) t₁ t₂ d) c.rows-rows.ensures c.solve-d.ensures))
    _ c.kind_under.ensures)

pub returns : goal.returns
returns c =
    let ls = c.labels-labels.result in
    let s = c.args.s in
    let j = c.args.j in
    let ok = set_of ls c.labels-labels.ensures in
    let w = c.off_card-w.result in
    let t₁ = c.add-once.result in
    let t₂ = c.add-squared.result in
    let here = beside c.args.m c.requires.lawful j (chips_off w) c.off_card-w.ensures in
    let some : w ≢ Zero = λ z.
    elim c.match-matches.branch [ in-Zero v ↦ clash c.match-matches.matches v.matches-is c.if-alone.false | in_default v ↦ v.in_default.not-Zero z ] in
    let at = sums_of_pair ls ok c.labels-labels.ensures s j c.requires.card _ c.rows-rows.ensures _ _ _ _ _ c.on_card-own.ensures c.once.ensures
    c.squared.ensures c.add-once.ensures c.add-squared.ensures in
    for_chips ls c.labels-labels.ensures c.args.m c.requires.lawful j c.requires.card (chips_off w) c.off_card-w.ensures s (Err c.into.result)
    (none_answers ls ok s j c.requires.card (chips_off w) here t₁ t₂ at
    (λ p hp. subst (λ (qs : List ℕ). fits_by ls j qs t₁ t₂ ≡ false) (sym (beside_marked j w here some p))
    (fails c.fits.ensures c.if-fits.false))
    (Err c.into.result) (ap Err c.into.ensures))
