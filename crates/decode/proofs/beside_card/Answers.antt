-- No chip marked off the card: where the first sum is 0 the card alone can be wrong; else one chip by the quotient of the sums.
use mathlib.Core.Path.{◌≡◌, sym, ap, ◌∙◌, subst}
use Rattle.std.specs.Prelude.{Err}
use mathlib.Core.List.{List, [], ◌∷◌}
use Prim.Native.Nat.{ℕ, ◌*◌, ◌/◌}
use native.Mathlib.Omega.{arith}
use Rattle.sums.specs.Sums.{rows_of}
use Rattle.decode.specs.Equations.{rows_only, Solves}
use Rattle.decode.proofs.Describe.{solves_none}
use Rattle.decode.proofs.Marked.{on, off}
use Rattle.decode.proofs.Beside.{none_answers, found_answers, fails_at, first_zero, first_nonzero, alone_fits}
use Rattle.decode.proofs.beside_card.Goals as goal

pub returns-then-e-ne0 : goal.returns-then-e-ne0
returns-then-e-ne0 c =
    let e = c.args.e in
    let ls = e.labels.now in
    λ sums z at. none_answers ls c.requires sums e.card e.of_card [] (tt, tt) e.once e.squared at
    (λ f hf. first_zero ls e.card e.once e.squared c.if-e-eq0.true c.if-e-ne0.true f) (Err c.into.result) (ap Err c.into.ensures)

pub returns-then-e-eq0 : goal.returns-then-e-eq0
returns-then-e-eq0 c =
    let e = c.args.e in
    let ls = e.labels.now in
    let d = c.alone-d.result in
    let card : 9 * e.card / 9 ≡ e.card = omega arith in
    λ sums z at. found_answers ls c.requires sums e.card e.of_card [] (tt, tt) e.once e.squared at (9 * e.card) (omega (arith, e.of_card)) d
    (subst (λ (qs : List ℕ). Solves ls (rows_of sums) e.card qs e.once e.squared d) (on (9 * e.card) e.card card)
    (subst (Solves ls (rows_of sums) e.card [] e.once e.squared) (sym (c.alone-d.ensures ∙ ap (λ (y : List ℕ). rows_only y e.card) z))
    (solves_none ls (rows_of sums) e.card e.of_card e.once e.squared (alone_fits ls e.card e.once e.squared c.if-e-eq0.true c.if-e-ne0.false))))
    _ c.kind_under.ensures

pub returns-in_default : goal.returns-in_default
returns-in_default c =
    let e = c.args.e in
    let ls = e.labels.now in
    λ sums z at. none_answers ls c.requires sums e.card e.of_card [] (tt, tt) e.once e.squared at
    (λ f hf. fails_at ls e.card e.once e.squared f (first_nonzero ls e.card e.once e.squared c.if-e-eq0.false) (c.in_default.ensures f hf))
    (Err c.into-in_default.result) (ap Err c.into-in_default.ensures)

pub returns : goal.returns
returns c =
    let e = c.args.e in
    let ls = e.labels.now in
    let p = c.in-Some.p in
    let d = c.with_one-d.result in
    let h = c.in-Some.ensures in
    λ sums z at. found_answers ls c.requires sums e.card e.of_card [] (tt, tt) e.once e.squared at p h.0 d
    (subst (λ (qs : List ℕ). Solves ls (rows_of sums) e.card qs e.once e.squared d) (off p e.card h.1)
    (subst (λ (y : List ℕ). Solves ls y e.card (p ∷ []) e.once e.squared d) z c.with_one-d.ensures))
    _ c.kind_under-2.ensures
