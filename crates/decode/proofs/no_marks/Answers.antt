use mathlib.Core.Path.{◌≡◌, refl, ap, ◌∙◌, subst}
use mathlib.Core.Logic.{◌≢◌}
use mathlib.Core.Bool.{true}
use mathlib.Core.List.{List, []}
use Prim.Native.Nat.{ℕ, ◌+◌, ◌≤◌, ◌<◌}
use native.Mathlib.Omega.{arith}
use Rattle.std.specs.Prelude.{Some}
use Rattle.code.specs.Labels.{built_in}
use Rattle.code.proofs.BuiltIn.{built_in_set}
use Rattle.std.specs.Prelude.{None}
use Rattle.sums.specs.Sums.{rows_of, taken, next}
use Rattle.sums.specs.declared.Sums.{Sums}
use Rattle.sums.proofs.Next.{next_taken}
use Rattle.change.specs.Change.{weight}
use Rattle.change.specs.declared.Change.{Change}
use Rattle.std.specs.Prelude.{Err}
use Rattle.reading.specs.declared.Fault.TheVariants.{Several, Refused}
use Rattle.decode.specs.Equations.{rows_only}
use Rattle.decode.specs.Search.{Alone}
use Rattle.decode.proofs.Answer.{refusal}
use Rattle.decode.proofs.Cards.{none_reads, several_reads}
use Rattle.decode.proofs.Alone.{found_chips, found_card, second_card, passed_card, only_card, card_answers}
use Rattle.decode.proofs.no_marks.Invariants.{Looking}
use Rattle.decode.proofs.no_marks.Goals as goal
use Rattle.decode.proofs.no_marks.Goals.{then-fits_alone+else-n-further+in_default+else-takes, else-fits_alone, else-five-test, then-five-test+then-fits_alone+else-n-further+in_default+then-takes}
use Rattle.decode.proofs.no_marks.Lts
use Rattle.decode.proofs.no_marks.Reads
use Rattle.decode.proofs.no_marks.Tie

-- the rows that are not 0 are counted
counted : (s : Sums) (rows : List ℕ) (d : Change) (n : ℕ) → rows ≡ rows_of s → d ≡ rows_only rows 0 → n ≡ weight d → n ≡ weight (rows_only (rows_of s) 0)
counted s rows d n r e w = w ∙ ap weight (e ∙ ap (λ (z : List ℕ). rows_only z 0) r)

pub returns-then-n-further : goal.returns-then-n-further
returns-then-n-further c =
    found_chips built_in built_in_set c.args.s c.count-n.result
    (counted c.args.s _ _ _ c.rows-rows.ensures c.alone.ensures c.count-n.ensures.weight) c.five.j c.five-test.true c.fits_alone.result
    c.fits_alone.ensures c.if-fits_alone.true (omega (arith, c.if-n-further.true, c.further.ensures)) _ c.chips_kind.ensures _
    (c.alone-then-n-further.ensures ∙ ap (λ (z : List ℕ). rows_only z c.five.j) c.rows-rows.ensures)

-- a second card fits
pub returns-in-Some : goal.returns-in-Some
returns-in-Some c =
    let is : c.five.fitting ≡ Some c.in-Some.lowest = c.in-Some.is in
    refusal built_in None [] c.args.s (Err (Several c.in-Some.lowest)) (Several c.in-Some.lowest) refl
    (λ b k. several_reads built_in built_in_set [] tt b c.in-Some.lowest
    (second_card built_in built_in_set c.args.s c.count-n.result
    (counted c.args.s _ _ _ c.rows-rows.ensures c.alone.ensures c.count-n.ensures.weight) c.five.j c.five-test.true c.fits_alone.result
    c.fits_alone.ensures c.if-fits_alone.true b k c.in-Some.lowest (rw is at (c.five.invariant.1.1 b k))))

pub five-preserved : goal.five-preserved
five-preserved c =
    let s = c.args.s in
    let inv = c.five.invariant in
    let here = c.five-test.true in
    let n = counted s _ _ _ c.rows-rows.ensures c.alone.ensures c.count-n.ensures.weight in
    let own : c.five.j + 1 < 5 → c.next_card-own.result ≡ taken s (c.five.j + 1) =
    λ m. c.next_card-own.ensures ∙ ap next (inv.0 here) ∙ next_taken s c.five.j (omega (arith, c.well_formed)) (omega (arith, m)) in
    elim c.if-fits_alone.branch [
      | then-fits_alone+else-n-further+in_default+else-takes w ↦
          let some : 2 ≤ c.count-n.result = omega (arith, w.if-n-further.false, w.further.ensures) in
          rw w.fitting-is (
            own,
            (
              (here, some, subst (Alone built_in s c.five.j) w.if-fits_alone.true c.fits_alone.ensures),
              λ b k. found_card built_in built_in_set s c.count-n.result n c.five.j here c.fits_alone.result
                  c.fits_alone.ensures w.if-fits_alone.true some b k (rw w.in_default.is at (inv.1.1 b k)),
            ),
          )
      | else-fits_alone w ↦
          rw w.fitting-is (
            own,
            (
              inv.1.0,
              λ b k. passed_card built_in built_in_set s c.count-n.result n c.five.j here c.fits_alone.result
                  c.fits_alone.ensures w.if-fits_alone.false b k c.five.fitting (inv.1.1 b k),
            ),
          )
    ]

-- after the loop: all five cards have been looked at, or one fits and takes an amount other than 0
left : (c : Lts.Left-five Tie.the-claims Reads.Pre Reads.Post goal.the-invariant-five goal.the-decreases-five)
    → Looking c.args.s c.count-n.result 5 c.five-test.fitting
left c =
    let s = c.args.s in
    let inv = c.five.invariant in
    let n = counted s _ _ _ c.rows-rows.ensures c.alone.ensures c.count-n.ensures.weight in
    elim c.five-test.branch [
      | else-five-test w ↦ rw w.fitting-is (let e : c.five.j ≡ 5 = omega (arith, w.five-test.false, c.five.auto.j-end) in rw e at inv.1)
      | then-five-test+then-fits_alone+else-n-further+in_default+then-takes w ↦
          let here = w.five-test.true in
          let some : 2 ≤ c.count-n.result = omega (arith, w.if-n-further.false, w.further.ensures) in
          let takes : c.five.own ≢ 0 = w.if-takes.true in
          rw w.fitting-is (
            (here, some, subst (Alone built_in s c.five.j) w.if-fits_alone.true w.fits_alone.ensures),
            λ b k.
                let before = rw w.in_default.is at (inv.1.1 b k) in
                only_card s (omega (arith, c.well_formed)) (omega (arith, c.well_formed)) b k c.five.j here
                (λ e. takes (inv.0 here ∙ e)) before
                (found_card built_in built_in_set s c.count-n.result n c.five.j here w.fits_alone.result w.fits_alone.ensures
                w.if-fits_alone.true some b k before),
          )
    ]

pub returns-in_default-fitting : goal.returns-in_default-fitting
returns-in_default-fitting c =
    refusal built_in None [] c.args.s (Err c.into.result) (Refused 10) (ap Err c.into.ensures)
    (λ b k. none_reads built_in built_in_set [] tt b (rw c.in_default-fitting.is at ((left c.before.before).1 b k)))

pub returns : goal.returns
returns c =
    let l = rw c.in-Some-fitting.is at (left c.before.before) in
    let card = c.in-Some-fitting.card in
    card_answers built_in built_in_set c.args.s c.count-n.result (counted c.args.s _ _ _ c.rows-rows.ensures c.alone.ensures c.count-n.ensures.weight)
    card l.0.0 true l.0.2 refl l.1 _ (c.alone-2.ensures ∙ ap (λ (z : List ℕ). rows_only z card) c.rows-rows.ensures)
