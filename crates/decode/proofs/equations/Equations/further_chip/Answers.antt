use Prim.Native.Nat.{◌+◌, ◌*◌}
use native.Mathlib.Omega.{arith}
use borrow.Author.Count.{below_more}
use Rattle.decode.proofs.Steps.{has_entry, no_entry, further_off, further_none, further_zero}
use Rattle.decode.proofs.equations.Equations.further_chip.Goals as goal

pub returns-then-v-eq0 : goal.returns-then-v-eq0
returns-then-v-eq0 c =
    let e = c.args.self.now in
    further_zero e.labels.now c.requires.labels e.card e.of_card e.once e.squared c.divide-v.result (omega arith) (omega arith) c.requires.first
    (c.divide-v.ensures c.requires.first) c.if-v-eq0.true

pub cards-preserved : goal.cards-preserved
cards-preserved c =
    let e = c.args.self.now in
    below_more _ _ c.cards.invariant
    (no_entry e.labels.now e.card c.cards.other c.chips.i c.divide-v.result c.add-wanted.result c.chips-test.true
    (rw (c.from.ensures, c.from-in-chips.ensures) at c.add-wanted.ensures) (rw c.from-in-cards.ensures at c.if-self-from.false))

pub chips-preserved : goal.chips-preserved
chips-preserved c = below_more _ _ c.chips.invariant (λ m h. c.cards.invariant m (omega (arith, h, c.cards-test.false)))

pub returns-then-self-from : goal.returns-then-self-from
returns-then-self-from c =
    let e = c.args.self.now in
    further_off e.labels.now c.requires.labels e.card e.of_card e.once e.squared c.divide-v.result (omega arith) (omega arith) c.requires.first
    (c.divide-v.ensures c.requires.first) (9 * c.cards.other + c.chips.i) (omega (arith, c.cards-test.true, c.chips-test.true))
    c.if-v-eq0.false
    (has_entry e.labels.now e.card c.cards.other c.chips.i c.divide-v.result c.add-wanted.result c.chips-test.true
    (rw (c.from.ensures, c.from-in-chips.ensures) at c.add-wanted.ensures) (rw c.from-in-cards.ensures at c.if-self-from.true))

pub returns : goal.returns
returns c =
    let e = c.args.self.now in
    further_none e.labels.now c.requires.labels e.card e.of_card e.once e.squared c.divide-v.result (omega arith) (omega arith) c.requires.first
    (c.divide-v.ensures c.requires.first) (λ i h. c.chips.invariant i (omega (arith, h, c.chips-test.false)))
