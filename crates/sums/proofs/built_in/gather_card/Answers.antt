-- A byte times a small word fits.
use Rattle.std.proofs.Common.{◌≡◌, ℕ, ◌+◌, ◌*◌, ◌<◌, get_or, refl, sym, ap, ◌∙◌, subst, arith}
use Rattle.field.specs.Field.{◌⊕◌, sum}
use Rattle.field.proofs.Xor.{add_comm}
use Rattle.code.specs.Labels.{built_in}
use Rattle.pairs.specs.Words.{spread, gathered}
use Rattle.pairs.proofs.Points.{one_more, spread_small, word_fits}
use Rattle.sums.proofs.built_in.gather_card.Goals as goal

pub loop-i-init : goal.loop-i-init
unfolding sum
loop-i-init c = refl

pub overflow_mul-u : goal.overflow_mul-u
overflow_mul-u c =
    let i : ℕ = c.loop-i.i in
    record {
      fits = word_fits c.from.result (get_or c.card_words-own.result i 0) (omega arith)
          (subst (λ (x : ℕ). x < 0x0101010101010102) (sym (c.card_words-own.ensures i c.loop-i-test.true)) (spread_small built_in (9 * c.args.j + i)));
    }

pub loop-i-preserved : goal.loop-i-preserved
unfolding ◌⊕◌
loop-i-preserved c =
    let i : ℕ = c.loop-i.i in
    let row : ℕ → ℕ = λ q. get_or c.args.rows q 0 in
    let word : ℕ → ℕ = λ q. get_or (spread built_in) (9 * c.args.j + q) 0 in
    ap (λ (x : ℕ). c.loop-i.u ⊕ (c.from.result * x)) (c.card_words-own.ensures i c.loop-i-test.true)
    ∙ add_comm c.loop-i.u (c.from.result * word i)
    ∙ one_more row word i c.from.result c.loop-i.u c.from.ensures c.loop-i.invariant

pub returns : goal.returns
unfolding gathered
returns c = let e : c.loop-i.i ≡ 9 = omega (arith, c.loop-i-test.false, c.loop-i.auto.i-end) in rw e at c.loop-i.invariant
