-- The rows are the sums of the cards' words.
use Rattle.std.proofs.Common.{ℕ, List, length, ◌<◌, ◌^◌, refl, ap, subst, ◌∙◌, arith}
use Rattle.field.specs.Field.{sum}
use Rattle.code.specs.Block.{byte, position}
use Rattle.sums.specs.Sums.{BlockSums}
use Rattle.sums.proofs.Cards.{rows_held}
use Rattle.sums.proofs.of_block.Goals as goal

pub returns : goal.returns
returns c =
    let whole = c.in-Some.ensures.cases in
    let b : List ℕ = c.in-Some.b.now in
    let bytes : (p : ℕ) → byte b p < 2 ^ 8 = rw whole.same (λ p. omega (arith, c.type_inv.block p)) in
    let is = c.with_pair.ensures (byte b) (λ i. sum 5 (λ j. byte b (position j i))) c.gather_block.result bytes c.gather_block.ensures
    (rows_held (byte b) 0 _ c.rows_from.ensures) (rows_held (byte b) 1 _ c.rows_from-2.ensures) c.pair-v.ensures in
    subst (λ (x : List ℕ). BlockSums x c.with_pair.result x) whole.same (record {
      block = λ n. record { rows = is.rows; eight = is.eight; once = is.once; squared = is.squared };
      other = λ n. absurd (n (ap length whole.same ∙ whole.long));
      kept = refl;
    })
