-- The rows' words are those of card 4, which has the chip sums.
use Rattle.std.proofs.Common.{ℕ, List, length, ◌<◌, ◌^◌, refl, ap, subst, ◌∙◌, arith}
use Rattle.code.specs.Block.{byte}
use Rattle.sums.specs.Sums.{RecordSums, chip_sum, begun}
use Rattle.sums.proofs.Begun.{begun_below}
use Rattle.sums.proofs.of_record.Goals as goal

pub returns : goal.returns
returns c =
    let whole = c.in-Some.ensures.cases in
    let rec : List ℕ = c.in-Some.r.now in
    let bytes : (p : ℕ) → byte rec p < 2 ^ 8 = rw whole.same (λ p. omega (arith, c.type_inv.rec p)) in
    let is = c.with_pair.ensures (begun rec) (chip_sum rec) c.gather_record.result (begun_below rec bytes) c.gather_record.ensures c.sums_from.ensures
    c.sums_from-2.ensures c.pair-v.ensures in
    subst (λ (x : List ℕ). RecordSums x c.with_pair.result x) whole.same (record {
      record_sums = λ n. record { rows = is.rows; eight = is.eight; once = is.once; squared = is.squared };
      other = λ n. absurd (n (ap length whole.same ∙ whole.long));
      kept = refl;
    })
