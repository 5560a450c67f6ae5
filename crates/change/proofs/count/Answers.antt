-- The three counts add up to the weight, and that is how many bytes are changed, where the change is well formed.
use mathlib.Core.Path.{◌≡◌, sym, ◌∙◌}
use Prim.Native.Nat.{◌+◌}
use native.Mathlib.Omega.{arith}
use Rattle.base.specs.Base.{bit, tally}
use Rattle.change.specs.Change.{nonzero, nonzero_at, weight}
use Rattle.change.proofs.Weight.{bit_of, changes_weight}
use Rattle.base.proofs.Tally.{at_most, one_le}
use Rattle.change.proofs.count.Goals as goal

pub overflow_add-result : goal.overflow_add-result
overflow_add-result c =
    record { fits = omega (arith, at_most 9 _ _ c.count_rows.ensures, bit_of (nonzero c.args.d.e), one_le (nonzero c.args.d.e), c.from.ensures) }

pub overflow_add-result-2 : goal.overflow_add-result-2
overflow_add-result-2 c =
    record {
      fits = omega (
        arith,
        at_most 9 _ _ c.count_rows.ensures,
        bit_of (nonzero c.args.d.e),
        one_le (nonzero c.args.d.e),
        bit_of (nonzero c.args.d.f),
        one_le (nonzero c.args.d.f),
        c.from.ensures,
        c.from-2.ensures,
      );
    }

pub returns : goal.returns
unfolding weight
returns c =
    let d = c.args.d in
    let rows : c.count_rows.result ≡ tally 9 (nonzero_at d.rows) = c.count_rows.ensures in
    let e : c.from.result ≡ bit (nonzero d.e) = c.from.ensures ∙ bit_of (nonzero d.e) in
    let f : c.from-2.result ≡ bit (nonzero d.f) = c.from-2.ensures ∙ bit_of (nonzero d.f) in
    let n : c.count_rows.result + c.from.result + c.from-2.result ≡ weight d = omega (arith, rows, e, f) in
    record { weight = n; changes = λ w b l. n ∙ sym (changes_weight d w b l) }
