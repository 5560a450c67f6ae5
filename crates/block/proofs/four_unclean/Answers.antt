-- A block reads as clean, whatever is marked, exactly where it is lawful.
use Prim.Native.Nat.{◌*◌}
use native.Mathlib.Omega.{arith}
use Rattle.block.proofs.Done.{clean_exactly_at}
use Rattle.block.proofs.four_unclean.Goals as goal

pub returns : goal.returns
returns c =
    let known = c.before in
    let s = known.before in
    let is = c.four_left.ensures in
    record {
      below = is.below;
      four = λ e k l.
          let w = clean_exactly_at s.args.b.now (λ p. omega (arith, known.shared_slice_known-1.given p)) (45 * k) (omega (arith, e, l)) in
          ((λ z. w.0 ((is.four e k l).0 z)), λ r. (is.four e k l).1 (w.1 r));
      other = is.other;
      kept = is.kept;
    }
