-- From digit 64 on a word has no digit.
use Rattle.std.proofs.Common.{ℕ, ◌%◌, ◌^◌, ◌<◌, ◌≤◌, sym, ap, arith}
use Rattle.std.proofs.Math.Nat.{div-eq_of_lt, lt_of_lt_of_le}
use lib.Pow.{pow_mono}
use Rattle.pairs.proofs.part.Goals as goal

pub returns-then-k-gt63 : goal.returns-then-k-gt63
returns-then-k-gt63 c =
    let a = c.before.args in
    let u : a.u < 2 ^ 64 = omega arith in
    let past : 2 ^ 64 ≤ 2 ^ a.k = pow_mono {i = 64} (omega (arith, c.if-k-gt63.true)) in
    sym (ap (λ (z : ℕ). z % 2 ^ 8) (div-eq_of_lt (lt_of_lt_of_le u past)))
