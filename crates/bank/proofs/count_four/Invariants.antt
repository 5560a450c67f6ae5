-- The loop's invariant: the blocks so far are counted, no total is above one more for each, and `left` has the digits of the other blocks.
use Rattle.std.proofs.Common.{◌≡◌, ◌+◌, ◌/◌, ◌^◌}
use Rattle.bank.specs.Count.{EachAtMost, CountsMore}
use Rattle.bank.proofs.count_four.Given as goal

abbrev pub invariant-loop-b : goal.invariant-loop-b
invariant-loop-b l =
    (l.left ≡ l.initial.left / 2 ^ l.b-index) × EachAtMost (65531 + l.b-index) l.t × CountsMore l.four l.m l.b-index l.initial.t l.t
