-- A block that is known to be clean is counted so; any other is looked at.
use Rattle.std.proofs.Common.{◌≡◌, ◌+◌, ◌/◌, ◌^◌, ◌<◌, ℕ, List, [], length, ap, ◌∙◌, arith}
use Rattle.std.proofs.lemmas.Nat.{shr-shr}
use Rattle.answer.specs.Answer.{Answer, clean}
use Rattle.reading.specs.Reading.{ReadsUnder, reading_answer}
use Rattle.bank.specs.Calls.{block}
use Rattle.bank.specs.Count.{five, EachAtMost, CountsOne, CountsMore}
use Rattle.bank.proofs.Counted.{seen, clean_at, all_clean, one_above, one_next, four_clean}
use Rattle.bank.proofs.count_four.Goals as goal
use Rattle.bank.proofs.count_four.Goals.{then-clean, else-clean}

pub returns-then-left-eq0 : goal.returns-then-left-eq0
returns-then-left-eq0 c =
    four_clean c.args.four.now c.args.m c.args.t.now c.requires.0
    (all_clean c.args.four.now _ _ (omega (arith, c.told-four)) c.four_unclean-left.ensures c.if-left-eq0.true)

-- one block more
kept : (c : goal.Joined-clean) (a : Answer) → ((x : List ℕ) × ReadsUnder c.args.m (block c.args.four.now c.loop-b.b-index) [] a x)
    → CountsOne a c.loop-b.t c.if-clean.t
    → let k = c.loop-b.b-index + 1 in
    (c.loop-b.left / 2 ≡ c.four_unclean-left.result / 2 ^ k) × EachAtMost (65531 + k) c.if-clean.t
    × CountsMore c.args.four.now c.args.m k c.args.t.now c.if-clean.t
kept c a r e =
    let at = c.loop-b in (
      ap (λ (n : ℕ). n / 2) at.invariant.0 ∙ shr-shr c.four_unclean-left.result at.b-index 1,
      one_above (65531 + at.b-index) _ a at.t c.if-clean.t at.invariant.1 e (omega arith),
      one_next c.args.four.now c.args.m c.args.t.now at.b-index a at.t c.if-clean.t at.invariant.2 r e,
    )

pub loop-b-preserved : goal.loop-b-preserved
loop-b-preserved c =
    let four = c.args.four.now in
    let k = c.loop-b.b-index in
    let l : k < length four / 45 = omega (arith, c.loop-b-test.true, c.as_chunks.ensures.front_len) in
    elim c.if-clean.branch [
      | then-clean w ↦
          let reads =
          clean_at four c.four_unclean-left.result _ k c.loop-b.left (omega (arith, c.told-four)) c.four_unclean-left.ensures (omega (arith, l, c.told-four))
          c.loop-b.invariant.0 w.if-clean.true in
          kept c clean (_, reads c.args.m c.requires.0) (ap five w.t-is)
      | else-clean w ↦
          let a = reading_answer w.look.result in
          kept c a (seen four c.args.m _ k a _ c.as_chunks.ensures.front l c.requires.0 w.look.ensures) (ap five w.t-is ∙ w.count.ensures)
    ]
