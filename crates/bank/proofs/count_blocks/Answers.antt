-- Four blocks more, each time, and then one more of those that are left.
use Rattle.std.proofs.Common.{◌+◌, ◌*◌, ◌/◌, ◌≤◌, ◌<◌, ℕ, List, [], length, get_or, ap, ◌∙◌, arith}
use Rattle.reading.specs.Reading.{reading_answer}
use Rattle.bank.proofs.Done.{no_blocks}
use Rattle.bank.proofs.Counted.{chunk_at, seen, few, four_next, rest_next}
use Rattle.bank.proofs.count_blocks.Goals as goal

pub loop-four-init : goal.loop-four-init
loop-four-init c = let d = c.default-t.ensures in rw (d.0, d.1.0, d.1.1.0, d.1.1.1.0, d.1.1.1.1) (no_blocks _ _)

pub count_four-requires : goal.count_four-requires
count_four-requires c =
    let l : 4 * c.loop-four.four-index ≤ 65531 = omega (arith, c.requires.0, c.loop-four-test.true, c.as_chunks.ensures.front_len) in
    (c.requires.1, few _ _ _ 65531 _ c.loop-four.invariant l)

pub loop-four-preserved : goal.loop-four-preserved
loop-four-preserved c =
    let bank = c.args.bank.now in
    let k = c.loop-four.four-index in
    let l : k < length bank / 180 = omega (arith, c.loop-four-test.true, c.as_chunks.ensures.front_len) in
    let e = ap (λ (p : List (List ℕ)). get_or p k []) c.as_chunks.ensures.front ∙ chunk_at 180 (length bank / 180) k bank l in
    four_next bank c.args.m c.loop-four.t c.count_four.new.t k _ e c.loop-four.invariant c.count_four.ensures

pub count-requires : goal.count-requires
count-requires c =
    let n = length c.args.bank.now / 180 in
    let l : 4 * n + c.loop-b.b-index ≤ 65534 =
    omega (arith, c.requires.0, c.loop-b-test.true, c.as_chunks-2.ensures.front_len, c.as_chunks.ensures.back_len) in
    few _ _ _ 65534 _ c.loop-b.invariant l

pub loop-b-preserved : goal.loop-b-preserved
loop-b-preserved c =
    let bank = c.args.bank.now in
    let rest = c.as_chunks.result.1.now in
    let k = c.loop-b.b-index in
    let a = reading_answer c.look.result in
    let l : k < length rest / 45 = omega (arith, c.loop-b-test.true, c.as_chunks-2.ensures.front_len) in
    let reads = seen rest c.args.m _ k a _ c.as_chunks-2.ensures.front l c.requires.1 c.look.ensures in
    rest_next bank c.args.m c.loop-b.t c.count.new.t (length bank / 180) k rest a c.as_chunks.ensures.back c.loop-b.invariant reads c.count.ensures
