-- One block's line more, each time.
use Rattle.std.proofs.Common.{◌≡◌, ◌+◌, ◌*◌, ◌≤◌, [], get_or, length, sym, ap, ◌∙◌, arith}
use Rattle.reading.specs.Reading.{reading_answer}
use Rattle.bank.specs.Calls.{blocks}
use Rattle.bank.proofs.Done.{part_is, looked}
use Rattle.program.proofs.Blocks.{no_block, one_block_more, chunk_is}
use Rattle.program.proofs.block_lines.Goals as goal

pub loop-k-init : goal.loop-k-init
loop-k-init c = no_block _ _ _

pub loop-k-preserved : goal.loop-k-preserved
loop-k-preserved c =
    let bank = c.args.bank.now in
    let k = c.loop-k.k in
    let a = reading_answer c.look-r.result in
    let room : 45 * k + 45 ≤ length bank = omega (arith, c.as_chunks.ensures.front_len) in
    let e = ap (λ l. get_or l k []) c.as_chunks.ensures.front ∙ chunk_is (blocks bank) k bank [] (omega (arith, c.as_chunks.ensures.front_len)) ∙ sym (part_is bank k) in
    let reads = looked bank c.args.m k a _ room c.requires.1 (rw e at c.look-r.ensures) in
    one_block_more bank c.args.m k a c.loop-k.invariant reads c.block_line.ensures

pub returns : goal.returns
returns c = let e : c.loop-k.k ≡ blocks c.args.bank.now = omega (arith, c.as_chunks.ensures.front_len) in rw e at c.loop-k.invariant
