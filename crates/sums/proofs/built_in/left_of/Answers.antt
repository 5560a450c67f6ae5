-- What "or" joins is 0 exactly where the rows and both label sums are.
use Rattle.std.proofs.Common.{ℕ, ◌<◌, ◌^◌, arith}
use Rattle.code.specs.Block.{byte}
use Rattle.code.specs.Labels.{built_in}
use Rattle.sums.proofs.Syndrome.{built_in_below, once_of, squared_of}
use Rattle.sums.proofs.Left.{left_exactly}
use Rattle.sums.proofs.built_in.left_of.Goals as goal

pub returns : goal.returns
returns c =
    let b = c.args.b.now in
    let bytes : (p : ℕ) → byte b p < 2 ^ 8 = λ p. omega (arith, c.fits-b p) in
    let u : ℕ = c.gather_block.result in
    left_exactly b c.rows_from.result c.rows_from-2.result c.pair.result u c.told-b c.rows_from.ensures c.rows_from-2.ensures c.pair.ensures
    (once_of built_in (byte b) built_in_below bytes u c.gather_block.ensures) (squared_of built_in (byte b) built_in_below bytes u c.gather_block.ensures)
