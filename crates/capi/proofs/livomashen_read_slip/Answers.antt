-- What the read call finds, as a code.
use Rattle.slip.proofs.Fit.{read_fits}
use Rattle.capi.proofs.livomashen_read_slip.Goals as goal

pub of_found-requires : goal.of_found-requires
of_found-requires c = read_fits _ _ _ _ c.read.ensures
