-- The byte that stands at the address, or none, and then the refusal.
use mathlib.Core.Path.{refl}
use Rattle.registers.proofs.Plain.{read_is}
use Rattle.registers.proofs.read.Goals as goal

pub returns : goal.returns
returns c = read_is _ _ _ _ _ _ _ c.to_bytes.ensures c.get.ensures.lookup c.copied.ensures c.ok_or.ensures.value refl
