use Rattle.bit_gates.proofs.Arenas.{value_kept}
use Rattle.bit_gates.proofs.laws.value_kept.Goals as goal

pub returns : goal.returns
returns c = value_kept
