use Rattle.std.proofs.Common.{Contains}
use Rattle.refutation_check.specs.declared.lit.SatLit.{SatLit}
use Rattle.refutation_check.proofs.known.Known.assume_all.Given as goal

abbrev pub invariant-loop-l : goal.invariant-loop-l
invariant-loop-l s = (l : SatLit) → Contains s.self l → Contains s.lits l
