use Rattle.std.proofs.Common.{take}
use Rattle.sat_core.proofs.TrueLiterals.{PicksTrue}
use Rattle.sat_core.proofs.model.SatModel.from_literals.Given as goal

abbrev pub invariant-loop-l : goal.invariant-loop-l
invariant-loop-l s = PicksTrue s.vars.items (take s.l-index s.lits)
