use Rattle.std.proofs.Common.{◌≡◌, map, take}
use Rattle.refutation_check.specs.Truth.{negated}
use Rattle.sat_core.proofs.search.negations.Given as goal

abbrev pub invariant-loop-l : goal.invariant-loop-l
invariant-loop-l l = l.clause.items ≡ map negated (take l.l-index l.lits)
