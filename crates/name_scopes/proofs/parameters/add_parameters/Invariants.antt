use Rattle.local_names.proofs.Adding.{AddedTo}
use Rattle.name_scopes.proofs.Entering.{names_by, names_in}
use Rattle.name_scopes.proofs.parameters.add_parameters.Given as goal

abbrev pub invariant-loop-parameter : goal.invariant-loop-parameter
invariant-loop-parameter l = AddedTo (names_in l.module) (names_by l.module) l.module.names l.parameters l.fn.names l.names l.parameter-index
