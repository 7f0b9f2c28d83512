use Rattle.std.proofs.Common.{◌≡◌, drop}
use Rattle.spec_contracts.specs.ContractLines.{is_among}
use Rattle.py_tree.specs.Names.{text_of}
use Rattle.py_tree.specs.Stmts.{AreParametersThere}
use Rattle.first_promises.specs.Scopes.{parameter_names}
use Rattle.first_promises.proofs.names.is_parameter.Given as goal

abbrev pub invariant-loop-parameter : goal.invariant-loop-parameter
invariant-loop-parameter l = AreParametersThere l.module (drop l.parameter-index l.parameters)
    × (is_among (parameter_names l.module (drop l.parameter-index l.parameters)) (text_of l.module.names l.name) ≡ is_among (parameter_names l.module l.parameters) (text_of l.module.names l.name))
