use Rattle.std.proofs.Common.{◌≡◌, ◌++◌, drop, map}
use Rattle.spec_forms.specs.Forms.{are_integers, integer_parameter}
use Rattle.py_tree.specs.Stmts.{AreParametersThere, parameters_tree}
use Rattle.first_tree.specs.Functions.{int_parameter}
use Rattle.first_promises.proofs.parameters.integer_parameters.Given as goal

abbrev pub invariant-loop-parameter : goal.invariant-loop-parameter
invariant-loop-parameter l = record {
  there : AreParametersThere l.module (drop l.parameter-index l.parameters);
  types : are_integers (parameters_tree l.module (drop l.parameter-index l.parameters)) ≡ are_integers (parameters_tree l.module l.parameters);
  names : map int_parameter l.names.items ++ map integer_parameter (parameters_tree l.module (drop l.parameter-index l.parameters)) ≡ map integer_parameter (parameters_tree l.module l.parameters);
}
