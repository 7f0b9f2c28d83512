use Rattle.std.proofs.Common.{map}
use Rattle.spec_programs.specs.Programs.{param_of}
use Rattle.py_tree.specs.Stmts.{AreParametersThere, parameters_tree}
use Rattle.module_functions.specs.Listed.{function_in}
use Rattle.read_annotations.proofs.Turns.{MadeTo}
use Rattle.unquoted_parameters.specs.Parameters.{as_param}
use Rattle.unquoted_parameters.proofs.Kept.{params_kept}
use Rattle.unquoted_parameters.proofs.listing.parameters.Given as goal

abbrev pub invariant-loop-function : goal.invariant-loop-function
invariant-loop-function l = MadeTo (λ f. map param_of (function_in l.fn.module f).parameters) (λ m x. map as_param (parameters_tree m x.items)) (λ m x. AreParametersThere m x.items) params_kept l.functions l.fn.module l.module l.lists.items l.function-index
