use Rattle.spec_programs.specs.Programs.{param_of}
use Rattle.read_annotations.proofs.Turns.{MadeTo}
use Rattle.unquoted_parameters.specs.Parameters.{IsParameterThere, as_param, parameter_tree}
use Rattle.unquoted_parameters.proofs.Kept.{param_kept}
use Rattle.unquoted_parameters.proofs.listing.exchanged_parameters.Given as goal

abbrev pub invariant-loop-parameter : goal.invariant-loop-parameter
invariant-loop-parameter l = MadeTo (λ p. param_of (parameter_tree l.fn.module p)) (λ m p. as_param (parameter_tree m p)) IsParameterThere param_kept l.parameters l.fn.module l.module l.made.items l.parameter-index
