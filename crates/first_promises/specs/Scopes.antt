-- The names that an expression may have.
use Rattle.std.specs.Prelude.{ℕ, List, [], ◌∷◌, ◌++◌, if◌then◌else◌}
use Rattle.spec_forms.specs.Names.{returned_name}
use Rattle.spec_names.specs.Names.{names_of}
use Rattle.py_tree.specs.State.{State}
use Rattle.py_tree.specs.Stmts.{parameters_tree}
use Rattle.py_tree.specs.declared.stmts.ParameterNode.{ParameterNode}
use Rattle.first_promises.specs.declared.expressions.Scope.{Scope}

-- the names of parameters
abbrev pub parameter_names : State → List ParameterNode → List (List ℕ)
parameter_names m ps = names_of (parameters_tree m ps)

abbrev pub names_in : State → Scope → List (List ℕ)
names_in m s = parameter_names m s.parameters.now ++ (if s.is_post then returned_name ∷ [] else [])
