-- The program of a module with some contract lines.
use Rattle.std.specs.Prelude.{ℕ, suc, List, [], ◌∷◌, ◌++◌, map, Option, Some, None, if◌then◌else◌}
use Rattle.spec_trees.specs.Stmt.{Parameter, TypeExpr}
use Rattle.spec_trees.specs.Module as tree
use Rattle.spec_trees.specs.Module.{Block, no_statement, statement}
use Rattle.spec_contracts.specs.ContractLines.{ContractLine}
use Rattle.spec_uses.specs.Functions.{FunctionOf, all_functions}
use Rattle.spec_uses.specs.Meanings.{otherwise}
use Rattle.spec_types.specs.Quotes.{unquoted}
use Rattle.spec_types.specs.Signatures.{is_checked}
use Rattle.spec_programs.specs.Program as program
use Rattle.spec_programs.specs.Program.{Param, Condition, Function, Class, Program}
use Rattle.spec_programs.specs.Contracts.{of_function, of_class, preconditions, posts, kept_invariants, invariants, permitted}
use Rattle.spec_programs.specs.Definitions.{constructor_number}

-- an annotation with the types that its strings hold, where all of them hold one
abbrev pub exchanged_type : Option TypeExpr → Option TypeExpr
exchanged_type None = None
exchanged_type (Some t) = Some (otherwise (unquoted t) t)

abbrev pub param_of : Parameter → Param
param_of p = record { name = p.name; type = exchanged_type p.annotation; default = p.default }

-- What is checked of a function on the line n, of which these are the contract lines and those of its class.
abbrev pub conditions_of : ℕ → List ContractLine → List ContractLine → List Condition
conditions_of n own around = program.Raises n ∷ (posts own ++ kept_invariants around)

-- the function of the number i
abbrev pub function_of : List ContractLine → ℕ → FunctionOf → Function
function_of ls i f = record {
  name = f.name;
  line = f.line;
  class = f.class;
  is_checked = is_checked ls i f;
  parameters = map param_of f.parameters;
  preconditions = preconditions (of_function i ls);
  permitted = permitted (of_function i ls);
  conditions = if is_checked ls i f then conditions_of f.line (of_function i ls) (of_class f.class ls) else [];
  body = f.body;
}

abbrev pub functions_from : List ContractLine → ℕ → List FunctionOf → List Function
functions_from ls i [] = []
functions_from ls i (f ∷ fs) = function_of ls i f ∷ functions_from ls (suc i) fs

-- the class of the number k, with its name and its line
abbrev pub class_of : Block → List ContractLine → ℕ → ℕ → List ℕ → Class
class_of b ls k n x = record { name = x; line = n; constructor = constructor_number b k; invariants = invariants (of_class (Some k) ls) }

-- the classes of a part of a module, of which the first has the number k
abbrev pub classes_from : Block → List ContractLine → ℕ → Block → List Class
classes_from b ls k no_statement = []
classes_from b ls k (statement (tree.class n x d) c) = class_of b ls k n x ∷ classes_from b ls (suc k) c
classes_from b ls k (statement s c) = classes_from b ls k c

-- the program of a module with these contract lines
abbrev pub program_of : Block → List ContractLine → Program
program_of b ls = record { functions = functions_from ls 0 (all_functions b); classes = classes_from b ls 0 b }
