-- The functions of a module, by their statements.
use Rattle.std.specs.Prelude.{◌<◌, ℕ, List, [], ◌∷◌, length, Option}
use Rattle.spec_trees.specs.Module as tree
use Rattle.spec_trees.specs.Module.{Statement}
use Rattle.spec_uses.specs.Functions.{FunctionOf}
use Rattle.py_tree.specs.Arena.{State, shown_stmt}
use Rattle.module_functions.specs.declared.function.Function.{Function}

-- A statement as a function of this class. What is none has nothing.
abbrev pub function_of : Option ℕ → Statement → FunctionOf
function_of c (tree.def n x ps r b) = record { line = n; name = x; parameters = ps; body = b; class = c }
function_of c s = record { line = 0; name = []; parameters = []; body = tree.no_statement; class = c }

abbrev pub function_in : State → Function → FunctionOf
function_in m f = function_of f.class (shown_stmt m f.statement.index)

-- the statements are there
abbrev pub IsThere : State → Function → Type 0
IsThere m f = f.statement.index < length m.stmts

abbrev pub AreThere : State → List Function → Type 0
AreThere m [] = Unit {0}
AreThere m (f ∷ fs) = IsThere m f × AreThere m fs
