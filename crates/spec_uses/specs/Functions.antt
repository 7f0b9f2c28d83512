-- The functions of a module and of its classes.
use Rattle.std.specs.Prelude.{ℕ, suc, Bool, ◌&&◌, List, [], ◌∷◌, ◌++◌, Option, Some, None}
use Rattle.std.specs.Option.{is_some}
use Rattle.spec_trees.specs.Stmt.{Parameter}
use Rattle.spec_trees.specs.Module as tree
use Rattle.spec_trees.specs.Module.{Block, no_statement, statement}
use Rattle.spec_names.specs.Names.{is_init}

-- a function of a module, perhaps of a class
pub record FunctionOf : Type 0 where
  pub line : ℕ
  pub name : List ℕ
  pub parameters : List Parameter
  pub body : Block
  -- the number of its class, from 0 in the order of lines
  pub class : Option ℕ

-- the functions of a class
abbrev pub class_functions : ℕ → Block → List FunctionOf
class_functions k no_statement = []
class_functions k (statement (tree.def n x ps r b) c) = record { line = n; name = x; parameters = ps; body = b; class = Some k } ∷ class_functions k c
class_functions k (statement s c) = class_functions k c

-- the functions of a block behind k classes
abbrev pub functions_behind : ℕ → Block → List FunctionOf
functions_behind k no_statement = []
functions_behind k (statement (tree.def n x ps r b) c) = record { line = n; name = x; parameters = ps; body = b; class = None } ∷ functions_behind k c
functions_behind k (statement (tree.class n x b) c) = class_functions k b ++ functions_behind (suc k) c
functions_behind k (statement s c) = functions_behind k c

-- All functions of a module, in the order of lines. Contract lines number them in this order, from 0.
abbrev pub all_functions : Block → List FunctionOf
all_functions b = functions_behind 0 b

-- a function of a class that makes its objects
abbrev pub is_constructor : FunctionOf → Bool
is_constructor f = is_some f.class && is_init f.name
