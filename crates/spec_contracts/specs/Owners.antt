-- The functions and classes of a module, which own the contract lines of their docstrings.
use Rattle.std.specs.Prelude.{ℕ, suc, ◌+◌, List, [], ◌∷◌, ◌++◌, length, map, Option}
use Rattle.spec_trees.specs.Expr.{StringPart}
use Rattle.spec_trees.specs.Stmt.{Parameter}
use Rattle.spec_trees.specs.Module.{Block, no_statement, statement, def, class}
use Rattle.spec_contracts.specs.Docstrings.{docstring_of}

-- The owner of contract lines: functions and classes have numbers from 0, each in the order of lines.
pub data Owner : Type 0 where
  of_function : ℕ → Owner
  of_class : ℕ → Owner

-- a function or class with the names of its parameters, which a class does not have, and with its docstring
pub record Owned : Type 0 where
  pub owner : Owner
  pub parameters : List (List ℕ)
  pub docstring : Option StringPart

abbrev pub function_owned : ℕ → List Parameter → Block → Owned
function_owned k ps b = record { owner = of_function k; parameters = map (λ (p : Parameter). p.name) ps; docstring = docstring_of b }

abbrev pub class_owned : ℕ → Block → Owned
class_owned m b = record { owner = of_class m; parameters = []; docstring = docstring_of b }

-- the functions of a class, where k functions stand before it
abbrev pub methods : ℕ → Block → List Owned
methods k no_statement = []
methods k (statement (def n x ps r b) c) = function_owned k ps b ∷ methods (suc k) c
methods k (statement s c) = methods k c

-- The functions and classes of a block, where k functions and m classes stand before it. A class stands in no block.
abbrev pub owned : ℕ → ℕ → Block → List Owned
owned k m no_statement = []
owned k m (statement (def n x ps r b) c) = function_owned k ps b ∷ owned (suc k) m c
owned k m (statement (class n x b) c) = class_owned m b ∷ methods k b ++ owned (k + length (methods k b)) (suc m) c
owned k m (statement s c) = owned k m c
