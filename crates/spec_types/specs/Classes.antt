-- The classes of a module, and what their constructors take.
use Rattle.std.specs.Prelude.{ℕ, suc, List, [], ◌∷◌, map, Option, Some, None, if◌then◌else◌}
use Rattle.std.specs.Str.{bytes_eq}
use Rattle.spec_trees.specs.Stmt.{Parameter}
use Rattle.spec_trees.specs.Module as tree
use Rattle.spec_trees.specs.Module.{Block, no_statement, statement}
use Rattle.spec_names.specs.Names.{is_init, is_self}

-- a class: its name and its body
pub record ClassOf : Type 0 where
  pub name : List ℕ
  pub body : Block

-- The classes of a module, in the order of lines. They have numbers from 0 in this order.
abbrev pub classes : Block → List ClassOf
classes no_statement = []
classes (statement (tree.class n x b) c) = record { name = x; body = b } ∷ classes c
classes (statement s c) = classes c

-- the number of the first class of a name, where k is that of the first of these
abbrev pub number_from : ℕ → List ClassOf → List ℕ → Option ℕ
number_from k [] x = None
number_from k (c ∷ cs) x = if bytes_eq c.name x then Some k else number_from (suc k) cs x

abbrev pub class_number : Block → List ℕ → Option ℕ
class_number b x = number_from 0 (classes b) x

-- ---- constructors

-- the parameters behind a `self` that stands first
abbrev pub behind_self : List Parameter → List Parameter
behind_self [] = []
behind_self (p ∷ ps) = if is_self p.name then ps else p ∷ ps

-- what the constructor of a class takes, which is nothing where it has none
abbrev pub constructor_of : Block → List Parameter
constructor_of no_statement = []
constructor_of (statement (tree.def n x ps r b) c) = if is_init x then behind_self ps else constructor_of c
constructor_of (statement s c) = constructor_of c

-- what the constructors of all classes take, in the order of the classes
abbrev pub constructors : Block → List (List Parameter)
constructors b = map (λ (c : ClassOf). constructor_of c.body) (classes b)
