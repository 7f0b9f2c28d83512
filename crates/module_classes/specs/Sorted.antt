-- The classes of a module, by their statements.
use Rattle.std.specs.Prelude.{◌<◌, List, [], ◌∷◌, length}
use Rattle.spec_trees.specs.Module as tree
use Rattle.spec_trees.specs.Module.{Statement}
use Rattle.spec_types.specs.Classes.{ClassOf}
use Rattle.py_tree.specs.Arena.{State, shown_stmt}
use Rattle.module_classes.specs.declared.class.Class.{Class}

-- A statement as a class. What is none has nothing.
abbrev pub class_of : Statement → ClassOf
class_of (tree.class n x b) = record { name = x; body = b }
class_of s = record { name = []; body = tree.no_statement }

abbrev pub class_in : State → Class → ClassOf
class_in m c = class_of (shown_stmt m c.statement.index)

-- it is a class
abbrev pub IsClass : Statement → Type 0
IsClass (tree.class n x b) = Unit {0}
IsClass s = ⊥

-- the statements are there, and are classes
abbrev pub IsThere : State → Class → Type 0
IsThere m c = (c.statement.index < length m.stmts) × IsClass (shown_stmt m c.statement.index)

abbrev pub AreThere : State → List Class → Type 0
AreThere m [] = Unit {0}
AreThere m (c ∷ cs) = IsThere m c × AreThere m cs
