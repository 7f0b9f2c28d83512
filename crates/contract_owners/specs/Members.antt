-- What functions and classes have of docstrings and parameters.
use Rattle.std.specs.Prelude.{◌<◌, ℕ, List, [], ◌∷◌, length, map, Option, None}
use Rattle.spec_trees.specs.Expr.{StringPart}
use Rattle.spec_trees.specs.Stmt.{Parameter}
use Rattle.spec_trees.specs.Module.{Statement, def, class}
use Rattle.spec_contracts.specs.Docstrings.{docstring_of}
use Rattle.spec_contracts.specs.Owners as owners
use Rattle.py_tree.specs.declared.stmts.ParameterNode.{ParameterNode}
use Rattle.py_tree.specs.Arena.{State, shown_stmt}
use Rattle.py_tree.specs.Names.{text_of}
use Rattle.contract_owners.specs.declared.listing.Owner.{Owner}
use Rattle.contract_owners.specs.declared.listing.Owner.TheVariants.{Function, Class}
use Rattle.contract_owners.specs.declared.listing.Owned.{Owned}

-- the docstring of a function or class
abbrev pub docstring_in : Statement → Option StringPart
docstring_in (def n x ps r b) = docstring_of b
docstring_in (class n x b) = docstring_of b
docstring_in _ = None

-- the names of the parameters of a function
abbrev pub parameters_in : Statement → List (List ℕ)
parameters_in (def n x ps r b) = map (λ (p : Parameter). p.name) ps
parameters_in _ = []

-- the names of parameters in a module
abbrev pub names_in : List (List ℕ) → List ParameterNode → List (List ℕ)
names_in names ps = map (λ (p : ParameterNode). text_of names p.name) ps

abbrev pub owner_in : Owner → owners.Owner
owner_in (Function f) = owners.of_function f.index
owner_in (Class c) = owners.of_class c.index

-- a function or class with what it has
abbrev pub owned_in : State → Owned → owners.Owned
owned_in m o = record { owner = owner_in o.owner; parameters = parameters_in (shown_stmt m o.statement.index); docstring = docstring_in (shown_stmt m o.statement.index) }

-- the statements are there
abbrev pub AreThere : State → List Owned → Type 0
AreThere m [] = Unit {0}
AreThere m (o ∷ os) = (o.statement.index < length m.stmts) × AreThere m os
