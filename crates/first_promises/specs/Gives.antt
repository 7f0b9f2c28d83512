-- What copying an expression answers.
use Rattle.std.specs.Prelude.{◌≡◌, ⊤, ◌<◌, List, length, Option, Some, None, Result, Ok, Err}
use Rattle.spec_first_trees.specs.Expr.{Expr}
use Rattle.first_tree.specs.declared.nodes.ExprId.{ExprId}
use Rattle.first_tree.specs.declared.nodes.ExprNode.{ExprNode}
use Rattle.first_tree.specs.Arena.{shown}
use Rattle.first_promises.specs.declared.errors.Unformed.{Unformed}
use Rattle.first_promises.specs.declared.errors.Unformed.TheVariants.{OtherForm, NoMemory}

-- there is nothing, or there is no memory for it
abbrev pub Fails : {A : Type 0} → Unformed → Option A → Type 0
Fails OtherForm o = o ≡ None
Fails NoMemory o = ⊤

-- the expression is there
abbrev pub Gives : List ExprNode → Result ExprId Unformed → Option Expr → Type 0
Gives nodes (Ok e) o = (e.index < length nodes) × (o ≡ Some (shown nodes e.index))
Gives nodes (Err u) o = Fails u o
