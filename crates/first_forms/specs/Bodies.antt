-- What reading the body of a function answers.
use Rattle.std.specs.Prelude.{◌≡◌, ⊤, ℕ, List, length, map, Option, Some, None, Result, Ok, Err}
use Rattle.std.specs.Global.{Vec}
use Rattle.spec_trees.specs.Expr as tree
use Rattle.spec_trees.specs.Stmt as simple
use Rattle.spec_trees.specs.Module as block
use Rattle.spec_trees.specs.Module.{Statement}
use Rattle.spec_first_trees.specs.Expr.{Expr}
use Rattle.first_tree.specs.declared.nodes.ExprId.{ExprId}
use Rattle.first_tree.specs.declared.nodes.ExprNode.{ExprNode}
use Rattle.first_tree.specs.Arena.{AreExprsBelow}
use Rattle.first_tree.specs.Functions.{expr_in}
use Rattle.first_promises.specs.declared.errors.FormError.{FormError}
use Rattle.first_promises.specs.declared.errors.FormError.TheVariants.{NotBuilt, NoMemory}

-- the expression that a statement returns
abbrev pub returned_of : Statement → Option tree.Expr
returned_of (block.simple (simple.return n (Some e))) = Some e
returned_of _ = None

-- the expressions are there, or the line is that of the first statement of another form
abbrev pub GivesValues : List ExprNode → Result (Vec ExprId) FormError → Result (List Expr) ℕ → Type 0
GivesValues nodes (Ok es) r = AreExprsBelow (length nodes) es.items × (r ≡ Ok (map (expr_in nodes) es.items))
GivesValues nodes (Err (NotBuilt n)) r = r ≡ Err n
GivesValues nodes (Err NoMemory) r = ⊤
