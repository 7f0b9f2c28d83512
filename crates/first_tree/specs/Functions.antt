-- The functions of a module, as definitions speak of them.
use Rattle.std.specs.Prelude.{ℕ, List, ◌∷◌, map}
use Rattle.spec_first_trees.specs.Program as program
use Rattle.spec_first_trees.specs.Program.{Function, Parameter, Condition, Numbered}
use Rattle.first_tree.specs.declared.nodes.ExprId.{ExprId}
use Rattle.first_tree.specs.declared.nodes.ExprNode.{ExprNode}
use Rattle.first_tree.specs.declared.nodes.Post.{Post}
use Rattle.first_tree.specs.declared.nodes.FnNode.{FnNode}
use Rattle.first_tree.specs.Arena.{shown}
use Rattle.spec_first_trees.specs.Expr.{Expr}

abbrev pub int_parameter : List ℕ → Parameter
int_parameter x = record { name = x; type = program.Integer }

module _ (nodes : List ExprNode) where
  abbrev pub expr_in : ExprId → Expr
  expr_in e = shown nodes e.index

  abbrev pub post_in : Post → Condition
  post_in p = program.Post p.line (shown nodes p.expr.index)

  -- no report shows the number of a statement yet, so each has number 0
  abbrev pub return_in : ExprId → Numbered
  return_in e = record { number = 0; statement = program.Return (shown nodes e.index) }

  -- the checked function of a node
  abbrev pub function_in : FnNode → Function
  function_in f = record {
    name = f.name;
    parameters = map int_parameter f.parameters.items;
    preconditions = map expr_in f.preconditions.items;
    conditions = program.Raises f.line f.permitted.items ∷ map post_in f.posts.items;
    body = map return_in f.values.items;
  }
