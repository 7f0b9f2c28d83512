-- The expressions that are run: names, small integers, `+`, `-`, `*`, comparisons with one operator, and brackets.
use Rattle.std.specs.Prelude.{ℕ, ◌+◌, max, Bool, ◌&&◌, nat_lt, nat_le, Option, Some, None, if◌then◌else◌}
use Rattle.spec_trees.specs.declared.Operator.{Operator}
use Rattle.spec_trees.specs.declared.Operator.TheVariants as operator
use Rattle.spec_trees.specs.Expr as tree
use Rattle.spec_trees.specs.Expr.{no_links, link}
use Rattle.spec_first_trees.specs.declared.BinaryOp.{BinaryOp}
use Rattle.spec_first_trees.specs.declared.BinaryOp.TheVariants as binary
use Rattle.spec_first_trees.specs.declared.CompareOp.{CompareOp}
use Rattle.spec_first_trees.specs.declared.CompareOp.TheVariants as compare
use Rattle.spec_first_trees.specs.Expr as first
use Rattle.spec_first_trees.specs.Expr.{Expr}
use Rattle.spec_grammar.specs.Reading.{◌>>=◌}

-- an operator of arithmetic that is run
abbrev pub binary_of : Operator → Option BinaryOp
binary_of operator.Add = Some binary.Add
binary_of operator.Subtract = Some binary.Subtract
binary_of operator.Multiply = Some binary.Multiply
binary_of _ = None

-- a comparison that is run
abbrev pub compare_of : Operator → Option CompareOp
compare_of operator.Equal = Some compare.Equal
compare_of operator.NotEqual = Some compare.NotEqual
compare_of operator.Less = Some compare.Less
compare_of operator.LessEqual = Some compare.LessEqual
compare_of operator.Greater = Some compare.Greater
compare_of operator.GreaterEqual = Some compare.GreaterEqual
compare_of _ = None

-- an integer has at most six digits
abbrev pub INTEGER_LIMIT : ℕ
INTEGER_LIMIT = 1000000

-- the expression that is run for a tree, where there is one of any size
abbrev pub run_as : tree.Expr → Option Expr
run_as (tree.name n x) = Some (first.name x)
run_as (tree.integer n v) = if nat_lt v INTEGER_LIMIT then Some (first.integer v) else None
run_as (tree.group n a) = run_as a >>= λ e. Some (first.group e)
run_as (tree.binary n o a b) = binary_of o >>= λ op. run_as a >>= λ d. run_as b >>= λ e. Some (first.binary op d e)
run_as (tree.chain n a (link o b no_links)) = compare_of o >>= λ op. run_as a >>= λ d. run_as b >>= λ e. Some (first.compare op d e)
run_as _ = None

-- an operator, a comparison and a pair of brackets count one each
abbrev pub height : Expr → ℕ
height (first.name x) = 0
height (first.integer n) = 0
height (first.binary op a b) = 1 + max (height a) (height b)
height (first.compare op a b) = 1 + max (height a) (height b)
height (first.group a) = 1 + height a

-- the number of nodes; brackets are none
abbrev pub size : Expr → ℕ
size (first.name x) = 1
size (first.integer n) = 1
size (first.binary op a b) = 1 + (size a + size b)
size (first.compare op a b) = 1 + (size a + size b)
size (first.group a) = size a

abbrev pub MAX_HEIGHT : ℕ
MAX_HEIGHT = 64

abbrev pub MAX_SIZE : ℕ
MAX_SIZE = 64

abbrev pub is_small : Expr → Bool
is_small e = nat_le (height e) MAX_HEIGHT && nat_le (size e) MAX_SIZE

-- the expression that is run for a tree
abbrev pub expression_of : tree.Expr → Option Expr
expression_of t = run_as t >>= λ e. if is_small e then Some e else None
