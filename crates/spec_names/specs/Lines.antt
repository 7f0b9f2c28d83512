-- The lines of statements and expressions: those on which their first tokens stand.
use Rattle.std.specs.Prelude.{ℕ}
use Rattle.spec_trees.specs.Expr.{Expr, name, integer, text, truth, none, group, list, dict, comprehension, attribute, call, index, slice, prefixed, binary, chain, choice}
use Rattle.spec_trees.specs.Module as tree
use Rattle.spec_trees.specs.Module.{Statement}
use Rattle.spec_syntax.specs.Placement.{number_of_simple}

-- the line of a statement
abbrev pub line_of : Statement → ℕ
line_of (tree.simple x) = number_of_simple x
line_of (tree.def n x ps r b) = n
line_of (tree.class n x b) = n
line_of (tree.if n c b bs d) = n
line_of (tree.while n c b d) = n
line_of (tree.for n x e b d) = n
line_of (tree.try n b hs d) = n

-- the line of an expression
abbrev pub line_of_expression : Expr → ℕ
line_of_expression (name n x) = n
line_of_expression (integer n v) = n
line_of_expression (text n p ps) = n
line_of_expression (truth n b) = n
line_of_expression (none n) = n
line_of_expression (group n e) = n
line_of_expression (list n xs) = n
line_of_expression (dict n xs) = n
line_of_expression (comprehension n g) = n
line_of_expression (attribute n e x) = n
line_of_expression (call n e xs) = n
line_of_expression (index n e i) = n
line_of_expression (slice n e a b) = n
line_of_expression (prefixed n o e) = n
line_of_expression (binary n o a b) = n
line_of_expression (chain n e ls) = n
line_of_expression (choice n e c d) = n
