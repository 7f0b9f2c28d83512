-- The height of an expression, and that of a line.
use Rattle.std.specs.Prelude.{ℕ, ◌+◌, max, List, [], ◌∷◌, Option, Some, None}
use Rattle.spec_trees.specs.Expr.{Expr, name, integer, text, truth, none, group, list, dict, comprehension, attribute, call, index, slice, prefixed, binary, chain, choice, Generator, generator, Arguments, generated, listed, ArgumentList, no_arguments, argument, Bound, absent, present, Links, no_links, link, Exprs, no_exprs, item, Pairs, no_pairs, pair}
use Rattle.spec_trees.specs.Stmt as statement
use Rattle.spec_trees.specs.Stmt.{Simple, Parameter, Header, Line}

-- An operator, a chain, a conditional, an attribute, and a pair of brackets of any kind count one each. The brackets of a
-- call, a subscript and a display are such a pair.
abbrev mutual
  pub height : Expr → ℕ
  height (name n x) = 0
  height (integer n v) = 0
  height (text n p ps) = 0
  height (truth n b) = 0
  height (none n) = 0
  height (group n a) = 1 + height a
  height (list n es) = 1 + items_height es
  height (dict n ps) = 1 + pairs_height ps
  height (comprehension n g) = 1 + generator_height g
  height (attribute n a x) = 1 + height a
  height (call n a xs) = 1 + max (height a) (arguments_height xs)
  height (index n a i) = 1 + max (height a) (height i)
  height (slice n a from to) = 1 + max (height a) (max (bound_height from) (bound_height to))
  height (prefixed n o a) = 1 + height a
  height (binary n o a b) = 1 + max (height a) (height b)
  height (chain n a xs) = 1 + max (height a) (links_height xs)
  height (choice n a c b) = 1 + max (height a) (max (height c) (height b))

  pub generator_height : Generator → ℕ
  generator_height (generator e x i cs) = max (height e) (max (height i) (items_height cs))

  pub arguments_height : Arguments → ℕ
  arguments_height (generated g) = generator_height g
  arguments_height (listed xs) = list_height xs

  pub list_height : ArgumentList → ℕ
  list_height no_arguments = 0
  list_height (argument x e xs) = max (height e) (list_height xs)

  pub bound_height : Bound → ℕ
  bound_height absent = 0
  bound_height (present e) = height e

  pub links_height : Links → ℕ
  links_height no_links = 0
  links_height (link o e xs) = max (height e) (links_height xs)

  pub items_height : Exprs → ℕ
  items_height no_exprs = 0
  items_height (item e es) = max (height e) (items_height es)

  pub pairs_height : Pairs → ℕ
  pairs_height no_pairs = 0
  pairs_height (pair k e ps) = max (height k) (max (height e) (pairs_height ps))

-- A target is no expression: its own attribute or subscript counts nothing. The same holds of what `del` removes.
abbrev pub target_height : Expr → ℕ
target_height (attribute n a x) = height a
target_height (index n a i) = max (height a) (height i)
target_height e = height e

abbrev pub option_height : Option Expr → ℕ
option_height None = 0
option_height (Some e) = height e

-- the greatest height of an expression in a simple statement
abbrev pub simple_height : Simple → ℕ
simple_height (statement.assign n a e) = max (target_height a) (height e)
simple_height (statement.annotate n a d v) = max (target_height a) (option_height v)
simple_height (statement.augment n a o e) = max (target_height a) (height e)
simple_height (statement.evaluate n e) = height e
simple_height (statement.return n v) = option_height v
simple_height (statement.pass n) = 0
simple_height (statement.break n) = 0
simple_height (statement.continue n) = 0
simple_height (statement.assert n e m) = max (height e) (option_height m)
simple_height (statement.reraise n) = 0
simple_height (statement.raise n x None) = 0
simple_height (statement.raise n x (Some xs)) = arguments_height xs
simple_height (statement.delete n a) = target_height a
simple_height (statement.import n xs) = 0
simple_height (statement.import_from n x xs) = 0

abbrev pub parameters_height : List Parameter → ℕ
parameters_height [] = 0
parameters_height (p ∷ ps) = max (option_height p.default) (parameters_height ps)

-- the greatest height of an expression in a header
abbrev pub header_height : Header → ℕ
header_height (statement.def n x ps a) = parameters_height ps
header_height (statement.class n x) = 0
header_height (statement.if n e) = height e
header_height (statement.elif n e) = height e
header_height (statement.else n) = 0
header_height (statement.while n e) = height e
header_height (statement.for n x e) = height e
header_height (statement.try n) = 0
header_height (statement.except n xs) = 0

-- the greatest height of an expression in a line
abbrev pub line_height : Line → ℕ
line_height (statement.simple d) = simple_height d
line_height (statement.header h) = header_height h
line_height (statement.header_simple h d) = max (header_height h) (simple_height d)

-- the greatest height that is admitted
abbrev pub MAX_HEIGHT : ℕ
MAX_HEIGHT = 100
