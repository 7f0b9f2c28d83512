-- Types, simple statements and headers. Each has first the line on which its first token stands.
use Rattle.std.specs.Prelude.{ℕ, List, Option}
use Rattle.spec_trees.specs.declared.Operator.{Operator}
use Rattle.spec_trees.specs.Expr.{Expr, Arguments, StringPart}

mutual
  -- what an annotation says
  pub data TypeExpr : Type 0 where
    -- a name with its arguments, which are none where it has no brackets
    name : ℕ → List ℕ → TypeExprs → TypeExpr
    -- at least two types, of which the first stands apart
    union : ℕ → TypeExpr → TypeExprs → TypeExpr
    none : ℕ → TypeExpr
    string : ℕ → StringPart → TypeExpr

  pub data TypeExprs : Type 0 where
    no_types : TypeExprs
    type_item : TypeExpr → TypeExprs → TypeExprs

-- a statement that holds no block
pub data Simple : Type 0 where
  -- a target and its value
  assign : ℕ → Expr → Expr → Simple
  annotate : ℕ → Expr → TypeExpr → Option Expr → Simple
  augment : ℕ → Expr → Operator → Expr → Simple
  evaluate : ℕ → Expr → Simple
  return : ℕ → Option Expr → Simple
  pass : ℕ → Simple
  break : ℕ → Simple
  continue : ℕ → Simple
  -- the condition and the message
  assert : ℕ → Expr → Option Expr → Simple
  -- `raise` alone
  reraise : ℕ → Simple
  -- the class, and the arguments where there are brackets
  raise : ℕ → List ℕ → Option Arguments → Simple
  -- what is removed, which is an index
  delete : ℕ → Expr → Simple
  -- the names between the dots
  import : ℕ → List (List ℕ) → Simple
  -- the module and the names
  import_from : ℕ → List ℕ → List (List ℕ) → Simple

pub record Parameter : Type 0 where
  pub name : List ℕ
  pub annotation : Option TypeExpr
  pub default : Option Expr

-- what stands before a block
pub data Header : Type 0 where
  -- the name, the parameters, and the type of the result
  def : ℕ → List ℕ → List Parameter → Option TypeExpr → Header
  class : ℕ → List ℕ → Header
  if : ℕ → Expr → Header
  elif : ℕ → Expr → Header
  else : ℕ → Header
  while : ℕ → Expr → Header
  for : ℕ → List ℕ → Expr → Header
  try : ℕ → Header
  -- the classes, which are none where all are caught
  except : ℕ → List (List ℕ) → Header

-- a logical line
pub data Line : Type 0 where
  simple : Simple → Line
  header : Header → Line
  -- a header with the one statement of its block
  header_simple : Header → Simple → Line
