-- Expressions.
use Rattle.std.specs.Prelude.{ℕ, List}
use Rattle.spec_first_trees.specs.declared.BinaryOp.{BinaryOp}
use Rattle.spec_first_trees.specs.declared.CompareOp.{CompareOp}

-- An expression. Brackets are kept, since they count for the height; they have no meaning of their own.
pub data Expr : Type 0 where
  name : List ℕ → Expr
  integer : ℕ → Expr
  binary : BinaryOp → Expr → Expr → Expr
  compare : CompareOp → Expr → Expr → Expr
  group : Expr → Expr
