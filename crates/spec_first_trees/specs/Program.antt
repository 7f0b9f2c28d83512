-- Programs: the functions that are checked, with their conditions. Names are lists of bytes.
use Rattle.std.specs.Prelude.{ℕ, List}
use Rattle.spec_first_trees.specs.declared.ExcClass.{ExcClass}
use Rattle.spec_first_trees.specs.Expr.{Expr}

-- the types of parameters
pub data ParameterType : Type 0 where
  Integer : ParameterType

pub record Parameter : Type 0 where
  pub name : List ℕ
  pub type : ParameterType

pub data Statement : Type 0 where
  -- a string literal, which is dropped
  Text : List ℕ → Statement
  Return : Expr → Statement

-- a statement with its number in the module
pub record Numbered : Type 0 where
  pub number : ℕ
  pub statement : Statement

-- What a function promises. Each condition has the line under which it is reported.
pub data Condition : Type 0 where
  -- no exception class is raised but these and those below them
  Raises : ℕ → List ExcClass → Condition
  -- the expression holds after the call
  Post : ℕ → Expr → Condition

pub record Function : Type 0 where
  pub name : List ℕ
  pub parameters : List Parameter
  pub preconditions : List Expr
  pub conditions : List Condition
  pub body : List Numbered

-- the checked functions in the order of their lines
pub record Program : Type 0 where
  pub functions : List Function
