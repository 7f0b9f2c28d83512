-- Programs: functions and classes with their contracts.
use Rattle.std.specs.Prelude.{ℕ, Bool, List, Option}
use Rattle.spec_trees.specs.Expr.{Expr}
use Rattle.spec_trees.specs.Stmt.{TypeExpr}
use Rattle.spec_trees.specs.Module.{Block}
use Rattle.spec_first_trees.specs.declared.ExcClass.{ExcClass}

pub record Param : Type 0 where
  pub name : List ℕ
  -- the annotation, in which each string is exchanged for the type that it holds, where all of them hold one
  pub type : Option TypeExpr
  pub default : Option Expr

-- What is checked of a function. Each has the line at which it is reported.
pub data Condition : Type 0 where
  -- no exception class is raised but those that are permitted
  Raises : ℕ → Condition
  -- the expression holds behind a normal return, and where names are given, the other parameters are as they were
  Post : ℕ → Expr → Option (List (List ℕ)) → Condition
  -- the expression holds of the object
  Invariant : ℕ → Expr → Condition

pub record Function : Type 0 where
  pub name : List ℕ
  -- the line of its `def`
  pub line : ℕ
  -- the number of its class
  pub class : Option ℕ
  pub is_checked : Bool
  pub parameters : List Param
  pub preconditions : List Expr
  -- the exception classes that may be raised, with those below them
  pub permitted : List ExcClass
  -- none where it is not checked
  pub conditions : List Condition
  pub body : Block

pub record Class : Type 0 where
  pub name : List ℕ
  pub line : ℕ
  -- the number of the function that makes its objects
  pub constructor : Option ℕ
  pub invariants : List Expr

-- Functions and classes have numbers from 0, each in the order of lines.
pub record Program : Type 0 where
  pub functions : List Function
  pub classes : List Class
