-- Statements with their blocks, and modules.
use Rattle.std.specs.Prelude.{ℕ, List, Option}
use Rattle.spec_trees.specs.Expr.{Expr}
use Rattle.spec_trees.specs.Stmt.{TypeExpr, Simple, Parameter}

mutual
  -- Each statement with blocks has first the line of its header.
  pub data Statement : Type 0 where
    simple : Simple → Statement
    -- the name, the parameters, the type of the result, and the body
    def : ℕ → List ℕ → List Parameter → Option TypeExpr → Block → Statement
    class : ℕ → List ℕ → Block → Statement
    -- the condition, its block, the branches of `elif`, and the block of `else`
    if : ℕ → Expr → Block → Branches → Block → Statement
    -- the condition, its block, and the block of `else`
    while : ℕ → Expr → Block → Block → Statement
    -- the variable, what it walks over, its block, and the block of `else`
    for : ℕ → List ℕ → Expr → Block → Block → Statement
    -- the block that is tried, the handlers of `except`, and the block of `else`
    try : ℕ → Block → Handlers → Block → Statement

  -- Where there is no `else`, its block has no statement. Every other block has at least one.
  pub data Block : Type 0 where
    no_statement : Block
    statement : Statement → Block → Block

  -- the line, the condition and the block of each `elif`
  pub data Branches : Type 0 where
    no_branch : Branches
    branch : ℕ → Expr → Block → Branches → Branches

  -- the line, the classes and the block of each `except`; the classes are none where all are caught
  pub data Handlers : Type 0 where
    no_handler : Handlers
    handler : ℕ → List (List ℕ) → Block → Handlers → Handlers

pub record Module : Type 0 where
  pub body : Block
