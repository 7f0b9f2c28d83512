-- Expressions. Each has first the line on which its first token stands. Names, and the source of a text, are lists of bytes in UTF-8, and values of texts lists of code points.
use Rattle.std.specs.Prelude.{ℕ, Bool, List, Option}
use Rattle.spec_trees.specs.declared.Operator.{Operator}
use Rattle.spec_trees.specs.declared.Prefix.{Prefix}

-- one string literal
pub record StringPart : Type 0 where
  -- the code points that it stands for
  pub value : List ℕ
  -- what stands between its quotes
  pub source : List ℕ
  -- whether it has the prefix r
  pub raw : Bool
  -- the number of blanks that the line on which it starts begins with
  pub indent : ℕ
  pub line : ℕ

mutual
  pub data Expr : Type 0 where
    name : ℕ → List ℕ → Expr
    integer : ℕ → ℕ → Expr
    -- adjacent string literals, of which there is at least one
    text : ℕ → StringPart → List StringPart → Expr
    truth : ℕ → Bool → Expr
    none : ℕ → Expr
    -- brackets round an expression, which count for the height and have no meaning of their own
    group : ℕ → Expr → Expr
    list : ℕ → Exprs → Expr
    dict : ℕ → Pairs → Expr
    comprehension : ℕ → Generator → Expr
    attribute : ℕ → Expr → List ℕ → Expr
    call : ℕ → Expr → Arguments → Expr
    index : ℕ → Expr → Expr → Expr
    slice : ℕ → Expr → Bound → Bound → Expr
    prefixed : ℕ → Prefix → Expr → Expr
    binary : ℕ → Operator → Expr → Expr → Expr
    -- a chain of comparisons, of `and` or of `or`, with its first operand
    chain : ℕ → Expr → Links → Expr
    -- the value, the condition, and the value where it is false
    choice : ℕ → Expr → Expr → Expr → Expr

  -- the element, the variable, what it walks over, and the conditions
  pub data Generator : Type 0 where
    generator : Expr → List ℕ → Expr → Exprs → Generator

  -- a generator stands alone between the brackets of a call
  pub data Arguments : Type 0 where
    generated : Generator → Arguments
    listed : ArgumentList → Arguments

  -- a keyword argument has its name
  pub data ArgumentList : Type 0 where
    no_arguments : ArgumentList
    argument : Option (List ℕ) → Expr → ArgumentList → ArgumentList

  -- the start or the end of a slice
  pub data Bound : Type 0 where
    absent : Bound
    present : Expr → Bound

  -- the operators of a chain, each with the operand behind it
  pub data Links : Type 0 where
    no_links : Links
    link : Operator → Expr → Links → Links

  pub data Exprs : Type 0 where
    no_exprs : Exprs
    item : Expr → Exprs → Exprs

  -- keys and values
  pub data Pairs : Type 0 where
    no_pairs : Pairs
    pair : Expr → Expr → Pairs → Pairs
