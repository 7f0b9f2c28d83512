-- The names that expressions may have.
use Rattle.std.specs.Prelude.{ℕ, Bool, true, ◌&&◌, List, codes}
use Rattle.spec_first_trees.specs.Expr.{Expr, name, integer, binary, compare, group}
use Rattle.spec_contracts.specs.ContractLines.{is_among}

-- the name of the returned value in a post line
abbrev pub returned_name : List ℕ
returned_name = codes "__return__"

-- each name of the expression is one of these
abbrev pub names_among : List (List ℕ) → Expr → Bool
names_among names (name x) = is_among names x
names_among names (integer n) = true
names_among names (binary op a b) = names_among names a && names_among names b
names_among names (compare op a b) = names_among names a && names_among names b
names_among names (group a) = names_among names a
