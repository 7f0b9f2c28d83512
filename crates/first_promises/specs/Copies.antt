-- The expressions that are run, with certain names and within what is left of the greatest height and size.
use Rattle.std.specs.Prelude.{◌≡◌, ◌<◌, ℕ, zero, suc, ◌+◌, ◌-◌, Bool, ◌&&◌, nat_le, List, [], ◌∷◌, length, Option, Some, None, Result, Ok, Err, if◌then◌else◌}
use Rattle.spec_trees.specs.Expr as tree
use Rattle.spec_first_trees.specs.declared.CompareOp.{CompareOp}
use Rattle.spec_first_trees.specs.Expr.{Expr}
use Rattle.spec_grammar.specs.Reading.{◌>>=◌}
use Rattle.spec_forms.specs.Names.{names_among}
use Rattle.spec_forms.specs.Expressions.{compare_of, run_as, height, size}
use Rattle.py_tree.specs.declared.ids.ExprId as source
use Rattle.py_tree.specs.declared.exprs.Link.{Link}
use Rattle.first_tree.specs.declared.nodes.ExprNode.{ExprNode}
use Rattle.first_tree.specs.Arena.{shown}
use Rattle.first_promises.specs.declared.errors.Unformed.{Unformed}
use Rattle.first_promises.specs.declared.expressions.Copied.{Copied}
use Rattle.first_promises.specs.declared.expressions.Operands.{Operands}
use Rattle.first_promises.specs.Gives.{Fails}

module _ (names : List (List ℕ)) where
  -- an expression whose names are among these, at most so high and of at most so many nodes
  abbrev pub fits : ℕ → ℕ → Expr → Bool
  fits h l e = names_among names e && (nat_le (height e) h && nat_le (size e) l)

  abbrev pub if_fits : ℕ → ℕ → Expr → Option Expr
  if_fits h l e = if fits h l e then Some e else None

  -- the expression that is run for a tree, where it fits
  abbrev pub fitting : ℕ → ℕ → tree.Expr → Option Expr
  fitting h l t = run_as t >>= if_fits h l

  -- both operands of a node that is at most so high and has at most so many nodes
  abbrev pub both_fit : ℕ → ℕ → Option Expr → Option Expr → Option (Expr × Expr)
  both_fit zero l o p = None
  both_fit (suc h) zero o p = None
  both_fit (suc h) (suc l) o p = (o >>= if_fits h l) >>= λ d. (p >>= if_fits h (l - size d)) >>= λ e. Some (d, e)

  abbrev pub operands : ℕ → ℕ → tree.Expr → tree.Expr → Option (Expr × Expr)
  operands h l a b = both_fit h l (run_as a) (run_as b)

-- the comparison of a chain that has one link alone, with its operand
abbrev pub comparison : List Link → Option (CompareOp × source.ExprId)
comparison [] = None
comparison (x ∷ []) = compare_of x.operator >>= λ op. Some (op, x.operand)
comparison (x ∷ y ∷ xs) = None

-- The expression is there, with what is left of the size l.
abbrev pub Copies : List ExprNode → ℕ → Result Copied Unformed → Option Expr → Type 0
Copies nodes l (Ok c) o = (c.expr.index < length nodes) × (o ≡ Some (shown nodes c.expr.index)) × (l ≡ size (shown nodes c.expr.index) + c.size_left)
Copies nodes l (Err u) o = Fails u o

-- The operands are there, with what is left of the size l, of which their node takes one.
abbrev pub CopiesOperands : List ExprNode → ℕ → Result Operands Unformed → Option (Expr × Expr) → Type 0
CopiesOperands nodes l (Ok p) o = (p.left.index < length nodes) × (p.right.index < length nodes)
    × (o ≡ Some (shown nodes p.left.index, shown nodes p.right.index))
    × (l ≡ 1 + (size (shown nodes p.left.index) + size (shown nodes p.right.index)) + p.size_left)
CopiesOperands nodes l (Err u) o = Fails u o
