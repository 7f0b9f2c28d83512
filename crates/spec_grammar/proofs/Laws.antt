-- What is read is the one tree, and nothing is read only where there is none.
use Rattle.std.proofs.Common.{◌≡◌, List, [], Some, refl, sym, ◌∙◌}
use Rattle.spec_trees.specs.Expr.{Expr}
use Rattle.spec_grammar.specs.Words.{Word}
use Rattle.spec_grammar.specs.Grammar.{IsExpr}
use Rattle.spec_grammar.specs.Reading.{read_expr, expr_of}
use Rattle.spec_grammar.proofs.Steps.{some_is, whole_is}
use Rattle.spec_grammar.proofs.Sound.{read_is_expr}
use Rattle.spec_grammar.proofs.Full.{expr_is_read}

pub expr_is : (s : List Word) (e : Expr) → expr_of s ≡ Some e → IsExpr s [] e
expr_is s e h = read_is_expr s (e, []) (whole_is (read_expr s) e h)

pub is_expr : (s : List Word) (e : Expr) → IsExpr s [] e → expr_of s ≡ Some e
is_expr s e h = rw (expr_is_read s [] e h (refl, refl)) refl

pub one_expr : (s : List Word) (d e : Expr) → IsExpr s [] d → IsExpr s [] e → d ≡ e
one_expr s d e g h = some_is d e (sym (is_expr s d g) ∙ is_expr s e h)
