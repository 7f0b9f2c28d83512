-- Expressions that stand in texts.
use Rattle.std.proofs.Common.{◌≡◌, ℕ, List, true, Some, None, Result, Ok, Err, refl, sym, ap}
use Rattle.std.specs.Prelude.{IsUtf8, chars, encode_utf8_all}
use Rattle.std.proofs.lemmas.Str.{chars_from_encodes}
use Rattle.spec_trees.specs.Expr.{Expr}
use Rattle.spec_syntax.specs.Phases.{Misfit}
use Rattle.py_tree.specs.declared.ids.ExprId.{ExprId}
use Rattle.py_tree.specs.Arena.{State}
use Rattle.py_parser.specs.declared.errors.SyntaxError.{SyntaxError}
use Rattle.py_parser.specs.declared.errors.SyntaxError.TheVariants as error
use Rattle.py_parser.specs.Given.{GivesExpression}
use Rattle.contract_lines.specs.Errors.{is_refusal}
use Rattle.contract_lines.specs.Given.{IsSpelled}

pub text_is : (bs cs : List ℕ) → IsUtf8 bs → bs ≡ encode_utf8_all cs → chars bs ≡ cs
text_is bs cs u e = sym (chars_from_encodes cs bs u (sym e))

pub read : (m : State) (e : ExprId) (r : Result Expr Misfit) → GivesExpression m (Ok e) r → IsSpelled m (Some e) r
read m e (Ok x) h = (h.0, ap (λ (y : Expr). Ok y) (sym h.1))
read m e (Err f) h = absurd h

pub unread : (m : State) (e : SyntaxError) (r : Result Expr Misfit) → GivesExpression m (Err e) r → is_refusal e ≡ true → IsSpelled m None r
unread m (error.Line n) r h b = rw h refl
unread m (error.TooDeep n) r h b = rw h refl
unread m (error.Block n) r h b = absurd h
unread m error.NoMemory r h b = absurd cc
