-- What reading a text answers, beside what the definition says of it.
use Rattle.std.specs.Prelude.{◌≡◌, ⊤, ℕ, ◌<◌, nat_lt, List, length, Option, Some, None, Result, Ok, Err, if◌then◌else◌}
use Rattle.spec_tokens.specs.declared.Refusal.{Refusal}
use Rattle.spec_tokens.specs.Tokens.{Scan}
use Rattle.spec_trees.specs.Expr.{Expr}
use Rattle.spec_trees.specs.Stmt.{TypeExpr}
use Rattle.spec_grammar.specs.Words.{Word}
use Rattle.spec_grammar.specs.Load.{load, MAX_LOAD}
use Rattle.spec_syntax.specs.Phases.{Misfit, too_deep, no_line}
use Rattle.py_tree.specs.declared.ids.ExprId.{ExprId}
use Rattle.py_tree.specs.declared.ids.TypeId.{TypeId}
use Rattle.py_tree.specs.Arena.{State, shown, shown_type}
use Rattle.py_words.specs.declared.unread.Unread.{Unread}
use Rattle.py_words.specs.declared.unread.Unread.TheVariants.{NoForm, NoMemory}
use Rattle.py_parser.specs.declared.errors.SyntaxError.{SyntaxError}
use Rattle.py_parser.specs.declared.errors.SyntaxError.TheVariants as error

-- ---- whole texts

-- an error tells why there is no tree; a want of memory tells nothing
abbrev pub Tells : {A : Type 0} → SyntaxError → Result A Misfit → Type 0
Tells (error.Line n) r = r ≡ Err (no_line n)
Tells (error.TooDeep n) r = r ≡ Err (too_deep n)
Tells (error.Block n) r = ⊥
Tells error.NoMemory r = ⊤

-- the expression of a text is there, and its tree is the one that is defined
abbrev pub GivesExpression : State → Result ExprId SyntaxError → Result Expr Misfit → Type 0
GivesExpression m (Ok e) (Ok x) = (e.index < length m.exprs) × (shown m e.index ≡ x)
GivesExpression m (Ok e) (Err f) = ⊥
GivesExpression m (Err e) r = Tells e r

-- the same of a type
abbrev pub GivesType : State → Result TypeId SyntaxError → Result TypeExpr Misfit → Type 0
GivesType m (Ok t) (Ok x) = (t.index < length m.types) × (shown_type m t.index ≡ x)
GivesType m (Ok t) (Err f) = ⊥
GivesType m (Err e) r = Tells e r

-- ---- the words of a text

abbrev pub scan_of : Result Scan Refusal → Option Scan
scan_of (Ok s) = Some s
scan_of (Err r) = None

-- words on the line n, or that their load is too great
abbrev pub admitted : ℕ → List Word → Result (List Word) Misfit
admitted n s = if nat_lt MAX_LOAD (load s) then Err (too_deep n) else Ok s

abbrev pub GivesWords : Result (List Word) SyntaxError → Result (List Word) Misfit → Type 0
GivesWords (Ok s) r = r ≡ Ok s
GivesWords (Err e) r = Tells e r

-- the error on the line n where words do not begin with what is read
abbrev pub IsErrorOf : Unread → ℕ → SyntaxError → Type 0
IsErrorOf NoForm n e = e ≡ error.Line n
IsErrorOf NoMemory n e = e ≡ error.NoMemory
