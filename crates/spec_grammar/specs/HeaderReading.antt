-- Reading a header and a line from left to right, with no way back.
use Rattle.std.specs.Prelude.{ℕ, zero, suc, List, [], ◌∷◌, ◌++◌, length, Option, Some, None}
use Rattle.spec_trees.specs.Expr.{Expr}
use Rattle.spec_trees.specs.Stmt as tree
use Rattle.spec_trees.specs.Stmt.{TypeExpr, Parameter, Header, def, class, if, elif, else, while, for, try, except, Line}
use Rattle.spec_grammar.specs.declared.Mark.{Mark}
use Rattle.spec_grammar.specs.declared.Mark.TheVariants as mark
use Rattle.spec_grammar.specs.Words.{Word, Name, Int, Str, Sign}
use Rattle.spec_grammar.specs.Marks.{sign_at, name_at}
use Rattle.spec_grammar.specs.Reading.{Parse, ◌>>=◌, given, read_expr}
use Rattle.spec_grammar.specs.TypeReading.{read_type}
use Rattle.spec_grammar.specs.StatementReading.{read_value, read_bracketed, simple_of}

-- [mark type]
unfoldable pub type_behind : Mark → Parse (Option TypeExpr)
type_behind m s = given (sign_at m s) (λ t. read_type t >>= λ a. Some (Some a.0, a.1)) (Some (None, s))

-- param = NAME [":" type] ["=" expr]
unfoldable pub read_parameter : Parse Parameter
read_parameter s = name_at s >>= λ x. type_behind mark.Colon x.1 >>= λ a. read_value a.1 >>= λ d. Some (record { name = x.0; annotation = a.0; default = d.0 }, d.1)

abbrev pub rest_of_parameters : Parse (List Parameter) → List Parameter → Parse (List Parameter)
rest_of_parameters next ps s = given (sign_at mark.CloseParen s) (λ r. Some (ps, r)) (sign_at mark.Comma s >>= next)

-- [param {"," param} [","]] ")", behind the parameters ps
unfoldable pub parameters_with : ℕ → List Parameter → Parse (List Parameter)
parameters_with zero ps s = None
parameters_with (suc k) ps s = given (sign_at mark.CloseParen s) (λ r. Some (ps, r)) (read_parameter s >>= λ p. rest_of_parameters (parameters_with k (ps ++ p.0 ∷ [])) (ps ++ p.0 ∷ []) p.1)

-- a header that ends here with a colon
abbrev pub with_colon : Header → List Word → Option (Header × List Word)
with_colon h s = sign_at mark.Colon s >>= λ r. Some (h, r)

unfoldable pub def_of : ℕ → Parse Header
def_of n s = name_at s >>= λ x. sign_at mark.OpenParen x.1 >>= λ t. parameters_with (suc (length t)) [] t >>= λ ps. type_behind mark.Arrow ps.1 >>= λ a. with_colon (def n x.0 ps.0 a.0) a.1

-- ["(" ")"]
abbrev pub brackets_at : List Word → Option (List Word)
brackets_at s = given (sign_at mark.OpenParen s) (sign_at mark.CloseParen) (Some s)

unfoldable pub class_of : ℕ → Parse Header
class_of n s = name_at s >>= λ x. brackets_at x.1 >>= λ r. with_colon (class n x.0) r

unfoldable pub condition_of : (Expr → Header) → Parse Header
condition_of h s = read_expr s >>= λ e. with_colon (h e.0) e.1

unfoldable pub for_of : ℕ → Parse Header
for_of n s = name_at s >>= λ x. sign_at mark.In x.1 >>= λ t. read_expr t >>= λ e. with_colon (for n x.0 e.0) e.1

-- [NAME | "(" names [","] ")"]
unfoldable pub read_caught : Parse (List (List ℕ))
read_caught s = given (name_at s) (λ x. Some (x.0 ∷ [], x.1)) (given (sign_at mark.OpenParen s) read_bracketed (Some ([], s)))

unfoldable pub except_of : ℕ → Parse Header
except_of n s = read_caught s >>= λ xs. with_colon (except n xs.0) xs.1

-- the header that a sign on line n begins, where s follows the sign
unfoldable pub headed_of : Mark → ℕ → Parse Header
headed_of mark.Def n s = def_of n s
headed_of mark.Class n s = class_of n s
headed_of mark.If n s = condition_of (if n) s
headed_of mark.Elif n s = condition_of (elif n) s
headed_of mark.Else n s = with_colon (else n) s
headed_of mark.While n s = condition_of (while n) s
headed_of mark.For n s = for_of n s
headed_of mark.Try n s = with_colon (try n) s
headed_of mark.Except n s = except_of n s
headed_of _ n s = None

-- the header that words begin with, and what follows it
unfoldable pub read_header : Parse Header
read_header [] = None
read_header (Name n x ∷ s) = None
read_header (Int n v ∷ s) = None
read_header (Str p ∷ s) = None
read_header (Sign n m ∷ s) = headed_of m n s

-- a header and the statement behind it, where there is one
unfoldable pub headed_line : Header → List Word → Option Line
headed_line h [] = Some (tree.header h)
headed_line h (w ∷ s) = simple_of (w ∷ s) >>= λ d. Some (tree.header_simple h d)

-- the line that all the words spell, where there is one
unfoldable pub read_line : List Word → Option Line
read_line s = given (read_header s) (λ h. headed_line h.0 h.1) (simple_of s >>= λ d. Some (tree.simple d))
