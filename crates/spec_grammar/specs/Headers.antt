-- The grammar of headers and of lines. `IsHeader s r h` says that the words of s up to r spell the header h.
use Rattle.std.specs.Prelude.{ℕ, List, [], ◌∷◌, Option, Some, None}
use Rattle.spec_trees.specs.Expr.{Expr}
use Rattle.spec_trees.specs.Stmt as tree
use Rattle.spec_trees.specs.Stmt.{TypeExpr, Parameter, Simple, Header, Line}
use Rattle.spec_grammar.specs.declared.Mark.TheVariants as mark
use Rattle.spec_grammar.specs.Words.{Word, line_of, IsSign, IsName}
use Rattle.spec_grammar.specs.Grammar.{IsExpr}
use Rattle.spec_grammar.specs.Types.{IsType}
use Rattle.spec_grammar.specs.Statements.{IsValue, IsNames, IsClosing, IsSimple}

-- [":" type]
pub data IsAnnotation : List Word → List Word → Option TypeExpr → Type 0 where
  no_annotation : {r : List Word} → IsAnnotation r r None
  annotation : {s t r : List Word} {a : TypeExpr} → IsSign mark.Colon s t → IsType t r a → IsAnnotation s r (Some a)

-- ["->" type]
pub data IsResult : List Word → List Word → Option TypeExpr → Type 0 where
  no_result : {r : List Word} → IsResult r r None
  result : {s t r : List Word} {a : TypeExpr} → IsSign mark.Arrow s t → IsType t r a → IsResult s r (Some a)

-- param = NAME [":" type] ["=" expr]
pub data IsParameter : List Word → List Word → Parameter → Type 0 where
  parameter : {s t u r : List Word} {x : List ℕ} {a : Option TypeExpr} {d : Option Expr} → IsName s t x → IsAnnotation t u a → IsValue u r d → IsParameter s r (record { name = x; annotation = a; default = d })

mutual
  -- [param {"," param} [","]] ")"
  pub data IsParameters : List Word → List Word → List Parameter → Type 0 where
    no_more : {s r : List Word} → IsSign mark.CloseParen s r → IsParameters s r []
    more : {s m r : List Word} {p : Parameter} {ps : List Parameter} → IsParameter s m p → IsRest m r ps → IsParameters s r (p ∷ ps)

  -- what follows a parameter
  pub data IsRest : List Word → List Word → List Parameter → Type 0 where
    end : {s r : List Word} → IsSign mark.CloseParen s r → IsRest s r []
    comma : {s t r : List Word} {ps : List Parameter} → IsSign mark.Comma s t → IsParameters t r ps → IsRest s r ps

-- ["(" ")"]
pub data IsBrackets : List Word → List Word → Type 0 where
  no_brackets : {r : List Word} → IsBrackets r r
  brackets : {s t r : List Word} → IsSign mark.OpenParen s t → IsSign mark.CloseParen t r → IsBrackets s r

-- [NAME | "(" names [","] ")"]
pub data IsCaught : List Word → List Word → List (List ℕ) → Type 0 where
  all_classes : {r : List Word} → IsCaught r r []
  one_class : {s r : List Word} {x : List ℕ} → IsName s r x → IsCaught s r (x ∷ [])
  classes : {s t m r : List Word} {xs : List (List ℕ)} → IsSign mark.OpenParen s t → IsNames mark.Comma t m xs → IsClosing m r → IsCaught s r xs

pub data IsHeader : List Word → List Word → Header → Type 0 where
  -- "def" NAME "(" [param {"," param} [","]] ")" ["->" type] ":"
  defines : {s t u v w y r : List Word} {x : List ℕ} {ps : List Parameter} {a : Option TypeExpr} → IsSign mark.Def s t → IsName t u x → IsSign mark.OpenParen u v → IsParameters v w ps → IsResult w y a → IsSign mark.Colon y r → IsHeader s r (tree.def (line_of s) x ps a)
  -- "class" NAME ["(" ")"] ":"
  classifies : {s t u v r : List Word} {x : List ℕ} → IsSign mark.Class s t → IsName t u x → IsBrackets u v → IsSign mark.Colon v r → IsHeader s r (tree.class (line_of s) x)
  -- "if" expr ":"
  tests : {s t u r : List Word} {e : Expr} → IsSign mark.If s t → IsExpr t u e → IsSign mark.Colon u r → IsHeader s r (tree.if (line_of s) e)
  -- "elif" expr ":"
  tests_again : {s t u r : List Word} {e : Expr} → IsSign mark.Elif s t → IsExpr t u e → IsSign mark.Colon u r → IsHeader s r (tree.elif (line_of s) e)
  -- "else" ":"
  otherwise : {s t r : List Word} → IsSign mark.Else s t → IsSign mark.Colon t r → IsHeader s r (tree.else (line_of s))
  -- "while" expr ":"
  repeats : {s t u r : List Word} {e : Expr} → IsSign mark.While s t → IsExpr t u e → IsSign mark.Colon u r → IsHeader s r (tree.while (line_of s) e)
  -- "for" NAME "in" expr ":"
  walks : {s t u v w r : List Word} {x : List ℕ} {e : Expr} → IsSign mark.For s t → IsName t u x → IsSign mark.In u v → IsExpr v w e → IsSign mark.Colon w r → IsHeader s r (tree.for (line_of s) x e)
  -- "try" ":"
  tries : {s t r : List Word} → IsSign mark.Try s t → IsSign mark.Colon t r → IsHeader s r (tree.try (line_of s))
  -- "except" [NAME | "(" names [","] ")"] ":"
  catches : {s t u r : List Word} {xs : List (List ℕ)} → IsSign mark.Except s t → IsCaught t u xs → IsSign mark.Colon u r → IsHeader s r (tree.except (line_of s) xs)

-- A logical line is a simple statement, a header, or a header with one simple statement, which is then its whole block.
pub data IsLine : List Word → Line → Type 0 where
  simple : {s : List Word} {d : Simple} → IsSimple s d → IsLine s (tree.simple d)
  header : {s : List Word} {h : Header} → IsHeader s [] h → IsLine s (tree.header h)
  header_simple : {s r : List Word} {h : Header} {d : Simple} → IsHeader s r h → IsSimple r d → IsLine s (tree.header_simple h d)
