-- The grammar of simple statements. `IsSimple s d` says that all the words of s spell the statement d.
use Rattle.std.specs.Prelude.{◌≡◌, ℕ, List, [], ◌∷◌, Option, Some, None}
use Rattle.spec_trees.specs.declared.Operator.{Operator}
use Rattle.spec_trees.specs.Expr as expr
use Rattle.spec_trees.specs.Expr.{Expr, Arguments}
use Rattle.spec_trees.specs.Stmt as tree
use Rattle.spec_trees.specs.Stmt.{TypeExpr, Simple}
use Rattle.spec_grammar.specs.declared.Mark.{Mark}
use Rattle.spec_grammar.specs.declared.Mark.TheVariants as mark
use Rattle.spec_grammar.specs.Words.{Word, line_of, IsSign, IsName}
use Rattle.spec_grammar.specs.Marks.{augmented_at}
use Rattle.spec_grammar.specs.Grammar.{IsExpr, IsPrim, IsArguments}
use Rattle.spec_grammar.specs.Types.{IsType}

-- target = NAME | prim "." NAME | prim "[" expr "]"
pub data IsTarget : List Word → List Word → Expr → Type 0 where
  to_name : {s r : List Word} {x : List ℕ} → IsName s r x → IsTarget s r (expr.name (line_of s) x)
  to_attribute : {s m t r : List Word} {a : Expr} {x : List ℕ} → IsPrim s m a → IsSign mark.Dot m t → IsName t r x → IsTarget s r (expr.attribute (line_of s) a x)
  to_index : {s m t u r : List Word} {a i : Expr} → IsPrim s m a → IsSign mark.OpenBracket m t → IsExpr t u i → IsSign mark.CloseBracket u r → IsTarget s r (expr.index (line_of s) a i)

-- ["=" expr]
pub data IsValue : List Word → List Word → Option Expr → Type 0 where
  no_value : {r : List Word} → IsValue r r None
  value : {s t r : List Word} {e : Expr} → IsSign mark.Assign s t → IsExpr t r e → IsValue s r (Some e)

-- {separator NAME}
pub data IsMoreNames : Mark → List Word → List Word → List (List ℕ) → Type 0 where
  no_name : {m : Mark} {r : List Word} → IsMoreNames m r r []
  another_name : {m : Mark} {s t u r : List Word} {x : List ℕ} {xs : List (List ℕ)} → IsSign m s t → IsName t u x → IsMoreNames m u r xs → IsMoreNames m s r (x ∷ xs)

-- NAME {separator NAME}
pub data IsNames : Mark → List Word → List Word → List (List ℕ) → Type 0 where
  names : {m : Mark} {s t r : List Word} {x : List ℕ} {xs : List (List ℕ)} → IsName s t x → IsMoreNames m t r xs → IsNames m s r (x ∷ xs)

-- [","] ")"
pub data IsClosing : List Word → List Word → Type 0 where
  closing : {s r : List Word} → IsSign mark.CloseParen s r → IsClosing s r
  comma_closing : {s t r : List Word} → IsSign mark.Comma s t → IsSign mark.CloseParen t r → IsClosing s r

-- names | "(" names [","] ")"
pub data IsImported : List Word → List Word → List (List ℕ) → Type 0 where
  bare : {s r : List Word} {xs : List (List ℕ)} → IsNames mark.Comma s r xs → IsImported s r xs
  bracketed : {s t m r : List Word} {xs : List (List ℕ)} → IsSign mark.OpenParen s t → IsNames mark.Comma t m xs → IsClosing m r → IsImported s r xs

pub data IsSimple : List Word → Simple → Type 0 where
  -- target "=" expr
  assigns : {s m t : List Word} {a e : Expr} → IsTarget s m a → IsSign mark.Assign m t → IsExpr t [] e → IsSimple s (tree.assign (line_of s) a e)
  -- target ":" type ["=" expr]
  annotates : {s m t u : List Word} {a : Expr} {d : TypeExpr} {v : Option Expr} → IsTarget s m a → IsSign mark.Colon m t → IsType t u d → IsValue u [] v → IsSimple s (tree.annotate (line_of s) a d v)
  -- target aug expr
  augments : {s m t : List Word} {a e : Expr} {o : Operator} → IsTarget s m a → augmented_at m ≡ Some (o, t) → IsExpr t [] e → IsSimple s (tree.augment (line_of s) a o e)
  -- expr
  evaluates : {s : List Word} {e : Expr} → IsExpr s [] e → IsSimple s (tree.evaluate (line_of s) e)
  -- "return" [expr]
  returns : {s : List Word} → IsSign mark.Return s [] → IsSimple s (tree.return (line_of s) None)
  returns_value : {s t : List Word} {e : Expr} → IsSign mark.Return s t → IsExpr t [] e → IsSimple s (tree.return (line_of s) (Some e))
  passes : {s : List Word} → IsSign mark.Pass s [] → IsSimple s (tree.pass (line_of s))
  breaks : {s : List Word} → IsSign mark.Break s [] → IsSimple s (tree.break (line_of s))
  continues : {s : List Word} → IsSign mark.Continue s [] → IsSimple s (tree.continue (line_of s))
  -- "assert" expr ["," expr]
  asserts : {s t : List Word} {e : Expr} → IsSign mark.Assert s t → IsExpr t [] e → IsSimple s (tree.assert (line_of s) e None)
  asserts_message : {s t m u : List Word} {e d : Expr} → IsSign mark.Assert s t → IsExpr t m e → IsSign mark.Comma m u → IsExpr u [] d → IsSimple s (tree.assert (line_of s) e (Some d))
  -- "raise" [NAME ["(" args ")"]]
  reraises : {s : List Word} → IsSign mark.Raise s [] → IsSimple s (tree.reraise (line_of s))
  raises : {s t : List Word} {x : List ℕ} → IsSign mark.Raise s t → IsName t [] x → IsSimple s (tree.raise (line_of s) x None)
  raises_arguments : {s t u v : List Word} {x : List ℕ} {xs : Arguments} → IsSign mark.Raise s t → IsName t u x → IsSign mark.OpenParen u v → IsArguments v [] xs → IsSimple s (tree.raise (line_of s) x (Some xs))
  -- "del" prim "[" expr "]"
  deletes : {s t m u v : List Word} {a i : Expr} → IsSign mark.Del s t → IsPrim t m a → IsSign mark.OpenBracket m u → IsExpr u v i → IsSign mark.CloseBracket v [] → IsSimple s (tree.delete (line_of s) (expr.index (line_of t) a i))
  -- "import" NAME {"." NAME}
  imports : {s t : List Word} {xs : List (List ℕ)} → IsSign mark.Import s t → IsNames mark.Dot t [] xs → IsSimple s (tree.import (line_of s) xs)
  -- "from" NAME "import" (names | "(" names [","] ")")
  imports_from : {s t u v : List Word} {x : List ℕ} {xs : List (List ℕ)} → IsSign mark.From s t → IsName t u x → IsSign mark.Import u v → IsImported v [] xs → IsSimple s (tree.import_from (line_of s) x xs)
