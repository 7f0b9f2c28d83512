-- The grammar of types. `IsType s r t` says that the words of s up to r spell the type t.
use Rattle.std.specs.Prelude.{ℕ, List}
use Rattle.spec_trees.specs.Expr.{StringPart}
use Rattle.spec_trees.specs.Stmt as tree
use Rattle.spec_trees.specs.Stmt.{TypeExpr, TypeExprs}
use Rattle.spec_grammar.specs.declared.Mark.TheVariants as mark
use Rattle.spec_grammar.specs.Words.{Word, line_of, IsSign, IsName, IsString}

-- one type is itself, and more are a union
abbrev pub union_tree : ℕ → TypeExpr → TypeExprs → TypeExpr
union_tree n a tree.no_types = a
union_tree n a (tree.type_item b ts) = tree.union n a (tree.type_item b ts)

mutual
  -- type = tatom {"|" tatom}
  pub data IsType : List Word → List Word → TypeExpr → Type 0 where
    union : {s m r : List Word} {a : TypeExpr} {ts : TypeExprs} → IsTypeAtom s m a → IsMembers m r ts → IsType s r (union_tree (line_of s) a ts)

  -- {"|" tatom}
  pub data IsMembers : List Word → List Word → TypeExprs → Type 0 where
    no_member : {r : List Word} → IsMembers r r tree.no_types
    member : {s t m r : List Word} {a : TypeExpr} {ts : TypeExprs} → IsSign mark.Bar s t → IsTypeAtom t m a → IsMembers m r ts → IsMembers s r (tree.type_item a ts)

  -- tatom = NAME ["[" type {"," type} "]"] | "None" | STR
  pub data IsTypeAtom : List Word → List Word → TypeExpr → Type 0 where
    name : {s r : List Word} {x : List ℕ} → IsName s r x → IsTypeAtom s r (tree.name (line_of s) x tree.no_types)
    applied : {s t u m r : List Word} {x : List ℕ} {a : TypeExpr} {ts : TypeExprs} → IsName s t x → IsSign mark.OpenBracket t u → IsType u m a → IsTypeArguments m r ts → IsTypeAtom s r (tree.name (line_of s) x (tree.type_item a ts))
    none : {s r : List Word} → IsSign mark.None s r → IsTypeAtom s r (tree.none (line_of s))
    string : {s r : List Word} {p : StringPart} → IsString s r p → IsTypeAtom s r (tree.string (line_of s) p)

  -- {"," type} "]"
  pub data IsTypeArguments : List Word → List Word → TypeExprs → Type 0 where
    closed : {s r : List Word} → IsSign mark.CloseBracket s r → IsTypeArguments s r tree.no_types
    argument : {s t m r : List Word} {a : TypeExpr} {ts : TypeExprs} → IsSign mark.Comma s t → IsType t m a → IsTypeArguments m r ts → IsTypeArguments s r (tree.type_item a ts)
