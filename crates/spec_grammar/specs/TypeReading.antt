-- Reading a type from left to right, with no way back.
use Rattle.std.specs.Prelude.{ℕ, zero, suc, List, [], ◌∷◌, length, Option, Some, None}
use Rattle.spec_trees.specs.Stmt.{TypeExpr, name, none, string, TypeExprs, no_types, type_item}
use Rattle.spec_grammar.specs.declared.Mark.TheVariants as mark
use Rattle.spec_grammar.specs.Words.{Word, Name, Int, Str, Sign, line_of}
use Rattle.spec_grammar.specs.Marks.{sign_at}
use Rattle.spec_grammar.specs.Reading.{Parse, ◌>>=◌, given, whole}
use Rattle.spec_grammar.specs.Types.{union_tree}

-- lists with one more at the end, and whole
abbrev pub with_type : TypeExprs → TypeExpr → TypeExprs
with_type no_types a = type_item a no_types
with_type (type_item b ts) a = type_item b (with_type ts a)

abbrev pub all_types : TypeExprs → TypeExprs → TypeExprs
all_types no_types us = us
all_types (type_item b ts) us = type_item b (all_types ts us)

-- {"," type} "]", where p reads a type
unfoldable pub type_arguments_with : Parse TypeExpr → ℕ → TypeExprs → Parse TypeExprs
type_arguments_with p zero ts s = None
type_arguments_with p (suc k) ts s = given (sign_at mark.CloseBracket s) (λ r. Some (ts, r)) (sign_at mark.Comma s >>= λ t. p t >>= λ a. type_arguments_with p k (with_type ts a.0) a.1)

unfoldable pub type_atom_with : Parse TypeExpr → ℕ → Parse TypeExpr
type_atom_with p k [] = None
type_atom_with p k (Name n x ∷ s) = given (sign_at mark.OpenBracket s) (λ t. p t >>= λ a. type_arguments_with p k (type_item a.0 no_types) a.1 >>= λ ts. Some (name n x ts.0, ts.1)) (Some (name n x no_types, s))
type_atom_with p k (Int n v ∷ s) = None
type_atom_with p k (Str q ∷ s) = Some (string q.line q, s)
type_atom_with p k (Sign n m ∷ s) = sign_at mark.None (Sign n m ∷ s) >>= λ r. Some (none n, r)

-- {"|" tatom}, where p reads a tatom
unfoldable pub members_with : Parse TypeExpr → ℕ → TypeExprs → Parse TypeExprs
members_with p zero ts s = None
members_with p (suc k) ts s = given (sign_at mark.Bar s) (λ t. p t >>= λ a. members_with p k (with_type ts a.0) a.1) (Some (ts, s))

unfoldable pub type_with : Parse TypeExpr → ℕ → Parse TypeExpr
type_with p k s = type_atom_with p k s >>= λ a. members_with (type_atom_with p k) k no_types a.1 >>= λ ts. Some (union_tree (line_of s) a.0 ts.0, ts.1)

-- The number bounds the nesting and the turns. One more than the count of the words is always enough.
unfoldable pub type_below : ℕ → Parse TypeExpr
type_below zero s = None
type_below (suc n) s = type_with (type_below n) (suc n) s

-- the type that words begin with, and what follows it
unfoldable pub read_type : Parse TypeExpr
read_type s = type_below (suc (length s)) s

-- the type that all the words spell, where there is one
abbrev pub type_of : List Word → Option TypeExpr
type_of s = whole (read_type s)
