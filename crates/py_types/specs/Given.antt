-- What reading leaves behind and answers, beside what the definition reads.
use Rattle.std.specs.Prelude.{◌≡◌, ℕ, ◌-◌, ◌<◌, List, [], ◌∷◌, length, drop, Option, Some, None, Result, Ok, Err}
use Rattle.spec_trees.specs.Stmt.{TypeExpr, TypeExprs, name, none, string, no_types, type_item}
use Rattle.spec_grammar.specs.declared.Mark.TheVariants as mark
use Rattle.spec_grammar.specs.Words.{Word, Name, Int, Str, Sign}
use Rattle.spec_grammar.specs.Marks.{sign_at}
use Rattle.spec_grammar.specs.Reading.{Parse, ◌>>=◌, given}
use Rattle.spec_grammar.specs.TypeReading.{type_arguments_with, type_atom_with, type_below}
use Rattle.py_tree.specs.declared.ids.TypeId.{TypeId}
use Rattle.py_tree.specs.Arena.{State, Extends, IsModule, shown_type}
use Rattle.py_tree.specs.Types.{types_tree, AreTypesBelow}
use Rattle.py_words.specs.declared.unread.Unread.{Unread}
use Rattle.py_words.specs.Found.{Fails}

-- only names and types are added
pub record Grows (m n : State) : Type 0 where
  pub extends : Extends m n
  pub lists : n.lists ≡ m.lists
  pub exprs : n.exprs ≡ m.exprs
  pub stmts : n.stmts ≡ m.stmts
  pub tops : n.tops ≡ m.tops
  pub valid : IsModule n

-- The answers of reading in the words s: what is read is there, its tree is the one that the definition reads, and the
-- place behind it is that of the words that follow.

abbrev pub GivesType : List Word → State → Result (TypeId × ℕ) Unread → Option (TypeExpr × List Word) → Type 0
GivesType s m (Ok x) o = (x.0.index < length m.types) × (o ≡ Some (shown_type m x.0.index, drop x.1 s))
GivesType s m (Err e) o = Fails e o

abbrev pub GivesTypes : {X : Type 0} → (X → List TypeId) → List Word → State → Result (X × ℕ) Unread → Option (TypeExprs × List Word) → Type 0
GivesTypes view s m (Ok x) o = AreTypesBelow (length m.types) (view x.0) × (o ≡ Some (types_tree (shown_type m) (view x.0), drop x.1 s))
GivesTypes view s m (Err e) o = Fails e o

-- a type without a `|` outside brackets, in a type of which the number bounds the nesting and the turns
abbrev pub atom_below : ℕ → Parse TypeExpr
atom_below k s = type_atom_with (type_below (k - 1)) k s

-- what follows the name x on the line n in such a type
abbrev pub named_below : ℕ → ℕ → List ℕ → Parse TypeExpr
named_below k n x s = given (sign_at mark.OpenBracket s) (λ t. type_below (k - 1) t >>= λ a. type_arguments_with (type_below (k - 1)) k (type_item a.0 no_types) a.1 >>= λ ts. Some (name n x ts.0, ts.1)) (Some (name n x no_types, s))

-- such a type that no name begins
abbrev pub leaf_with : Parse TypeExpr
leaf_with [] = None
leaf_with (Name n x ∷ s) = None
leaf_with (Int n v ∷ s) = None
leaf_with (Str q ∷ s) = Some (string q.line q, s)
leaf_with (Sign n m ∷ s) = sign_at mark.None (Sign n m ∷ s) >>= λ r. Some (none n, r)
