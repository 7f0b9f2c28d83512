-- What reading leaves behind and answers, beside what the definition reads.
use Rattle.std.specs.Prelude.{◌≡◌, ℕ, ◌<◌, List, [], ◌∷◌, length, drop, Option, Some, None, is_some, Result, Ok, Err}
use Rattle.spec_trees.specs.Expr.{Expr, Generator, Arguments, ArgumentList, Links, Exprs, Pairs, no_arguments, name, integer}
use Rattle.spec_grammar.specs.Words.{Word, Name, Int, Str, Sign, line_of}
use Rattle.spec_grammar.specs.Marks.{groups_left}
use Rattle.spec_grammar.specs.Reading.{Parse, Below, ◌>>=◌, level_with, joined_with, args_with, rest_with, with_argument, strings_onto, text_of}
use Rattle.py_tree.specs.declared.ids.ExprId.{ExprId}
use Rattle.py_tree.specs.declared.exprs.Argument.{Argument}
use Rattle.py_tree.specs.declared.exprs.ArgumentsNode.{ArgumentsNode}
use Rattle.py_tree.specs.declared.exprs.GeneratorNode.{GeneratorNode}
use Rattle.py_tree.specs.declared.exprs.Link.{Link}
use Rattle.py_tree.specs.declared.exprs.Pair.{Pair}
use Rattle.py_tree.specs.Arena.{State, Extends, IsModule, shown}
use Rattle.py_tree.specs.Exprs.{items_tree, pairs_tree, links_tree, name_of, argument_list_tree, generator_tree, arguments_tree, AreItemsBelow, ArePairsBelow, AreLinksBelow, AreArgumentsBelow, IsNameBelow, IsGeneratorBelow, IsCallBelow}
use Rattle.py_words.specs.declared.unread.Unread.{Unread}
use Rattle.py_words.specs.Found.{Fails}

-- only names and expressions are added
pub record Grows (m n : State) : Type 0 where
  pub extends : Extends m n
  pub lists : n.lists ≡ m.lists
  pub types : n.types ≡ m.types
  pub stmts : n.stmts ≡ m.stmts
  pub tops : n.tops ≡ m.tops
  pub valid : IsModule n

-- The answers of reading in the words s: what is read is there, its tree is the one that the definition reads, and the
-- place behind it is that of the words that follow.

abbrev pub GivesExpr : List Word → State → Result (ExprId × ℕ) Unread → Option (Expr × List Word) → Type 0
GivesExpr s m (Ok x) o = (x.0.index < length m.exprs) × (o ≡ Some (shown m x.0.index, drop x.1 s))
GivesExpr s m (Err e) o = Fails e o

abbrev pub GivesItems : {X : Type 0} → (X → List ExprId) → List Word → State → Result (X × ℕ) Unread → Option (Exprs × List Word) → Type 0
GivesItems view s m (Ok x) o = AreItemsBelow (length m.exprs) (view x.0) × (o ≡ Some (items_tree (shown m) (view x.0), drop x.1 s))
GivesItems view s m (Err e) o = Fails e o

abbrev pub GivesLinks : {X : Type 0} → (X → List Link) → List Word → State → Result (X × ℕ) Unread → Option (Links × List Word) → Type 0
GivesLinks view s m (Ok x) o = AreLinksBelow (length m.exprs) (view x.0) × (o ≡ Some (links_tree (shown m) (view x.0), drop x.1 s))
GivesLinks view s m (Err e) o = Fails e o

abbrev pub GivesPair : List Word → State → Result (Pair × ℕ) Unread → Option ((Expr × Expr) × List Word) → Type 0
GivesPair s m (Ok x) o = (x.0.key.index < length m.exprs) × (x.0.value.index < length m.exprs) × (o ≡ Some ((shown m x.0.key.index, shown m x.0.value.index), drop x.1 s))
GivesPair s m (Err e) o = Fails e o

abbrev pub GivesPairs : {X : Type 0} → (X → List Pair) → List Word → State → Result (X × ℕ) Unread → Option (Pairs × List Word) → Type 0
GivesPairs view s m (Ok x) o = ArePairsBelow (length m.exprs) (view x.0) × (o ≡ Some (pairs_tree (shown m) (view x.0), drop x.1 s))
GivesPairs view s m (Err e) o = Fails e o

abbrev pub GivesArgument : List Word → State → Result (Argument × ℕ) Unread → Option ((Option (List ℕ) × Expr) × List Word) → Type 0
GivesArgument s m (Ok x) o = IsNameBelow (length m.names) x.0.name × (x.0.value.index < length m.exprs) × (o ≡ Some ((name_of m.names x.0.name, shown m x.0.value.index), drop x.1 s))
GivesArgument s m (Err e) o = Fails e o

abbrev pub GivesList : {X : Type 0} → (X → List Argument) → List Word → State → Result (X × ℕ) Unread → Option (ArgumentList × List Word) → Type 0
GivesList view s m (Ok x) o = AreArgumentsBelow (length m.names) (length m.exprs) (view x.0) × (o ≡ Some (argument_list_tree m.names (shown m) (view x.0), drop x.1 s))
GivesList view s m (Err e) o = Fails e o

abbrev pub GivesGenerator : List Word → State → Result (GeneratorNode × ℕ) Unread → Option (Generator × List Word) → Type 0
GivesGenerator s m (Ok x) o = IsGeneratorBelow (length m.names) (length m.exprs) x.0 × (o ≡ Some (generator_tree m.names (shown m) x.0, drop x.1 s))
GivesGenerator s m (Err e) o = Fails e o

abbrev pub GivesArguments : List Word → State → Result (ArgumentsNode × ℕ) Unread → Option (Arguments × List Word) → Type 0
GivesArguments s m (Ok x) o = IsCallBelow (length m.names) (length m.exprs) x.0 × (o ≡ Some (arguments_tree m.names (shown m) x.0, drop x.1 s))
GivesArguments s m (Err e) o = Fails e o

-- operands of a level with operators between them
abbrev pub operands_with : Below → ℕ → Parse Expr
operands_with b l s = level_with b l s >>= λ a. joined_with (groups_left l) (level_with b l) l (line_of s) b.room a.0 a.1

-- the arguments from one on
abbrev pub list_from : Below → Option (List ℕ) → Expr → Parse ArgumentList
list_from b x e s = rest_with (args_with b b.room (is_some x) (with_argument no_arguments x e)) (with_argument no_arguments x e) s

-- adjacent strings
abbrev pub text_with : Parse Expr
text_with [] = None
text_with (Name n x ∷ s) = None
text_with (Int n v ∷ s) = None
text_with (Str p ∷ s) = Some (text_of p (strings_onto [] s))
text_with (Sign n m ∷ s) = None

-- an atom that no sign begins
abbrev pub leaf_with : Parse Expr
leaf_with [] = None
leaf_with (Name n x ∷ s) = Some (name n x, s)
leaf_with (Int n v ∷ s) = Some (integer n v, s)
leaf_with (Str p ∷ s) = text_with (Str p ∷ s)
leaf_with (Sign n m ∷ s) = None
