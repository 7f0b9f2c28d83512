-- What reading leaves behind and answers, beside what the definition reads.
use Rattle.std.specs.Prelude.{◌≡◌, ℕ, zero, suc, ◌<◌, Bool, true, false, List, [], ◌∷◌, length, drop, map, Option, Some, Result, Ok, Err}
use Rattle.std.specs.Option.{option_map}
use Rattle.spec_trees.specs.Expr.{Expr}
use Rattle.spec_trees.specs.Stmt.{Simple, assign, augment}
use Rattle.spec_trees.specs.Module as tree
use Rattle.spec_trees.specs.declared.Operator.{Operator}
use Rattle.spec_grammar.specs.Words.{Word}
use Rattle.spec_grammar.specs.Reading.{◌>>=◌, expr_of}
use Rattle.py_tree.specs.declared.ids.ExprId.{ExprId}
use Rattle.py_tree.specs.declared.ids.NameId.{NameId}
use Rattle.py_tree.specs.declared.ids.NamesId.{NamesId}
use Rattle.py_tree.specs.declared.ids.StmtId.{StmtId}
use Rattle.py_tree.specs.declared.stmts.StmtNode.{StmtNode}
use Rattle.py_tree.specs.declared.stmts.StmtNode.TheVariants as node
use Rattle.py_tree.specs.Arena.{State, Extends, IsModule, shown, shown_stmt}
use Rattle.py_tree.specs.Names.{text_of, AreNamesBelow}
use Rattle.py_tree.specs.Exprs.{IsBoundBelow}
use Rattle.py_tree.specs.Stmts.{texts_of, optional_expr}
use Rattle.py_words.specs.declared.unread.Unread.{Unread}
use Rattle.py_words.specs.Found.{Fails}

-- a statement that is no function and no class
abbrev pub IsPlain : StmtNode → Type 0
IsPlain (node.Def l k x ps r b) = ⊥
IsPlain (node.Class l k x b) = ⊥
IsPlain _ = Unit {0}

-- each statement behind the first k is plain
abbrev pub ArePlainBehind : ℕ → List StmtNode → Type 0
ArePlainBehind k [] = Unit {0}
ArePlainBehind zero (x ∷ xs) = IsPlain x × ArePlainBehind zero xs
ArePlainBehind (suc k) (x ∷ xs) = ArePlainBehind k xs

-- the statements that are added are no functions and no classes
unfoldable pub AddsPlain : State → State → Type 0
AddsPlain m n = ArePlainBehind (length m.stmts) n.stmts

-- no function and no class is added, and nothing to the statements of the module itself
pub record Grows (m n : State) : Type 0 where
  pub extends : Extends m n
  pub plain : AddsPlain m n
  pub tops : n.tops ≡ m.tops
  pub valid : IsModule n

-- no words are left
abbrev pub ends : List Word → Bool
ends [] = true
ends (w ∷ s) = false

-- The answers of reading in the words s: what is read is there, it is what the definition reads, and the place behind it
-- is that of the words that follow.

abbrev pub GivesNameList : {X : Type 0} → (X → List NameId) → List Word → State → Result (X × ℕ) Unread → Option (List (List ℕ) × List Word) → Type 0
GivesNameList view s m (Ok x) o = AreNamesBelow (length m.names) (view x.0) × (o ≡ Some (map (text_of m.names) (view x.0), drop x.1 s))
GivesNameList view s m (Err e) o = Fails e o

abbrev pub GivesNames : List Word → State → Result (NamesId × ℕ) Unread → Option (List (List ℕ) × List Word) → Type 0
GivesNames s m (Ok x) o = (x.0.index < length m.lists) × (o ≡ Some (texts_of m x.0, drop x.1 s))
GivesNames s m (Err e) o = Fails e o

abbrev pub GivesValue : List Word → State → Result (Option ExprId × ℕ) Unread → Option (Option Expr × List Word) → Type 0
GivesValue s m (Ok x) o = IsBoundBelow (length m.exprs) x.0 × (o ≡ Some (optional_expr m x.0, drop x.1 s))
GivesValue s m (Err e) o = Fails e o

-- The answers of reading all the words: no place follows.

abbrev pub GivesWhole : State → Result ExprId Unread → Option Expr → Type 0
GivesWhole m (Ok x) o = (x.index < length m.exprs) × (o ≡ Some (shown m x.index))
GivesWhole m (Err e) o = Fails e o

-- a simple statement, which is seen by its tree
abbrev pub GivesSimple : State → Result StmtId Unread → Option Simple → Type 0
GivesSimple m (Ok x) o = (x.index < length m.stmts) × (option_map tree.simple o ≡ Some (shown_stmt m x.index))
GivesSimple m (Err e) o = Fails e o

-- the statement on line n that gives the target a a value, which all the words spell
abbrev pub assign_of : ℕ → Expr → List Word → Option Simple
assign_of n a t = expr_of t >>= λ e. Some (assign n a e)

-- and so where an operator joins the target and the value
abbrev pub augment_of : ℕ → Expr → Operator → List Word → Option Simple
augment_of n a o t = expr_of t >>= λ e. Some (augment n a o e)
