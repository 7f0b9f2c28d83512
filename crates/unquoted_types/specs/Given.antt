-- What exchanging strings answers, beside what the definition says of it.
use Rattle.std.specs.Prelude.{◌≡◌, ℕ, ◌<◌, zero, suc, List, length, Bool, true, false, Option, Some, None, Result, Ok, IsErr}
use Rattle.spec_trees.specs.Stmt.{TypeExpr, TypeExprs}
use Rattle.spec_syntax.specs.Phases.{Misfit}
use Rattle.spec_syntax.specs.Texts.{parsed_type}
use Rattle.spec_types.specs.Quotes.{exchanged_if, held_type}
use Rattle.py_tree.specs.declared.ids.TypeId.{TypeId}
use Rattle.py_tree.specs.Arena.{State, shown_type}
use Rattle.py_tree.specs.Types.{types_tree, AreTypesBelow}
use Rattle.py_parser.specs.declared.errors.SyntaxError.{SyntaxError}
use Rattle.py_parser.specs.declared.errors.SyntaxError.TheVariants as syntax

-- the type is there, and its tree is the one that is defined, or there is none
abbrev pub GivesType : State → Option TypeId → Option TypeExpr → Type 0
GivesType m (Some t) x = (t.index < length m.types) × (x ≡ Some (shown_type m t.index))
GivesType m None x = x ≡ None

-- the same of types
abbrev pub GivesTypes : {X : Type 0} → (X → List TypeId) → State → Option X → Option TypeExprs → Type 0
GivesTypes view m (Some v) x = AreTypesBelow (length m.types) (view v) × (x ≡ Some (types_tree (shown_type m) (view v)))
GivesTypes view m None x = x ≡ None

-- the type of a text is there, or the text has none
abbrev pub IsHeld : State → Option TypeId → Result TypeExpr Misfit → Type 0
IsHeld m (Some t) r = (t.index < length m.types) × (r ≡ Ok (shown_type m t.index))
IsHeld m None r = IsErr r

-- the type that a text on the line n holds, where strings stand in each other so many times at most
abbrev pub held_in : ℕ → ℕ → List ℕ → Option TypeExpr
held_in zero n text = None
held_in (suc k) n text = exchanged_if (held_type k) (parsed_type n text)

-- whether an error tells that a text is no type
abbrev pub is_refusal : SyntaxError → Bool
is_refusal (syntax.Line n) = true
is_refusal (syntax.TooDeep n) = true
is_refusal (syntax.Block n) = true
is_refusal syntax.NoMemory = false
