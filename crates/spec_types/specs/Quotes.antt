-- Annotations whose strings are exchanged for the types that they hold.
use Rattle.std.specs.Prelude.{ℕ, zero, suc, ◌+◌, length, Option, Some, None, Result, Ok, Err}
use Rattle.std.specs.Option.{option_map}
use Rattle.spec_trees.specs.Expr.{StringPart}
use Rattle.spec_trees.specs.Stmt as tree
use Rattle.spec_trees.specs.Stmt.{TypeExpr, TypeExprs}
use Rattle.spec_syntax.specs.Phases.{Misfit}
use Rattle.spec_syntax.specs.Texts.{parsed_type}

-- what two parts make, where both are there
abbrev pub both : {X Y Z : Type 0} → (X → Y → Z) → Option X → Option Y → Option Z
both f (Some x) (Some y) = Some (f x y)
both f x y = None

module _ (held : StringPart → Option TypeExpr) where
  abbrev mutual
    -- an annotation in which each string is exchanged for what it holds
    pub exchanged : TypeExpr → Option TypeExpr
    exchanged (tree.name n x ts) = option_map (tree.name n x) (all_exchanged ts)
    exchanged (tree.union n t ts) = both (tree.union n) (exchanged t) (all_exchanged ts)
    exchanged (tree.none n) = Some (tree.none n)
    exchanged (tree.string n p) = held p

    pub all_exchanged : TypeExprs → Option TypeExprs
    all_exchanged tree.no_types = Some tree.no_types
    all_exchanged (tree.type_item t ts) = both tree.type_item (exchanged t) (all_exchanged ts)

abbrev pub exchanged_if : (StringPart → Option TypeExpr) → Result TypeExpr Misfit → Option TypeExpr
exchanged_if held (Ok t) = exchanged held t
exchanged_if held (Err e) = None

-- the type that a string holds, where strings stand in each other so many times at most
abbrev pub held_type : ℕ → StringPart → Option TypeExpr
held_type zero p = None
held_type (suc k) p = exchanged_if (held_type k) (parsed_type p.line p.value)

abbrev mutual
  -- the letters of the strings in an annotation, more than which cannot be in strings in each other
  pub letters : TypeExpr → ℕ
  letters (tree.name n x ts) = all_letters ts
  letters (tree.union n t ts) = letters t + all_letters ts
  letters (tree.none n) = 0
  letters (tree.string n p) = length p.value

  pub all_letters : TypeExprs → ℕ
  all_letters tree.no_types = 0
  all_letters (tree.type_item t ts) = letters t + all_letters ts

-- The annotation without strings, where each of its strings holds a type.
unfoldable pub unquoted : TypeExpr → Option TypeExpr
unquoted t = exchanged (held_type (suc (letters t))) t
