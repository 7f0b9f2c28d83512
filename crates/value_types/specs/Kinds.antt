-- The kinds of types, from the kinds of their parts.
use Rattle.std.specs.Prelude.{ℕ, zero, suc, List, length, Option, Some, None}
use Rattle.std.specs.Option.{option_and_then, option_map}
use Rattle.spec_trees.specs.Stmt.{TypeExprs}
use Rattle.spec_types.specs.declared.TypeKind.{TypeKind}
use Rattle.spec_types.specs.declared.TypeKind.TheVariants as kind
use Rattle.spec_types.specs.declared.TypeName.{TypeName}
use Rattle.spec_types.specs.Types.{ValueType, bracketed, others, types_in}

-- the kind of a value of a type of this kind, or None
abbrev pub optional_kind : TypeKind → TypeKind
optional_kind kind.None = kind.None
optional_kind k = kind.Other

-- the kind of a dict of keys and values of these kinds
abbrev pub dict_kind : Option TypeKind → Option TypeKind → Option TypeKind
dict_kind (Some kind.Key) (Some v) = Some kind.Other
dict_kind k v = None

-- the kind of a type of this kind between `|` with others, of which so many are not None
abbrev pub joined_kind : Option TypeKind → Option ℕ → Option TypeKind
joined_kind (Some kind.None) (Some zero) = Some kind.None
joined_kind (Some kind.None) (Some (suc zero)) = Some kind.Other
joined_kind (Some kind.Key) (Some zero) = Some kind.Other
joined_kind (Some kind.Other) (Some zero) = Some kind.Other
joined_kind k n = None

-- the number of those that are not None
abbrev pub others_count : Option (List ValueType) → Option ℕ
others_count us = option_map (λ ts. length (others ts)) us

module _ (named : List ℕ → TypeName) where
  -- the type of a name with these types in brackets
  abbrev pub type_with : TypeName → TypeExprs → Option ValueType
  type_with x ts = option_and_then (bracketed x) (types_in named ts)
