-- The types that annotations are.
use Rattle.std.specs.Prelude.{ℕ, Bool, true, false, List, [], ◌∷◌, ◌++◌, Option, Some, None, if◌then◌else◌}
use Rattle.std.specs.Option.{option_and_then}
use Rattle.spec_trees.specs.Stmt as tree
use Rattle.spec_trees.specs.Stmt.{TypeExpr, TypeExprs}
use Rattle.spec_trees.specs.Module.{Block}
use Rattle.spec_types.specs.declared.TypeName.{TypeName}
use Rattle.spec_types.specs.declared.TypeName.TheVariants as name
use Rattle.spec_types.specs.declared.TypeKind.{TypeKind}
use Rattle.spec_types.specs.declared.TypeKind.TheVariants as kind
use Rattle.spec_types.specs.Names.{type_name}
use Rattle.spec_types.specs.Quotes.{unquoted}

-- the type of a parameter
pub data ValueType : Type 0 where
  integer : ValueType
  truth : ValueType
  none : ValueType
  text : ValueType
  list_of : ValueType → ValueType
  -- the types of keys and of values
  dict_of : ValueType → ValueType → ValueType
  -- None, or a value of another type
  option_of : ValueType → ValueType
  -- an object of the class of this number
  instance : ℕ → ValueType

abbrev pub kind_of : ValueType → TypeKind
kind_of integer = kind.Key
kind_of truth = kind.Key
kind_of text = kind.Key
kind_of none = kind.None
kind_of t = kind.Other

abbrev pub is_key : ValueType → Bool
is_key t = by_kind (kind_of t)
  where
    by_kind : TypeKind → Bool
    by_kind kind.Key = true
    by_kind k = false

abbrev pub is_none : ValueType → Bool
is_none none = true
is_none t = false

-- ---- parts

-- doubled options are one, and an option of None is None
abbrev pub optional : ValueType → ValueType
optional none = none
optional (option_of t) = option_of t
optional t = option_of t

-- the type of a name with these types in brackets
abbrev pub bracketed : TypeName → List ValueType → Option ValueType
bracketed name.Int [] = Some integer
bracketed name.Bool [] = Some truth
bracketed name.Str [] = Some text
bracketed (name.Class k) [] = Some (instance k)
bracketed name.List (t ∷ []) = Some (list_of t)
bracketed name.Optional (t ∷ []) = Some (optional t)
bracketed name.Dict (k ∷ v ∷ []) = if is_key k then Some (dict_of k v) else None
bracketed x ts = None

-- the types that are not None
abbrev pub others : List ValueType → List ValueType
others [] = []
others (t ∷ ts) = if is_none t then others ts else t ∷ others ts

-- A union is None and at most one other type: it has at least two members, so where one of them is another type, one is
-- None.
abbrev pub united : List ValueType → Option ValueType
united [] = Some none
united (t ∷ []) = Some (optional t)
united ts = None

-- one type before others
abbrev pub onto : Option ValueType → Option (List ValueType) → Option (List ValueType)
onto (Some t) (Some ts) = Some (t ∷ ts)
onto o os = None

-- ---- annotations

module _ (named : List ℕ → TypeName) where
  abbrev mutual
    -- the type that an annotation without strings is, where its names stand for these
    pub type_in : TypeExpr → Option ValueType
    type_in (tree.name n x ts) = option_and_then (bracketed (named x)) (types_in ts)
    type_in (tree.union n t ts) = option_and_then (λ us. united (others us)) (onto (type_in t) (types_in ts))
    type_in (tree.none n) = Some none
    type_in (tree.string n p) = None

    pub types_in : TypeExprs → Option (List ValueType)
    types_in tree.no_types = Some []
    types_in (tree.type_item t ts) = onto (type_in t) (types_in ts)

-- The type that an annotation is. A string that holds a type stands for it.
abbrev pub type_of : Block → TypeExpr → Option ValueType
type_of b t = option_and_then (type_in (type_name b)) (unquoted t)

abbrev pub line_of_type : TypeExpr → ℕ
line_of_type (tree.name n x ts) = n
line_of_type (tree.union n t ts) = n
line_of_type (tree.none n) = n
line_of_type (tree.string n p) = n

-- ---- classes

-- the classes that a type speaks of
abbrev pub spoken : ValueType → List ℕ
spoken (instance k) = k ∷ []
spoken (list_of t) = spoken t
spoken (dict_of t u) = spoken t ++ spoken u
spoken (option_of t) = spoken t
spoken t = []
