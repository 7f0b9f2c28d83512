-- Types in brackets: how many there are, and what they make.
use Rattle.std.proofs.Common.{◌≡◌, ℕ, suc, List, [], ◌∷◌, length, Option, Some, None, refl, sym, ap, ◌∙◌}
use Rattle.std.specs.Prelude.{IfSome}
use Rattle.std.specs.Option.{option_and_then, option_map}
use Rattle.spec_trees.specs.Stmt.{TypeExpr}
use Rattle.spec_types.specs.declared.TypeName.{TypeName}
use Rattle.spec_types.specs.declared.TypeName.TheVariants as name
use Rattle.spec_types.specs.Types.{ValueType, bracketed, kind_of, onto, type_in, types_in}
use Rattle.py_tree.specs.declared.ids.TypeId.{TypeId}
use Rattle.py_tree.specs.Types.{types_tree}
use Rattle.value_types.specs.Kinds.{type_with}

-- how many types a name takes
abbrev pub arity : TypeName → ℕ
arity name.Unknown = 0
arity name.Int = 0
arity name.Bool = 0
arity name.Str = 0
arity name.List = 1
arity name.Dict = 2
arity name.Optional = 1
arity (name.Class k) = 0

pub plain : (x : TypeName) → (x ≡ name.List → ⊥) → (x ≡ name.Dict → ⊥) → (x ≡ name.Optional → ⊥) → arity x ≡ 0
plain name.Unknown l d o = refl
plain name.Int l d o = refl
plain name.Bool l d o = refl
plain name.Str l d o = refl
plain name.List l d o = absurd (l refl)
plain name.Dict l d o = absurd (d refl)
plain name.Optional l d o = absurd (o refl)
plain (name.Class k) l d o = refl

other_number : (x : TypeName) (ts : List ValueType) → (length ts ≡ arity x → ⊥) → bracketed x ts ≡ None
other_number name.Unknown ts n = refl
other_number name.Int [] n = absurd (n refl)
other_number name.Int (t ∷ ts) n = refl
other_number name.Bool [] n = absurd (n refl)
other_number name.Bool (t ∷ ts) n = refl
other_number name.Str [] n = absurd (n refl)
other_number name.Str (t ∷ ts) n = refl
other_number name.List [] n = refl
other_number name.List (t ∷ []) n = absurd (n refl)
other_number name.List (t ∷ u ∷ ts) n = refl
other_number name.Dict [] n = refl
other_number name.Dict (t ∷ []) n = refl
other_number name.Dict (t ∷ u ∷ []) n = absurd (n refl)
other_number name.Dict (t ∷ u ∷ v ∷ ts) n = refl
other_number name.Optional [] n = refl
other_number name.Optional (t ∷ []) n = absurd (n refl)
other_number name.Optional (t ∷ u ∷ ts) n = refl
other_number (name.Class k) [] n = absurd (n refl)
other_number (name.Class k) (t ∷ ts) n = refl

module _ (named : List ℕ → TypeName) (t : ℕ → TypeExpr) where
  length_is : (xs : List TypeId) → IfSome (types_in named (types_tree t xs)) (λ ts. length ts ≡ length xs)
  length_is [] = refl
  length_is (x ∷ xs) = by_parts (type_in named (t x.index)) (types_in named (types_tree t xs)) (length_is xs)
    where
      by_parts : (o : Option ValueType) (os : Option (List ValueType)) → IfSome os (λ ts. length ts ≡ length xs) → IfSome (onto o os) (λ ts. length ts ≡ suc (length xs))
      by_parts None os h = tt
      by_parts (Some v) None h = tt
      by_parts (Some v) (Some vs) h = ap suc h

  pub no_type_with : (x : TypeName) (xs : List TypeId) → (length xs ≡ arity x → ⊥) → None ≡ option_map kind_of (type_with named x (types_tree t xs))
  no_type_with x xs n = by_types (types_in named (types_tree t xs)) (length_is xs)
    where
      by_types : (os : Option (List ValueType)) → IfSome os (λ ts. length ts ≡ length xs) → None ≡ option_map kind_of (option_and_then (bracketed x) os)
      by_types None h = refl
      by_types (Some ts) h = sym (ap (option_map kind_of) (other_number x ts (λ e. n (sym h ∙ e))))
