-- What a scope holds of the names of a module, and of which scope it is that.
use Rattle.std.specs.Prelude.{◌≡◌, ◌<◌, ℕ, Bool, true, false, ◌&&◌, ◌||◌, not, List, length, map, replicate, get_or, slice_set, Option, Some, None, if◌then◌else◌}
use Rattle.spec_contracts.specs.declared.LineKind.{LineKind}
use Rattle.spec_contracts.specs.declared.LineKind.TheVariants.{Pre, Post, Raises, Invariant}
use Rattle.spec_contracts.specs.ContractLines.{is_among}
use Rattle.spec_names.specs.Names.{is_self}
use Rattle.spec_uses.specs.declared.Meaning.{Meaning}
use Rattle.spec_uses.specs.declared.Meaning.TheVariants.{Local, Unknown}
use Rattle.spec_uses.specs.Meanings.{Scope, meaning_in}
use Rattle.spec_uses.specs.ContractScopes.{meaning_behind}
use Rattle.py_tree.specs.declared.ids.NameId.{NameId}
use Rattle.py_tree.specs.Arena.{State, module_tree}
use Rattle.py_tree.specs.Names.{text_of}

-- For each name of a module, what it stands for where it is not local, whether it is one of the function that was entered
-- last, whether it is the variable of a comprehension around, and whether a keyword was seen, which none is but while keywords
-- are compared; the kind of the contract line, or none in a body; and whether the function makes the objects of a class.
pub record Held : Type 0 where
  pub meanings : List Meaning
  pub own : List Bool
  pub inner : List Bool
  pub seen : List Bool
  pub kind : Option LineKind
  pub is_constructor : Bool

-- What stands before the body of a constructor has no `self`.
abbrev pub has_before : Bool → List ℕ → Bool
has_before is_made x = not (is_made && is_self x)

-- whether the function's own name is seen in a line of this kind, or in its body
abbrev pub is_seen_in : Option LineKind → Bool → List ℕ → Bool
is_seen_in None is_made x = true
is_seen_in (Some Pre) is_made x = has_before is_made x
is_seen_in (Some Post) is_made x = true
is_seen_in (Some Raises) is_made x = false
is_seen_in (Some Invariant) is_made x = false

-- whether it is the kind of a post line
abbrev pub is_post : Option LineKind → Bool
is_post None = false
is_post (Some Pre) = false
is_post (Some Post) = true
is_post (Some Raises) = false
is_post (Some Invariant) = false

-- what a name stands for that is not local, where m is its meaning in the module
abbrev pub around : Option LineKind → Meaning → List ℕ → Meaning
around None m x = m
around (Some Pre) m x = m
around (Some Post) m x = meaning_behind (λ y. m) x
around (Some Raises) m x = m
around (Some Invariant) m x = if is_self x then Local else m

-- what a name stands for
abbrev pub meaning_held : List (List ℕ) → Held → NameId → Meaning
meaning_held names h n =
    if get_or h.inner n.index false || (get_or h.own n.index false && is_seen_in h.kind h.is_constructor (text_of names n)) then Local
    else around h.kind (get_or h.meanings n.index Unknown) (text_of names n)

-- whether `__old__` has a name
abbrev pub old_held : List (List ℕ) → Held → NameId → Bool
old_held names h n = is_post h.kind && get_or h.own n.index false && has_before h.is_constructor (text_of names n)

-- the same, but that this name is the variable of a comprehension around, or is none
abbrev pub with_variable : Held → NameId → Bool → Held
with_variable h n is_variable = record h { inner = slice_set h.inner n.index is_variable }

-- what is held of these names is this scope
pub record Shows (names : List (List ℕ)) (h : Held) (s : Scope) : Type 0 where
  pub meanings : (n : NameId) → n.index < length names → meaning_held names h n ≡ s.meaning (text_of names n)
  pub olds : (n : NameId) → n.index < length names → old_held names h n ≡ is_among s.olds (text_of names n)

-- the function that was entered last has parameters of these names, and is a constructor or none
pub record HasParameters (names : List (List ℕ)) (h : Held) (is_made : Bool) (xs : List (List ℕ)) : Type 0 where
  pub own : (n : NameId) → n.index < length names → get_or h.own n.index false ≡ is_among xs (text_of names n)
  pub made : h.is_constructor ≡ is_made

pub record IsSized (names : List (List ℕ)) (h : Held) : Type 0 where
  pub meanings : length h.meanings ≡ length names
  pub own : length h.own ≡ length names
  pub inner : length h.inner ≡ length names
  pub seen : h.seen ≡ replicate (length names) false

-- a scope of this module, at no place within a comprehension
pub record IsScopeOf (m : State) (h : Held) : Type 0 where
  pub sized : IsSized m.names h
  pub meanings : h.meanings ≡ map (meaning_in (module_tree m).body) m.names
  pub inner : h.inner ≡ replicate (length m.names) false
