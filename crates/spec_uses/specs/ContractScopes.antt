-- What names stand for in contract lines.
use Rattle.std.specs.Prelude.{ℕ, Bool, false, ◌||◌, List, [], ◌∷◌, codes, slice_get, Option, Some, None, if◌then◌else◌}
use Rattle.std.specs.Str.{bytes_eq}
use Rattle.spec_trees.specs.Module.{Block}
use Rattle.spec_contracts.specs.declared.LineKind.{LineKind}
use Rattle.spec_contracts.specs.declared.LineKind.TheVariants.{Pre, Post, Raises, Invariant}
use Rattle.spec_contracts.specs.Owners.{Owner, of_function, of_class}
use Rattle.spec_names.specs.Names.{is_self, names_of}
use Rattle.spec_uses.specs.declared.Meaning.{Meaning}
use Rattle.spec_uses.specs.declared.Meaning.TheVariants as meaning
use Rattle.spec_uses.specs.Meanings.{Scope, with_locals}
use Rattle.spec_uses.specs.Functions.{FunctionOf, all_functions, is_constructor}

-- the names without `self`
abbrev pub without_self : List (List ℕ) → List (List ℕ)
without_self [] = []
without_self (x ∷ xs) = if is_self x then without_self xs else x ∷ without_self xs

-- What stands before the body of a constructor has no `self`.
abbrev pub before_body : Bool → List (List ℕ) → List (List ℕ)
before_body is_made xs = if is_made then without_self xs else xs

-- `__return__` and `_` are the returned value, and `__old__` has the arguments
abbrev pub meaning_behind : (List ℕ → Meaning) → List ℕ → Meaning
meaning_behind before x =
    if bytes_eq x (codes "__return__") || bytes_eq x (codes "_") then meaning.Result else (if bytes_eq x (codes "__old__") then meaning.Old else before x)

-- A post line. A parameter comes before the returned value.
abbrev pub scope_behind : Bool → List (List ℕ) → Scope → Scope
scope_behind is_made xs s = with_locals xs (record { meaning = meaning_behind s.meaning; olds = before_body is_made xs })

-- the scope of a contract line of a function with parameters of these names, which may be a constructor
abbrev pub scope_of : LineKind → Bool → List (List ℕ) → Scope → Scope
scope_of Pre is_made xs s = with_locals (before_body is_made xs) s
scope_of Post is_made xs s = scope_behind is_made xs s
scope_of Raises is_made xs s = s
scope_of Invariant is_made xs s = with_locals (codes "self" ∷ []) s

-- the function that has a contract line, where it is none of a class
abbrev pub function_at : Block → Owner → Option FunctionOf
function_at b (of_function k) = slice_get (all_functions b) k
function_at b (of_class k) = None

abbrev pub scope_at : LineKind → Option FunctionOf → Scope → Scope
scope_at kind None s = scope_of kind false [] s
scope_at kind (Some f) s = scope_of kind (is_constructor f) (names_of f.parameters) s
