-- What the spelling of a name says of it, and the names of parameters.
use Rattle.std.specs.Prelude.{ℕ, Bool, ◌||◌, nat_eq, List, map, codes}
use Rattle.std.specs.List.{list_any, starts_with}
use Rattle.std.specs.Str.{bytes_eq}
use Rattle.spec_trees.specs.Stmt.{Parameter}
use Rattle.spec_contracts.specs.ContractLines.{is_exception}
use Rattle.spec_names.specs.declared.builtins.TheConstants.{BUILTINS}

-- a name of a built-in function
abbrev pub is_builtin : List ℕ → Bool
is_builtin x = list_any (λ k. bytes_eq k.0.now x) BUILTINS

-- a name of a built-in function or of an exception class
abbrev pub is_given : List ℕ → Bool
is_given x = is_builtin x || is_exception x

-- a name that begins with two underscores
abbrev pub is_private : List ℕ → Bool
is_private x = starts_with nat_eq x (codes "__")

abbrev pub is_self : List ℕ → Bool
is_self x = bytes_eq x (codes "self")

-- the name of a constructor
abbrev pub is_init : List ℕ → Bool
is_init x = bytes_eq x (codes "__init__")

-- the names of parameters
abbrev pub names_of : List Parameter → List (List ℕ)
names_of ps = map (λ (p : Parameter). p.name) ps
