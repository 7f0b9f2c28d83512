-- Tables of what names define.
use Rattle.std.specs.Prelude.{◌≡◌, ℕ, suc, Bool, false, List, [], ◌∷◌, length, map, Option, Some, None, if◌then◌else◌}
use Rattle.std.specs.List.{All}
use Rattle.std.specs.Str.{bytes_eq}
use Rattle.spec_uses.specs.Functions.{all_functions}
use Rattle.spec_types.specs.Classes.{ClassOf, classes}
use Rattle.spec_programs.specs.Definitions.{class_named, constant_named, function_named, is_free_named}
use Rattle.py_tree.specs.declared.ids.NameId.{NameId}
use Rattle.py_tree.specs.Arena.{State, module_tree}
use Rattle.py_tree.specs.Names.{text_of}
use Rattle.py_tree.specs.Exprs.{IsBoundBelow, IsNameBelow}
use Rattle.py_tree.specs.Stmts.{optional_expr}
use Rattle.py_program.specs.declared.definitions.Definitions.{Definitions}
use Rattle.py_program.specs.declared.listing.Listed.{Listed}

-- whether a name, where there is one, has this text
abbrev pub has_text : List (List ℕ) → List ℕ → Option NameId → Bool
has_text names x None = false
has_text names x (Some n) = bytes_eq (text_of names n) x

-- the number of the first of these names that has this text, where k is that of the first of all
abbrev pub first_from : List (List ℕ) → ℕ → List (Option NameId) → List ℕ → Option ℕ
first_from names k [] x = None
first_from names k (o ∷ os) x = if has_text names x o then Some k else first_from names (suc k) os x

abbrev pub AreNamesThere : State → List (Option NameId) → Type 0
AreNamesThere m os = All (IsNameBelow (length m.names)) os

-- the functions and classes of a module, of which a function of a class has no name
pub record AreListed (m : State) (l : Listed) : Type 0 where
  pub functions : (x : List ℕ) → map (has_text m.names x) l.functions.items ≡ map (is_free_named x) (all_functions (module_tree m).body)
  pub functions_there : AreNamesThere m l.functions.items
  pub classes : (x : List ℕ) → map (has_text m.names x) l.classes.items ≡ map (λ (c : ClassOf). bytes_eq c.name x) (classes (module_tree m).body)
  pub classes_there : AreNamesThere m l.classes.items

-- the table of a module
pub record IsTable (m : State) (d : Definitions) : Type 0 where
  pub constants : map (optional_expr m) d.constants.items ≡ map (constant_named (module_tree m).body) m.names
  pub values : All (IsBoundBelow (length m.exprs)) d.constants.items
  pub functions : d.functions.items ≡ map (function_named (module_tree m).body) m.names
  pub classes : d.classes.items ≡ map (class_named (module_tree m).body) m.names
