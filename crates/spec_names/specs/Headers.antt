-- The names and headers of definitions that a module does not admit.
use Rattle.std.specs.Prelude.{ℕ, Bool, false, not, ◌&&◌, List, [], ◌∷◌, ◌++◌}
use Rattle.std.specs.List.{list_any}
use Rattle.spec_trees.specs.Stmt.{Parameter}
use Rattle.spec_trees.specs.Module.{Statement, Block, def}
use Rattle.spec_names.specs.Lines.{line_of}
use Rattle.spec_names.specs.declared.ProfileFault.TheVariants.{Form}
use Rattle.spec_names.specs.declared.Refusal.{Refusal}
use Rattle.spec_names.specs.Refusals.{refused_if}
use Rattle.spec_names.specs.Names.{is_init, is_private, is_self}
use Rattle.spec_names.specs.Members.{member_of, method_of, methods_in, each}
use Rattle.spec_names.specs.Defined.{defined_by}

-- `__init__` is the one method whose name begins with two underscores
abbrev pub is_private_method : List ℕ → Bool
is_private_method x = is_private x && not (is_init x)

abbrev pub is_self_first : List Parameter → Bool
is_self_first [] = false
is_self_first (p ∷ ps) = is_self p.name

-- a method whose first parameter is not `self`
abbrev pub lacks_self : Statement → Bool
lacks_self (def n x ps r b) = not (is_self_first ps)
lacks_self s = false

abbrev pub method_forms : Statement → List Refusal
method_forms s = refused_if (list_any is_private_method (defined_by (method_of s))) (line_of s) Form ++ refused_if (lacks_self s) (line_of s) Form

-- a name that begins with two underscores
abbrev pub member_forms : Statement → List Refusal
member_forms s = refused_if (list_any is_private (defined_by (member_of s))) (line_of s) Form ++ each method_forms (methods_in s)

-- the definitions of a module and of its classes whose names or headers are left out
abbrev pub header_forms : Block → List Refusal
header_forms b = each member_forms b
