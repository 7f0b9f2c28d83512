-- The names that a module and its classes define, and which of them are defined twice.
use Rattle.std.specs.Prelude.{ℕ, Bool, false, ◌||◌, List, [], ◌∷◌, ◌++◌, Option, Some, None}
use Rattle.std.specs.List.{list_any}
use Rattle.spec_trees.specs.Module.{Block, no_statement, statement}
use Rattle.spec_contracts.specs.ContractLines.{is_among}
use Rattle.spec_names.specs.Lines.{line_of}
use Rattle.spec_names.specs.declared.ProfileFault.TheVariants.{Duplicate}
use Rattle.spec_names.specs.declared.Refusal.{Refusal}
use Rattle.spec_names.specs.Refusals.{refused_if}
use Rattle.spec_names.specs.Names.{is_given}
use Rattle.spec_names.specs.Members.{Member, unnamed, imported, constant, function, class, member_of, method_of, methods_in}

-- the names that a statement defines, where it defines any
abbrev pub defined_by : Option Member → List (List ℕ)
defined_by None = []
defined_by (Some unnamed) = []
defined_by (Some (imported xs)) = xs
defined_by (Some (constant x)) = x ∷ []
defined_by (Some (function x)) = x ∷ []
defined_by (Some (class x)) = x ∷ []

-- whether one of the names is among these or that of an earlier one
abbrev pub are_repeated : List (List ℕ) → List (List ℕ) → Bool
are_repeated earlier [] = false
are_repeated earlier (x ∷ xs) = is_among earlier x || are_repeated (x ∷ earlier) xs

-- these names, the last of them first, and those before them
abbrev pub onto : List (List ℕ) → List (List ℕ) → List (List ℕ)
onto earlier [] = earlier
onto earlier (x ∷ xs) = onto (x ∷ earlier) xs

-- the methods of a class behind those of these names
abbrev pub method_doubles : List (List ℕ) → Block → List Refusal
method_doubles earlier no_statement = []
method_doubles earlier (statement s b) =
    refused_if (are_repeated earlier (defined_by (method_of s))) (line_of s) Duplicate
    ++ method_doubles (onto earlier (defined_by (method_of s))) b

-- The definitions behind those of these names. Of two equal names the later one is told, and no name of a module may be one
-- of a built-in function or of an exception class.
abbrev pub doubles_behind : List (List ℕ) → Block → List Refusal
doubles_behind earlier no_statement = []
doubles_behind earlier (statement s b) =
    refused_if (are_repeated earlier (defined_by (member_of s))) (line_of s) Duplicate
    ++ refused_if (list_any is_given (defined_by (member_of s))) (line_of s) Duplicate
    ++ method_doubles [] (methods_in s)
    ++ doubles_behind (onto earlier (defined_by (member_of s))) b

-- the names of a module and of its classes that are defined twice
abbrev pub doubles : Block → List Refusal
doubles b = doubles_behind [] b
