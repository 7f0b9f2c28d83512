-- The functions that own contract lines.
use Rattle.std.specs.Prelude.{false, [], Option, Some, None}
use Rattle.spec_names.specs.Names.{names_of}
use Rattle.spec_uses.specs.ContractScopes.{function_at}
use Rattle.spec_uses.specs.Functions.{FunctionOf, is_constructor}
use Rattle.py_tree.specs.Arena.{State, module_tree}
use Rattle.contract_owners.specs.Members.{owner_in}
use Rattle.contract_owners.specs.declared.listing.Owner.{Owner}
use Rattle.module_functions.specs.declared.function.Function.{Function}
use Rattle.module_functions.specs.Listed.{IsThere}
use Rattle.name_scopes.specs.Showing.{HasParameters, Held}

-- the function is there, if there is one
abbrev pub IsThereIf : State → Option Function → Type 0
IsThereIf m None = Unit {0}
IsThereIf m (Some f) = IsThere m f

-- the names of this function are those of the scope, and no names where there is none
abbrev pub HasFunction : State → Held → Option FunctionOf → Type 0
HasFunction m h None = HasParameters m.names h false []
HasFunction m h (Some f) = HasParameters m.names h (is_constructor f) (names_of f.parameters)

-- the names of this owner of contract lines are those of the scope
abbrev pub IsEntered : State → Held → Owner → Type 0
IsEntered m h o = HasFunction m h (function_at (module_tree m).body (owner_in o))

abbrev pub IsEnteredIf : State → Held → Option Owner → Type 0
IsEnteredIf m h None = Unit {0}
IsEnteredIf m h (Some o) = IsEntered m h o
