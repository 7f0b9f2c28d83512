-- The functions that own contract lines, and what is told of them.
use Rattle.std.proofs.Common.{ℕ, zero, suc, ◌<◌, false, List, [], ◌∷◌, length, get_or, slice_get, Option, Some, None, arith}
use Rattle.spec_contracts.specs.declared.LineKind.{LineKind}
use Rattle.spec_contracts.specs.declared.LineKind.TheVariants.{Pre}
use Rattle.spec_names.specs.Names.{names_of}
use Rattle.spec_uses.specs.ContractScopes.{scope_at}
use Rattle.spec_uses.specs.Functions.{FunctionOf, is_constructor}
use Rattle.spec_uses.specs.Meanings.{module_scope}
use Rattle.contract_owners.specs.declared.listing.Owner.TheVariants as owner
use Rattle.py_tree.specs.Arena.{State, module_tree}
use Rattle.contract_lines.specs.declared.contracts.ContractLine.{ContractLine}
use Rattle.contract_lines.specs.Given.{AreLinesThere, IsLineThere}
use Rattle.module_functions.specs.declared.function.Function.{Function}
use Rattle.module_functions.specs.Listed.{AreThere, IsThere}
use Rattle.name_scopes.specs.Showing.{Held, IsScopeOf, Shows}
use Rattle.name_scopes.proofs.Entering.{shows_line}
use Rattle.py_profile.specs.Owning.{HasFunction, IsThereIf}

pub function_there : (m : State) (fs : List Function) (i : ℕ) (d : Function) → AreThere m fs → i < length fs → IsThere m (get_or fs i d)
function_there m [] i d h lt = absurd (omega arith)
function_there m (f ∷ fs) zero d h lt = h.0
function_there m (f ∷ fs) (suc i) d h lt = function_there m fs i d h.1 (omega arith)

pub found_there : (m : State) (fs : List Function) (i : ℕ) → AreThere m fs → IsThereIf m (slice_get fs i)
found_there m [] i h = tt
found_there m (f ∷ fs) zero h = h.0
found_there m (f ∷ fs) (suc i) h = found_there m fs i h.1

-- the line is there, if there is one
abbrev pub IsLineThereIf : State → Option ContractLine → Type 0
IsLineThereIf m None = Unit {0}
IsLineThereIf m (Some l) = IsLineThere m l

pub line_there : (m : State) (ls : List ContractLine) (i : ℕ) → AreLinesThere m ls → IsLineThereIf m (slice_get ls i)
line_there m [] i h = tt
line_there m (l ∷ ls) zero h = h.0
line_there m (l ∷ ls) (suc i) h = line_there m ls i h.1

-- ---- the scopes of contract lines

-- a line of the function that was entered last has its scope
pub shows_at : (m : State) (h : Held) (kind : LineKind) (o : Option FunctionOf) → IsScopeOf m h → HasFunction m h o → Shows m.names (record h { kind = Some kind }) (scope_at kind o (module_scope (module_tree m).body))
shows_at m h kind None scope has = shows_line m h false [] scope has kind
shows_at m h kind (Some f) scope has = shows_line m h (is_constructor f) (names_of f.parameters) scope has kind

-- the defaults of reads, which are never seen
abbrev pub no_function : Function
no_function = record { statement = record { index = 0 }; class = None }

abbrev pub no_line : ContractLine
no_line = record { owner = owner.Function (record { index = 0 }); kind = Pre; line = 0; expr = None; names = None }
