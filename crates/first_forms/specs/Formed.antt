-- What reading the functions of a module answers.
use Rattle.std.specs.Prelude.{◌≡◌, ⊤, ◌<◌, ℕ, List, ◌++◌, length, map, Result, Ok, Err}
use Rattle.spec_contracts.specs.ContractLines.{ContractLine}
use Rattle.spec_first_trees.specs.Program.{Function}
use Rattle.spec_forms.specs.Forms.{checked, functions_at}
use Rattle.py_tree.specs.Arena.{State, shown_stmt}
use Rattle.py_tree.specs.Names.{text_of}
use Rattle.py_tree.specs.Stmts.{AreParametersThere, AreStmtsBelow, block_tree, parameters_tree}
use Rattle.first_tree.specs.declared.nodes.ExprNode.{ExprNode}
use Rattle.first_tree.specs.declared.nodes.FnNode.{FnNode}
use Rattle.first_tree.specs.Arena.{ModuleState, IsFunctionBelow, AreFunctionsBelow}
use Rattle.first_tree.specs.Functions.{function_in}
use Rattle.first_promises.specs.declared.errors.FormError.{FormError}
use Rattle.first_promises.specs.declared.errors.FormError.TheVariants.{NotBuilt, NoMemory}
use Rattle.first_forms.specs.declared.reading.Definition.{Definition}

-- the functions are those of the module, or the line is that of its first statement or contract line of another form
abbrev pub AreFormed : Result ModuleState FormError → Result (List Function) ℕ → Type 0
AreFormed (Ok m) r = r ≡ Ok (map (function_in m.nodes) m.functions)
AreFormed (Err (NotBuilt n)) r = r ≡ Err n
AreFormed (Err NoMemory) r = ⊤

module _ (m : State) (d : Definition) where
  -- the parts of a `def` are there
  pub record IsThere : Type 0 where
    pub name : d.name.index < length m.names
    pub parameters : AreParametersThere m d.parameters.now
    pub body : AreStmtsBelow (length m.stmts) d.body.now

  -- its function, where these are its contract lines, of which there are some
  abbrev pub checked_at : List ContractLine → Result Function ℕ
  checked_at ls = checked d.line (text_of m.names d.name) (parameters_tree m d.parameters.now) (block_tree (shown_stmt m) d.body.now) ls

  -- its function, where there is one
  abbrev pub functions_from : List ContractLine → Result (List Function) ℕ
  functions_from ls = functions_at d.line (text_of m.names d.name) (parameters_tree m d.parameters.now) (block_tree (shown_stmt m) d.body.now) ls

-- the function is that of a `def`
abbrev pub IsFormed : List ExprNode → Result FnNode FormError → Result Function ℕ → Type 0
IsFormed nodes (Ok f) r = IsFunctionBelow (length nodes) f × (r ≡ Ok (function_in nodes f))
IsFormed nodes (Err (NotBuilt n)) r = r ≡ Err n
IsFormed nodes (Err NoMemory) r = ⊤

-- the functions of a module go on by these
pub record IsMore (old new : ModuleState) (fs : List Function) : Type 0 where
  pub more : List FnNode
  pub is : new.functions ≡ old.functions ++ more
  pub below : AreFunctionsBelow (length new.nodes) more
  pub shown : fs ≡ map (function_in new.nodes) more

-- the functions of a `def` are added
abbrev pub AreAdded : ModuleState → ModuleState → Result ⊤ FormError → Result (List Function) ℕ → Type 0
AreAdded old new (Ok u) (Ok fs) = IsMore old new fs
AreAdded old new (Ok u) (Err n) = ⊥
AreAdded old new (Err (NotBuilt n)) r = r ≡ Err n
AreAdded old new (Err NoMemory) r = ⊤
