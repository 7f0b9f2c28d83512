-- What the code holds of contract lines, as the definitions tell it.
use Rattle.std.specs.Prelude.{◌≡◌, ◌<◌, ⊤, ℕ, List, [], ◌∷◌, ◌++◌, length, map, Option, Some, None, Result, Ok, Err, IsErr}
use Rattle.spec_trees.specs.Expr.{Expr}
use Rattle.spec_syntax.specs.Phases.{Misfit}
use Rattle.spec_contracts.specs.declared.Refusal.{Refusal}
use Rattle.spec_contracts.specs.declared.ContractFault.TheVariants.{BadExpression, UnknownName, Misplaced}
use Rattle.spec_contracts.specs.Entries as entries
use Rattle.spec_contracts.specs.Owners as owners
use Rattle.spec_contracts.specs.ContractLines as lines
use Rattle.py_tree.specs.declared.ids.ExprId.{ExprId}
use Rattle.py_tree.specs.declared.ids.NamesId.{NamesId}
use Rattle.py_tree.specs.Arena.{State, Extends, IsModule, shown}
use Rattle.py_tree.specs.Exprs.{IsBoundBelow}
use Rattle.py_tree.specs.Stmts.{optional_expr, texts_of}
use Rattle.contract_owners.specs.Members.{owner_in}
use Rattle.contract_lines.specs.declared.contracts.ContractLine.{ContractLine}
use Rattle.contract_lines.specs.declared.entries.Head.{Head}
use Rattle.contract_lines.specs.declared.entries.Reading.{Reading}
use Rattle.contract_lines.specs.declared.errors.ContractError.{ContractError}
use Rattle.contract_lines.specs.declared.errors.ContractError.TheVariants as error

-- a module that grows by names, lists of names and expressions
pub record Grows (m n : State) : Type 0 where
  pub extends : Extends m n
  pub types : n.types ≡ m.types
  pub stmts : n.stmts ≡ m.stmts
  pub tops : n.tops ≡ m.tops
  pub valid : IsModule n

module _ (m : State) where
  abbrev pub optional_names : Option NamesId → Option (List (List ℕ))
  optional_names None = None
  optional_names (Some l) = Some (texts_of m l)

  abbrev pub IsListThere : Option NamesId → Type 0
  IsListThere None = ⊤
  IsListThere (Some l) = l.index < length m.lists

  -- a contract line of the module
  abbrev pub line_in : ContractLine → lines.ContractLine
  line_in l = record { owner = owner_in l.owner; kind = l.kind; line = l.line; expression = optional_expr m l.expr; names = optional_names l.names }

  abbrev pub IsLineThere : ContractLine → Type 0
  IsLineThere l = IsBoundBelow (length m.exprs) l.expr × IsListThere l.names

  abbrev pub AreLinesThere : List ContractLine → Type 0
  AreLinesThere [] = ⊤
  AreLinesThere (l ∷ ls) = IsLineThere l × AreLinesThere ls

-- the contract lines of a module are there, or the error is that of the first refusal; a want of memory tells nothing
abbrev pub GivesContracts : State → Result (List ContractLine) ContractError → Result (List lines.ContractLine) Refusal → Type 0
GivesContracts m (Ok ls) r = AreLinesThere m ls × (r ≡ Ok (map (line_in m) ls))
GivesContracts m (Err (error.BadExpression n)) r = r ≡ Err (record { line = n; fault = BadExpression })
GivesContracts m (Err (error.UnknownName n)) r = r ≡ Err (record { line = n; fault = UnknownName })
GivesContracts m (Err (error.Misplaced n)) r = r ≡ Err (record { line = n; fault = Misplaced })
GivesContracts m (Err error.NoMemory) r = ⊤

-- ---- reading

-- what a contract line is, without its expressions
abbrev pub promise_of : State → Head → entries.Promise
promise_of m h = record { line = h.line; kind = h.kind; names = optional_names m h.names }

-- the line of an entry is there, or it cannot be read
abbrev pub GivesLine : State → Option ContractLine → Option lines.ContractLine → Type 0
GivesLine m (Some l) o = IsLineThere m l × (o ≡ Some (line_in m l))
GivesLine m None o = o ≡ None

-- the expression of a text is there, or the text has none
abbrev pub IsSpelled : State → Option ExprId → Result Expr Misfit → Type 0
IsSpelled m (Some e) r = (e.index < length m.exprs) × (r ≡ Ok (shown m e.index))
IsSpelled m None r = IsErr r

-- texts are among others exactly where they are among names
abbrev pub HaveSame : List (List ℕ) → List (List ℕ) → Type 0
HaveSame set names = (x : List ℕ) → lines.is_among set x ≡ lines.is_among names x

-- the list of a line, where there is one
abbrev pub given : Option ContractLine → List ContractLine
given None = []
given (Some l) = l ∷ []

-- a contract line of a function or class
pub record IsHeadOf (m : State) (h : Head) (o : owners.Owned) : Type 0 where
  pub owner : o.owner ≡ owner_in h.owner
  pub known : lines.brackets_known o.parameters (optional_names m h.names) ≡ h.is_known
  pub misplaced : lines.is_misplaced (owner_in h.owner) h.kind ≡ h.is_misplaced

-- what is told behind some refusals more
abbrev pub TellsMore : Option Refusal → Option Refusal → List Refusal → Type 0
TellsMore told more rs = (ps : List Refusal) → told ≡ lines.first_refusal ps → more ≡ lines.first_refusal (ps ++ rs)

-- Reading goes on by these contract lines and these refusals.
pub record Reads (m n : State) (r s : Reading) (ls : List lines.ContractLine) (qs : List Refusal) : Type 0 where
  pub there : AreLinesThere m r.lines → AreLinesThere n s.lines
  pub shown : AreLinesThere m r.lines → map (line_in n) s.lines ≡ map (line_in m) r.lines ++ ls
  pub told : TellsMore r.refusal s.refusal qs
