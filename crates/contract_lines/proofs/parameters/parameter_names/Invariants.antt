use Rattle.std.proofs.Common.{◌≡◌, ◌||◌, ℕ, List, drop}
use Rattle.spec_contracts.specs.ContractLines.{is_among}
use Rattle.py_tree.specs.Arena.{shown_stmt}
use Rattle.py_tree.specs.Stmts.{AreParametersThere}
use Rattle.contract_owners.specs.Members.{names_in, parameters_in}
use Rattle.contract_lines.proofs.parameters.parameter_names.Given as goal

abbrev pub invariant-loop-parameter : goal.invariant-loop-parameter
invariant-loop-parameter l = AreParametersThere l.fn.«module» (drop l.parameter-index l.parameter-items) × ((x : List ℕ) → (is_among l.names x || is_among (names_in l.fn.«module».names (drop l.parameter-index l.parameter-items)) x) ≡ is_among (parameters_in (shown_stmt l.fn.«module» l.fn.s.index)) x)
