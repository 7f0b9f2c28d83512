-- The errors that tell refusals.
use Rattle.std.specs.Prelude.{ℕ, Bool, true, false}
use Rattle.py_parser.specs.declared.errors.SyntaxError.{SyntaxError}
use Rattle.py_parser.specs.declared.errors.SyntaxError.TheVariants as syntax
use Rattle.spec_contracts.specs.declared.Refusal.{Refusal}
use Rattle.spec_contracts.specs.declared.ContractFault.TheVariants as fault
use Rattle.spec_contracts.specs.declared.ContractFault.{ContractFault}
use Rattle.contract_lines.specs.declared.errors.ContractError.{ContractError}
use Rattle.contract_lines.specs.declared.errors.ContractError.TheVariants as error

abbrev pub error_at : ℕ → ContractFault → ContractError
error_at n fault.BadExpression = error.BadExpression n
error_at n fault.UnknownName = error.UnknownName n
error_at n fault.Misplaced = error.Misplaced n

abbrev pub error_for : Refusal → ContractError
error_for r = error_at r.line r.fault

-- whether an error tells that a text is no expression
abbrev pub is_refusal : SyntaxError → Bool
is_refusal (syntax.Line n) = true
is_refusal (syntax.TooDeep n) = true
is_refusal (syntax.Block n) = true
is_refusal syntax.NoMemory = false
