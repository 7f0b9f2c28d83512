-- The refusals that the errors of the phases are.
use Rattle.py_tokens.specs.declared.errors.TokenError.{TokenError}
use Rattle.py_tokens.specs.declared.errors.TokenError.TheVariants as token
use Rattle.py_parser.specs.declared.errors.SyntaxError.{SyntaxError}
use Rattle.py_parser.specs.declared.errors.SyntaxError.TheVariants as syntax
use Rattle.contract_lines.specs.declared.errors.ContractError.{ContractError}
use Rattle.contract_lines.specs.declared.errors.ContractError.TheVariants as contract
use Rattle.spec_names.specs.declared.ProfileFault.{ProfileFault}
use Rattle.spec_names.specs.declared.ProfileFault.TheVariants as fault
use Rattle.py_profile.specs.declared.errors.ProfileError.{ProfileError}
use Rattle.py_profile.specs.declared.errors.ProfileError.TheVariants as profile
use Rattle.first_promises.specs.declared.errors.FormError.{FormError}
use Rattle.first_promises.specs.declared.errors.FormError.TheVariants as form
use Rattle.crosshair.specs.declared.admission.StageError.{StageError}
use Rattle.crosshair.specs.declared.admission.StageError.TheVariants.{Refused, NoMemory}
use Rattle.crosshair.specs.declared.refusals.RefusalKind.{RefusalKind}
use Rattle.crosshair.specs.declared.refusals.RefusalKind.TheVariants as kind

abbrev pub token_refusal : TokenError → StageError
token_refusal (token.BadCharacter n) = Refused n kind.BadCharacter
token_refusal (token.MixedIndent n) = Refused n kind.MixedIndent
token_refusal (token.BadDedent n) = Refused n kind.BadDedent
token_refusal (token.OpenString n) = Refused n kind.OpenString
token_refusal (token.OpenBracket n) = Refused n kind.OpenBracket
token_refusal (token.BigInteger n) = Refused n kind.BigInteger
token_refusal (token.NumberForm n) = Refused n kind.NumberForm
token_refusal (token.EscapeForm n) = Refused n kind.EscapeForm
token_refusal token.NoMemory = NoMemory

abbrev pub syntax_refusal : SyntaxError → StageError
syntax_refusal (syntax.Line n) = Refused n kind.Line
syntax_refusal (syntax.TooDeep n) = Refused n kind.TooDeep
syntax_refusal (syntax.Block n) = Refused n kind.Block
syntax_refusal syntax.NoMemory = NoMemory

abbrev pub contract_refusal : ContractError → StageError
contract_refusal (contract.BadExpression n) = Refused n kind.BadExpression
contract_refusal (contract.UnknownName n) = Refused n kind.UnknownName
contract_refusal (contract.Misplaced n) = Refused n kind.Misplaced
contract_refusal contract.NoMemory = NoMemory

abbrev pub profile_kind : ProfileFault → RefusalKind
profile_kind fault.UnknownName = kind.UnknownName
profile_kind fault.Duplicate = kind.Duplicate
profile_kind fault.MissingType = kind.MissingType
profile_kind fault.UnknownType = kind.UnknownType
profile_kind fault.ModuleStatement = kind.ModuleStatement
profile_kind fault.TooWide = kind.TooWide
profile_kind fault.Form = kind.Form

abbrev pub profile_refused : ProfileError → StageError
profile_refused (profile.Refused n f) = Refused n (profile_kind f)
profile_refused profile.NoMemory = NoMemory

abbrev pub form_refusal : FormError → StageError
form_refusal (form.NotBuilt n) = Refused n kind.NotBuilt
form_refusal form.NoMemory = NoMemory
