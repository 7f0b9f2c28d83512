-- Which contents are admitted under which bounds, and as what program. The phases are encoding, tokens, load, lines, nesting, blocks, contract lines, names with the profile, and the form that is run, and the first that refuses decides.
use Rattle.std.specs.Prelude.{ℕ, suc, ◌==◌, List, [], take, Option, Some, None, Result, Ok, Err, codes, if◌then◌else◌}
use Rattle.std.specs.List.{count_by}
use Rattle.std.specs.Str.{is_utf8, chars}
use Rattle.std.specs.Str.Lossy.{utf8_valid_len}
use Rattle.spec_tokens.specs.declared.Fault.{Fault}
use Rattle.spec_tokens.specs.declared.Fault.TheVariants as fault
use Rattle.spec_tokens.specs.declared.Refusal as tokens
use Rattle.spec_tokens.specs.Letters.{letters_of}
use Rattle.spec_tokens.specs.Cutting.{pieces_of}
use Rattle.spec_tokens.specs.Tokens.{Scan, tokens_of}
use Rattle.spec_trees.specs.Module.{Block}
use Rattle.spec_first_trees.specs.Bounds.{Bounds}
use Rattle.spec_first_trees.specs.Program.{Function, Program}
use Rattle.spec_syntax.specs.Lines.{word_lines}
use Rattle.spec_syntax.specs.Phases.{Misfit, too_deep, no_line, misplaced, parsed}
use Rattle.spec_contracts.specs.declared.ContractFault.{ContractFault}
use Rattle.spec_contracts.specs.declared.ContractFault.TheVariants as contract
use Rattle.spec_contracts.specs.declared.Refusal as contracts
use Rattle.spec_contracts.specs.ContractLines.{ContractLine, contracts_of}
use Rattle.spec_names.specs.declared.ProfileFault.{ProfileFault}
use Rattle.spec_names.specs.declared.ProfileFault.TheVariants as profile
use Rattle.spec_names.specs.declared.Refusal as names
use Rattle.spec_profile.specs.Profile.{profile_refusal}
use Rattle.spec_forms.specs.Forms.{functions_of}

-- why a content is not admitted: the name of the refusal, and the line at which it shows
pub record Refusal : Type 0 where
  pub line : ℕ
  pub kind : List ℕ

abbrev pub refused : ℕ → List ℕ → Result Program Refusal
refused n kind = Err (record { line = n; kind = kind })

-- the line of the first byte that begins no valid character
abbrev pub invalid_line : List ℕ → ℕ
invalid_line bs = suc (count_by (λ b. b == 10) (take (utf8_valid_len bs) bs))

abbrev pub fault_name : Fault → List ℕ
fault_name fault.BadCharacter = codes "BadCharacter"
fault_name fault.MixedIndent = codes "MixedIndent"
fault_name fault.BadDedent = codes "BadDedent"
fault_name fault.OpenString = codes "OpenString"
fault_name fault.OpenBracket = codes "OpenBracket"
fault_name fault.BigInteger = codes "BigInteger"
fault_name fault.NumberForm = codes "NumberForm"
fault_name fault.EscapeForm = codes "EscapeForm"

abbrev pub contract_fault_name : ContractFault → List ℕ
contract_fault_name contract.BadExpression = codes "BadExpression"
contract_fault_name contract.UnknownName = codes "UnknownName"
contract_fault_name contract.Misplaced = codes "Misplaced"

abbrev pub profile_fault_name : ProfileFault → List ℕ
profile_fault_name profile.UnknownName = codes "UnknownName"
profile_fault_name profile.Duplicate = codes "Duplicate"
profile_fault_name profile.MissingType = codes "MissingType"
profile_fault_name profile.UnknownType = codes "UnknownType"
profile_fault_name profile.ModuleStatement = codes "ModuleStatement"
profile_fault_name profile.TooWide = codes "TooWide"
profile_fault_name profile.Form = codes "Form"

abbrev pub formed : Result (List Function) ℕ → Result Program Refusal
formed (Ok fs) = Ok (record { functions = fs })
formed (Err n) = refused n (codes "NotBuilt")

-- the program of a block with these contract lines, by what is told of its names
abbrev pub as_profile : Block → List ContractLine → Option names.Refusal → Result Program Refusal
as_profile b ls None = formed (functions_of ls b)
as_profile b ls (Some r) = refused r.line (profile_fault_name r.fault)

-- the phases behind, under these bounds
module _ (bounds : Bounds) where
  -- the program of a block whose contract lines are read
  abbrev pub as_contracts : Block → Result (List ContractLine) contracts.Refusal → Result Program Refusal
  as_contracts b (Ok ls) = as_profile b ls (profile_refusal b ls bounds.max_len bounds.max_nest)
  as_contracts b (Err r) = refused r.line (contract_fault_name r.fault)

  abbrev pub as_block : Result Block Misfit → Result Program Refusal
  as_block (Ok b) = as_contracts b (contracts_of b)
  as_block (Err (no_line n)) = refused n (codes "Line")
  as_block (Err (too_deep n)) = refused n (codes "TooDeep")
  as_block (Err (misplaced n)) = refused n (codes "Block")

  abbrev pub as_tokens : Result Scan tokens.Refusal → Result Program Refusal
  as_tokens (Ok s) = as_block (parsed (word_lines s))
  as_tokens (Err r) = refused r.line (fault_name r.fault)

  -- the program of a text
  unfoldable pub admit_text : List ℕ → Result Program Refusal
  admit_text text = as_tokens (tokens_of text (pieces_of (letters_of text)))

  -- the program of a content, or the first refusal
  unfoldable pub admit : List ℕ → Result Program Refusal
  admit content = if is_utf8 content then admit_text (chars content) else refused (invalid_line content) (codes "NotUtf8")
