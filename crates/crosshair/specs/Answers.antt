-- What reading a content answers.
use Rattle.std.specs.Prelude.{◌≡◌, ⊤, ℕ, List, map, codes, Result, Ok, Err}
use Rattle.spec_first_trees.specs.Program.{Program}
use Rattle.spec_admission.specs.Admission.{Refusal}
use Rattle.first_tree.specs.Arena.{ModuleState}
use Rattle.first_tree.specs.Functions.{function_in}
use Rattle.crosshair.specs.declared.admission.StageError.{StageError}
use Rattle.crosshair.specs.declared.admission.StageError.TheVariants.{Refused, NoMemory}
use Rattle.crosshair.specs.declared.refusals.RefusalKind.{RefusalKind}
use Rattle.crosshair.specs.declared.refusals.RefusalKind.TheVariants as kind

-- the name of a refusal, as it is written
abbrev pub kind_name : RefusalKind → List ℕ
kind_name kind.NotUtf8 = codes "NotUtf8"
kind_name kind.BadCharacter = codes "BadCharacter"
kind_name kind.MixedIndent = codes "MixedIndent"
kind_name kind.BadDedent = codes "BadDedent"
kind_name kind.OpenString = codes "OpenString"
kind_name kind.OpenBracket = codes "OpenBracket"
kind_name kind.BigInteger = codes "BigInteger"
kind_name kind.NumberForm = codes "NumberForm"
kind_name kind.EscapeForm = codes "EscapeForm"
kind_name kind.Line = codes "Line"
kind_name kind.TooDeep = codes "TooDeep"
kind_name kind.Block = codes "Block"
kind_name kind.BadExpression = codes "BadExpression"
kind_name kind.UnknownName = codes "UnknownName"
kind_name kind.Misplaced = codes "Misplaced"
kind_name kind.Duplicate = codes "Duplicate"
kind_name kind.MissingType = codes "MissingType"
kind_name kind.UnknownType = codes "UnknownType"
kind_name kind.ModuleStatement = codes "ModuleStatement"
kind_name kind.TooWide = codes "TooWide"
kind_name kind.Form = codes "Form"
kind_name kind.NotBuilt = codes "NotBuilt"

-- a module stands for the program of its functions, or the content is refused at a line
abbrev pub IsAdmission : Result Program Refusal → Result ModuleState StageError → Type 0
IsAdmission want (Ok m) = want ≡ Ok (record { functions = map (function_in m.nodes) m.functions })
IsAdmission want (Err (Refused n k)) = want ≡ Err (record { line = n; kind = kind_name k })
IsAdmission want (Err NoMemory) = ⊤
