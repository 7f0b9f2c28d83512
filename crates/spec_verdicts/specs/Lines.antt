-- The lines that are written. A line ends with a line feed.
use Rattle.std.specs.Prelude.{ℕ, Bool, List, [], ◌++◌, codes, if◌then◌else◌}
use Rattle.std.specs.Fmt.{decimal}
use Rattle.spec_first_trees.specs.declared.ExcClass.{ExcClass}
use Rattle.spec_first_trees.specs.declared.ExcClass.TheVariants.{Exception, ArithmeticError, ZeroDivisionError, LookupError, IndexError, KeyError, ValueError, TypeError, AttributeError, NameError, UnboundLocalError, AssertionError, RuntimeError, NotImplementedError}
use Rattle.spec_first_trees.specs.declared.LimitKind.{LimitKind}
use Rattle.spec_first_trees.specs.declared.LimitKind.TheVariants as limit
use Rattle.spec_first_trees.specs.Program.{Function}
use Rattle.spec_running.specs.declared.Value.{Value}
use Rattle.spec_running.specs.declared.Value.TheVariants.{Nil, Bool as Truth, Int}
use Rattle.spec_calls.specs.Calls.{Call}
use Rattle.spec_calls.specs.Printing.{printed, shown}
use Rattle.spec_verdicts.specs.Breaking.{Fault, WasFalse, RaisedInBody, RaisedInPost}
use Rattle.spec_verdicts.specs.Verdicts.{Verdict, Error, NotConfirmed, Unmet, Confirmed}

abbrev pub class_name : ExcClass → List ℕ
class_name Exception = codes "Exception"
class_name ArithmeticError = codes "ArithmeticError"
class_name ZeroDivisionError = codes "ZeroDivisionError"
class_name LookupError = codes "LookupError"
class_name IndexError = codes "IndexError"
class_name KeyError = codes "KeyError"
class_name ValueError = codes "ValueError"
class_name TypeError = codes "TypeError"
class_name AttributeError = codes "AttributeError"
class_name NameError = codes "NameError"
class_name UnboundLocalError = codes "UnboundLocalError"
class_name AssertionError = codes "AssertionError"
class_name RuntimeError = codes "RuntimeError"
class_name NotImplementedError = codes "NotImplementedError"

-- the returned value is left out where it is None
abbrev pub which_returns : Value → List ℕ
which_returns Nil = []
which_returns (Truth b) = codes " (which returns " ++ shown (Truth b) ++ codes ")"
which_returns (Int z) = codes " (which returns " ++ shown (Int z) ++ codes ")"

abbrev pub fault_text : Function → Call → Fault → List ℕ
fault_text f c (WasFalse v) = codes "false when calling " ++ printed f c ++ which_returns v
fault_text f c (RaisedInBody k) = class_name k ++ codes " when calling " ++ printed f c
fault_text f c (RaisedInPost k) = class_name k ++ codes " in postcondition when calling " ++ printed f c

-- `NAME:LINE: error: TEXT`
unfoldable pub error_line : List ℕ → ℕ → Function → Call → Fault → List ℕ
error_line name line f c fault = name ++ codes ":" ++ decimal line ++ codes ": error: " ++ fault_text f c fault ++ codes "\n"

abbrev pub limit_name : LimitKind → List ℕ
limit_name limit.Steps = codes "steps"
limit_name limit.Depth = codes "depth"
limit_name limit.Int = codes "int"
limit_name limit.Profile = codes "profile"

-- `Not confirmed. (KIND limit when calling CALL)`
abbrev pub limit_text : Function → Call → LimitKind → List ℕ
limit_text f c kind = codes "Not confirmed. (" ++ limit_name kind ++ codes " limit when calling " ++ printed f c ++ codes ")"

-- `NAME:LINE: info: TEXT`
unfoldable pub info_line : List ℕ → ℕ → List ℕ → List ℕ
info_line name line text = name ++ codes ":" ++ decimal line ++ codes ": info: " ++ text ++ codes "\n"

-- `NAME:LINE: refused: KIND`
unfoldable pub refusal_line : List ℕ → ℕ → List ℕ → List ℕ
refusal_line name line kind = name ++ codes ":" ++ decimal line ++ codes ": refused: " ++ kind ++ codes "\n"

-- `NAME: read fault`
abbrev pub fault_line : List ℕ → List ℕ
fault_line name = name ++ codes ": read fault\n"

-- a line that is written only where all results are
abbrev pub info_if : Bool → List ℕ → List ℕ
info_if all line = if all then line else []

-- what is written for a verdict: an error always, any other result where all are
abbrev pub verdict_line : Bool → List ℕ → ℕ → Function → Verdict → List ℕ
verdict_line all name line f (Error c fault) = error_line name line f c fault
verdict_line all name line f (NotConfirmed c kind) = info_if all (info_line name line (limit_text f c kind))
verdict_line all name line f Unmet = info_if all (info_line name line (codes "Unable to meet precondition."))
verdict_line all name line f Confirmed = info_if all (info_line name line (codes "Confirmed over all paths."))

abbrev pub usage : List ℕ
usage = codes "usage: crosshair check [OPTIONS] FILE[:LINE]...\n       crosshair demo N\n"
