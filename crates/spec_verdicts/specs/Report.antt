-- What the whole run writes and answers, as a function of the words and the files.
use Rattle.std.specs.Option.{option_map}
use Rattle.std.specs.List.{flat_map, list_any}
use Rattle.std.specs.Prelude.{Some, None, ℕ, Bool, true, false, max, List, [], ◌∷◌, ◌++◌, Option, Result, Ok, Err, if◌then◌else◌, codes}
use Rattle.xh_outside.specs.declared.errors.ReadError.{ReadError}
use Rattle.xh_outside.specs.declared.errors.ReadError.TheVariants.{Failed, TooLong, NoMemory}
use Rattle.xh_outside.specs.Reading.{read_of, next_left}
use Rattle.spec_first_trees.specs.Bounds.{Bounds}
use Rattle.spec_first_trees.specs.Program.{Program, Function, Condition, Raises, Post}
use Rattle.spec_admission.specs.Admission.{Refusal, admit}
use Rattle.spec_verdicts.specs.Verdicts.{Verdict, Error, NotConfirmed, Unmet, Confirmed, verdict}
use Rattle.spec_verdicts.specs.Lines.{verdict_line, refusal_line, fault_line, usage}
use Rattle.spec_verdicts.specs.Settings.{Settings, settings}
use Rattle.spec_verdicts.specs.declared.TheConstants.{READ_LIMIT}

-- what a run writes and answers
pub record Total : Type 0 where
  -- the bytes on out
  pub out : List ℕ
  -- the bytes on err, but for the line of a failed read
  pub entries : List ℕ
  -- the line of a failed read, or nothing
  pub fault : List ℕ
  pub status : ℕ

abbrev pub nothing : Total
nothing = record { out = []; entries = []; fault = []; status = 0 }

-- a total without the bytes on out
abbrev pub off_out : Total → Total
off_out t = record t { out = [] }

-- what a file that was read adds
pub record Report : Type 0 where
  pub out : List ℕ
  pub entries : List ℕ
  pub status : ℕ

abbrev pub reported : Report → Total
reported r = record { out = r.out; entries = r.entries; fault = []; status = r.status }

abbrev pub refused : List ℕ → Report
refused line = record { out = []; entries = line; status = 2 }

abbrev pub read_fault : List ℕ → Total
read_fault line = record { out = []; entries = []; fault = line; status = 4 }

-- one after the other
abbrev pub join : Total → Total → Total
join a b = record { out = a.out ++ b.out; entries = a.entries ++ b.entries; fault = a.fault ++ b.fault; status = max a.status b.status }

abbrev pub line_of : Condition → ℕ
line_of (Raises line permitted) = line
line_of (Post line e) = line

abbrev pub is_error : Verdict → Bool
is_error (Error c fault) = true
is_error (NotConfirmed c k) = false
is_error Unmet = false
is_error Confirmed = false

-- the lines of the conditions of a function, in order, where all results are written or the errors alone
unfoldable pub function_text : Bool → List ℕ → Bounds → Function → List ℕ
function_text all name bounds f = flat_map (λ k. verdict_line all name (line_of k) f (verdict f k bounds)) f.conditions

unfoldable pub has_error : Bounds → Function → Bool
has_error bounds f = list_any (λ k. is_error (verdict f k bounds)) f.conditions

-- The report of a program: its functions in order. The status is 1 where a verdict is an error.
abbrev pub program_report : Bool → List ℕ → Bounds → Program → Report
program_report all name bounds p = record {
  out = flat_map (function_text all name bounds) p.functions;
  entries = [];
  status = if list_any (has_error bounds) p.functions then 1 else 0;
}

-- the report of an admitted program, or the refusal
abbrev pub report_of_admission : Bool → List ℕ → Bounds → Result Program Refusal → Report
report_of_admission all name bounds (Ok p) = program_report all name bounds p
report_of_admission all name bounds (Err r) = refused (refusal_line name r.line r.kind)

-- what a content adds
unfoldable pub report_of : Bool → Bounds → List ℕ → List ℕ → Report
report_of all bounds name content = report_of_admission all name bounds (admit bounds content)

-- what one target adds, by what its read answers
abbrev pub entry_of : Bool → Bounds → List ℕ → Result (List ℕ) ReadError → Total
entry_of all bounds name (Ok content) = reported (report_of all bounds name content)
entry_of all bounds name (Err TooLong) = reported (refused (refusal_line name 1 (codes "TooLong")))
entry_of all bounds name (Err Failed) = read_fault (fault_line name)
entry_of all bounds name (Err NoMemory) = nothing

abbrev pub is_failed : Result (List ℕ) ReadError → Bool
is_failed (Ok content) = false
is_failed (Err TooLong) = false
is_failed (Err Failed) = true
is_failed (Err NoMemory) = false

-- a failed read ends the run
abbrev pub after : Result (List ℕ) ReadError → Total → Total
after answer rest = if is_failed answer then nothing else rest

-- the targets in order, up to the first whose read fails
abbrev pub targets_total : Bool → Bounds → List (List ℕ) → List (List ℕ × List ℕ) → Option ℕ → Total
targets_total all bounds [] files left = nothing
targets_total all bounds (name ∷ names) files left =
    let answer = read_of files left name READ_LIMIT in
    join (entry_of all bounds name answer) (after answer (targets_total all bounds names files (next_left left)))

abbrev pub settled_total : Option Settings → Option (List (List ℕ × List ℕ)) → Option ℕ → Option Total
settled_total None contents left = Some (reported (refused usage))
settled_total (Some s) contents left = option_map (λ files. targets_total s.report_all s.bounds s.targets files left) contents

-- The whole run, where the words and what is told of the files determine it: refused words, or files that tell their contents.
abbrev pub known_total : List (List ℕ) → Option (List (List ℕ × List ℕ)) → Option ℕ → Option Total
known_total words contents left = settled_total (settings words) contents left
