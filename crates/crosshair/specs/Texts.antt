-- The parts of a report.
use Rattle.std.specs.Prelude.{ℕ, Bool, List, map}
use Rattle.spec_first_trees.specs.Bounds.{Bounds}
use Rattle.spec_first_trees.specs.Program.{Program, Function, Condition}
use Rattle.spec_verdicts.specs.Verdicts.{verdict}
use Rattle.spec_verdicts.specs.Lines.{verdict_line}
use Rattle.spec_verdicts.specs.Report.{line_of, is_error}
use Rattle.first_tree.specs.Arena.{ModuleState}
use Rattle.first_tree.specs.Functions.{function_in}

-- what is written for a condition
abbrev pub condition_text : Bool → List ℕ → Bounds → Function → Condition → List ℕ
condition_text all name bounds f k = verdict_line all name (line_of k) f (verdict f k bounds)

-- whether the verdict of a condition is an error
abbrev pub condition_fails : Bounds → Function → Condition → Bool
condition_fails bounds f k = is_error (verdict f k bounds)

-- the program of a module
abbrev pub program_in : ModuleState → Program
program_in m = record { functions = map (function_in m.nodes) m.functions }
