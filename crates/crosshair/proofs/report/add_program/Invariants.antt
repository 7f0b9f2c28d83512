use Rattle.std.proofs.Common.{◌≡◌, ◌++◌, take}
use Rattle.std.specs.List.{flat_map, list_any}
use Rattle.spec_verdicts.specs.Report.{function_text, has_error}
use Rattle.first_tree.specs.BoundsOf.{bounds_of}
use Rattle.crosshair.specs.Texts.{program_in}
use Rattle.crosshair.proofs.report.add_program.Given as goal

abbrev pub invariant-loop-i : goal.invariant-loop-i
invariant-loop-i l = record {
  text : l.text ≡ l.initial.text ++ flat_map (function_text l.settings.report_all l.name (bounds_of l.settings.bounds)) (take l.i (program_in l.trees).functions);
  fails : l.fails ≡ list_any (has_error (bounds_of l.settings.bounds)) (take l.i (program_in l.trees).functions);
}
