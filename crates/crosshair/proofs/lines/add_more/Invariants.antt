use Rattle.std.proofs.Common.{◌≡◌, ◌++◌, map, take}
use Rattle.spec_calls.specs.Calls.{Number}
use Rattle.spec_calls.specs.Printing.{more_text}
use Rattle.first_tree.specs.Functions.{int_parameter}
use Rattle.crosshair.proofs.lines.add_more.Given as goal

abbrev pub invariant-loop-i : goal.invariant-loop-i
invariant-loop-i l = l.text ≡ l.initial.text ++ more_text (map int_parameter (take l.i l.parameters)) (map Number (take l.i l.arguments))
