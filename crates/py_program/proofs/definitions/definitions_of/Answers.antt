use Rattle.std.proofs.Common.{◌≡◌, ◌∙◌, ℕ, List, [], length, map}
use Rattle.spec_programs.specs.Definitions.{class_named, function_named}
use Rattle.spec_types.specs.Classes.{classes}
use Rattle.spec_uses.specs.Functions.{all_functions}
use Rattle.py_tree.specs.Arena.{module_tree}
use Rattle.py_program.specs.Named.{first_from}
use Rattle.py_program.proofs.Named.{class_numbers, function_numbers, map_same}
use Rattle.py_program.proofs.definitions.definitions_of.Goals as goal

pub returns : goal.returns
returns c =
    let m = c.args.module.now in
    let b = (module_tree m).body in
    let listed = c.in_ok-listed.listed in
    let by_function = rw c.deref.ensures.value at c.in_ok-first_numbers.ensures in
    let by_class = rw c.deref-2.ensures.value at c.in_ok-first_numbers-2.ensures in
    record {
      constants = c.in_ok-constants.ensures.constants;
      values = c.in_ok-constants.ensures.values;
      functions = by_function ∙ map_same (first_from m.names 0 listed.functions.items) (function_named b) m.names (λ x. function_numbers m.names x listed.functions.items (all_functions b) 0 (c.in_ok-listed.ensures.functions x));
      classes = by_class ∙ map_same (first_from m.names 0 listed.classes.items) (class_named b) m.names (λ x. class_numbers m.names x listed.classes.items (classes b) 0 (c.in_ok-listed.ensures.classes x));
    }
