use Rattle.std.proofs.Common.{◌≡◌, drop, map}
use Rattle.std.specs.List.{list_any}
use Rattle.spec_names.specs.Names.{is_given}
use Rattle.py_tree.specs.Names.{text_of}
use Rattle.py_profile.proofs.names.are_given.Given as goal

abbrev pub invariant-loop-name : goal.invariant-loop-name
invariant-loop-name l = list_any is_given (map (text_of l.module.names) l.names) ≡ list_any is_given (map (text_of l.module.names) (drop l.name-index l.names))
