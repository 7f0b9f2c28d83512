use Rattle.std.proofs.Common.{◌≡◌, drop}
use Rattle.spec_first_trees.specs.Classes.{is_permitted}
use Rattle.py_program.proofs.permits.is_permitted.Given as goal

abbrev pub invariant-loop-wide : goal.invariant-loop-wide
invariant-loop-wide l = is_permitted (drop l.wide-index l.classes) l.class ≡ is_permitted l.classes l.class
