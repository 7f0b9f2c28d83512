use Rattle.std.proofs.Common.{◌≡◌, ◌++◌}
use Rattle.spec_forms.specs.Forms.{classes_of}
use Rattle.py_tree.specs.Stmts.{texts_of}
use Rattle.std.specs.Prelude.{Some}
use Rattle.first_promises.proofs.Listed.{classes_from}
use Rattle.first_promises.proofs.classes.add_classes.Given as goal

abbrev pub invariant-loop-i : goal.invariant-loop-i
invariant-loop-i l = l.classes.items ++ classes_from l.module l.names l.i ≡ l.fn.classes.items ++ classes_of (Some (texts_of l.module l.names))
