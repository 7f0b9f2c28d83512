use Rattle.std.proofs.Common.{◌++◌, ◌+◌, List, sym, ap, ◌∙◌}
use Rattle.spec_first_trees.specs.declared.ExcClass.{ExcClass}
use Rattle.first_promises.proofs.Listed.{classes_from, no_class, one_class}
use Rattle.first_promises.proofs.classes.add_classes.Goals as goal
use Rattle.first_promises.proofs.classes.add_classes.Goals.{in-Some-class_named+in_ok-push, in_default-class_named}

pub loop-i-preserved : goal.loop-i-preserved
loop-i-preserved c = elim c.match-class_named.branch [
  | in-Some-class_named+in_ok-push w ↦ rw w.classes-is (ap (λ (v : List ExcClass). v ++ classes_from c.args.module.now c.in-Some.names (c.loop-i.i + 1)) w.in_ok-push.ensures.items
      ∙ one_class c.args.module.now c.in-Some.names c.loop-i.i c.names_get-name.result c.name_text.result.now c.names_get-name.ensures.name c.name_text.ensures.text c.loop-i.classes.items w.in-Some-class_named.class (sym w.in-Some-class_named.ensures)
      ∙ c.loop-i.invariant)
  | in_default-class_named w ↦ rw w.classes-is (ap (λ (v : List ExcClass). c.loop-i.classes.items ++ v) (no_class c.args.module.now c.in-Some.names c.loop-i.i c.names_get-name.result c.name_text.result.now c.names_get-name.ensures.name c.name_text.ensures.text (sym c.class_named.ensures ∙ w.in_default-class_named.is))
      ∙ c.loop-i.invariant)
]
