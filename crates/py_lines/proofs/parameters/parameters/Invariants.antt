use Rattle.std.proofs.Common.{◌≡◌, ◌-◌, [], drop}
use Rattle.spec_grammar.specs.HeaderReading.{parameters_with}
use Rattle.py_tree.specs.Stmts.{parameters_tree, AreParametersThere}
use Rattle.py_statements.specs.Given.{Grows}
use Rattle.py_lines.proofs.parameters.parameters.Given as goal

abbrev pub invariant-list : goal.invariant-list
invariant-list l = record {
  grown : Grows l.initial.into l.into;
  here : AreParametersThere l.into l.list.items;
  read : parameters_with (l.room - l.counter) (parameters_tree l.into l.list.items) (drop l.pos l.words)
      ≡ parameters_with l.room [] (drop l.start l.words);
}
