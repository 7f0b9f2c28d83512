use Rattle.std.proofs.Common.{◌≡◌, ◌-◌, [], ◌∷◌, length, map, drop}
use Rattle.spec_grammar.specs.StatementReading.{more_names}
use Rattle.py_tree.specs.Names.{text_of, AreNamesBelow}
use Rattle.py_statements.specs.Given.{Grows}
use Rattle.py_statements.proofs.names.more_names.Given as goal

abbrev pub invariant-list : goal.invariant-list
invariant-list l = record {
  grown : Grows l.initial.into l.into;
  here : AreNamesBelow (length l.into.names) l.list.items;
  read : more_names l.separator (l.room - l.counter) (map (text_of l.into.names) l.list.items) (drop l.pos l.words)
      ≡ more_names l.separator l.room (text_of l.initial.into.names l.fn.first ∷ []) (drop l.start l.words);
}
