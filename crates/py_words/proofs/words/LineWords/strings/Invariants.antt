use Rattle.std.proofs.Common.{◌≡◌, [], drop, map, length}
use Rattle.spec_grammar.specs.Reading.{strings_onto}
use Rattle.py_tree.specs.Exprs.{part_tree}
use Rattle.py_words.proofs.words.LineWords.strings.Given as goal

abbrev pub invariant-loop-parts : goal.invariant-loop-parts
invariant-loop-parts l = strings_onto (map part_tree l.parts.items) (drop l.next l.self) ≡ strings_onto [] (drop l.pos l.self)

abbrev pub decreases-loop-parts : goal.decreases-loop-parts
decreases-loop-parts l = length (drop l.next l.self)
