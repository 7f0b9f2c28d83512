use Rattle.py_tree.specs.Names.{text_of}
use Rattle.py_program.proofs.Among.{AmongFrom, names_by_parameter, names_in_parameters}
use Rattle.py_program.proofs.locals.is_parameter.Given as goal

abbrev pub invariant-loop-parameter : goal.invariant-loop-parameter
invariant-loop-parameter l = AmongFrom (names_in_parameters l.module) (names_by_parameter l.module) (text_of l.module.names l.name) l.parameters l.parameter-index
