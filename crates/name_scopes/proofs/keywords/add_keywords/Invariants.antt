use Rattle.py_tree.specs.Arena.{shown}
use Rattle.name_scopes.proofs.Repeating.{RepeatedTo}
use Rattle.name_scopes.proofs.keywords.add_keywords.Given as goal

abbrev pub invariant-loop-argument : goal.invariant-loop-argument
invariant-loop-argument l = RepeatedTo l.module.names (shown l.module) l.arguments l.fn.seen l.seen l.is_repeated l.argument-index
