use Rattle.py_tree.specs.Arena.{shown}
use Rattle.name_scopes.proofs.Repeating.{LeftTo}
use Rattle.name_scopes.proofs.keywords.leave_keywords.Given as goal

abbrev pub invariant-loop-argument : goal.invariant-loop-argument
invariant-loop-argument l = LeftTo l.module.names (shown l.module) l.arguments l.seen l.argument-index
