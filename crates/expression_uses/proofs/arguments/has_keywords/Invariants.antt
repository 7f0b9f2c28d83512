use Rattle.std.proofs.Common.{◌≡◌, drop}
use Rattle.py_tree.specs.Arena.{shown}
use Rattle.expression_uses.proofs.Keywords.{keywords_of}
use Rattle.expression_uses.proofs.arguments.has_keywords.Given as goal

-- none of the arguments before this place has a keyword
abbrev pub invariant-loop-argument : goal.invariant-loop-argument
invariant-loop-argument l = keywords_of l.module.names (shown l.module) l.arguments ≡ keywords_of l.module.names (shown l.module) (drop l.argument-index l.arguments)
