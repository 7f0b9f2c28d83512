use Rattle.std.proofs.Common.{◌≡◌, drop}
use Rattle.std.specs.List.{list_any}
use Rattle.spec_names.specs.Names.{is_private}
use Rattle.py_tree.specs.Arena.{shown}
use Rattle.expression_uses.proofs.Keywords.{keywords_of}
use Rattle.expression_uses.proofs.arguments.are_private.Given as goal

-- none of the arguments before this place has such a keyword
abbrev pub invariant-loop-argument : goal.invariant-loop-argument
invariant-loop-argument l = list_any is_private (keywords_of l.module.names (shown l.module) l.arguments) ≡ list_any is_private (keywords_of l.module.names (shown l.module) (drop l.argument-index l.arguments))
