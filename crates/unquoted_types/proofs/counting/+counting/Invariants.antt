use Rattle.std.proofs.Common.{◌≡◌, ◌+◌, ◌*◌, drop}
use Rattle.spec_types.specs.Quotes.{all_letters}
use Rattle.py_tree.specs.Arena.{shown_type}
use Rattle.py_tree.specs.Types.{types_tree}
use Rattle.unquoted_types.proofs.Measures.{above}
use Rattle.unquoted_types.proofs.counting.+counting.Given as goal

-- A type stands above its parts, and a list above its types.
abbrev pub decreases-all_letters : goal.decreases-all_letters
decreases-all_letters l = above l.types.now * 2

abbrev pub decreases-letters : goal.decreases-letters
decreases-letters l = l.t.index * 2 + 1

-- the letters so far and those to come
abbrev pub invariant-all_letters-loop-t : goal.invariant-all_letters-loop-t
invariant-all_letters-loop-t l = l.total + all_letters (types_tree (shown_type l.module) (drop l.t-index l.types)) ≡ all_letters (types_tree (shown_type l.module) l.types)
