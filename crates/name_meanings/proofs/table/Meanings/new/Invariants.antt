use Rattle.std.proofs.Common.{◌≡◌, ◌≤◌, drop, length, map}
use Rattle.spec_uses.specs.Meanings.{meaning_in}
use Rattle.py_tree.specs.Arena.{shown_stmt}
use Rattle.py_tree.specs.Stmts.{block_tree}
use Rattle.name_meanings.proofs.table.Meanings.new.Given as goal

abbrev pub invariant-loop-behind : goal.invariant-loop-behind
invariant-loop-behind l = (l.meanings.items ≡ map (meaning_in (block_tree (shown_stmt l.module) (drop l.behind l.module.tops))) l.module.names) × (l.behind ≤ length l.module.tops)

abbrev pub decreases-loop-behind : goal.decreases-loop-behind
decreases-loop-behind l = l.behind
