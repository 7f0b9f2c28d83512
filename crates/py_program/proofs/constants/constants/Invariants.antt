use Rattle.std.proofs.Common.{◌≡◌, ◌≤◌, drop, length, map}
use Rattle.std.specs.List.{All}
use Rattle.spec_programs.specs.Definitions.{constant_named}
use Rattle.py_tree.specs.Arena.{shown_stmt}
use Rattle.py_tree.specs.Exprs.{IsBoundBelow}
use Rattle.py_tree.specs.Stmts.{block_tree, optional_expr}
use Rattle.py_program.proofs.constants.constants.Given as goal

abbrev pub invariant-loop-behind : goal.invariant-loop-behind
invariant-loop-behind l = record {
  constants : map (optional_expr l.module) l.constants.items ≡ map (constant_named (block_tree (shown_stmt l.module) (drop l.behind l.module.tops))) l.module.names;
  values : All (IsBoundBelow (length l.module.exprs)) l.constants.items;
  size : length l.constants.items ≡ length l.module.names;
  place : l.behind ≤ length l.module.tops;
}

abbrev pub decreases-loop-behind : goal.decreases-loop-behind
decreases-loop-behind l = l.behind
