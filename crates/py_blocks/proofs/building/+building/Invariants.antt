use Rattle.std.proofs.Common.{◌≡◌, ◌+◌, ◌-◌, ◌*◌, List, [], ◌∷◌, length, drop}
use Rattle.spec_trees.specs.Module as tree
use Rattle.spec_grammar.specs.Blocks.{PlacedLine, catches_all}
use Rattle.spec_grammar.specs.BlockReading.{block_with, branches_with, handlers_with, statement_below}
use Rattle.py_tree.specs.Arena.{shown_stmt}
use Rattle.py_tree.specs.Stmts.{block_tree, branches_tree, handlers_tree, texts_of, AreStmtsBelow, AreBranchesBelow, AreHandlersBelow}
use Rattle.py_placed.specs.Placed.{ArePlaced}
use Rattle.py_blocks.specs.Given.{AreThere}
use Rattle.py_blocks.specs.Growth.{line_extents, Builds}
use Rattle.py_blocks.proofs.building.+building.Given as goal

-- The room falls at each nesting. Within one nesting a caller ranks above what it calls.
abbrev pub decreases-statements::statement : goal.decreases-statements::statement
decreases-statements::statement l = l.frame.room * 8

abbrev pub decreases-statements::block : goal.decreases-statements::block
decreases-statements::block l = l.frame.room * 8 + 1

abbrev pub decreases-statements::suite : goal.decreases-statements::suite
decreases-statements::suite l = l.frame.room * 8 + 2

abbrev pub decreases-clauses::branches : goal.decreases-clauses::branches
decreases-clauses::branches l = l.frame.room * 8 + 3

abbrev pub decreases-clauses::handlers : goal.decreases-clauses::handlers
decreases-clauses::handlers l = l.frame.room * 8 + 3

abbrev pub decreases-clauses::otherwise : goal.decreases-clauses::otherwise
decreases-clauses::otherwise l = l.frame.room * 8 + 3

abbrev pub decreases-compounds::choice : goal.decreases-compounds::choice
decreases-compounds::choice l = l.frame.room * 8 + 4

abbrev pub decreases-compounds::while_loop : goal.decreases-compounds::while_loop
decreases-compounds::while_loop l = l.frame.room * 8 + 4

abbrev pub decreases-compounds::for_loop : goal.decreases-compounds::for_loop
decreases-compounds::for_loop l = l.frame.room * 8 + 4

abbrev pub decreases-compounds::tried : goal.decreases-compounds::tried
decreases-compounds::tried l = l.frame.room * 8 + 4

abbrev pub decreases-compounds::headed : goal.decreases-compounds::headed
decreases-compounds::headed l = l.frame.room * 8 + 5

abbrev pub invariant-statements::block-list : goal.invariant-statements::block-list
invariant-statements::block-list l = record {
  built : Builds (line_extents l.lines) l.initial.into l.into;
  there : AreThere l.into l.lines;
  here : AreStmtsBelow (length l.into.stmts) l.list.items;
  read : (ps : List PlacedLine) → ArePlaced l.initial.into l.lines ps
      → block_with (statement_below l.frame.room l.frame.depth) (l.frame.turns - l.counter) (block_tree (shown_stmt l.into) l.list.items) (drop l.pos ps)
      ≡ block_with (statement_below l.frame.room l.frame.depth) l.frame.turns (block_tree (shown_stmt l.initial.into) l.fn.before.items) (drop l.start ps);
}

abbrev pub invariant-clauses::branches-list : goal.invariant-clauses::branches-list
invariant-clauses::branches-list l = record {
  built : Builds (line_extents l.lines) l.initial.into l.into;
  there : AreThere l.into l.lines;
  here : AreBranchesBelow l.into (length l.into.stmts) l.list.items;
  read : (ps : List PlacedLine) → ArePlaced l.initial.into l.lines ps
      → branches_with (statement_below l.frame.room) l.frame.turns l.frame.depth (l.frame.turns - l.counter) (branches_tree l.into (shown_stmt l.into) l.list.items) (drop l.pos ps)
      ≡ branches_with (statement_below l.frame.room) l.frame.turns l.frame.depth l.frame.turns tree.no_branch (drop l.start ps);
}

abbrev pub invariant-clauses::handlers-list : goal.invariant-clauses::handlers-list
invariant-clauses::handlers-list l = record {
  built : Builds (line_extents l.lines) l.initial.into l.into;
  there : AreThere l.into l.lines;
  here : AreHandlersBelow l.into (length l.into.stmts) l.list.items;
  read : (ps : List PlacedLine) → ArePlaced l.initial.into l.lines ps
      → handlers_with (statement_below l.frame.room) l.frame.turns l.frame.depth (l.frame.turns - l.counter) l.is_last (handlers_tree l.into (shown_stmt l.into) l.list.items) (drop l.pos ps)
      ≡ handlers_with (statement_below l.frame.room) l.frame.turns l.frame.depth l.frame.turns (catches_all (texts_of l.initial.into l.fn.first.classes)) (handlers_tree l.initial.into (shown_stmt l.initial.into) (l.fn.first ∷ [])) (drop l.start ps);
}
