-- The kinds of statements.
use Rattle.spec_trees.specs.Module as tree
use Rattle.spec_trees.specs.Module.{Statement}
use Rattle.py_outline.specs.declared.outline.SimpleKind.{SimpleKind}
use Rattle.py_outline.specs.declared.outline.SimpleKind.TheVariants as simple
use Rattle.py_outline.specs.Outlines.{kind_of_simple}

-- the kind of a statement: one with a block is of no kind of its own
abbrev pub kind_of_statement : Statement → SimpleKind
kind_of_statement (tree.simple x) = kind_of_simple x
kind_of_statement _ = simple.Other
