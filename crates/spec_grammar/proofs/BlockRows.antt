-- What a few modules are read as, and what is none.
use Rattle.std.proofs.Common.{◌≡◌, ℕ, [], ◌∷◌, Some, None, refl}
use Rattle.spec_trees.specs.Expr.{Expr, name}
use Rattle.spec_trees.specs.Stmt as line
use Rattle.spec_trees.specs.Stmt.{Line}
use Rattle.spec_trees.specs.Module as tree
use Rattle.spec_trees.specs.Module.{no_statement, statement, no_branch, branch, no_handler, handler}
use Rattle.spec_grammar.specs.Blocks.{PlacedLine}
use Rattle.spec_grammar.specs.BlockReading.{block_with, body_with, branches_with, handlers_with, else_with, tried_with, headed_with, placed_with, statement_with, statement_below, module_of}

-- a line in d blocks
abbrev at : ℕ → Line → PlacedLine
at d l = record { depth = d; line = l }

abbrev a : Expr
a = name 1 (97 ∷ [])

-- `if a:` and `pass`, `elif a: pass`, `else:` and `break`, and then `pass`
branches : module_of (at 0 (line.header (line.if 1 a)) ∷ at 1 (line.simple (line.pass 2)) ∷ at 0 (line.header_simple (line.elif 3 a) (line.pass 3)) ∷ at 0 (line.header (line.else 4)) ∷ at 1 (line.simple (line.break 5)) ∷ at 0 (line.simple (line.pass 6)) ∷ []) ≡ Some (statement (tree.if 1 a (statement (tree.simple (line.pass 2)) no_statement) (branch 3 a (statement (tree.simple (line.pass 3)) no_statement) no_branch) (statement (tree.simple (line.break 5)) no_statement)) (statement (tree.simple (line.pass 6)) no_statement))
unfolding block_with body_with branches_with handlers_with else_with tried_with headed_with placed_with statement_with statement_below module_of
branches = refl

-- `try: pass` and `except: pass`
all_caught : module_of (at 0 (line.header_simple (line.try 1) (line.pass 1)) ∷ at 0 (line.header_simple (line.except 2 []) (line.pass 2)) ∷ []) ≡ Some (statement (tree.try 1 (statement (tree.simple (line.pass 1)) no_statement) (handler 2 [] (statement (tree.simple (line.pass 2)) no_statement) no_handler) no_statement) no_statement)
unfolding block_with body_with branches_with handlers_with else_with tried_with headed_with placed_with statement_with statement_below module_of
all_caught = refl

-- no `except` follows one that catches all
after_all : module_of (at 0 (line.header_simple (line.try 1) (line.pass 1)) ∷ at 0 (line.header_simple (line.except 2 []) (line.pass 2)) ∷ at 0 (line.header_simple (line.except 3 []) (line.pass 3)) ∷ []) ≡ None
unfolding block_with body_with branches_with handlers_with else_with tried_with headed_with placed_with statement_with statement_below module_of
after_all = refl

-- `try` has an `except`
not_caught : module_of (at 0 (line.header_simple (line.try 1) (line.pass 1)) ∷ at 0 (line.header_simple (line.else 2) (line.pass 2)) ∷ []) ≡ None
unfolding block_with body_with branches_with handlers_with else_with tried_with headed_with placed_with statement_with statement_below module_of
not_caught = refl

-- a header has a block
no_block : module_of (at 0 (line.header (line.while 1 a)) ∷ at 0 (line.simple (line.pass 2)) ∷ []) ≡ None
unfolding block_with body_with branches_with handlers_with else_with tried_with headed_with placed_with statement_with statement_below module_of
no_block = refl

-- an indented line has a header before it
no_header : module_of (at 0 (line.simple (line.pass 1)) ∷ at 1 (line.simple (line.pass 2)) ∷ []) ≡ None
unfolding block_with body_with branches_with handlers_with else_with tried_with headed_with placed_with statement_with statement_below module_of
no_header = refl
