-- The answer of reading one line, beside the line that the definition reads.
use Rattle.std.specs.Prelude.{◌≡◌, Option, Some, None, Result, Ok, Err}
use Rattle.spec_trees.specs.Stmt.{Line}
use Rattle.spec_syntax.specs.Lines.{WordLine}
use Rattle.spec_syntax.specs.Phases.{number_of_words}
use Rattle.py_tree.specs.Arena.{State}
use Rattle.py_placed.specs.declared.placed.PlacedLine as placed
use Rattle.py_placed.specs.declared.errors.Misread.{Misread}
use Rattle.py_placed.specs.declared.errors.Misread.TheVariants as error
use Rattle.py_placed.specs.Placed.{IsPlaced}

abbrev pub GivesPlaced : State → Result placed.PlacedLine Misread → WordLine → Option Line → Type 0
GivesPlaced m (Ok x) l (Some d) = IsPlaced m x (record { depth = l.depth; line = d })
GivesPlaced m (Ok x) l None = ⊥
GivesPlaced m (Err (error.NoLine n)) l o = (o ≡ None) × (n ≡ number_of_words l)
GivesPlaced m (Err error.NoMemory) l o = Unit {0}
