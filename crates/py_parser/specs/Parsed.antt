-- What reading a module answers: the module of the block that the phases give, or their refusal.
use Rattle.std.specs.Prelude.{◌≡◌, Result, Ok, Err}
use Rattle.spec_trees.specs.Module.{Block}
use Rattle.spec_syntax.specs.Phases.{Misfit, too_deep, no_line, misplaced}
use Rattle.py_tree.specs.Arena.{State, module_tree}
use Rattle.py_placed.specs.declared.errors.Misread.{Misread}
use Rattle.py_placed.specs.declared.errors.Misread.TheVariants as misread
use Rattle.py_parser.specs.declared.errors.SyntaxError.{SyntaxError}
use Rattle.py_parser.specs.declared.errors.SyntaxError.TheVariants as error

abbrev pub GivesModule : Result State SyntaxError → Result Block Misfit → Type 0
GivesModule (Ok m) (Ok b) = module_tree m ≡ record { body = b }
GivesModule (Ok m) (Err f) = ⊥
GivesModule (Err (error.Line n)) r = r ≡ Err (no_line n)
GivesModule (Err (error.TooDeep n)) r = r ≡ Err (too_deep n)
GivesModule (Err (error.Block n)) r = r ≡ Err (misplaced n)
GivesModule (Err error.NoMemory) r = Unit {0}

-- the error of lines that are not read
abbrev pub misread_as : Misread → SyntaxError
misread_as (misread.NoLine n) = error.Line n
misread_as misread.NoMemory = error.NoMemory
