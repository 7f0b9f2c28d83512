-- What it means that lines are read, each in its place.
use Rattle.std.specs.Prelude.{◌≡◌, ℕ, List, [], ◌∷◌, Result, Ok, Err}
use Rattle.std.specs.Global.{Vec}
use Rattle.spec_grammar.specs.Blocks.{PlacedLine}
use Rattle.spec_syntax.specs.Placement.{number_of}
use Rattle.py_tree.specs.Arena.{State}
use Rattle.py_lines.specs.Headers.{IsLine}
use Rattle.py_placed.specs.declared.placed.PlacedLine as placed
use Rattle.py_placed.specs.declared.errors.Misread.{Misread}
use Rattle.py_placed.specs.declared.errors.Misread.TheVariants as error

-- A line that was read stands for a line in its place.
abbrev pub IsPlaced : State → placed.PlacedLine → PlacedLine → Type 0
IsPlaced m x p = (x.depth ≡ p.depth) × (x.first ≡ number_of p.line) × IsLine m x.node p.line

-- Lines that were read stand for as many lines, each for its own.
abbrev pub ArePlaced : State → List placed.PlacedLine → List PlacedLine → Type 0
ArePlaced m [] [] = Unit {0}
ArePlaced m (x ∷ xs) (p ∷ ps) = IsPlaced m x p × ArePlaced m xs ps
ArePlaced m _ _ = ⊥

-- The answers of reading lines, beside the lines that the definition reads, or the number of the first one that is none.
abbrev pub GivesLines : State → Result (Vec placed.PlacedLine) Misread → Result (List PlacedLine) ℕ → Type 0
GivesLines m (Ok xs) (Ok ps) = ArePlaced m xs.items ps
GivesLines m (Ok xs) (Err n) = ⊥
GivesLines m (Err (error.NoLine n)) r = r ≡ Err n
GivesLines m (Err error.NoMemory) r = Unit {0}
