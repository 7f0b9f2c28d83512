use Rattle.std.proofs.Common.{◌≡◌, [], drop}
use Rattle.spec_syntax.specs.Placement.{smallest}
use Rattle.py_outline.specs.Surroundings.{place_faults}
use Rattle.py_outline.specs.Told.{least}
use Rattle.py_outline.proofs.surroundings.place_fault.Given as goal

abbrev pub invariant-loop-outline : goal.invariant-loop-outline
invariant-loop-outline l = least l.told (smallest (place_faults l.blocks (drop l.outline-index l.outlines))) ≡ smallest (place_faults [] l.outlines)
