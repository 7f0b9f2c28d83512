use Rattle.py_tree.specs.Arena.{shown_type}
use Rattle.py_tree.specs.Types.{optional_type}
use Rattle.read_annotations.specs.Reading.{IsThere, read, shown_in}
use Rattle.read_annotations.proofs.Turns.{MadeTo, annotation_kept}
use Rattle.read_annotations.proofs.reading.read_all.Given as goal

abbrev pub invariant-loop-annotation : goal.invariant-loop-annotation
invariant-loop-annotation l = MadeTo (λ o. read (optional_type (shown_type l.fn.module) o)) shown_in IsThere annotation_kept l.annotations l.fn.module l.module l.made.items l.annotation-index
