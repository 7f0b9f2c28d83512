use Rattle.read_annotations.specs.Reading.{AreThere, shown_all, written}
use Rattle.read_annotations.proofs.Turns.{MadeTo, annotations_kept}
use Rattle.read_annotations.proofs.reading.annotations.Given as goal

abbrev pub invariant-loop-annotations : goal.invariant-loop-annotations
invariant-loop-annotations l = MadeTo (λ w. written l.fn.module w.items) (λ m x. shown_all m x.items) (λ m x. AreThere m x.items) annotations_kept l.functions l.fn.module l.module l.made.items l.annotations-index
