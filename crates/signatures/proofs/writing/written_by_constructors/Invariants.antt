use Rattle.spec_types.specs.Classes.{constructor_of}
use Rattle.module_classes.specs.Sorted.{class_in}
use Rattle.read_annotations.specs.Reading.{AreWritten, written}
use Rattle.signatures.specs.Written.{annotations}
use Rattle.signatures.proofs.Mapping.{MadeTo}
use Rattle.signatures.proofs.writing.written_by_constructors.Given as goal

abbrev pub invariant-loop-class : goal.invariant-loop-class
invariant-loop-class l = MadeTo (λ c. annotations (constructor_of (class_in l.module c).body)) (λ w. written l.module w.items) (λ w. AreWritten l.module w.items) l.classes l.lists.items l.class-index
