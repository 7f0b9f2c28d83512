use Rattle.spec_types.specs.Signatures.{typed}
use Rattle.module_functions.specs.Listed.{function_in}
use Rattle.read_annotations.specs.Reading.{AreWritten, written}
use Rattle.signatures.specs.Written.{annotations}
use Rattle.signatures.proofs.Mapping.{MadeTo}
use Rattle.signatures.proofs.writing.written.Given as goal

abbrev pub invariant-loop-function : goal.invariant-loop-function
invariant-loop-function l = MadeTo (λ f. annotations (typed (function_in l.module f))) (λ w. written l.module w.items) (λ w. AreWritten l.module w.items) l.functions l.lists.items l.function-index
