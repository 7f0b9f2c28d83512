use Rattle.py_tree.specs.Arena.{module_tree}
use Rattle.given_types.specs.Giving.{IsGiven, given_in}
use Rattle.read_annotations.specs.Reading.{shown_in}
use Rattle.signatures.specs.Written.{given_from}
use Rattle.signatures.proofs.Mapping.{MadeTo}
use Rattle.signatures.proofs.giving.given_types.Given as goal

abbrev pub invariant-loop-annotation : goal.invariant-loop-annotation
invariant-loop-annotation l = MadeTo (λ o. given_from (module_tree l.module).body (shown_in l.module o)) (given_in l.module) (IsGiven l.module) l.annotations l.types.items l.annotation-index
