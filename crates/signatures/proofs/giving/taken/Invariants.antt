use Rattle.std.proofs.Common.{map}
use Rattle.std.specs.List.{All}
use Rattle.py_tree.specs.Arena.{module_tree}
use Rattle.given_types.specs.Giving.{IsGiven, given_in}
use Rattle.read_annotations.specs.Reading.{shown_all}
use Rattle.signatures.specs.Written.{given_from}
use Rattle.signatures.proofs.Mapping.{MadeTo}
use Rattle.signatures.proofs.giving.taken.Given as goal

abbrev pub invariant-loop-list : goal.invariant-loop-list
invariant-loop-list l = MadeTo (λ w. map (given_from (module_tree l.module).body) (shown_all l.module w.items)) (λ v. map (given_in l.module) v.items) (λ v. All (IsGiven l.module) v.items) l.annotations l.lists.items l.list-index
