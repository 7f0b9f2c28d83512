use Rattle.spec_types.specs.Needs.{signature_refusals}
use Rattle.py_tree.specs.Arena.{State}
use Rattle.told_refusals.proofs.Telling.{ToldTo}
use Rattle.given_types.specs.declared.Signature.{Signature}
use Rattle.given_types.specs.Giving.{signature_in}
use Rattle.type_needs.specs.Marked.{HaveGiven, marked}
use Rattle.type_needs.proofs.untyped.told_of_signatures.Given as goal

abbrev pub invariant-loop-signature : goal.invariant-loop-signature
invariant-loop-signature l = (m : State) → HaveGiven m l.signatures → ToldTo (λ (s : Signature). signature_refusals (marked l.marks) (signature_in m s)) l.signatures l.fn.told l.told l.signature-index
