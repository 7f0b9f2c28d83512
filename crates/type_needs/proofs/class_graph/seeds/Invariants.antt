use Rattle.std.proofs.Common.{◌≡◌, take}
use Rattle.std.specs.List.{flat_map}
use Rattle.spec_types.specs.Needs.{named_by}
use Rattle.given_types.specs.declared.Signature.{Signature}
use Rattle.given_types.specs.Giving.{signature_in}
use Rattle.type_needs.proofs.class_graph.seeds.Given as goal

-- the classes that the functions so far name
abbrev pub invariant-loop-signature : goal.invariant-loop-signature
invariant-loop-signature l = l.found.items ≡ flat_map (λ (s : Signature). named_by (signature_in l.module s)) (take l.signature-index l.signatures)
