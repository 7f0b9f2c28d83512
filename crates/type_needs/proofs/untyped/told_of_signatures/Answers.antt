use Rattle.std.proofs.Common.{List, arith, subst}
use Rattle.std.specs.List.{All}
use Rattle.spec_names.specs.declared.Refusal.{Refusal}
use Rattle.spec_types.specs.Needs.{signature_refusals}
use Rattle.told_refusals.specs.Telling.{Tells}
use Rattle.told_refusals.proofs.Telling.{flat_map_map, told_all}
use Rattle.given_types.specs.declared.Signature.{Signature}
use Rattle.given_types.specs.Giving.{IsGiven, signature_in}
use Rattle.type_needs.specs.Marked.{marked}
use Rattle.type_needs.proofs.Walking.{told_turn}
use Rattle.type_needs.proofs.untyped.told_of_signatures.Goals as goal

pub loop-signature-preserved : goal.loop-signature-preserved
loop-signature-preserved c = λ m h. told_turn (λ (s : Signature). All (IsGiven m) s.types.items) (λ (s : Signature). signature_refusals (marked c.args.marks.now) (signature_in m s)) c.args.signatures.now c.args.told c.loop-signature.told c.loop-signature.signature-index h (c.loop-signature.invariant m h) c.signature-item.result _ c.loop-signature-test.true c.signature-item.is c.told_of_signature-told.result (c.told_of_signature-told.ensures m)

pub returns : goal.returns
returns c = λ m h. subst (λ (rs : List Refusal). Tells c.args.told c.loop-signature.told rs) (flat_map_map (signature_refusals (marked c.args.marks.now)) (signature_in m) c.args.signatures.now)
    (told_all (λ (s : Signature). signature_refusals (marked c.args.marks.now) (signature_in m s)) c.args.signatures.now c.args.told c.loop-signature.told c.loop-signature.signature-index (c.loop-signature.invariant m h) (omega (arith, c.loop-signature-test.false)))
