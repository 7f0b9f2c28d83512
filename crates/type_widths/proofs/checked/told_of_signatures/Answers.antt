use Rattle.std.proofs.Common.{List}
use Rattle.spec_names.specs.declared.Refusal.{Refusal}
use Rattle.spec_types.specs.Widths.{too_wide}
use Rattle.given_types.specs.declared.Signature.{Signature}
use Rattle.given_types.specs.Giving.{signature_in}
use Rattle.told_refusals.proofs.Telling.{flat_map_map, told_all, told_more}
use Rattle.type_widths.proofs.checked.told_of_signatures.Goals as goal

pub loop-signature-preserved : goal.loop-signature-preserved
loop-signature-preserved c = λ of_class a.
    let refusals : Signature → List Refusal = λ s. too_wide c.args.max_len of_class (signature_in c.args.module.now s) in
    told_more refusals c.args.signatures.now c.args.told c.loop-signature.told c.loop-signature.signature-index (c.loop-signature.invariant of_class a) c.told_if-told.result _ c.loop-signature-test.true
    (rw (c.is_too_wide-is_refused.ensures of_class a, c.signature-item.is) at c.told_if-told.ensures)

pub returns : goal.returns
returns c = λ of_class a.
    let refusals : Signature → List Refusal = λ s. too_wide c.args.max_len of_class (signature_in c.args.module.now s) in
    rw (flat_map_map (too_wide c.args.max_len of_class) (signature_in c.args.module.now) c.args.signatures.now) at (told_all refusals c.args.signatures.now c.args.told c.loop-signature.told c.loop-signature.signature-index (c.loop-signature.invariant of_class a) c.loop-signature-test.false)
