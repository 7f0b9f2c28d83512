use Rattle.std.proofs.Common.{◌∙◌, ap, arith, sym}
use Rattle.std.proofs.lemmas.Simd.{map-map}
use Rattle.spec_types.specs.Signatures.{typed}
use Rattle.module_functions.specs.Listed.{function_in}
use Rattle.read_annotations.specs.Reading.{AreWritten, written}
use Rattle.signatures.specs.Written.{annotations}
use Rattle.signatures.proofs.Mapping.{made_all, made_more}
use Rattle.signatures.proofs.Parameters.{are_written, function_there, written_are}
use Rattle.signatures.proofs.writing.written.Goals as goal

pub typed-requires : goal.typed-requires
typed-requires c = function_there c.args.module.now c.args.functions.now c.loop-function.function-index _ c.requires c.loop-function-test.true

pub loop-function-preserved : goal.loop-function-preserved
loop-function-preserved c =
    let m = c.args.module.now in
    let list = c.in_ok-annotations.field-0 in
    let same = c.in_ok-annotations.ensures {u = tt} in
    made_more (λ f. annotations (typed (function_in m f))) (λ w. written m w.items) (λ w. AreWritten m w.items) c.args.functions.now c.loop-function.lists.items c.loop-function.function-index c.loop-function.invariant
    c.push.new.self.items list _ c.loop-function-test.true
    (rw same (are_written m c.typed.result.now c.typed.ensures.there))
    (ap (written m) same ∙ written_are m c.typed.result.now ∙ ap annotations c.typed.ensures.parameters)
    (c.in_ok-push.ensures {u = tt}).items

pub returns-clause-written : goal.returns-clause-written
returns-clause-written c =
    let m = c.args.module.now in
    made_all (λ f. annotations (typed (function_in m f))) (λ w. written m w.items) (λ w. AreWritten m w.items) c.args.functions.now c.loop-function.lists.items c.loop-function.function-index c.loop-function.invariant (omega (arith, c.loop-function-test.false))
    ∙ sym (map-map (λ f. annotations (typed f)) (function_in m) c.args.functions.now)
