use Rattle.std.proofs.Common.{◌∙◌, ap, arith, sym}
use Rattle.std.proofs.lemmas.Simd.{map-map}
use Rattle.spec_types.specs.Classes.{constructor_of}
use Rattle.module_classes.specs.Sorted.{class_in}
use Rattle.read_annotations.specs.Reading.{AreWritten, written}
use Rattle.signatures.specs.Written.{annotations}
use Rattle.signatures.proofs.Mapping.{made_all, made_more}
use Rattle.signatures.proofs.Parameters.{are_written, class_there, written_are}
use Rattle.signatures.proofs.writing.written_by_constructors.Goals as goal

pub constructor-requires : goal.constructor-requires
constructor-requires c = class_there c.args.module.now c.args.classes.now c.loop-class.class-index _ c.requires c.loop-class-test.true

pub loop-class-preserved : goal.loop-class-preserved
loop-class-preserved c =
    let m = c.args.module.now in
    let list = c.in_ok-annotations.field-0 in
    let same = c.in_ok-annotations.ensures {u = tt} in
    made_more (λ d. annotations (constructor_of (class_in m d).body)) (λ w. written m w.items) (λ w. AreWritten m w.items) c.args.classes.now c.loop-class.lists.items c.loop-class.class-index c.loop-class.invariant
    c.push.new.self.items list _ c.loop-class-test.true
    (rw same (are_written m c.constructor.result.now c.constructor.ensures.there))
    (ap (written m) same ∙ written_are m c.constructor.result.now ∙ ap annotations c.constructor.ensures.parameters)
    (c.in_ok-push.ensures {u = tt}).items

pub returns-clause-written : goal.returns-clause-written
returns-clause-written c =
    let m = c.args.module.now in
    made_all (λ d. annotations (constructor_of (class_in m d).body)) (λ w. written m w.items) (λ w. AreWritten m w.items) c.args.classes.now c.loop-class.lists.items c.loop-class.class-index c.loop-class.invariant (omega (arith, c.loop-class-test.false))
    ∙ sym (map-map (λ d. annotations (constructor_of d.body)) (class_in m) c.args.classes.now)
