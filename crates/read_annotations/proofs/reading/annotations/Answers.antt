use Rattle.std.proofs.Common.{ap, ◌∙◌}
use Rattle.read_annotations.specs.Reading.{AreThere, shown_all, written}
use Rattle.read_annotations.proofs.Turns.{annotations_kept, made_more, written_kept}
use Rattle.read_annotations.proofs.reading.annotations.Goals as goal

pub loop-annotations-preserved : goal.loop-annotations-preserved
loop-annotations-preserved c =
    let first = c.args.module.now in
    let now = c.loop-annotations.module in
    let here = c.loop-annotations.invariant in
    let item = c.annotations-item.result in
    let there = c.requires c.loop-annotations.annotations-index item c.loop-annotations-test.true in
    let kept = written_kept first now here.grown c.types_count.ensures.«module» _ there in
    made_more (λ w. written first w.items) (λ m x. shown_all m x.items) (λ m x. AreThere m x.items) annotations_kept c.args.functions.now first now c.loop-annotations.made.items c.loop-annotations.annotations-index here
    c.read_all.new.module c.in_ok-next.next c.push.new.self.items item c.loop-annotations-test.true c.read_all.ensures.grown c.in_ok-next.ensures.there (c.in_ok-next.ensures.read ∙ ap (written now) (c.deref.ensures.value ∙ ap (λ v. v.items) c.annotations-item.is) ∙ kept.1) c.in_ok-push.ensures.items
