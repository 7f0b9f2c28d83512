use Rattle.std.proofs.Common.{None, ap, ◌∙◌}
use Rattle.py_tree.specs.Arena.{shown_type}
use Rattle.py_tree.specs.Types.{optional_type}
use Rattle.read_annotations.specs.Reading.{IsThere, read, shown_in}
use Rattle.read_annotations.proofs.Turns.{annotation_kept, made_more, type_kept}
use Rattle.read_annotations.proofs.reading.read_all.Goals as goal

pub loop-annotation-preserved : goal.loop-annotation-preserved
loop-annotation-preserved c =
    let first = c.args.module.now in
    let now = c.loop-annotation.module in
    let here = c.loop-annotation.invariant in
    let there = c.requires c.loop-annotation.annotation-index None c.loop-annotation-test.true in
    let kept = type_kept first now here.grown c.types_count.ensures.«module» _ there in
    made_more (λ o. read (optional_type (shown_type first) o)) shown_in IsThere annotation_kept c.args.annotations.now first now c.loop-annotation.made.items c.loop-annotation.annotation-index here
    c.read.new.module c.in_ok-next.next c.push.new.self.items None c.loop-annotation-test.true c.read.ensures.grown c.in_ok-next.ensures.there (c.in_ok-next.ensures.read ∙ ap read kept.1) c.in_ok-push.ensures.items
