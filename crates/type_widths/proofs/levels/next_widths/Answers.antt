use Rattle.std.proofs.Common.{◌∙◌, ap, length}
use Rattle.spec_types.specs.Widths.{class_width}
use Rattle.given_types.specs.Giving.{all_given}
use Rattle.type_widths.proofs.Classes.{length_push, level_more}
use Rattle.type_widths.proofs.levels.next_widths.Goals as goal

pub loop-types-preserved : goal.loop-types-preserved
loop-types-preserved c =
    let items = (c.in_ok-push.ensures {u = tt}).items in (
      ap length items ∙ length_push _ _ _ c.loop-types.invariant.0,
      λ n a. rw items (level_more c.args.module.now c.args.taken.now c.args.max_len c.loop-types.widths.items c.constructed_width.result n c.loop-types.types-index _ c.loop-types.invariant.0 c.loop-types-test.true (c.loop-types.invariant.1 n a)
          (rw (c.deref.ensures.value, c.types-item.is) at c.constructed_width.ensures (class_width (all_given c.args.module.now c.args.taken.now) c.args.max_len n) a)),
    )
