use Rattle.std.proofs.Common.{◌∙◌, sym}
use Rattle.std.proofs.lemmas.Option.{slice_get-get_or}
use Rattle.module_members.proofs.Spelling.{next_part, other_part}
use Rattle.module_members.proofs.main_test.are_spelled.Goals as goal

pub returns-in_default : goal.returns-in_default
returns-in_default c =
    let at = slice_get-get_or c.args.parts.now c.loop-part.part-index _ c.loop-part-test.true in
    sym (sym c.loop-part.invariant ∙ other_part c.args.parts.now c.loop-part.part-index _ c.loop-part.rest.now at (rw (c.as_slice.ensures, c.part-item.is) at c.in_default.ensures.cases))

pub loop-part-preserved : goal.loop-part-preserved
loop-part-preserved c =
    let at = slice_get-get_or c.args.parts.now c.loop-part.part-index _ c.loop-part-test.true in
    let cut = rw (c.as_slice.ensures, c.part-item.is) at c.in-Some.ensures.cases in
    rw (cut.1) (sym (next_part c.args.parts.now c.loop-part.part-index _ c.loop-part.rest.now at cut.0) ∙ c.loop-part.invariant)
