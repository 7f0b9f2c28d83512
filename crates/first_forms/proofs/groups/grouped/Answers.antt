use Rattle.std.proofs.Common.{◌∙◌, sym}
use Rattle.first_forms.proofs.Grouping.{lines_more, none_there}
use Rattle.first_forms.proofs.groups.grouped.Goals as goal
use Rattle.first_forms.proofs.groups.grouped.Goals.{in-Some+in_ok-add_line, in_default}

pub loop-i-preserved : goal.loop-i-preserved
loop-i-preserved c = elim c.match-get.branch [
  | in-Some+in_ok-add_line w ↦ rw (lines_more c.args.contracts.now c.loop-i.i w.in-Some.line (sym c.get.ensures ∙ w.in-Some.is), w.groups-is) (w.in_ok-add_line.ensures {u = tt} _ _ c.loop-i.invariant)
  | in_default w ↦ absurd (none_there c.args.contracts.now c.loop-i.i (rw (← c.lines-i-end.ensures) c.loop-i-test.true) (sym c.get.ensures ∙ w.in_default.is))
]
