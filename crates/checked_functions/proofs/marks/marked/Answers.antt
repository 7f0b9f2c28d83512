use Rattle.std.proofs.Common.{◌∙◌, sym}
use Rattle.checked_functions.proofs.Owners.{owners_more, some_there}
use Rattle.checked_functions.proofs.marks.marked.Goals as goal
use Rattle.checked_functions.proofs.marks.marked.Goals.{in-Some, in_default}

pub loop-i-preserved : goal.loop-i-preserved
loop-i-preserved c = elim c.match-get.branch [
  | in-Some w ↦
      let more = owners_more c.args.contracts.now c.loop-i.i w.in-Some.line (sym c.get.ensures ∙ w.in-Some.is) in
      rw (more, w.marks-is) (w.add.ensures _ _ _ c.loop-i.invariant)
  | in_default w ↦ absurd (some_there c.args.contracts.now c.loop-i.i (rw (← c.lines-i-end.ensures) c.loop-i-test.true) (λ l e. w.in_default.not-Some l (c.get.ensures ∙ e)))
]
