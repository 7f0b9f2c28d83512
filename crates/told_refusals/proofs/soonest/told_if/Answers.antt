use Rattle.std.proofs.Common.{◌∙◌}
use Rattle.told_refusals.proofs.Telling.{tells_none, tells_one}
use Rattle.told_refusals.proofs.soonest.told_if.Goals as goal

pub returns-then-is_refused : goal.returns-then-is_refused
returns-then-is_refused c = rw c.if-is_refused.true (λ rs e. c.sooner.ensures ∙ tells_one c.args.told _ rs e)

pub returns-else-is_refused : goal.returns-else-is_refused
returns-else-is_refused c = rw c.if-is_refused.false (tells_none c.args.told)
