use Rattle.first_forms.proofs.Grouping.{groups_more}
use Rattle.first_forms.proofs.groups.no_lines.Goals as goal

pub loop-preserved : goal.loop-preserved
loop-preserved c = groups_more c.loop.counter c.loop.groups.items c.push.new.self.items c.new.result c.loop.invariant c.new.ensures.items (c.in_ok-push.ensures {u = tt}).items
