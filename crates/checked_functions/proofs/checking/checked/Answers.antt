use Rattle.checked_functions.proofs.Owners.{checked_more}
use Rattle.checked_functions.proofs.checking.checked.Goals as goal

pub loop-i-preserved : goal.loop-i-preserved
loop-i-preserved c = checked_more c.args.contracts.now c.args.functions.now c.loop-i.checked.items c.push.new.self.items c.loop-i.i _ c.is_checked.result c.loop-i.invariant c.loop-i-test.true (c.is_checked.ensures _ _ _ (c.in_ok-marks.ensures {u = tt})) (c.in_ok-push.ensures {u = tt}).items
