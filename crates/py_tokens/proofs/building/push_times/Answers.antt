use Rattle.std.proofs.Common.{arith, ◌∙◌, ◌≡◌, ◌-◌, ◌+◌, suc}
use Rattle.py_tokens.proofs.Appending.{times_turn}
use Rattle.py_tokens.proofs.building.push_times.Goals as goal

pub loop-preserved : goal.loop-preserved
loop-preserved c =
    let left : c.args.count - c.loop.counter ≡ suc (c.args.count - (c.loop.counter + 1)) = omega arith in
    times_turn _ _ _ _ _ left c.in_ok-push.ensures.items ∙ c.loop.invariant
