use Rattle.std.proofs.Common.{arith, ◌≡◌, ◌∙◌, length}
use Rattle.py_parser.proofs.Modules.{next_below, next_pushed, all_pushed}
use Rattle.py_parser.proofs.tops.push_tops.Goals as goal

pub push_top-requires : goal.push_top-requires
push_top-requires c = (next_below _ c.args.statements.now c.loop-statement.statement-index _ c.loop-statement-test.true c.loop-statement.invariant.below).0

pub loop-statement-preserved : goal.loop-statement-preserved
loop-statement-preserved c = record {
  below = rw c.in_ok-push_top.ensures.added (next_below _ c.args.statements.now c.loop-statement.statement-index (record { index = 0 }) c.loop-statement-test.true c.loop-statement.invariant.below).1;
  pushed = next_pushed _ _ c.args.statements.now c.loop-statement.statement-index _ c.loop-statement-test.true c.in_ok-push_top.ensures.added ∙ c.loop-statement.invariant.pushed;
}

pub returns : goal.returns
returns c =
    let last : c.loop-statement.statement-index ≡ length c.args.statements.now = omega (arith, c.loop-statement-test.false, c.loop-statement.auto.statement-index-end) in
    all_pushed _ _ _ _ last c.loop-statement.invariant.pushed
