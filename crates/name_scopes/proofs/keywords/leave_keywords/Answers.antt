use Rattle.std.proofs.Common.{arith}
use Rattle.py_tree.specs.Arena.{shown}
use Rattle.name_scopes.proofs.Repeating.{argument_below, left_all, left_more, left_none, left_pass, no_argument}
use Rattle.name_scopes.proofs.keywords.leave_keywords.Goals as goal
use Rattle.name_scopes.proofs.keywords.leave_keywords.Goals.{in-Some, in_default}

pub loop-argument-init : goal.loop-argument-init
loop-argument-init c = left_none c.args.module.now.names (shown c.args.module.now) c.args.arguments.now c.args.seen.now c.requires.seen

pub set-requires : goal.set-requires
set-requires c =
    let there = rw c.in-Some.is at (argument_below _ _ c.args.arguments.now c.loop-argument.argument-index no_argument c.requires.arguments c.loop-argument-test.true) in
    rw c.loop-argument.invariant.size there

pub loop-argument-preserved : goal.loop-argument-preserved
loop-argument-preserved c =
    let m = c.args.module.now in
    elim c.match-argument.branch [
      | in-Some w ↦
          let there = rw w.in-Some.is at (argument_below _ _ c.args.arguments.now c.loop-argument.argument-index no_argument c.requires.arguments c.loop-argument-test.true) in
          rw (w.seen-is, w.set.ensures) (left_more m.names (shown m) c.args.arguments.now c.loop-argument.seen c.loop-argument.argument-index c.loop-argument.invariant no_argument c.loop-argument-test.true w.in-Some.name w.in-Some.is c.names_count.ensures.«module».distinct there)
      | in_default w ↦ rw w.seen-is (left_pass m.names (shown m) c.args.arguments.now c.loop-argument.seen c.loop-argument.argument-index c.loop-argument.invariant no_argument c.loop-argument-test.true w.in_default.not-Some)
    ]

pub returns : goal.returns
returns c = left_all c.args.module.now.names (shown c.args.module.now) c.args.arguments.now c.loop-argument.seen c.loop-argument.argument-index c.loop-argument.invariant (omega (arith, c.loop-argument-test.false))
