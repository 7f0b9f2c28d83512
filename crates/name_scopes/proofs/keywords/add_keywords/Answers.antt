use Rattle.std.proofs.Common.{◌≡◌, ◌||◌, arith, ◌∙◌}
use Rattle.py_tree.specs.Arena.{shown}
use Rattle.name_scopes.proofs.Repeating.{added_all, argument_below, no_argument, repeated_all, repeated_more, repeated_none}
use Rattle.name_scopes.proofs.keywords.add_keywords.Goals as goal
use Rattle.name_scopes.proofs.keywords.add_keywords.Goals.{then-is_repeated, else-is_repeated}

pub loop-argument-init : goal.loop-argument-init
loop-argument-init c = repeated_none c.args.module.now.names (shown c.args.module.now) c.args.arguments.now c.args.seen.now c.requires.size

pub add_keyword-was_there-requires-clause-name : goal.add_keyword-was_there-requires-clause-name
add_keyword-was_there-requires-clause-name c = argument_below _ _ c.args.arguments.now c.loop-argument.argument-index no_argument c.requires.arguments c.loop-argument-test.true

pub add_keyword-was_there-requires-clause-size : goal.add_keyword-was_there-requires-clause-size
add_keyword-was_there-requires-clause-size c = c.loop-argument.invariant.adds.size

pub loop-argument-preserved : goal.loop-argument-preserved
loop-argument-preserved c =
    let told : c.if-is_repeated.is_repeated ≡ (c.loop-argument.is_repeated || c.add_keyword-was_there.result) = elim c.if-is_repeated.branch [
      | then-is_repeated w ↦ rw w.if-is_repeated.true (w.is_repeated-is ∙ w.if-is_repeated.true)
      | else-is_repeated w ↦ rw w.if-is_repeated.false w.is_repeated-is
    ] in
    repeated_more c.args.module.now.names (shown c.args.module.now) c.args.arguments.now c.args.seen.now c.loop-argument.seen c.loop-argument.is_repeated c.loop-argument.argument-index c.loop-argument.invariant
    c.add_keyword-was_there.new.seen c.add_keyword-was_there.result c.if-is_repeated.is_repeated no_argument c.loop-argument-test.true c.add_keyword-was_there.ensures.added c.add_keyword-was_there.ensures.repeated told

pub returns-clause-added : goal.returns-clause-added
returns-clause-added c = added_all c.args.module.now.names (shown c.args.module.now) c.args.arguments.now c.args.seen.now c.loop-argument.seen c.loop-argument.is_repeated c.loop-argument.argument-index c.loop-argument.invariant (omega (arith, c.loop-argument-test.false))

pub returns-clause-repeated : goal.returns-clause-repeated
returns-clause-repeated c = repeated_all c.args.module.now.names (shown c.args.module.now) c.args.arguments.now c.args.seen.now c.loop-argument.seen c.loop-argument.is_repeated c.loop-argument.argument-index c.loop-argument.invariant (omega (arith, c.loop-argument-test.false))
