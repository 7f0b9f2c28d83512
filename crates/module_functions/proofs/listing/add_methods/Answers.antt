use Rattle.std.proofs.Common.{arith}
use Rattle.std.proofs.lemmas.Option.{slice_get-get_or}
use Rattle.module_functions.proofs.Found.{methods_more, methods_pass, stmt_below}
use Rattle.module_functions.proofs.listing.add_methods.Goals as goal
use Rattle.module_functions.proofs.listing.add_methods.Goals.{in-Def+in_ok-push, in_default}

pub stmt-requires : goal.stmt-requires
stmt-requires c = stmt_below _ c.args.body.now c.loop-s.s-index _ c.requires.statements (omega arith)

pub loop-s-preserved : goal.loop-s-preserved
loop-s-preserved c =
    let at = slice_get-get_or c.args.body.now c.loop-s.s-index _ c.loop-s-test.true in
    elim c.match-stmt.branch [
      | in-Def+in_ok-push w ↦ rw (w.into-is) (methods_more c.args.module.now c.args.body.now c.args.class _ _ c.loop-s.s-index c.loop-s.invariant _ w.in-Def.line w.in-Def.last w.in-Def.name w.in-Def.parameters w.in-Def.result w.in-Def.body _ at (stmt_below _ c.args.body.now c.loop-s.s-index _ c.requires.statements c.loop-s-test.true) (rw w.in-Def.is at c.stmt.ensures.tree) w.in_ok-push.ensures.items)
      | in_default w ↦ rw (w.into-is) (methods_pass c.args.module.now c.args.body.now c.args.class _ _ c.loop-s.s-index c.loop-s.invariant _ c.stmt.result.now at c.stmt.ensures.tree w.in_default.not-Def)
    ]
