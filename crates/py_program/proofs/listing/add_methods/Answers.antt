use Rattle.std.proofs.Common.{None}
use Rattle.std.proofs.lemmas.Option.{slice_get-get_or}
use Rattle.local_names.proofs.Measures.{stmt_there}
use Rattle.py_tree.specs.Exprs.{IsNameBelow}
use Rattle.py_program.proofs.There.{all_push}
use Rattle.py_program.proofs.Listed.{methods_more, methods_pass}
use Rattle.py_program.proofs.listing.add_methods.Goals as goal
use Rattle.py_program.proofs.listing.add_methods.Goals.{in-Def+in_ok-push, in_default}

pub stmt-requires : goal.stmt-requires
stmt-requires c = stmt_there _ c.args.body.now c.loop-s.s-index _ c.requires.body c.loop-s-test.true

pub loop-s-preserved : goal.loop-s-preserved
loop-s-preserved c =
    let m = c.args.module.now in
    let at = slice_get-get_or c.args.body.now c.loop-s.s-index _ c.loop-s-test.true in
    elim c.match-stmt.branch [
      | in-Def+in_ok-push w ↦ rw w.into-is (record {
        functions = methods_more m c.args.body.now _ c.loop-s.into.items c.loop-s.s-index c.loop-s.invariant.functions _ w.in-Def.line w.in-Def.last w.in-Def.name w.in-Def.parameters w.in-Def.result w.in-Def.body _ at (rw w.in-Def.is at c.stmt.ensures.tree) w.in_ok-push.ensures.items;
        there = rw w.in_ok-push.ensures.items (all_push (IsNameBelow _) c.loop-s.into.items None c.loop-s.invariant.there tt);
      })
      | in_default w ↦ rw w.into-is (record {
        functions = methods_pass m c.args.body.now _ c.loop-s.into.items c.loop-s.s-index c.loop-s.invariant.functions _ c.stmt.result.now at c.stmt.ensures.tree w.in_default.not-Def;
        there = c.loop-s.invariant.there;
      })
    ]
