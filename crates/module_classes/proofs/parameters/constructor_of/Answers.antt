use Rattle.std.proofs.Common.{◌∙◌, [], arith, ap, sym}
use Rattle.std.proofs.lemmas.Option.{get_or_from_slice_get, slice_get-get_or}
use Rattle.spec_names.specs.Names.{is_init}
use Rattle.module_classes.proofs.Found.{constructor_behind, constructor_here, constructor_passed, stmt_below}
use Rattle.module_classes.proofs.parameters.constructor_of.Goals as goal
use Rattle.module_classes.proofs.parameters.constructor_of.Goals.{in-Def+else-eq, in_default}

pub stmt-requires : goal.stmt-requires
stmt-requires c = stmt_below _ c.args.body.now c.loop-s.s-index _ c.requires (omega arith)

pub returns-then-eq-clause-parameters : goal.returns-then-eq-clause-parameters
returns-then-eq-clause-parameters c =
    let m = c.args.module.now in
    let at = slice_get-get_or c.args.body.now c.loop-s.s-index _ c.loop-s-test.true in
    let text = get_or_from_slice_get m.names c.in-Def.name.index c.name_text.result.now [] c.name_text.ensures.text in
    c.behind_self.ensures.parameters
    ∙ rw c.deref.ensures.value (constructor_here m c.args.body.now c.loop-s.s-index c.loop-s.invariant _ at c.in-Def.line c.in-Def.last c.in-Def.name c.in-Def.parameters c.in-Def.result c.in-Def.body (rw c.in-Def.is at c.stmt.ensures.tree) (ap is_init text ∙ sym c.eq.ensures ∙ c.if-eq.true))

pub loop-s-preserved : goal.loop-s-preserved
loop-s-preserved c =
    let m = c.args.module.now in
    let at = slice_get-get_or c.args.body.now c.loop-s.s-index _ c.loop-s-test.true in
    elim c.match-stmt.branch [
      | in-Def+else-eq w ↦
          let text = get_or_from_slice_get m.names w.in-Def.name.index w.name_text.result.now [] w.name_text.ensures.text in
          constructor_behind m c.args.body.now c.loop-s.s-index c.loop-s.invariant _ at w.in-Def.line w.in-Def.last w.in-Def.name w.in-Def.parameters w.in-Def.result w.in-Def.body (rw w.in-Def.is at c.stmt.ensures.tree) (ap is_init text ∙ sym w.eq.ensures ∙ w.if-eq.false)
      | in_default w ↦ constructor_passed m c.args.body.now c.loop-s.s-index c.loop-s.invariant _ at c.stmt.result.now c.stmt.ensures.tree w.in_default.not-Def
    ]
