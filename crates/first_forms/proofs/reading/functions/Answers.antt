use Rattle.std.proofs.Common.{◌<◌, arith, sym, ◌∙◌}
use Rattle.std.proofs.lemmas.Result.{err_from_is_err_and}
use Rattle.py_tree.proofs.StmtNodes.{stmts_more}
use Rattle.first_forms.proofs.Grouping.{group_shown, group_there}
use Rattle.first_forms.proofs.Listing.{read_none, read_all, read_past, read_other, read_error, read_more}
use Rattle.first_forms.proofs.reading.functions.Goals as goal
use Rattle.first_forms.proofs.reading.functions.Goals.{in-Def+in_ok-add_function-in-Def, in_default+else-not-is_passed_over}

pub loop-i-init : goal.loop-i-init
loop-i-init c = read_none c.args.module.now c.args.contracts.now c.new-functions.result c.new-functions.ensures.functions

pub index-requires : goal.index-requires
index-requires c = omega (arith, (c.in_ok-groups.ensures {u = tt}).size)

pub add_function-requires-clause-definition : goal.add_function-requires-clause-definition
add_function-requires-clause-definition c =
    let parts = rw c.in-Def.is at c.stmt.ensures.parts in
    record { name = parts.0; parameters = rw c.deref.ensures.value parts.1; body = rw c.deref-in-Def.ensures.value (stmts_more _ _ (omega arith) c.in-Def.body.items parts.3) }

pub add_function-requires-clause-lines : goal.add_function-requires-clause-lines
add_function-requires-clause-lines c = group_there c.args.module.now c.loop-i.number _ c.args.contracts.now c.in_ok-groups.groups.items c.index.result.now c.deref-in-Def-2.result.now (c.in_ok-groups.ensures {u = tt}) (omega arith) c.index.ensures c.deref-in-Def-2.ensures.value c.requires

pub returns-in_err-add_function-in-Def : goal.returns-in_err-add_function-in-Def
returns-in_err-add_function-in-Def c =
    let p = err_from_is_err_and c.from_residual-in_err-add_function-in-Def.result c.from_residual-in_err-add_function-in-Def.ensures.1 in
    let lt : c.loop-i.number < c.top.result = omega arith in
    let found = group_shown c.args.module.now c.loop-i.number _ c.args.contracts.now c.in_ok-groups.groups.items c.index.result.now c.deref-in-Def-2.result.now (c.in_ok-groups.ensures {u = tt}) lt c.index.ensures c.deref-in-Def-2.ensures.value in
    rw (p.1, p.2) (read_error c.args.module.now c.args.contracts.now c.loop-i.functions c.loop-i.number c.loop-i.i c.loop-i.invariant c.top_stmt-statement.result c.top_stmt-statement.ensures.statement c.in-Def.line c.in-Def.last c.in-Def.name c.in-Def.parameters c.in-Def.result c.in-Def.body (rw c.in-Def.is at c.stmt.ensures.tree) c.deref.result c.deref-in-Def.result c.deref.ensures.value c.deref-in-Def.ensures.value c.deref-in-Def-2.result.now found c.loop-i.functions c.add_function.new.into _ c.in_err-add_function-in-Def.ensures.added)

pub overflow_add-number : goal.overflow_add-number
overflow_add-number c = omega arith

pub returns-then-not-is_passed_over : goal.returns-then-not-is_passed_over
returns-then-not-is_passed_over c = read_other c.args.module.now c.args.contracts.now c.loop-i.functions c.loop-i.number c.loop-i.i c.loop-i.invariant c.top_stmt-statement.result c.top_stmt-statement.ensures.statement c.stmt.result.now c.stmt.ensures.tree c.in_default.not-Def _ c.line_of.ensures (sym c.is_passed_over.ensures ∙ c.if-not-is_passed_over.true)

pub loop-i-preserved : goal.loop-i-preserved
loop-i-preserved c = elim c.match-stmt.branch [
  | in-Def+in_ok-add_function-in-Def w ↦
      let lt : c.loop-i.number < c.top.result = omega arith in
      let found = group_shown c.args.module.now c.loop-i.number _ c.args.contracts.now c.in_ok-groups.groups.items w.index.result.now w.deref-in-Def-2.result.now (c.in_ok-groups.ensures {u = tt}) lt w.index.ensures w.deref-in-Def-2.ensures.value in
      rw (w.functions-is, w.number-is) (read_more c.args.module.now c.args.contracts.now c.loop-i.functions c.loop-i.number c.loop-i.i c.loop-i.invariant c.top_stmt-statement.result c.top_stmt-statement.ensures.statement w.in-Def.line w.in-Def.last w.in-Def.name w.in-Def.parameters w.in-Def.result w.in-Def.body (rw w.in-Def.is at c.stmt.ensures.tree) w.deref.result w.deref-in-Def.result w.deref.ensures.value w.deref-in-Def.ensures.value w.deref-in-Def-2.result.now found w.add_function.new.into tt w.in_ok-add_function-in-Def.ensures.grown w.in_ok-add_function-in-Def.ensures.added)
  | in_default+else-not-is_passed_over w ↦ rw (w.functions-is, w.number-is) (read_past c.args.module.now c.args.contracts.now c.loop-i.functions c.loop-i.number c.loop-i.i c.loop-i.invariant c.top_stmt-statement.result c.top_stmt-statement.ensures.statement c.stmt.result.now c.stmt.ensures.tree w.in_default.not-Def (sym w.is_passed_over.ensures ∙ w.if-not-is_passed_over.false))
]

pub returns : goal.returns
returns c = read_all c.args.module.now c.args.contracts.now c.loop-i.functions c.loop-i.number c.loop-i.i c.loop-i.invariant (omega arith)
