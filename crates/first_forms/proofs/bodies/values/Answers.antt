use Rattle.std.proofs.Common.{◌∙◌, sym}
use Rattle.py_tree.specs.declared.ids.StmtId.{StmtId}
use Rattle.py_tree.specs.Arena.{shown_stmt}
use Rattle.first_tree.proofs.Arenas.{extends_then}
use Rattle.first_promises.specs.Scopes.{parameter_names}
use Rattle.first_forms.proofs.Values.{stmt_below, values_none, values_dropped, values_more, values_error, values_all}
use Rattle.first_forms.proofs.bodies.values.Goals as goal

abbrev no_statement : StmtId
no_statement = record { index = 0 }

pub loop-s-init : goal.loop-s-init
loop-s-init c = values_none (shown_stmt c.args.module.now) (parameter_names c.args.module.now c.args.parameters.now) c.args.body.now c.args.into.now c.new-values.result.items c.new-values.ensures.items

pub is_dropped-requires : goal.is_dropped-requires
is_dropped-requires c = stmt_below _ c.args.body.now c.loop-s.s-index no_statement c.requires.body c.loop-s-test.true

pub value-requires-clause-statement : goal.value-requires-clause-statement
value-requires-clause-statement c = stmt_below _ c.args.body.now c.loop-s.s-index no_statement c.requires.body c.loop-s-test.true

pub line_of-requires : goal.line_of-requires
line_of-requires c = stmt_below _ c.args.body.now c.loop-s.s-index no_statement c.requires.body c.loop-s-test.true

pub loop-s-preserved-then-is_dropped : goal.loop-s-preserved-then-is_dropped
loop-s-preserved-then-is_dropped c = values_dropped (shown_stmt c.args.module.now) (parameter_names c.args.module.now c.args.parameters.now) c.args.body.now c.args.into.now c.loop-s.into c.loop-s.values.items c.loop-s.s-index no_statement c.loop-s.invariant c.loop-s-test.true (sym c.is_dropped.ensures ∙ c.if-is_dropped.true)

pub returns-in_err-add-in-Ok-clause-grown : goal.returns-in_err-add-in-Ok-clause-grown
returns-in_err-add-in-Ok-clause-grown c = extends_then _ _ _ c.loop-s.invariant.grown c.in-Ok.ensures.grown

pub returns-in_err-add-in-Ok-clause-functions : goal.returns-in_err-add-in-Ok-clause-functions
returns-in_err-add-in-Ok-clause-functions c = c.in-Ok.ensures.functions ∙ c.loop-s.invariant.functions

pub returns-in-Err-clause-grown : goal.returns-in-Err-clause-grown
returns-in-Err-clause-grown c = extends_then _ _ _ c.loop-s.invariant.grown c.in-Err.ensures.grown

pub returns-in-Err-clause-functions : goal.returns-in-Err-clause-functions
returns-in-Err-clause-functions c = c.in-Err.ensures.functions ∙ c.loop-s.invariant.functions

pub returns-in-Err-clause-values : goal.returns-in-Err-clause-values
returns-in-Err-clause-values c = rw c.error_of.ensures (values_error (shown_stmt c.args.module.now) (parameter_names c.args.module.now c.args.parameters.now) c.args.body.now c.args.into.now c.loop-s.into c.loop-s.values.items c.loop-s.s-index no_statement c.loop-s.invariant c.loop-s-test.true c.value.new.into.nodes c.in-Err.unformed _ c.line_of.ensures (sym c.is_dropped.ensures ∙ c.if-is_dropped.false) c.in-Err.ensures.value)

pub loop-s-preserved : goal.loop-s-preserved
loop-s-preserved c = values_more (shown_stmt c.args.module.now) (parameter_names c.args.module.now c.args.parameters.now) c.args.body.now c.args.into.now c.loop-s.into c.loop-s.values.items c.loop-s.s-index no_statement c.loop-s.invariant c.loop-s-test.true c.value.new.into c.in-Ok.value c.add.new.values.items (sym c.is_dropped.ensures ∙ c.if-is_dropped.false) c.in-Ok.ensures.grown c.in-Ok.ensures.functions c.in-Ok.ensures.value (c.in_ok-add-in-Ok.ensures {u = tt})

pub returns-clause-grown : goal.returns-clause-grown
returns-clause-grown c = c.loop-s.invariant.grown

pub returns-clause-functions : goal.returns-clause-functions
returns-clause-functions c = c.loop-s.invariant.functions

pub returns-clause-values : goal.returns-clause-values
returns-clause-values c = (c.loop-s.invariant.below, values_all (shown_stmt c.args.module.now) (parameter_names c.args.module.now c.args.parameters.now) c.args.body.now c.args.into.now c.loop-s.into c.loop-s.values.items c.loop-s.s-index no_statement c.loop-s.invariant c.loop-s-test.false)
