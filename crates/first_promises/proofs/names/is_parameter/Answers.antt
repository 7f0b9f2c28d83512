use Rattle.std.proofs.Common.{sym, ap, ◌∙◌, List}
use Rattle.spec_contracts.specs.ContractLines.{is_among}
use Rattle.py_tree.specs.declared.stmts.ParameterNode.{ParameterNode}
use Rattle.py_tree.specs.Names.{text_of}
use Rattle.first_promises.specs.Scopes.{parameter_names}
use Rattle.first_promises.proofs.Named.{drop_all, name_is, name_is_not, no_parameter, rest_there}
use Rattle.first_promises.proofs.names.is_parameter.Goals as goal

pub returns-then-parameter-name : goal.returns-then-parameter-name
returns-then-parameter-name c = sym (name_is c.args.module.now c.args.parameters.now c.loop-parameter.parameter-index no_parameter c.loop-parameter-test.true c.args.name c.if-parameter-name.true) ∙ c.loop-parameter.invariant.1

pub loop-parameter-preserved : goal.loop-parameter-preserved
loop-parameter-preserved c = (
  rest_there c.args.module.now c.args.parameters.now c.loop-parameter.parameter-index no_parameter c.loop-parameter-test.true c.loop-parameter.invariant.0,
  sym (name_is_not c.args.module.now c.args.parameters.now c.loop-parameter.parameter-index no_parameter c.loop-parameter-test.true c.args.name c.names_count.ensures.module.distinct c.loop-parameter.invariant.0 c.requires.name c.if-parameter-name.false) ∙ c.loop-parameter.invariant.1,
)

pub returns : goal.returns
returns c = ap (λ (v : List ParameterNode). is_among (parameter_names c.args.module.now v) (text_of c.args.module.now.names c.args.name)) (sym (drop_all c.args.parameters.now c.loop-parameter.parameter-index c.loop-parameter-test.false)) ∙ c.loop-parameter.invariant.1
