use Rattle.contract_lines.proofs.Among.{drop_from, parameter_more}
use Rattle.contract_lines.proofs.parameters.parameter_names.Goals as goal

pub loop-parameter-preserved : goal.loop-parameter-preserved
loop-parameter-preserved c = parameter_more c.args.«module».now c.parameters-parameter-items.result.now c.loop-parameter.parameter-index c.loop-parameter.names c.insert.new.self _ _ _ (drop_from c.parameters-parameter-items.result.now c.loop-parameter.parameter-index _ c.loop-parameter-test.true) c.name_text.ensures.text (c.in_ok-insert.ensures {u = tt}) c.loop-parameter.invariant
