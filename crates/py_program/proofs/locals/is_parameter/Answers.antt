use Rattle.py_program.proofs.There.{parameter_there}
use Rattle.py_program.proofs.locals.is_parameter.Goals as goal

pub is_same-requires-clause-other : goal.is_same-requires-clause-other
is_same-requires-clause-other c = (parameter_there c.args.module.now c.args.parameters.now c.loop-parameter.parameter-index _ c.requires.parameters c.loop-parameter-test.true).name
