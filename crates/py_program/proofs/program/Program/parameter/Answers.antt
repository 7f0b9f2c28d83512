use Rattle.py_program.proofs.There.{parameter_found}
use Rattle.py_program.proofs.program.Program.parameter.Goals as goal

pub returns-clause-there : goal.returns-clause-there
returns-clause-there c =
    let entry = c.function.result.now in
    parameter_found _ entry.parameters.items c.args.i c.index.result.now c.function.ensures.there.parameters (c.requires.place entry c.function.ensures.entry) c.index.ensures
