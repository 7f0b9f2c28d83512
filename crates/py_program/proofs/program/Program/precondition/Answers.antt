use Rattle.py_program.proofs.There.{item_found}
use Rattle.py_program.proofs.program.Program.precondition.Goals as goal

pub returns-clause-there : goal.returns-clause-there
returns-clause-there c =
    let entry = c.function.result.now in
    item_found _ entry.preconditions.items c.args.i c.index.result.now c.function.ensures.there.preconditions (c.requires.place entry c.function.ensures.entry) c.index.ensures
