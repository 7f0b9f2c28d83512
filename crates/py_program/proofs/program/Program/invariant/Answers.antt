use Rattle.py_program.proofs.There.{item_found}
use Rattle.py_program.proofs.program.Program.invariant.Goals as goal

pub returns-clause-there : goal.returns-clause-there
returns-clause-there c =
    let entry = c.class.result.now in
    item_found _ entry.invariants.items c.args.i c.index.result.now c.class.ensures.there.invariants (c.requires.place entry c.class.ensures.entry) c.index.ensures
