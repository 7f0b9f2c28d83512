use Rattle.py_tree.proofs.Statements.{stmt_found}
use Rattle.py_program.proofs.program.Program.body_stmt.Goals as goal

pub returns-clause-there : goal.returns-clause-there
returns-clause-there c =
    let entry = c.function.result.now in
    stmt_found _ entry.body.items c.args.i c.index.result.now c.function.ensures.there.body (c.requires.place entry c.function.ensures.entry) c.index.ensures
