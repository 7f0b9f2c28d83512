use Rattle.std.proofs.Common.{[]}
use Rattle.spec_programs.specs.Definitions.{constant_named}
use Rattle.py_tree.specs.Arena.{module_tree}
use Rattle.py_tree.specs.Stmts.{optional_expr}
use Rattle.py_program.proofs.Named.{read_both}
use Rattle.py_program.proofs.program.Program.constant.Goals as goal

pub returns-clause-constant : goal.returns-clause-constant
returns-clause-constant c =
    let m = c.args.self.now.source in
    read_both (optional_expr m) (constant_named (module_tree m).body) c.definitions.result.now.constants.items m.names c.args.n.index c.index.result.now [] c.definitions.ensures.table.constants c.requires c.index.ensures
