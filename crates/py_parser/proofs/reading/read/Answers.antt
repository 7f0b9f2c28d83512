use Rattle.std.proofs.lemmas.Result.{err_from_is_err_and}
use Rattle.py_parser.proofs.Modules.{all_plain, misread_told}
use Rattle.py_parser.proofs.reading.read.Goals as goal

pub returns-in_err-placed-clause-parsed : goal.returns-in_err-placed-clause-parsed
returns-in_err-placed-clause-parsed c =
    let r = err_from_is_err_and c.from_residual.result c.from_residual.ensures.1 in
    rw (r.1, r.2) (misread_told c.read_lines.new.into _ _ c.in_err-placed.ensures.read)

pub checked-requires-clause-plain : goal.checked-requires-clause-plain
checked-requires-clause-plain c = all_plain c.new-trees.result c.read_lines.new.into c.in_ok-placed.ensures.grown c.new-trees.ensures.stmts
