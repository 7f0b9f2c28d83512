use Rattle.std.proofs.lemmas.Result.{err_from_is_err_and}
use Rattle.py_types.proofs.Growth.{grows_same}
use Rattle.py_parser.proofs.Steps.{type_refused, type_read}
use Rattle.py_parser.proofs.texts.type_text.Goals as goal

pub returns-in_err-words-clause-grown : goal.returns-in_err-words-clause-grown
returns-in_err-words-clause-grown c = grows_same _ c.types_count.ensures.module

pub returns-in_err-words-clause-parsed : goal.returns-in_err-words-clause-parsed
returns-in_err-words-clause-parsed c =
    let p = err_from_is_err_and c.from_residual.result c.from_residual.ensures.1 in
    rw (p.1, p.2) (type_refused _ _ _ c.in_err-words.ensures)

pub returns-clause-parsed : goal.returns-clause-parsed
returns-clause-parsed c = type_read _ _ _ _ _ c.in_ok-words.ensures c.whole_type.ensures.parsed
