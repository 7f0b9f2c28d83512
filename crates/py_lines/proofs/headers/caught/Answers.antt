use Rattle.std.proofs.Common.{refl}
use Rattle.spec_grammar.specs.HeaderReading.{read_caught}
use Rattle.py_statements.proofs.Growth.{grows_then}
use Rattle.py_lines.proofs.headers.caught.Goals as goal

pub returns-in-Some-clause-read : goal.returns-in-Some-clause-read
unfolding read_caught
returns-in-Some-clause-read c = (c.in_ok-add_names.ensures.there, rw (c.in-Some.ensures, c.in_ok-add_names.ensures.texts, c.in_ok-name.ensures.text) refl)

pub returns-in-Some-sign-clause-read : goal.returns-in-Some-sign-clause-read
unfolding read_caught
returns-in-Some-sign-clause-read c = rw (c.in_default.ensures, c.in-Some-sign.ensures) c.read_bracketed.ensures.read

pub returns-clause-read : goal.returns-clause-read
unfolding read_caught
returns-clause-read c = (c.in_ok-add_names-2.ensures.there, rw (c.in_default.ensures, c.in_default-sign.ensures, c.in_ok-add_names-2.ensures.texts) refl)

pub returns-in_err-add_names-clause-grown : goal.returns-in_err-add_names-clause-grown
returns-in_err-add_names-clause-grown c = grows_then _ _ _ c.add_name.ensures.grown c.add_names.ensures.grown

pub returns-in-Some-clause-grown : goal.returns-in-Some-clause-grown
returns-in-Some-clause-grown c = grows_then _ _ _ c.add_name.ensures.grown c.add_names.ensures.grown
