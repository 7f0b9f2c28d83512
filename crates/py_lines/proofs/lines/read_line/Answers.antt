use Rattle.std.proofs.Common.{refl}
use Rattle.std.proofs.lemmas.Result.{err_from_is_err_and}
use Rattle.spec_grammar.specs.HeaderReading.{read_line}
use Rattle.py_lines.proofs.Turns.{simple_line, no_form, fails_on}
use Rattle.py_statements.proofs.Growth.{grows_then}
use Rattle.py_lines.proofs.lines.read_line.Goals as goal

pub returns-in_err-statement-in-Err-NoForm-clause-read : goal.returns-in_err-statement-in-Err-NoForm-clause-read
unfolding read_line
returns-in_err-statement-in-Err-NoForm-clause-read c =
    let h = no_form _ _ c.in-Err-NoForm.ensures.read c.in-Err-NoForm.field-0-is in
    let p = err_from_is_err_and c.from_residual.result c.from_residual.ensures.1 in
    rw (p.1, p.2) (fails_on _ _ _ c.in_err-statement-in-Err-NoForm.ensures.read (λ n. rw (h, n) refl))

pub returns-in-Ok-clause-read : goal.returns-in-Ok-clause-read
unfolding read_line
returns-in-Ok-clause-read c = rw c.in-Ok.ensures.read.1 c.headed_line.ensures.read

pub returns-in_ok-statement-in-Err-NoForm-clause-read : goal.returns-in_ok-statement-in-Err-NoForm-clause-read
unfolding read_line
returns-in_ok-statement-in-Err-NoForm-clause-read c =
    let h = no_form _ _ c.in-Err-NoForm.ensures.read c.in-Err-NoForm.field-0-is in
    rw h (simple_line _ _ _ c.in_ok-statement-in-Err-NoForm.ensures.read.0 c.in_ok-statement-in-Err-NoForm.ensures.read.1)

pub returns-in_err-statement-in-Err-NoForm-clause-grown : goal.returns-in_err-statement-in-Err-NoForm-clause-grown
returns-in_err-statement-in-Err-NoForm-clause-grown c = grows_then _ _ _ c.read_header.ensures.grown c.read_simple.ensures.grown

pub returns-in-Ok-clause-grown : goal.returns-in-Ok-clause-grown
returns-in-Ok-clause-grown c = grows_then _ _ _ c.read_header.ensures.grown c.headed_line.ensures.grown

pub returns-in_ok-statement-in-Err-NoForm-clause-grown : goal.returns-in_ok-statement-in-Err-NoForm-clause-grown
returns-in_ok-statement-in-Err-NoForm-clause-grown c = grows_then _ _ _ c.read_header.ensures.grown c.read_simple.ensures.grown
