use Rattle.std.proofs.Common.{drop, sym, refl}
use Rattle.std.proofs.lemmas.Result.{err_from_is_err_and}
use Rattle.spec_grammar.specs.HeaderReading.{headed_line}
use Rattle.spec_grammar.specs.StatementReading.{simple_of}
use Rattle.py_lines.specs.Headers.{header_tree}
use Rattle.py_lines.proofs.Later.{header_kept}
use Rattle.py_lines.proofs.Turns.{headed_more, headed_stuck, headed_simple, fails_on}
use Rattle.py_lines.proofs.lines.headed_line.Goals as goal

pub returns-in_default-clause-read : goal.returns-in_default-clause-read
unfolding headed_line
returns-in_default-clause-read c = rw c.in_default.ensures.word (c.requires.header, refl)

pub returns-in_err-statement-clause-read : goal.returns-in_err-statement-clause-read
returns-in_err-statement-clause-read c =
    let p = err_from_is_err_and c.from_residual.result c.from_residual.ensures.1 in
    rw (p.1, p.2) (fails_on _ _ _ c.in_err-statement.ensures.read (λ n. headed_stuck _ _ _ _ c.in-Some.ensures.word n))

pub returns-clause-read : goal.returns-clause-read
returns-clause-read c =
    let a = header_kept _ _ c.in_ok-statement.ensures.grown.extends c.requires.module c.args.header c.requires.header in
    rw (headed_more (header_tree c.args.into.now c.args.header) (drop c.args.pos c.args.words.now) _ _ c.in-Some.ensures.word) (headed_simple _ c.args.header _ _ (simple_of (drop c.args.pos c.args.words.now)) a.0 (sym a.1) c.in_ok-statement.ensures.read.0 c.in_ok-statement.ensures.read.1)
