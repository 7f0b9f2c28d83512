use Rattle.std.proofs.Common.{sym, ◌∙◌, drop}
use Rattle.py_statements.proofs.Turns.{shows, raise_alone, raise_no_name, raise_turn}
use Rattle.py_statements.proofs.Growth.{grows_then}
use Rattle.py_statements.proofs.keywords.raise_statement.Goals as goal

pub returns-then-at_end-clause-read : goal.returns-then-at_end-clause-read
returns-then-at_end-clause-read c = (c.in_ok-add.ensures.there, shows _ _ _ (raise_alone _ _ (sym c.at_end.ensures ∙ c.if-at_end.true)) c.in_ok-add.ensures.tree)

pub returns-in_default-clause-read : goal.returns-in_default-clause-read
returns-in_default-clause-read c = raise_no_name _ _ (sym c.at_end.ensures ∙ c.if-at_end.false) c.in_default.ensures

pub returns-clause-read : goal.returns-clause-read
returns-clause-read c = rw (raise_turn c.args.line _ (drop c.args.pos c.args.words.now) _ c.in-Some.ensures) (rw c.in_ok-class.ensures.text at c.raised.ensures.read)

pub returns-clause-grown : goal.returns-clause-grown
returns-clause-grown c = grows_then _ _ _ c.add_name.ensures.grown c.raised.ensures.grown
