use Rattle.std.proofs.Common.{sym, ◌∙◌}
use Rattle.py_statements.proofs.Turns.{shows, alone_read, alone_left}
use Rattle.py_statements.proofs.keywords.alone.Goals as goal

pub returns-then-not-at_end-clause-read : goal.returns-then-not-at_end-clause-read
returns-then-not-at_end-clause-read c d e = alone_left d _ (sym c.at_end.ensures ∙ c.if-not-at_end.true)

pub returns-clause-read : goal.returns-clause-read
returns-clause-read c d e = (c.in_ok-add.ensures.there, shows _ d _ (alone_read d _ (sym c.at_end.ensures ∙ c.if-not-at_end.false)) (c.in_ok-add.ensures.tree ∙ e))
