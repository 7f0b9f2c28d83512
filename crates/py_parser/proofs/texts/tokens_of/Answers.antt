use Rattle.std.proofs.Common.{sym, ◌∙◌}
use Rattle.py_parser.proofs.Steps.{scan_given, scan_refused}
use Rattle.py_parser.proofs.texts.tokens_of.Goals as goal

pub returns-in-Ok : goal.returns-in-Ok
returns-in-Ok c = scan_given _ _ c.in-Ok.ensures.1

pub returns-then-is_refusal : goal.returns-then-is_refusal
returns-then-is_refusal c = scan_refused _ _ c.in-Err.ensures (sym c.is_refusal.ensures ∙ c.if-is_refusal.true)
