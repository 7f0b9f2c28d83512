use Rattle.std.proofs.Common.{sym}
use Rattle.py_parser.proofs.Steps.{refusal_told}
use Rattle.py_parser.proofs.texts.is_refusal.Goals as goal

pub returns-in_default : goal.returns-in_default
returns-in_default c = sym (refusal_told _ c.in_default.not-NoMemory)
