use Rattle.std.proofs.Common.{refl}
use Rattle.py_statements.proofs.Turns.{ends_at}
use Rattle.py_statements.proofs.ends.at_end.Goals as goal

pub returns : goal.returns
returns c = ends_at _ _ _ _ c.len.ensures.count refl
