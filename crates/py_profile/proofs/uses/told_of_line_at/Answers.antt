use Rattle.std.proofs.Common.{sym, ◌∙◌}
use Rattle.py_profile.proofs.Owned.{line_there}
use Rattle.py_profile.proofs.uses.told_of_line_at.Goals as goal

pub told_of_line-requires-clause-line : goal.told_of_line-requires-clause-line
told_of_line-requires-clause-line c = rw (sym c.get.ensures ∙ c.in-Some.is) at (line_there c.args.module.now c.args.contracts.now c.args.i c.requires.contracts)
