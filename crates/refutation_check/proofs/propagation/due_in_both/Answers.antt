use Rattle.std.proofs.Common.{sym}
use Rattle.refutation_check.proofs.Looks.{due_behind, due_before}
use Rattle.refutation_check.proofs.propagation.due_in_both.Goals as goal

pub returns-in-Nothing : goal.returns-in-Nothing
returns-in-Nothing c = due_behind c.args.trail.now c.args.clauses.now c.args.more.now c.due_in-in-Nothing.result (sym c.in-Nothing.ensures) c.due_in-in-Nothing.ensures

pub returns-in_default : goal.returns-in_default
returns-in_default c = due_before c.args.trail.now c.args.clauses.now c.args.more.now c.due_in.result c.in_default.not-Nothing c.due_in.ensures
