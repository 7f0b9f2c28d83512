use Rattle.std.proofs.Common.{arith}
use Rattle.first_promises.proofs.Fitting.{copied_added, integer_fits}
use Rattle.first_promises.proofs.expressions.add_integer.Goals as goal

pub returns-clause-copied : goal.returns-clause-copied
returns-clause-copied c = λ names.
    let added = c.in_ok-expr.ensures.added in
    copied_added _ _ _ _ _ _ _ added.0 added.1 (integer_fits names c.args.line c.args.value _ c.args.room.height c.args.room.size c.in-Some.size_left (omega arith) (omega arith) (omega arith)) (omega arith)
