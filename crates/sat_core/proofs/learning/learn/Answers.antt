use Rattle.refutation_check.specs.Propagation.{is_given}
use Rattle.sat_core.proofs.learning.learn.Goals as goal

pub learn_with-requires-clause-known : goal.learn_with-requires-clause-known
learn_with-requires-clause-known c = λ l t. is_given l (c.in_ok-known.ensures l t)
