use Rattle.std.proofs.Common.{◌∙◌, ◌++◌, ℕ, List, ap, arith}
use Rattle.spec_types.specs.Needs.{spoken_in}
use Rattle.given_types.specs.Giving.{given_in}
use Rattle.type_needs.proofs.Walking.{found_all}
use Rattle.type_needs.proofs.class_graph.add_all_spoken.Goals as goal

pub returns : goal.returns
returns c = c.loop-given.invariant ∙ ap (λ (ys : List ℕ). c.args.into.now.items ++ ys) (found_all spoken_in (given_in c.args.module.now) c.args.types.now c.loop-given.given-index (omega (arith, c.loop-given-test.false)))
