use Rattle.std.specs.List.{All}
use Rattle.spec_types.specs.Needs.{type_refusals}
use Rattle.py_tree.specs.Arena.{State}
use Rattle.told_refusals.proofs.Telling.{ToldTo}
use Rattle.given_types.specs.declared.GivenType.{GivenType}
use Rattle.given_types.specs.Giving.{IsGiven, given_in}
use Rattle.type_needs.proofs.untyped.told_of_types.Given as goal

abbrev pub invariant-loop-given : goal.invariant-loop-given
invariant-loop-given l = (m : State) → All (IsGiven m) l.types → ToldTo (λ (g : GivenType). type_refusals l.line (given_in m g)) l.types l.fn.told l.told l.given-index
