use Rattle.std.proofs.Common.{◌≡◌, ◌++◌, take}
use Rattle.std.specs.List.{flat_map}
use Rattle.spec_types.specs.Needs.{spoken_in}
use Rattle.given_types.specs.declared.GivenType.{GivenType}
use Rattle.given_types.specs.Giving.{given_in}
use Rattle.type_needs.proofs.class_graph.add_all_spoken.Given as goal

-- the classes that the types so far speak of
abbrev pub invariant-loop-given : goal.invariant-loop-given
invariant-loop-given l = l.into.items ≡ l.fn.into.items ++ flat_map (λ (g : GivenType). spoken_in (given_in l.module g)) (take l.given-index l.types)
