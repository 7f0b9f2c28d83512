use Rattle.std.proofs.Common.{◌≡◌, ℕ, Global, map, take}
use Rattle.std.specs.Prelude.{Vec}
use Rattle.spec_types.specs.Needs.{all_spoken}
use Rattle.given_types.specs.declared.GivenType.{GivenType}
use Rattle.given_types.specs.Giving.{given_in}
use Rattle.type_needs.proofs.class_graph.edges.Given as goal

-- the edges of the classes so far
abbrev pub invariant-loop-types : goal.invariant-loop-types
invariant-loop-types l = map (λ (e : Vec ℕ Global). e.items) l.lists.items ≡ map (λ (v : Vec GivenType Global). all_spoken (map (given_in l.module) v.items)) (take l.types-index l.taken)
