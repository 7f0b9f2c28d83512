use Rattle.std.proofs.Common.{◌≡◌, ◌-◌, [], ◌∷◌, ◌++◌, take}
use Rattle.std.specs.List.{flat_map}
use Rattle.first_verdicts.specs.Meaning.{verdict_in}
use Rattle.first_verdicts.specs.Joining.{joined, asked, beginning}
use Rattle.first_verdicts.proofs.verdicts.+search.Given as goal

abbrev pub invariant-loop-argument : goal.invariant-loop-argument
invariant-loop-argument l = record {
  arguments : l.arguments.items ≡ l.initial.arguments.items;
  verdict : verdict_in l.so_far ≡ joined (verdict_in l.initial.so_far) (asked l.question (flat_map (λ z. beginning l.domain (l.left - 1) (l.initial.arguments.items ++ z ∷ [])) (take l.argument-index l.domain)));
}

abbrev pub decreases-search : goal.decreases-search
decreases-search l = l.left
