use Rattle.std.proofs.Common.{◌∙◌, ap, List, false, slice_set}
use Rattle.std.specs.Prelude.{Bool}
use Rattle.name_sets.proofs.Rounds.{one_less}
use Rattle.name_sets.proofs.sets.NameSet.set.Goals as goal

pub returns-else-is_in : goal.returns-else-is_in
returns-else-is_in c = rw c.if-is_in.false (one_less c.self.inside.rounds.items c.args.name.index c.self.inside.round c.self.invariant.0 ∙ ap (λ (v : List Bool). slice_set v c.args.name.index false) c.self.view_is)
