use Rattle.std.proofs.Common.{◌∙◌, ap, List, true, slice_set}
use Rattle.std.specs.Prelude.{Bool}
use Rattle.name_sets.proofs.Rounds.{one_more}
use Rattle.name_sets.proofs.sets.NameSet.insert.Goals as goal

pub returns : goal.returns
returns c = one_more c.self.inside.rounds.items c.args.name.index c.self.inside.round ∙ ap (λ (v : List Bool). slice_set v c.args.name.index true) c.self.view_is
