use Rattle.std.proofs.Common.{◌∙◌, List, ap, slice_set}
use Rattle.spec_uses.specs.declared.Meaning.{Meaning}
use Rattle.name_meanings.proofs.Tables.{set_one}
use Rattle.name_meanings.proofs.table.set.Goals as goal

pub returns-clause-set : goal.returns-clause-set
returns-clause-set c = λ f e. ap (λ (v : List Meaning). slice_set v c.args.name.index c.args.meaning) e ∙ set_one f c.args.meaning c.args.module.now.names c.args.name.index c.names_count.ensures.«module».distinct c.requires.name
