use Rattle.local_names.proofs.Adding.{adds_one}
use Rattle.local_names.proofs.assigned.add_name.Goals as goal

pub returns : goal.returns
returns c = rw c.insert.ensures (adds_one c.args.module.now.names c.args.names.now c.args.name c.names_count.ensures.«module».distinct c.requires.name c.requires.size)
