use Rattle.parameter_types.proofs.Joined.{as_many_taken, told_by_them}
use Rattle.parameter_types.proofs.types.told_of_signatures.Goals as goal

pub told_of_widths-requires-clause-classes : goal.told_of_widths-requires-clause-classes
told_of_widths-requires-clause-classes c = as_many_taken c.args.module.now c.args.taken.now c.requires.taken

pub returns : goal.returns
returns c = λ ls listed. told_by_them c.args.module.now c.args.taken.now c.requires.taken ls c.args.signatures.now listed c.args.max_len c.args.max_nest c.args.told c.in_ok-told.told c.in_ok-told-2.told (c.in_ok-told.ensures {u = tt}) (c.in_ok-told-2.ensures {u = tt})
