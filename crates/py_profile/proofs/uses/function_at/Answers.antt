use Rattle.py_profile.proofs.Owned.{found_there}
use Rattle.py_profile.proofs.uses.function_at.Goals as goal

pub returns-in-Function-clause-there : goal.returns-in-Function-clause-there
returns-in-Function-clause-there c =
    rw c.numbered.ensures (found_there c.args.module.now c.args.functions.now c.in-Function.function.index c.requires.there)
