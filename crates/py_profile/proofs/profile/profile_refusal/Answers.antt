use Rattle.std.proofs.Common.{map}
use Rattle.py_tree.specs.Arena.{module_tree}
use Rattle.contract_lines.specs.Given.{line_in}
use Rattle.py_profile.proofs.Refusing.{refusal_is}
use Rattle.py_profile.proofs.profile.profile_refusal.Goals as goal

pub returns-clause-refusal : goal.returns-clause-refusal
returns-clause-refusal c =
    let m = c.args.module.now in
    refusal_is (module_tree m).body (map (line_in m) c.args.contracts.now) c.args.max_len c.args.max_nest c.in_ok-told.told c.in_ok-told-2.told c.in_ok-told-3.told (c.in_ok-told.ensures {u = tt}) (c.in_ok-told-2.ensures {u = tt}) (c.in_ok-told-3.ensures {u = tt}).told
