use Rattle.std.proofs.Common.{map}
use Rattle.std.specs.List.{flat_map}
use Rattle.spec_uses.specs.Functions.{all_functions}
use Rattle.spec_uses.specs.Meanings.{module_scope}
use Rattle.spec_uses.specs.ModuleUses.{uses_in_body, uses_in_line}
use Rattle.py_tree.specs.Arena.{module_tree}
use Rattle.contract_lines.specs.Given.{line_in}
use Rattle.told_refusals.proofs.Telling.{tells_then}
use Rattle.py_profile.proofs.uses.told_of_uses.Goals as goal

pub returns : goal.returns
returns c =
    let m = c.args.module.now in
    let b = (module_tree m).body in
    let bodies = rw (c.deref.ensures.value, (c.in_ok-functions.ensures {u = tt}).functions) at (c.in_ok-told.ensures {u = tt}).told in
    tells_then c.args.told c.in_ok-told.told c.in_ok-told-2.told (flat_map (uses_in_body (module_scope b)) (all_functions b)) (flat_map (uses_in_line b) (map (line_in m) c.args.contracts.now)) bodies (c.in_ok-told-2.ensures {u = tt})
