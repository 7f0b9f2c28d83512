use Rattle.std.proofs.Common.{map}
use Rattle.contract_lines.specs.Given.{line_in}
use Rattle.parameter_types.proofs.Joined.{as_many_checks, numbers_below, signatures_listed}
use Rattle.parameter_types.proofs.types.listed.Goals as goal

pub checked-requires : goal.checked-requires
checked-requires c = rw c.deref.ensures.value (numbers_below c.args.module.now c.in_ok-functions.functions.items (c.in_ok-functions.ensures {u = tt}).functions c.args.classes c.requires.classes)

pub signatures-requires-clause-checked : goal.signatures-requires-clause-checked
signatures-requires-clause-checked c =
    let m = c.args.module.now in
    rw (c.deref-2.ensures.value, c.deref-3.ensures.value) (as_many_checks m c.in_ok-functions.functions.items (c.in_ok-functions.ensures {u = tt}).functions (map (line_in m) c.args.contracts.now) c.in_ok-checked.checked.items (rw c.deref.ensures.value at c.in_ok-checked.ensures m))

pub returns-clause-signatures : goal.returns-clause-signatures
returns-clause-signatures c =
    let m = c.args.module.now in
    signatures_listed m c.in_ok-functions.functions.items (c.in_ok-functions.ensures {u = tt}).functions (map (line_in m) c.args.contracts.now) c.in_ok-checked.checked.items c.in_ok-signatures.signatures.items
    (rw c.deref.ensures.value at c.in_ok-checked.ensures m)
    (rw (c.deref-2.ensures.value, c.deref-3.ensures.value) at (c.in_ok-signatures.ensures {u = tt}).signatures)

pub returns-clause-there : goal.returns-clause-there
returns-clause-there c = (c.in_ok-signatures.ensures {u = tt}).there c.args.classes (rw c.deref-2.ensures.value (numbers_below c.args.module.now c.in_ok-functions.functions.items (c.in_ok-functions.ensures {u = tt}).functions c.args.classes c.requires.classes))
