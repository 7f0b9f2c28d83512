use Rattle.spec_uses.specs.Meanings.{module_scope}
use Rattle.spec_uses.specs.ModuleUses.{uses_in_body}
use Rattle.py_tree.specs.Arena.{module_tree}
use Rattle.module_functions.specs.Listed.{function_in}
use Rattle.told_refusals.proofs.Telling.{flat_map_map, told_all, told_more}
use Rattle.py_profile.proofs.Owned.{function_there, no_function}
use Rattle.py_profile.proofs.uses.told_of_bodies.Goals as goal

pub told_of_body-requires-clause-function : goal.told_of_body-requires-clause-function
told_of_body-requires-clause-function c = function_there c.args.module.now c.args.functions.now c.loop-function.function-index no_function c.requires.functions c.loop-function-test.true

pub loop-function-preserved : goal.loop-function-preserved
loop-function-preserved c =
    let m = c.args.module.now in
    let body = uses_in_body (module_scope (module_tree m).body) in (
      (c.in_ok-told.ensures {u = tt}).scope,
      told_more (λ f. body (function_in m f)) c.args.functions.now c.args.told c.loop-function.told c.loop-function.function-index c.loop-function.invariant.1 _ no_function c.loop-function-test.true (c.in_ok-told.ensures {u = tt}).told,
    )

pub returns-clause-told : goal.returns-clause-told
returns-clause-told c =
    let m = c.args.module.now in
    let body = uses_in_body (module_scope (module_tree m).body) in
    rw (← flat_map_map body (function_in m) c.args.functions.now) (told_all (λ f. body (function_in m f)) c.args.functions.now c.args.told c.loop-function.told c.loop-function.function-index c.loop-function.invariant.1 c.loop-function-test.false)
