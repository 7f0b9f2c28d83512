use Rattle.spec_uses.specs.Meanings.{module_scope}
use Rattle.spec_uses.specs.ModuleUses.{uses_in_body}
use Rattle.py_tree.specs.Arena.{module_tree}
use Rattle.module_functions.specs.Listed.{function_in}
use Rattle.name_scopes.specs.Showing.{IsScopeOf}
use Rattle.told_refusals.proofs.Telling.{ToldTo}
use Rattle.py_profile.proofs.uses.told_of_bodies.Given as goal

-- the bodies before this place are told of
abbrev pub invariant-loop-function : goal.invariant-loop-function
invariant-loop-function l = IsScopeOf l.module l.scope × ToldTo (λ f. uses_in_body (module_scope (module_tree l.module).body) (function_in l.module f)) l.functions l.fn.told l.told l.function-index
