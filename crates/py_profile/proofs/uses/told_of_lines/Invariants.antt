use Rattle.spec_uses.specs.ModuleUses.{uses_in_line}
use Rattle.py_tree.specs.Arena.{module_tree}
use Rattle.contract_lines.specs.Given.{line_in}
use Rattle.name_scopes.specs.Showing.{IsScopeOf}
use Rattle.told_refusals.proofs.Telling.{ToldTo}
use Rattle.py_profile.specs.Owning.{IsEnteredIf}
use Rattle.py_profile.proofs.uses.told_of_lines.Given as goal

-- the contract lines before this place are told of, and the names of the last owner are those of the scope
abbrev pub invariant-loop-i : goal.invariant-loop-i
invariant-loop-i l = IsScopeOf l.module l.scope × IsEnteredIf l.module l.scope l.entered × ToldTo (λ x. uses_in_line (module_tree l.module).body (line_in l.module x)) l.contracts l.fn.told l.told l.i
