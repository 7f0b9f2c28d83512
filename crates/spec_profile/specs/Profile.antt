-- Why a module is refused whose contract lines are right.
use Rattle.std.specs.Prelude.{ℕ, List, ◌++◌, Option}
use Rattle.spec_trees.specs.Module.{Block}
use Rattle.spec_contracts.specs.ContractLines.{ContractLine}
use Rattle.spec_names.specs.declared.Refusal.{Refusal}
use Rattle.spec_names.specs.Refusals.{first_refusal}
use Rattle.spec_names.specs.Definitions.{definition_refusals}
use Rattle.spec_uses.specs.ModuleUses.{use_refusals}
use Rattle.spec_types.specs.Needs.{need_refusals}
use Rattle.spec_types.specs.Widths.{width_refusals}

-- All that a module with these contract lines is refused for, where lists have at most so many elements and a new object
-- stands inside at most so many other constructor calls.
abbrev pub refusals_of : Block → List ContractLine → ℕ → ℕ → List Refusal
refusals_of b ls max_len max_nest = definition_refusals b ++ use_refusals b ls ++ need_refusals b ls ++ width_refusals b ls max_len max_nest

-- what is told of it
unfoldable pub profile_refusal : Block → List ContractLine → ℕ → ℕ → Option Refusal
profile_refusal b ls max_len max_nest = first_refusal (refusals_of b ls max_len max_nest)
