-- What is told of a module in all, which stays while types are added to it.
use Rattle.std.proofs.Common.{◌≡◌, ℕ, List, [], ◌++◌, Option, None, refl, sym, ap, append_assoc, ◌∙◌}
use Rattle.spec_trees.specs.Module.{Block, Module}
use Rattle.spec_contracts.specs.ContractLines.{ContractLine}
use Rattle.spec_names.specs.Definitions.{definition_refusals}
use Rattle.spec_names.specs.Refusals.{first_refusal}
use Rattle.spec_names.specs.declared.Refusal.{Refusal}
use Rattle.spec_uses.specs.ModuleUses.{use_refusals}
use Rattle.spec_types.specs.Needs.{need_refusals}
use Rattle.spec_types.specs.Widths.{width_refusals}
use Rattle.spec_profile.specs.Profile.{profile_refusal}
use Rattle.told_refusals.specs.Telling.{Tells}
use Rattle.told_refusals.proofs.Telling.{tells_then}
use Rattle.py_tree.specs.Arena.{State, IsModule, module_tree}
use Rattle.py_types.specs.Given.{Grows}
use Rattle.parameter_types.proofs.Kept.{body_kept}

-- definitions, uses of names and types, one behind the other
pub refusal_is : (b : Block) (ls : List ContractLine) (max_len max_nest : ℕ) (first second third : Option Refusal) → Tells None first (definition_refusals b) → Tells first second (use_refusals b ls)
    → Tells second third (need_refusals b ls ++ width_refusals b ls max_len max_nest) → third ≡ profile_refusal b ls max_len max_nest
unfolding profile_refusal
refusal_is b ls max_len max_nest first second third definitions uses types =
    let named = definition_refusals b ++ use_refusals b ls in
    let needs = need_refusals b ls in
    let widths = width_refusals b ls max_len max_nest in
    tells_then None second third named (needs ++ widths) (tells_then None first second (definition_refusals b) (use_refusals b ls) definitions uses) types [] refl
    ∙ ap first_refusal (sym (append_assoc named needs widths))

pub tree_kept : (m n : State) → Grows m n → IsModule m → module_tree n ≡ module_tree m
tree_kept m n g v = ap the_module (body_kept m n g v)
  where
    the_module : Block → Module
    the_module b = record { body = b }
