-- Why a module is refused for its definitions.
use Rattle.std.specs.Prelude.{List, ◌++◌}
use Rattle.spec_trees.specs.Module.{Block}
use Rattle.spec_names.specs.declared.Refusal.{Refusal}
use Rattle.spec_names.specs.Members.{statement_refusals}
use Rattle.spec_names.specs.Defined.{doubles}
use Rattle.spec_names.specs.Headers.{header_forms}
use Rattle.spec_names.specs.Parameters.{parameter_refusals}

-- the statements, names, headers and parameters that a module is refused for
abbrev pub definition_refusals : Block → List Refusal
definition_refusals b = statement_refusals b ++ doubles b ++ header_forms b ++ parameter_refusals b
