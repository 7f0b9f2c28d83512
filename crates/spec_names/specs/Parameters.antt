-- Which parameters a module does not admit.
use Rattle.std.specs.Prelude.{Bool, false, not, ◌&&◌, ◌||◌, List, [], ◌∷◌, ◌++◌, Option, Some, None}
use Rattle.std.specs.List.{list_any}
use Rattle.std.specs.Option.{is_some}
use Rattle.spec_trees.specs.Expr.{Expr}
use Rattle.spec_trees.specs.Stmt.{Parameter}
use Rattle.spec_trees.specs.Module.{Statement, Block, def}
use Rattle.spec_names.specs.Names.{names_of}
use Rattle.spec_names.specs.declared.ProfileFault.TheVariants.{Duplicate, Form}
use Rattle.spec_names.specs.declared.Refusal.{Refusal}
use Rattle.spec_names.specs.Refusals.{refused_if}
use Rattle.spec_names.specs.Lines.{line_of_expression}
use Rattle.spec_names.specs.Names.{is_private}
use Rattle.spec_names.specs.Members.{is_constant, methods_in, each}
use Rattle.spec_names.specs.Defined.{are_repeated}

-- a default that is no constant
abbrev pub default_refusals : Option Expr → List Refusal
default_refusals None = []
default_refusals (Some e) = refused_if (not (is_constant e)) (line_of_expression e) Form

abbrev pub all_default_refusals : List Parameter → List Refusal
all_default_refusals [] = []
all_default_refusals (p ∷ ps) = default_refusals p.default ++ all_default_refusals ps

-- a parameter without default directly behind one with a default
abbrev pub are_misordered : List Parameter → Bool
are_misordered (p ∷ q ∷ ps) = (is_some p.default && not (is_some q.default)) || are_misordered (q ∷ ps)
are_misordered ps = false

-- two parameters of one name, a name that begins with two underscores, and defaults that stand wrong or are no constants
abbrev pub refusals_of_parameters : Statement → List Refusal
refusals_of_parameters (def n x ps r b) =
    refused_if (are_repeated [] (names_of ps)) n Duplicate
    ++ refused_if (list_any is_private (names_of ps)) n Form
    ++ refused_if (are_misordered ps) n Form
    ++ all_default_refusals ps
refusals_of_parameters s = []

abbrev pub with_methods : Statement → List Refusal
with_methods s = refusals_of_parameters s ++ each refusals_of_parameters (methods_in s)

-- the parameters of the functions of a module and of its classes
abbrev pub parameter_refusals : Block → List Refusal
parameter_refusals b = each with_methods b
