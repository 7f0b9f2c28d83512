-- The uses of names in the bodies and contract lines of a module that are not admitted.
use Rattle.std.specs.Prelude.{List, [], ◌++◌, Option, Some, None}
use Rattle.std.specs.List.{flat_map}
use Rattle.spec_trees.specs.Expr.{Expr}
use Rattle.spec_trees.specs.Module.{Block}
use Rattle.spec_contracts.specs.ContractLines.{ContractLine}
use Rattle.spec_names.specs.declared.Refusal.{Refusal}
use Rattle.spec_names.specs.Names.{names_of}
use Rattle.spec_uses.specs.declared.Place.TheVariants.{Read}
use Rattle.spec_uses.specs.Meanings.{Scope, module_scope, with_locals}
use Rattle.spec_uses.specs.Expressions.{uses}
use Rattle.spec_uses.specs.Statements.{assigned, uses_in_block}
use Rattle.spec_uses.specs.Functions.{FunctionOf, all_functions}
use Rattle.spec_uses.specs.ContractScopes.{function_at, scope_at}

-- In the body of a function its parameters and what it assigns are local.
abbrev pub uses_in_body : Scope → FunctionOf → List Refusal
uses_in_body s f = uses_in_block (with_locals (names_of f.parameters ++ assigned f.body) s) f.body

abbrev pub uses_if : Scope → Option Expr → List Refusal
uses_if s None = []
uses_if s (Some e) = uses Read s e

-- a contract line of a module
abbrev pub uses_in_line : Block → ContractLine → List Refusal
uses_in_line b l = uses_if (scope_at l.kind (function_at b l.owner) (module_scope b)) l.expression

-- The uses of a module with these contract lines. The block of its main test is not looked at.
abbrev pub use_refusals : Block → List ContractLine → List Refusal
use_refusals b ls = flat_map (uses_in_body (module_scope b)) (all_functions b) ++ flat_map (uses_in_line b) ls
