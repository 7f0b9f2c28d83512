-- What the contract lines of one function or class come to.
use Rattle.std.specs.Prelude.{ℕ, List, filter, filter_map, flat_map, [], Option, Some, None}
use Rattle.std.specs.Option.{option_map, option_and_then}
use Rattle.spec_trees.specs.Expr.{Expr}
use Rattle.spec_first_trees.specs.declared.ExcClass.{ExcClass}
use Rattle.spec_first_trees.specs.Classes as classes
use Rattle.spec_contracts.specs.declared.LineKind.{LineKind}
use Rattle.spec_contracts.specs.declared.LineKind.TheVariants.{Pre, Post, Raises, Invariant}
use Rattle.spec_contracts.specs.ContractLines.{ContractLine}
use Rattle.spec_types.specs.Signatures.{is_function, is_class}
use Rattle.spec_programs.specs.Program as program
use Rattle.spec_programs.specs.Program.{Condition}

-- those of the function of a number
abbrev pub of_function : ℕ → List ContractLine → List ContractLine
of_function i ls = filter (λ (l : ContractLine). is_function i l.owner) ls

-- those of a class, where there is one
abbrev pub of_class : Option ℕ → List ContractLine → List ContractLine
of_class c ls = filter (λ (l : ContractLine). is_class c l.owner) ls

-- what a contract line of this kind has
abbrev pub pre_in : ContractLine → Option Expr
pre_in l = by_kind l.kind
  where
    by_kind : LineKind → Option Expr
    by_kind Pre = l.expression
    by_kind k = None

abbrev pub post_in : ContractLine → Option Condition
post_in l = by_kind l.kind
  where
    by_kind : LineKind → Option Condition
    by_kind Post = option_map (λ e. program.Post l.line e l.names) l.expression
    by_kind k = None

abbrev pub invariant_in : ContractLine → Option Expr
invariant_in l = by_kind l.kind
  where
    by_kind : LineKind → Option Expr
    by_kind Invariant = l.expression
    by_kind k = None

abbrev pub classes_among : Option (List (List ℕ)) → List ExcClass
classes_among None = []
classes_among (Some xs) = filter_map classes.class_named xs

abbrev pub permitted_in : ContractLine → List ExcClass
permitted_in l = by_kind l.kind
  where
    by_kind : LineKind → List ExcClass
    by_kind Raises = classes_among l.names
    by_kind k = []

abbrev pub preconditions : List ContractLine → List Expr
preconditions ls = filter_map pre_in ls

abbrev pub posts : List ContractLine → List Condition
posts ls = filter_map post_in ls

abbrev pub invariants : List ContractLine → List Expr
invariants ls = filter_map invariant_in ls

-- invariants as conditions of the functions of their class
abbrev pub kept_invariants : List ContractLine → List Condition
kept_invariants ls = filter_map (λ (l : ContractLine). option_map (program.Invariant l.line) (invariant_in l)) ls

abbrev pub permitted : List ContractLine → List ExcClass
permitted ls = flat_map permitted_in ls
