-- What is told of a few modules.
use Rattle.std.proofs.Common.{◌≡◌, ℕ, List, [], ◌∷◌, Some, None, refl}
use Rattle.std.specs.Prelude.{codes}
use Rattle.spec_trees.specs.Expr.{integer, name}
use Rattle.spec_trees.specs.Stmt.{assign, return}
use Rattle.spec_trees.specs.Module as tree
use Rattle.spec_trees.specs.Module.{Block, Statement, no_statement, statement}
use Rattle.spec_contracts.specs.declared.LineKind.TheVariants.{Raises}
use Rattle.spec_contracts.specs.ContractLines.{ContractLine}
use Rattle.spec_contracts.specs.Owners.{of_function}
use Rattle.spec_names.specs.declared.ProfileFault.TheVariants.{Duplicate, MissingType, UnknownName}
use Rattle.spec_profile.specs.Profile.{profile_refusal}

-- a constant that has the value 5
abbrev one : ℕ → List ℕ → Statement
one n x = tree.simple (assign n (name n x) (integer n 5))

-- a function that returns what a name stands for
abbrev returning : ℕ → List ℕ → Statement
returning n x = tree.def n (codes "f") [] None (statement (tree.simple (return n (Some (name n x)))) no_statement)

later_of_two_constants_is_told : profile_refusal (statement (one 1 (codes "X")) (statement (one 2 (codes "X")) no_statement)) [] 3 2 ≡ Some (record { line = 2; fault = Duplicate })
unfolding profile_refusal
later_of_two_constants_is_told = refl

uses_and_definitions_are_told_together : profile_refusal (statement (returning 1 (codes "y")) (statement (one 2 (codes "f")) no_statement)) [] 3 2 ≡ Some (record { line = 1; fault = UnknownName })
unfolding profile_refusal
uses_and_definitions_are_told_together = refl

-- a function that returns its parameter, which has no type
abbrev untyped : Block
untyped = statement (tree.def 1 (codes "f") (record { name = codes "x"; annotation = None; default = None } ∷ []) None (statement (tree.simple (return 3 (Some (name 3 (codes "x"))))) no_statement)) no_statement

-- `raises:` in its docstring
abbrev line : ContractLine
line = record { owner = of_function 0; kind = Raises; line = 2; expression = None; names = Some [] }

checked_functions_need_types : profile_refusal untyped (line ∷ []) 3 2 ≡ Some (record { line = 1; fault = MissingType })
unfolding profile_refusal
checked_functions_need_types = refl

other_functions_need_none : profile_refusal untyped [] 3 2 ≡ None
unfolding profile_refusal
other_functions_need_none = refl
