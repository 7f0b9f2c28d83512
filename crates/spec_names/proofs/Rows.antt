-- What a few modules admit and define.
use Rattle.std.proofs.Common.{◌≡◌, ℕ, true, false, List, [], ◌∷◌, Some, None, refl}
use Rattle.std.specs.Prelude.{codes}
use Rattle.spec_trees.specs.declared.Operator.TheVariants as operator
use Rattle.spec_trees.specs.declared.Prefix.TheVariants as prefix
use Rattle.spec_trees.specs.Expr as expr
use Rattle.spec_trees.specs.Expr.{Expr, StringPart}
use Rattle.spec_trees.specs.Stmt as simple
use Rattle.spec_trees.specs.Stmt.{Parameter}
use Rattle.spec_trees.specs.Module as tree
use Rattle.spec_trees.specs.Module.{Statement, Block, no_statement, statement}
use Rattle.spec_names.specs.declared.ProfileFault.{ProfileFault}
use Rattle.spec_names.specs.declared.ProfileFault.TheVariants.{Duplicate, ModuleStatement, Form}
use Rattle.spec_names.specs.declared.Refusal.{Refusal}
use Rattle.spec_names.specs.Members.{is_constant, is_main_test, member_of, statement_refusals}
use Rattle.spec_names.specs.Headers.{header_forms}
use Rattle.spec_names.specs.Parameters.{parameter_refusals}
use Rattle.spec_names.specs.Refusals.{first_refusal}
use Rattle.spec_names.specs.Definitions.{definition_refusals}
use Rattle.spec_names.specs.Defined.{doubles}

abbrev part : List ℕ → StringPart
part s = record { value = s; source = s; raw = false; indent = 0; line = 1 }

abbrev refused : ℕ → ProfileFault → List Refusal
refused n f = record { line = n; fault = f } ∷ []

abbrev pass : Block
pass = statement (tree.simple (simple.pass 2)) no_statement

-- `X = 1`
abbrev one : ℕ → List ℕ → Statement
one n x = tree.simple (simple.assign n (expr.name n x) (expr.integer n 1))

abbrev function : ℕ → List ℕ → List Parameter → Statement
function n x ps = tree.def n x ps None pass

abbrev parameter : List ℕ → Parameter
parameter x = record { name = x; annotation = None; default = None }

-- ---- constants

negative_integers_are_constants : is_constant (expr.prefixed 1 prefix.Minus (expr.integer 1 5)) ≡ true
negative_integers_are_constants = refl

doubly_negative_integers_are_not : is_constant (expr.prefixed 1 prefix.Minus (expr.prefixed 1 prefix.Minus (expr.integer 1 5))) ≡ false
doubly_negative_integers_are_not = refl

sums_are_no_constants : is_constant (expr.binary 1 operator.Add (expr.integer 1 1) (expr.integer 1 1)) ≡ false
sums_are_no_constants = refl

brackets_make_no_difference : is_constant (expr.group 1 (expr.prefixed 1 prefix.Minus (expr.group 1 (expr.integer 1 5)))) ≡ true
brackets_make_no_difference = refl

-- ---- statements

main_test_is_admitted : is_main_test (expr.chain 1 (expr.name 1 (codes "__name__")) (expr.link operator.Equal (expr.text 1 (part (codes "__main__")) []) expr.no_links)) ≡ true
main_test_is_admitted = refl

main_test_with_another_word_is_not : is_main_test (expr.chain 1 (expr.name 1 (codes "__name__")) (expr.link operator.Equal (expr.text 1 (part (codes "main")) []) expr.no_links)) ≡ false
main_test_with_another_word_is_not = refl

other_imports_are_not_admitted : member_of (tree.simple (simple.import_from 1 (codes "os") (codes "path" ∷ []))) ≡ None
other_imports_are_not_admitted = refl

sums_are_no_statements_of_a_module : statement_refusals (statement (tree.simple (simple.assign 1 (expr.name 1 (codes "x")) (expr.binary 1 operator.Add (expr.integer 1 1) (expr.integer 1 1)))) no_statement) ≡ refused 1 ModuleStatement
sums_are_no_statements_of_a_module = refl

constants_are_no_statements_of_a_class : statement_refusals (statement (tree.class 1 (codes "C") (statement (one 2 (codes "X")) no_statement)) no_statement) ≡ refused 2 ModuleStatement
constants_are_no_statements_of_a_class = refl

-- ---- names

later_of_two_constants_is_a_duplicate : doubles (statement (one 1 (codes "X")) (statement (one 2 (codes "X")) no_statement)) ≡ refused 2 Duplicate
later_of_two_constants_is_a_duplicate = refl

built_in_names_are_taken : doubles (statement (function 1 (codes "len") []) no_statement) ≡ refused 1 Duplicate
built_in_names_are_taken = refl

exception_classes_are_taken : doubles (statement (tree.class 1 (codes "KeyError") pass) no_statement) ≡ refused 1 Duplicate
exception_classes_are_taken = refl

methods_may_be_named_as_functions : doubles (statement (function 1 (codes "f") []) (statement (tree.class 3 (codes "C") (statement (function 4 (codes "f") []) no_statement)) no_statement)) ≡ []
methods_may_be_named_as_functions = refl

names_of_one_import_are_apart : doubles (statement (tree.simple (simple.import_from 1 (codes "typing") (codes "List" ∷ codes "List" ∷ []))) no_statement) ≡ refused 1 Duplicate
names_of_one_import_are_apart = refl

parameters_are_apart : parameter_refusals (statement (function 1 (codes "f") (parameter (codes "x") ∷ parameter (codes "x") ∷ [])) no_statement) ≡ refused 1 Duplicate
parameters_are_apart = refl

later_of_two_constants_is_told : first_refusal (definition_refusals (statement (one 1 (codes "X")) (statement (one 2 (codes "X")) no_statement))) ≡ Some (record { line = 2; fault = Duplicate })
later_of_two_constants_is_told = refl

-- ---- headers

abbrev given : List ℕ → expr.Expr → Parameter
given x e = record { name = x; annotation = None; default = Some e }

sums_are_no_defaults : parameter_refusals (statement (function 1 (codes "f") (given (codes "x") (expr.binary 2 operator.Add (expr.integer 2 1) (expr.integer 2 1)) ∷ [])) no_statement) ≡ refused 2 Form
sums_are_no_defaults = refl

defaults_stand_last : parameter_refusals (statement (function 1 (codes "f") (given (codes "x") (expr.integer 1 1) ∷ parameter (codes "y") ∷ [])) no_statement) ≡ refused 1 Form
defaults_stand_last = refl

methods_begin_with_self : header_forms (statement (tree.class 1 (codes "C") (statement (function 2 (codes "f") (parameter (codes "x") ∷ [])) no_statement)) no_statement) ≡ refused 2 Form
methods_begin_with_self = refl

constructors_may_be_named_so : header_forms (statement (tree.class 1 (codes "C") (statement (function 2 (codes "__init__") (parameter (codes "self") ∷ [])) no_statement)) no_statement) ≡ []
constructors_may_be_named_so = refl

functions_may_not : header_forms (statement (function 1 (codes "__init__") []) no_statement) ≡ refused 1 Form
functions_may_not = refl
