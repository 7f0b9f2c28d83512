-- What a few trees are.
use Rattle.std.proofs.Common.{◌≡◌, ℕ, List, [], ◌∷◌, Option, Some, None, Result, Ok, Err, refl}
use Rattle.std.specs.Prelude.{codes}
use Rattle.spec_trees.specs.declared.Operator.TheVariants as operator
use Rattle.spec_trees.specs.declared.Prefix.TheVariants as prefix
use Rattle.spec_trees.specs.Expr as tree
use Rattle.spec_trees.specs.Stmt as simple
use Rattle.spec_trees.specs.Stmt.{Parameter, no_types}
use Rattle.spec_trees.specs.Module as block
use Rattle.spec_trees.specs.Module.{Block, no_statement, statement}
use Rattle.spec_first_trees.specs.declared.BinaryOp.TheVariants as binary
use Rattle.spec_first_trees.specs.declared.CompareOp.TheVariants as compare
use Rattle.spec_first_trees.specs.Expr as first
use Rattle.spec_forms.specs.Expressions.{expression_of}
use Rattle.spec_first_trees.specs.declared.ExcClass.{ExcClass}
use Rattle.spec_first_trees.specs.declared.ExcClass.TheVariants as exc
use Rattle.spec_first_trees.specs.Expr.{Expr}
use Rattle.spec_first_trees.specs.Program as program
use Rattle.spec_first_trees.specs.Program.{Function, Condition}
use Rattle.spec_contracts.specs.declared.LineKind.{LineKind}
use Rattle.spec_contracts.specs.declared.LineKind.TheVariants as kind
use Rattle.spec_contracts.specs.Owners.{of_function}
use Rattle.spec_contracts.specs.ContractLines.{ContractLine}
use Rattle.spec_forms.specs.Forms.{functions_of}

abbrev x : tree.Expr
x = tree.name 3 (codes "x")

-- ---- expressions

names_are_run : expression_of x ≡ Some (first.name (codes "x"))
names_are_run = refl

six_digits_are_run : expression_of (tree.integer 1 999999) ≡ Some (first.integer 999999)
six_digits_are_run = refl

seven_digits_are_not : expression_of (tree.integer 1 1000000) ≡ None
seven_digits_are_not = refl

sums_are_run : expression_of (tree.binary 1 operator.Add (tree.group 1 x) (tree.integer 1 1)) ≡ Some (first.binary binary.Add (first.group (first.name (codes "x"))) (first.integer 1))
sums_are_run = refl

quotients_are_not : expression_of (tree.binary 1 operator.FloorDivide x x) ≡ None
quotients_are_not = refl

comparisons_are_run : expression_of (tree.chain 1 x (tree.link operator.Less x tree.no_links)) ≡ Some (first.compare compare.Less (first.name (codes "x")) (first.name (codes "x")))
comparisons_are_run = refl

longer_chains_are_not : expression_of (tree.chain 1 x (tree.link operator.Less x (tree.link operator.Less x tree.no_links))) ≡ None
longer_chains_are_not = refl

disjunctions_are_not : expression_of (tree.chain 1 x (tree.link operator.Or x tree.no_links)) ≡ None
disjunctions_are_not = refl

signs_are_not : expression_of (tree.prefixed 1 prefix.Minus x) ≡ None
signs_are_not = refl

-- ---- modules

abbrev functions_in : Block → Result (List Function) ℕ
functions_in b = functions_of [] b

nothing_is_run : functions_in no_statement ≡ Ok []
nothing_is_run = refl

passes_are_passed_over : functions_in (statement (block.simple (simple.pass 4)) no_statement) ≡ Ok []
passes_are_passed_over = refl

imports_are_passed_over : functions_in (statement (block.simple (simple.import_from 1 (codes "typing") (codes "List" ∷ []))) no_statement) ≡ Ok []
imports_are_passed_over = refl

classes_are_not : functions_in (statement (block.class 2 (codes "A") no_statement) no_statement) ≡ Err 2
classes_are_not = refl

constants_are_not : functions_in (statement (block.simple (simple.assign 3 x (tree.integer 3 1))) no_statement) ≡ Err 3
constants_are_not = refl

-- ---- functions, of which each has its header on line 5 and the parameter x

abbrev typed : List ℕ → List Parameter
typed t = record { name = codes "x"; annotation = Some (simple.name 5 t no_types); default = None } ∷ []

abbrev int_typed : List Parameter
int_typed = typed (codes "int")

abbrev header : List Parameter → Block → Block
header ps b = statement (block.def 5 (codes "f") ps None b) no_statement

abbrev returns : ℕ → tree.Expr → Block → Block
returns n e b = statement (block.simple (simple.return n (Some e))) b

functions_without_contract_lines_are_not_run : functions_in (header (typed (codes "str")) (returns 6 x no_statement)) ≡ Ok []
functions_without_contract_lines_are_not_run = refl

but_they_are_read : functions_in (header (typed (codes "str")) (statement (block.simple (simple.pass 6)) no_statement)) ≡ Err 6
but_they_are_read = refl

statements_behind_a_return_are_read : functions_in (header int_typed (returns 6 x (statement (block.simple (simple.pass 7)) no_statement))) ≡ Err 7
statements_behind_a_return_are_read = refl

abbrev line : LineKind → ℕ → Option tree.Expr → Option (List (List ℕ)) → ContractLine
line k n e xs = record { owner = of_function 0; kind = k; line = n; expression = e; names = xs }

abbrev run_with : List ContractLine → List Parameter → Result (List Function) ℕ
run_with ls ps = functions_of ls (header ps (returns 9 x (returns 10 (tree.integer 10 1) no_statement)))

abbrev f_of : List Expr → List ExcClass → List Condition → Function
f_of pre permitted posts = record {
  name = codes "f";
  parameters = record { name = codes "x"; type = program.Integer } ∷ [];
  preconditions = pre;
  conditions = program.Raises 5 permitted ∷ posts;
  body = record { number = 0; statement = program.Return (first.name (codes "x")) } ∷ record { number = 0; statement = program.Return (first.integer 1) } ∷ [];
}

contract_lines_are_told_apart : run_with (line kind.Post 6 (Some x) None ∷ line kind.Pre 7 (Some x) None ∷ line kind.Raises 8 None (Some (codes "KeyError" ∷ codes "NameError" ∷ [])) ∷ []) int_typed
    ≡ Ok (f_of (first.name (codes "x") ∷ []) (exc.KeyError ∷ exc.NameError ∷ []) (program.Post 6 (first.name (codes "x")) ∷ []) ∷ [])
contract_lines_are_told_apart = refl

permissions_are_gathered : run_with (line kind.Raises 6 None (Some (codes "KeyError" ∷ [])) ∷ line kind.Raises 7 None (Some (codes "NameError" ∷ [])) ∷ []) int_typed
    ≡ Ok (f_of [] (exc.KeyError ∷ exc.NameError ∷ []) [] ∷ [])
permissions_are_gathered = refl

abbrev the_result : tree.Expr
the_result = tree.name 6 (codes "__return__")

post_lines_name_the_result : run_with (line kind.Post 6 (Some the_result) None ∷ []) int_typed ≡ Ok (f_of [] [] (program.Post 6 (first.name (codes "__return__")) ∷ []) ∷ [])
post_lines_name_the_result = refl

preconditions_do_not : run_with (line kind.Pre 6 (Some the_result) None ∷ []) int_typed ≡ Err 6
preconditions_do_not = refl

brackets_make_no_difference : run_with (line kind.Post 6 (Some x) (Some []) ∷ []) int_typed ≡ Ok (f_of [] [] (program.Post 6 (first.name (codes "x")) ∷ []) ∷ [])
brackets_make_no_difference = refl

other_types_are_not_run : run_with (line kind.Post 6 (Some x) None ∷ []) (typed (codes "str")) ≡ Err 5
other_types_are_not_run = refl

lines_of_other_functions_are_theirs : run_with (record (line kind.Post 6 (Some x) None) { owner = of_function 1 } ∷ []) (typed (codes "str")) ≡ Ok []
lines_of_other_functions_are_theirs = refl
