-- What a few modules are as programs.
use Rattle.std.proofs.Common.{◌≡◌, ℕ, true, false, List, [], ◌∷◌, map, Option, Some, None, refl}
use Rattle.std.specs.Prelude.{codes, length}
use Rattle.spec_trees.specs.Expr as tree
use Rattle.spec_trees.specs.Stmt as simple
use Rattle.spec_trees.specs.Stmt.{Parameter, no_types}
use Rattle.spec_trees.specs.Module as block
use Rattle.spec_trees.specs.Module.{Block, Statement, no_statement, statement}
use Rattle.spec_first_trees.specs.declared.ExcClass.TheVariants.{KeyError, NameError}
use Rattle.spec_contracts.specs.declared.LineKind.{LineKind}
use Rattle.spec_contracts.specs.declared.LineKind.TheVariants.{Pre, Post, Raises, Invariant}
use Rattle.spec_contracts.specs.Owners.{Owner, of_function, of_class}
use Rattle.spec_contracts.specs.ContractLines.{ContractLine}
use Rattle.spec_uses.specs.Functions.{FunctionOf}
use Rattle.spec_programs.specs.Program as program
use Rattle.spec_programs.specs.Program.{Function, Class, Program}
use Rattle.spec_programs.specs.Definitions.{class_named, constant_named, function_named, is_local}
use Rattle.spec_programs.specs.Programs.{program_of}

abbrev x : tree.Expr
x = tree.name 3 (codes "x")

abbrev int_x : Parameter
int_x = record { name = codes "x"; annotation = Some (simple.name 1 (codes "int") no_types); default = None }

abbrev self : Parameter
self = record { name = codes "self"; annotation = None; default = None }

abbrev returns : Block
returns = statement (block.simple (simple.return 3 (Some x))) no_statement

abbrev def : ℕ → List ℕ → List Parameter → Statement
def n f ps = block.def n f ps None returns

abbrev line : Owner → LineKind → ℕ → Option tree.Expr → Option (List (List ℕ)) → ContractLine
line o k n e xs = record { owner = o; kind = k; line = n; expression = e; names = xs }

-- ---- one function with a post line

abbrev square : Block
square = statement (def 1 (codes "sq") (int_x ∷ [])) no_statement

abbrev square_program : Program
square_program = program_of square (line (of_function 0) Post 2 (Some x) None ∷ [])

one_function_and_no_class : (length square_program.functions ≡ 1) × (length square_program.classes ≡ 0)
one_function_and_no_class = (refl, refl)

two_conditions : map (λ (f : Function). f.conditions) square_program.functions ≡ (program.Raises 1 ∷ program.Post 2 x None ∷ []) ∷ []
two_conditions = refl

unchecked_functions_have_none : map (λ (f : Function). f.conditions) (program_of square []).functions ≡ [] ∷ []
unchecked_functions_have_none = refl

-- ---- a class between two functions

abbrev mixed : Block
mixed = statement (def 1 (codes "f") (int_x ∷ []))
    (statement (block.class 4 (codes "C") (statement (def 5 (codes "m") (self ∷ [])) (statement (def 7 (codes "__init__") (self ∷ int_x ∷ [])) no_statement)))
    (statement (block.simple (simple.assign 9 (tree.name 9 (codes "K")) (tree.integer 9 4))) (statement (def 10 (codes "g") []) no_statement)))

abbrev mixed_program : Program
mixed_program = program_of mixed (line (of_function 0) Pre 2 (Some x) None ∷ line (of_function 0) Raises 3 None (Some (codes "KeyError" ∷ codes "NameError" ∷ [])) ∷ line (of_class 0) Invariant 5 (Some x) None ∷ [])

functions_are_in_the_order_of_lines : map (λ (f : Function). f.name) mixed_program.functions ≡ codes "f" ∷ codes "m" ∷ codes "__init__" ∷ codes "g" ∷ []
functions_are_in_the_order_of_lines = refl

functions_of_a_class_name_it : map (λ (f : Function). f.class) mixed_program.functions ≡ None ∷ Some 0 ∷ Some 0 ∷ None ∷ []
functions_of_a_class_name_it = refl

an_invariant_makes_them_checked : map (λ (f : Function). f.is_checked) mixed_program.functions ≡ true ∷ true ∷ true ∷ false ∷ []
an_invariant_makes_them_checked = refl

invariants_are_conditions_behind_the_others : map (λ (f : Function). f.conditions) mixed_program.functions
    ≡ (program.Raises 1 ∷ []) ∷ (program.Raises 5 ∷ program.Invariant 5 x ∷ []) ∷ (program.Raises 7 ∷ program.Invariant 5 x ∷ []) ∷ [] ∷ []
invariants_are_conditions_behind_the_others = refl

preconditions_are_no_conditions : map (λ (f : Function). f.preconditions) mixed_program.functions ≡ (x ∷ []) ∷ [] ∷ [] ∷ [] ∷ []
preconditions_are_no_conditions = refl

classes_are_permitted_in_order : map (λ (f : Function). f.permitted) mixed_program.functions ≡ (KeyError ∷ NameError ∷ []) ∷ [] ∷ [] ∷ [] ∷ []
classes_are_permitted_in_order = refl

a_class_has_its_constructor : mixed_program.classes ≡ record { name = codes "C"; line = 4; constructor = Some 2; invariants = x ∷ [] } ∷ []
a_class_has_its_constructor = refl

names_are_found : (constant_named mixed (codes "K") ≡ Some (tree.integer 9 4)) × (function_named mixed (codes "g") ≡ Some 3) × (class_named mixed (codes "C") ≡ Some 0)
names_are_found = (refl, refl, refl)

methods_are_no_functions_of_the_module : function_named mixed (codes "m") ≡ None
methods_are_no_functions_of_the_module = refl

abbrev f_of_mixed : FunctionOf
f_of_mixed = record { line = 1; name = codes "f"; parameters = int_x ∷ []; body = statement (block.simple (simple.assign 2 (tree.name 2 (codes "y")) x)) returns; class = None }

parameters_and_assigned_names_are_local : (is_local f_of_mixed (codes "x") ≡ true) × (is_local f_of_mixed (codes "y") ≡ true) × (is_local f_of_mixed (codes "K") ≡ false)
parameters_and_assigned_names_are_local = (refl, refl, refl)
