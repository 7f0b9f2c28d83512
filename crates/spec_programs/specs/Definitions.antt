-- The definitions of a module by their names.
use Rattle.std.specs.Prelude.{ℕ, suc, Bool, false, ◌&&◌, not, List, [], ◌∷◌, ◌++◌, Option, Some, None, if◌then◌else◌}
use Rattle.std.specs.Option.{is_some}
use Rattle.std.specs.Str.{bytes_eq}
use Rattle.spec_trees.specs.Expr.{Expr}
use Rattle.spec_trees.specs.Stmt.{assign, annotate}
use Rattle.spec_trees.specs.Module.{Statement, Block, simple, no_statement, statement}
use Rattle.spec_contracts.specs.ContractLines.{is_among}
use Rattle.spec_names.specs.Names.{is_init, names_of}
use Rattle.spec_names.specs.Members.{Member, constant, member_of}
use Rattle.spec_uses.specs.Functions.{FunctionOf, all_functions}
use Rattle.spec_uses.specs.Statements.{assigned}
use Rattle.spec_types.specs.Signatures.{is_class}
use Rattle.spec_types.specs.Classes.{class_number}
use Rattle.spec_contracts.specs.Owners as owner

-- ---- constants

-- whether a statement of a module defines this name as a constant
abbrev pub is_constant_named : List ℕ → Option Member → Bool
is_constant_named x (Some (constant y)) = bytes_eq y x
is_constant_named x m = false

-- the value that a statement assigns
abbrev pub value_in : Statement → Option Expr
value_in (simple (assign n d e)) = Some e
value_in (simple (annotate n d a e)) = e
value_in s = None

-- the value of the constant of a name, of which the first definition counts
abbrev pub constant_named : Block → List ℕ → Option Expr
constant_named no_statement x = None
constant_named (statement s b) x = if is_constant_named x (member_of s) then value_in s else constant_named b x

-- ---- functions and classes

-- the number of the first function of which this holds, where the first of these has the number i
abbrev pub number_of : (FunctionOf → Bool) → ℕ → List FunctionOf → Option ℕ
number_of holds i [] = None
number_of holds i (f ∷ fs) = if holds f then Some i else number_of holds (suc i) fs

-- a function of the module itself
abbrev pub is_free_named : List ℕ → FunctionOf → Bool
is_free_named x f = not (is_some f.class) && bytes_eq f.name x

abbrev pub function_named : Block → List ℕ → Option ℕ
function_named b x = number_of (is_free_named x) 0 (all_functions b)

-- the class of a name
abbrev pub class_named : Block → List ℕ → Option ℕ
class_named b x = class_number b x

-- whether a function makes the objects of the class of a number
abbrev pub makes : ℕ → FunctionOf → Bool
makes k f = is_class f.class (owner.of_class k) && is_init f.name

abbrev pub constructor_number : Block → ℕ → Option ℕ
constructor_number b k = number_of (makes k) 0 (all_functions b)

-- ---- local names

-- the parameters of a function and the names that its body assigns are local to it
abbrev pub is_local : FunctionOf → List ℕ → Bool
is_local f x = is_among (names_of f.parameters ++ assigned f.body) x
