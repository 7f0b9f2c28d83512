-- What the checks of types look at: functions, whether they are checked, and the types of their parameters.
use Rattle.std.specs.Prelude.{ℕ, suc, Bool, false, not, ◌&&◌, ◌||◌, ◌==◌, List, [], ◌∷◌, map, Option, Some, None}
use Rattle.std.specs.List.{list_any}
use Rattle.spec_trees.specs.Stmt.{Parameter, TypeExpr}
use Rattle.spec_trees.specs.Module.{Block}
use Rattle.spec_contracts.specs.ContractLines.{ContractLine}
use Rattle.spec_contracts.specs.Owners.{Owner, of_function, of_class}
use Rattle.spec_names.specs.Headers.{is_self_first}
use Rattle.spec_uses.specs.Functions.{FunctionOf, all_functions, is_constructor}
use Rattle.spec_types.specs.Types.{ValueType, line_of_type, type_of}
use Rattle.spec_types.specs.Classes.{behind_self, constructors}

-- ---- parameters

-- what an annotation gives a parameter
pub data Given : Type 0 where
  -- there is none
  missing : Given
  -- one on this line that is no type
  unknown : ℕ → Given
  known : ValueType → Given

-- an annotation on the line n, which is this type, if it is one
abbrev pub given_as : ℕ → Option ValueType → Given
given_as n None = unknown n
given_as n (Some t) = known t

abbrev pub given_by : Block → Option TypeExpr → Given
given_by b None = missing
given_by b (Some t) = given_as (line_of_type t) (type_of b t)

abbrev pub given : Block → List Parameter → List Given
given b ps = map (λ (p : Parameter). given_by b p.annotation) ps

-- the parameters of a function, but for the `self` of a class
abbrev pub typed : FunctionOf → List Parameter
typed f = by_class f.class
  where
    by_class : Option ℕ → List Parameter
    by_class None = f.parameters
    by_class (Some c) = behind_self f.parameters

-- ---- checked functions

abbrev pub is_function : ℕ → Owner → Bool
is_function i (of_function k) = k == i
is_function i (of_class k) = false

abbrev pub is_class : Option ℕ → Owner → Bool
is_class (Some c) (of_class k) = k == c
is_class c o = false

-- The function of the number i is checked where it has a contract line, or its class an invariant.
abbrev pub is_checked : List ContractLine → ℕ → FunctionOf → Bool
is_checked ls i f = list_any (λ (l : ContractLine). is_function i l.owner || is_class f.class l.owner) ls

-- ---- functions

pub record Signature : Type 0 where
  pub line : ℕ
  pub is_checked : Bool
  -- the number of its class
  pub class : Option ℕ
  -- whether it makes the objects of its class
  pub is_constructor : Bool
  -- whether it takes an object of its class
  pub takes_self : Bool
  -- what the parameters are given, but for the `self` of a class
  pub types : List Given

-- the function of the number i
abbrev pub signature : Block → List ContractLine → ℕ → FunctionOf → Signature
signature b ls i f = record {
  line = f.line;
  is_checked = is_checked ls i f;
  class = f.class;
  is_constructor = is_constructor f;
  takes_self = is_self_first f.parameters && not (is_constructor f);
  types = given b (typed f);
}

abbrev pub signatures_from : Block → List ContractLine → ℕ → List FunctionOf → List Signature
signatures_from b ls i [] = []
signatures_from b ls i (f ∷ fs) = signature b ls i f ∷ signatures_from b ls (suc i) fs

-- the functions of a module, in the order of lines
abbrev pub signatures : Block → List ContractLine → List Signature
signatures b ls = signatures_from b ls 0 (all_functions b)

-- what the constructors of all classes take, in the order of the classes
abbrev pub taken : Block → List (List Given)
taken b = map (given b) (constructors b)
