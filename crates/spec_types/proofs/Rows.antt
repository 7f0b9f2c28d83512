-- What a few annotations are, and which parameters lack a type or have too many values.
use Rattle.std.proofs.Common.{◌≡◌, ℕ, true, false, List, [], ◌∷◌, Option, Some, None, refl}
use Rattle.std.specs.Prelude.{codes}
use Rattle.spec_trees.specs.Stmt as simple
use Rattle.spec_trees.specs.Stmt.{Parameter, TypeExpr, TypeExprs, no_types, type_item}
use Rattle.spec_trees.specs.Module as tree
use Rattle.spec_trees.specs.Module.{Block, Statement, no_statement, statement}
use Rattle.spec_names.specs.declared.ProfileFault.{ProfileFault}
use Rattle.spec_names.specs.declared.ProfileFault.TheVariants.{MissingType, UnknownType}
use Rattle.spec_names.specs.declared.Refusal.{Refusal}
use Rattle.spec_uses.specs.Functions.{FunctionOf}
use Rattle.spec_types.specs.Quotes.{unquoted}
use Rattle.spec_types.specs.Types.{ValueType, integer, truth, none, list_of, dict_of, option_of, instance, type_of}
use Rattle.spec_types.specs.Signatures.{given_by, signature, taken}
use Rattle.spec_types.specs.Reached.{is_reached}
use Rattle.spec_types.specs.Needs.{edges, type_refusals}
use Rattle.spec_types.specs.Widths.{class_width, greatest_width, is_wider, width_in, width_of}

abbrev refused : ℕ → ProfileFault → List Refusal
refused n f = record { line = n; fault = f } ∷ []

abbrev pass : Block
pass = statement (tree.simple (simple.pass 9)) no_statement

-- `from typing import List, Optional` and a class
abbrev body : Block
body = statement (tree.simple (simple.import_from 1 (codes "typing") (codes "List" ∷ codes "Optional" ∷ []))) (statement (tree.class 2 (codes "C") pass) no_statement)

abbrev named : List ℕ → TypeExprs → TypeExpr
named x ts = simple.name 1 x ts

abbrev plain : List ℕ → TypeExpr
plain x = named x no_types

abbrev int : TypeExpr
int = plain (codes "int")

abbrev one : TypeExpr → TypeExprs
one t = type_item t no_types

-- ---- types

names_are_types : type_of body int ≡ Some integer
unfolding unquoted
names_are_types = refl

classes_are_types : type_of body (plain (codes "C")) ≡ Some (instance 0)
unfolding unquoted
classes_are_types = refl

-- a built-in type comes before a class of its name
built_in_types_come_first : type_of (statement (tree.class 1 (codes "list") pass) no_statement) (plain (codes "list")) ≡ None
unfolding unquoted
built_in_types_come_first = refl

other_names_are_not : type_of body (plain (codes "float")) ≡ None
unfolding unquoted
other_names_are_not = refl

lists_have_elements : type_of body (plain (codes "list")) ≡ None
unfolding unquoted
lists_have_elements = refl

imported_names_are_types : type_of body (named (codes "List") (one int)) ≡ Some (list_of integer)
unfolding unquoted
imported_names_are_types = refl

names_that_are_not_imported_are_not : type_of body (named (codes "Dict") (type_item int (one int))) ≡ None
unfolding unquoted
names_that_are_not_imported_are_not = refl

keys_are_no_lists : type_of body (named (codes "dict") (type_item (named (codes "list") (one int)) (one int))) ≡ None
unfolding unquoted
keys_are_no_lists = refl

truth_values_are_keys : type_of body (named (codes "dict") (type_item (plain (codes "bool")) (one int))) ≡ Some (dict_of truth integer)
unfolding unquoted
truth_values_are_keys = refl

doubled_options_are_one : type_of body (named (codes "Optional") (one (simple.union 1 int (one (simple.none 1))))) ≡ Some (option_of integer)
unfolding unquoted
doubled_options_are_one = refl

unions_with_none_are_options : type_of body (simple.union 1 (simple.none 1) (one int)) ≡ Some (option_of integer)
unfolding unquoted
unions_with_none_are_options = refl

unions_of_none_are_none : type_of body (simple.union 1 (simple.none 1) (one (simple.none 1))) ≡ Some none
unfolding unquoted
unions_of_none_are_none = refl

other_unions_are_not : type_of body (simple.union 1 int (one (plain (codes "str")))) ≡ None
unfolding unquoted
other_unions_are_not = refl

unions_without_none_are_not : type_of body (simple.union 1 int (one int)) ≡ None
unfolding unquoted
unions_without_none_are_not = refl

-- ---- needs

missing_types_are_told : type_refusals 1 (given_by body None) ≡ refused 1 MissingType
missing_types_are_told = refl

unknown_types_are_told_at_their_lines : type_refusals 1 (given_by body (Some (simple.name 3 (codes "float") no_types))) ≡ refused 3 UnknownType
unfolding unquoted
unknown_types_are_told_at_their_lines = refl

types_are_fine : type_refusals 1 (given_by body (Some int)) ≡ []
unfolding unquoted
types_are_fine = refl

abbrev parameter : List ℕ → Option TypeExpr → Parameter
parameter x t = record { name = x; annotation = t; default = None }

-- a class whose constructor takes a value of this type
abbrev reaching : Option TypeExpr → Block
reaching t = statement (tree.class 5 (codes "A") (statement (tree.def 6 (codes "__init__") (parameter (codes "self") None ∷ parameter (codes "y") t ∷ []) None pass) no_statement)) no_statement

constructors_take_what_stands_behind_self : edges (taken (reaching (Some (plain (codes "A"))))) ≡ (0 ∷ []) ∷ []
unfolding unquoted
constructors_take_what_stands_behind_self = refl

-- from 0 to 1 and 3, and from 1 to 2
abbrev graph : List (List ℕ)
graph = (1 ∷ 3 ∷ []) ∷ (2 ∷ []) ∷ [] ∷ [] ∷ (0 ∷ []) ∷ []

nodes_are_reached_over_others : is_reached graph (0 ∷ []) 2 ≡ true
nodes_are_reached_over_others = refl

edges_have_a_direction : is_reached graph (1 ∷ []) 0 ≡ false
edges_have_a_direction = refl

-- ---- widths

lists_count_their_elements : class_width (taken (reaching (Some (named (codes "list") (one (plain (codes "str"))))))) 3 3 0 ≡ Some 14
unfolding unquoted
lists_count_their_elements = refl

-- A takes an A or None: three of them stand in each other, and what stands inside counts one
classes_reach_themselves : class_width (taken (reaching (Some (simple.union 1 (plain (codes "A")) (one (simple.none 1)))))) 3 3 0 ≡ Some 4
unfolding unquoted
classes_reach_themselves = refl

widths_need_types : class_width (taken (reaching None)) 3 3 0 ≡ None
widths_need_types = refl

-- a method of the class of the number 0
abbrev method : List ℕ → FunctionOf
method x = record { line = 7; name = x; parameters = parameter (codes "self") None ∷ parameter (codes "z") (Some int) ∷ []; body = pass; class = Some 0 }

abbrev width : List ℕ → Option ℕ
width x = width_of 3 (class_width (taken (reaching (Some (plain (codes "str"))))) 3 3) (signature (reaching (Some (plain (codes "str")))) [] 0 (method x))

methods_count_their_objects : width (codes "m") ≡ Some 6
unfolding unquoted
methods_count_their_objects = refl

constructors_do_not : width (codes "__init__") ≡ Some 1
unfolding unquoted
constructors_do_not = refl

greatest_width_is_admitted : is_wider greatest_width (Some 4096) ≡ false
greatest_width_is_admitted = refl

abbrev seven : ValueType
seven = list_of (list_of (list_of (list_of (list_of (list_of (list_of integer))))))

seven_lists_are_narrow_enough : width_in 3 (λ c. None) seven ≡ Some 3280
seven_lists_are_narrow_enough = refl

eight_lists_are_too_wide : is_wider greatest_width (width_in 3 (λ c. None) (list_of seven)) ≡ true
eight_lists_are_too_wide = refl
