-- What a few short texts are read as, and what is no text of the grammar.
use Rattle.std.proofs.Common.{◌≡◌, ℕ, false, List, [], ◌∷◌, Some, None, refl}
use Rattle.spec_trees.specs.declared.Operator.TheVariants as operator
use Rattle.spec_trees.specs.declared.Prefix.TheVariants as prefix
use Rattle.spec_trees.specs.Expr.{name, integer, text, group, dict, attribute, call, index, slice, prefixed, binary, chain, choice, generator, generated, listed, no_arguments, argument, absent, present, no_links, link, no_exprs, item, no_pairs, pair, StringPart}
use Rattle.spec_trees.specs.Stmt as tree
use Rattle.spec_trees.specs.Stmt.{TypeExpr, no_types, type_item, Line}
use Rattle.spec_grammar.specs.declared.Mark.TheVariants as mark
use Rattle.spec_grammar.specs.Words.{Name, Int, Str, Sign}
use Rattle.spec_grammar.specs.Reading.{chain_with, links_with, conditions_with, generator_with, arg_with, args_with, arguments_with, slice_with, subscript_with, suffixes_with, items_with, list_with, pair_with, pairs_with, dict_with, group_with, signed_with, strings_onto, atom_with, prim_with, level_with, expr_with, below, read_expr, expr_of}
use Rattle.spec_grammar.specs.TypeReading.{type_arguments_with, type_atom_with, members_with, type_with, type_below, read_type, type_of}
use Rattle.spec_grammar.specs.StatementReading.{read_prim, read_arguments, read_target, read_value, more_names, read_names, read_bracketed, read_imported, evaluate_of, annotate_of, targeted_of, unmarked_of, return_of, alone, message_of, assert_of, raised_of, raise_of, delete_of, import_of, from_of, marked_of, simple_of}
use Rattle.spec_grammar.specs.HeaderReading.{type_behind, read_parameter, parameters_with, def_of, class_of, condition_of, for_of, read_caught, except_of, headed_of, read_header, headed_line, read_line}
use Rattle.spec_grammar.specs.Load.{load}

-- names of one letter
abbrev a : List ℕ
a = 97 ∷ []

abbrev b : List ℕ
b = 98 ∷ []

abbrev c : List ℕ
c = 99 ∷ []

abbrev f : List ℕ
f = 102 ∷ []

-- strings of one letter
abbrev part_p : StringPart
part_p = record { value = 112 ∷ []; source = 112 ∷ []; raw = false; indent = 0; line = 1 }

abbrev part_q : StringPart
part_q = record { value = 113 ∷ []; source = 113 ∷ []; raw = false; indent = 0; line = 1 }

-- a - b - c
groups_left : expr_of (Name 1 a ∷ Sign 1 mark.Minus ∷ Name 1 b ∷ Sign 1 mark.Minus ∷ Name 1 c ∷ []) ≡ Some (binary 1 operator.Subtract (binary 1 operator.Subtract (name 1 a) (name 1 b)) (name 1 c))
unfolding chain_with links_with conditions_with generator_with arg_with args_with arguments_with slice_with subscript_with suffixes_with items_with list_with pair_with pairs_with dict_with group_with signed_with strings_onto atom_with prim_with level_with expr_with below read_expr
groups_left = refl

-- a - b * c
binds_tighter : expr_of (Name 1 a ∷ Sign 1 mark.Minus ∷ Name 1 b ∷ Sign 1 mark.Star ∷ Name 1 c ∷ []) ≡ Some (binary 1 operator.Subtract (name 1 a) (binary 1 operator.Multiply (name 1 b) (name 1 c)))
unfolding chain_with links_with conditions_with generator_with arg_with args_with arguments_with slice_with subscript_with suffixes_with items_with list_with pair_with pairs_with dict_with group_with signed_with strings_onto atom_with prim_with level_with expr_with below read_expr
binds_tighter = refl

-- -a * b
prefix_first : expr_of (Sign 1 mark.Minus ∷ Name 1 a ∷ Sign 1 mark.Star ∷ Name 1 b ∷ []) ≡ Some (binary 1 operator.Multiply (prefixed 1 prefix.Minus (name 1 a)) (name 1 b))
unfolding chain_with links_with conditions_with generator_with arg_with args_with arguments_with slice_with subscript_with suffixes_with items_with list_with pair_with pairs_with dict_with group_with signed_with strings_onto atom_with prim_with level_with expr_with below read_expr
prefix_first = refl

-- not a in b
not_behind : expr_of (Sign 1 mark.Not ∷ Name 1 a ∷ Sign 1 mark.In ∷ Name 1 b ∷ []) ≡ Some (prefixed 1 prefix.Not (chain 1 (name 1 a) (link operator.In (name 1 b) no_links)))
unfolding chain_with links_with conditions_with generator_with arg_with args_with arguments_with slice_with subscript_with suffixes_with items_with list_with pair_with pairs_with dict_with group_with signed_with strings_onto atom_with prim_with level_with expr_with below read_expr
not_behind = refl

-- a < b is not c
one_chain : expr_of (Name 1 a ∷ Sign 1 mark.Less ∷ Name 1 b ∷ Sign 1 mark.Is ∷ Sign 1 mark.Not ∷ Name 1 c ∷ []) ≡ Some (chain 1 (name 1 a) (link operator.Less (name 1 b) (link operator.IsNot (name 1 c) no_links)))
unfolding chain_with links_with conditions_with generator_with arg_with args_with arguments_with slice_with subscript_with suffixes_with items_with list_with pair_with pairs_with dict_with group_with signed_with strings_onto atom_with prim_with level_with expr_with below read_expr
one_chain = refl

-- a or b and c
two_chains : expr_of (Name 1 a ∷ Sign 1 mark.Or ∷ Name 1 b ∷ Sign 1 mark.And ∷ Name 1 c ∷ []) ≡ Some (chain 1 (name 1 a) (link operator.Or (chain 1 (name 1 b) (link operator.And (name 1 c) no_links)) no_links))
unfolding chain_with links_with conditions_with generator_with arg_with args_with arguments_with slice_with subscript_with suffixes_with items_with list_with pair_with pairs_with dict_with group_with signed_with strings_onto atom_with prim_with level_with expr_with below read_expr
two_chains = refl

-- a if b else c
conditional : expr_of (Name 1 a ∷ Sign 1 mark.If ∷ Name 1 b ∷ Sign 1 mark.Else ∷ Name 1 c ∷ []) ≡ Some (choice 1 (name 1 a) (name 1 b) (name 1 c))
unfolding chain_with links_with conditions_with generator_with arg_with args_with arguments_with slice_with subscript_with suffixes_with items_with list_with pair_with pairs_with dict_with group_with signed_with strings_onto atom_with prim_with level_with expr_with below read_expr
conditional = refl

-- a[1:]
from_one : expr_of (Name 1 a ∷ Sign 1 mark.OpenBracket ∷ Int 1 1 ∷ Sign 1 mark.Colon ∷ Sign 1 mark.CloseBracket ∷ []) ≡ Some (slice 1 (name 1 a) (present (integer 1 1)) absent)
unfolding chain_with links_with conditions_with generator_with arg_with args_with arguments_with slice_with subscript_with suffixes_with items_with list_with pair_with pairs_with dict_with group_with signed_with strings_onto atom_with prim_with level_with expr_with below read_expr
from_one = refl

-- a[:]
any_slice : expr_of (Name 1 a ∷ Sign 1 mark.OpenBracket ∷ Sign 1 mark.Colon ∷ Sign 1 mark.CloseBracket ∷ []) ≡ Some (slice 1 (name 1 a) absent absent)
unfolding chain_with links_with conditions_with generator_with arg_with args_with arguments_with slice_with subscript_with suffixes_with items_with list_with pair_with pairs_with dict_with group_with signed_with strings_onto atom_with prim_with level_with expr_with below read_expr
any_slice = refl

-- f(a for b in c if a)
in_a_call : expr_of (Name 1 f ∷ Sign 1 mark.OpenParen ∷ Name 1 a ∷ Sign 1 mark.For ∷ Name 1 b ∷ Sign 1 mark.In ∷ Name 1 c ∷ Sign 1 mark.If ∷ Name 1 a ∷ Sign 1 mark.CloseParen ∷ []) ≡ Some (call 1 (name 1 f) (generated (generator (name 1 a) b (name 1 c) (item (name 1 a) no_exprs))))
unfolding chain_with links_with conditions_with generator_with arg_with args_with arguments_with slice_with subscript_with suffixes_with items_with list_with pair_with pairs_with dict_with group_with signed_with strings_onto atom_with prim_with level_with expr_with below read_expr
in_a_call = refl

-- f(a, b=1,)
keyword_last : expr_of (Name 1 f ∷ Sign 1 mark.OpenParen ∷ Name 1 a ∷ Sign 1 mark.Comma ∷ Name 1 b ∷ Sign 1 mark.Assign ∷ Int 1 1 ∷ Sign 1 mark.Comma ∷ Sign 1 mark.CloseParen ∷ []) ≡ Some (call 1 (name 1 f) (listed (argument None (name 1 a) (argument (Some b) (integer 1 1) no_arguments))))
unfolding chain_with links_with conditions_with generator_with arg_with args_with arguments_with slice_with subscript_with suffixes_with items_with list_with pair_with pairs_with dict_with group_with signed_with strings_onto atom_with prim_with level_with expr_with below read_expr
keyword_last = refl

-- ( a ).b
first_line : expr_of (Sign 1 mark.OpenParen ∷ Name 2 a ∷ Sign 3 mark.CloseParen ∷ Sign 3 mark.Dot ∷ Name 3 b ∷ []) ≡ Some (attribute 1 (group 1 (name 2 a)) b)
unfolding chain_with links_with conditions_with generator_with arg_with args_with arguments_with slice_with subscript_with suffixes_with items_with list_with pair_with pairs_with dict_with group_with signed_with strings_onto atom_with prim_with level_with expr_with below read_expr
first_line = refl

-- "p" "q"
joined_texts : expr_of (Str part_p ∷ Str part_q ∷ []) ≡ Some (text 1 part_p (part_q ∷ []))
unfolding chain_with links_with conditions_with generator_with arg_with args_with arguments_with slice_with subscript_with suffixes_with items_with list_with pair_with pairs_with dict_with group_with signed_with strings_onto atom_with prim_with level_with expr_with below read_expr
joined_texts = refl

-- {a: 1, b: 2}
pairs_in_order : expr_of (Sign 1 mark.OpenBrace ∷ Name 1 a ∷ Sign 1 mark.Colon ∷ Int 1 1 ∷ Sign 1 mark.Comma ∷ Name 1 b ∷ Sign 1 mark.Colon ∷ Int 1 2 ∷ Sign 1 mark.CloseBrace ∷ []) ≡ Some (dict 1 (pair (name 1 a) (integer 1 1) (pair (name 1 b) (integer 1 2) no_pairs)))
unfolding chain_with links_with conditions_with generator_with arg_with args_with arguments_with slice_with subscript_with suffixes_with items_with list_with pair_with pairs_with dict_with group_with signed_with strings_onto atom_with prim_with level_with expr_with below read_expr
pairs_in_order = refl

-- f(a=1, 2)
keyword_first : expr_of (Name 1 f ∷ Sign 1 mark.OpenParen ∷ Name 1 a ∷ Sign 1 mark.Assign ∷ Int 1 1 ∷ Sign 1 mark.Comma ∷ Int 1 2 ∷ Sign 1 mark.CloseParen ∷ []) ≡ None
unfolding chain_with links_with conditions_with generator_with arg_with args_with arguments_with slice_with subscript_with suffixes_with items_with list_with pair_with pairs_with dict_with group_with signed_with strings_onto atom_with prim_with level_with expr_with below read_expr
keyword_first = refl

-- f(a, b for b in c)
second_generator : expr_of (Name 1 f ∷ Sign 1 mark.OpenParen ∷ Name 1 a ∷ Sign 1 mark.Comma ∷ Name 1 b ∷ Sign 1 mark.For ∷ Name 1 b ∷ Sign 1 mark.In ∷ Name 1 c ∷ Sign 1 mark.CloseParen ∷ []) ≡ None
unfolding chain_with links_with conditions_with generator_with arg_with args_with arguments_with slice_with subscript_with suffixes_with items_with list_with pair_with pairs_with dict_with group_with signed_with strings_onto atom_with prim_with level_with expr_with below read_expr
second_generator = refl

-- f(a for a in b,)
comma_behind_generator : expr_of (Name 1 f ∷ Sign 1 mark.OpenParen ∷ Name 1 a ∷ Sign 1 mark.For ∷ Name 1 a ∷ Sign 1 mark.In ∷ Name 1 b ∷ Sign 1 mark.Comma ∷ Sign 1 mark.CloseParen ∷ []) ≡ None
unfolding chain_with links_with conditions_with generator_with arg_with args_with arguments_with slice_with subscript_with suffixes_with items_with list_with pair_with pairs_with dict_with group_with signed_with strings_onto atom_with prim_with level_with expr_with below read_expr
comma_behind_generator = refl

-- a < not b
no_not_operand : expr_of (Name 1 a ∷ Sign 1 mark.Less ∷ Sign 1 mark.Not ∷ Name 1 b ∷ []) ≡ None
unfolding chain_with links_with conditions_with generator_with arg_with args_with arguments_with slice_with subscript_with suffixes_with items_with list_with pair_with pairs_with dict_with group_with signed_with strings_onto atom_with prim_with level_with expr_with below read_expr
no_not_operand = refl

-- a[]
no_empty_index : expr_of (Name 1 a ∷ Sign 1 mark.OpenBracket ∷ Sign 1 mark.CloseBracket ∷ []) ≡ None
unfolding chain_with links_with conditions_with generator_with arg_with args_with arguments_with slice_with subscript_with suffixes_with items_with list_with pair_with pairs_with dict_with group_with signed_with strings_onto atom_with prim_with level_with expr_with below read_expr
no_empty_index = refl

-- (a, b)
no_tuple : expr_of (Sign 1 mark.OpenParen ∷ Name 1 a ∷ Sign 1 mark.Comma ∷ Name 1 b ∷ Sign 1 mark.CloseParen ∷ []) ≡ None
unfolding chain_with links_with conditions_with generator_with arg_with args_with arguments_with slice_with subscript_with suffixes_with items_with list_with pair_with pairs_with dict_with group_with signed_with strings_onto atom_with prim_with level_with expr_with below read_expr
no_tuple = refl

-- a if b
no_else : expr_of (Name 1 a ∷ Sign 1 mark.If ∷ Name 1 b ∷ []) ≡ None
unfolding chain_with links_with conditions_with generator_with arg_with args_with arguments_with slice_with subscript_with suffixes_with items_with list_with pair_with pairs_with dict_with group_with signed_with strings_onto atom_with prim_with level_with expr_with below read_expr
no_else = refl

-- a "p"
no_text_behind_name : expr_of (Name 1 a ∷ Str part_p ∷ []) ≡ None
unfolding chain_with links_with conditions_with generator_with arg_with args_with arguments_with slice_with subscript_with suffixes_with items_with list_with pair_with pairs_with dict_with group_with signed_with strings_onto atom_with prim_with level_with expr_with below read_expr
no_text_behind_name = refl

-- a[b, c] | None
of_two : type_of (Name 1 a ∷ Sign 1 mark.OpenBracket ∷ Name 1 b ∷ Sign 1 mark.Comma ∷ Name 1 c ∷ Sign 1 mark.CloseBracket ∷ Sign 1 mark.Bar ∷ Sign 1 mark.None ∷ []) ≡ Some (tree.union 1 (tree.name 1 a (type_item (tree.name 1 b no_types) (type_item (tree.name 1 c no_types) no_types))) (type_item (tree.none 1) no_types))
unfolding type_arguments_with type_atom_with members_with type_with type_below read_type
of_two = refl

-- a[]
no_arguments_in_brackets : type_of (Name 1 a ∷ Sign 1 mark.OpenBracket ∷ Sign 1 mark.CloseBracket ∷ []) ≡ None
unfolding type_arguments_with type_atom_with members_with type_with type_below read_type
no_arguments_in_brackets = refl

-- a = b
assigned : read_line (Name 1 a ∷ Sign 1 mark.Assign ∷ Name 1 b ∷ []) ≡ Some (tree.simple (tree.assign 1 (name 1 a) (name 1 b)))
unfolding chain_with links_with conditions_with generator_with arg_with args_with arguments_with slice_with subscript_with suffixes_with items_with list_with pair_with pairs_with dict_with group_with signed_with strings_onto atom_with prim_with level_with expr_with below read_expr type_arguments_with type_atom_with members_with type_with type_below read_type read_prim read_arguments read_target read_value more_names read_names read_bracketed read_imported evaluate_of annotate_of targeted_of unmarked_of return_of alone message_of assert_of raised_of raise_of delete_of import_of from_of marked_of simple_of type_behind read_parameter parameters_with def_of class_of condition_of for_of read_caught except_of headed_of read_header headed_line read_line
assigned = refl

-- a.b: c = 1
annotated : read_line (Name 1 a ∷ Sign 1 mark.Dot ∷ Name 1 b ∷ Sign 1 mark.Colon ∷ Name 1 c ∷ Sign 1 mark.Assign ∷ Int 1 1 ∷ []) ≡ Some (tree.simple (tree.annotate 1 (attribute 1 (name 1 a) b) (tree.name 1 c no_types) (Some (integer 1 1))))
unfolding chain_with links_with conditions_with generator_with arg_with args_with arguments_with slice_with subscript_with suffixes_with items_with list_with pair_with pairs_with dict_with group_with signed_with strings_onto atom_with prim_with level_with expr_with below read_expr type_arguments_with type_atom_with members_with type_with type_below read_type read_prim read_arguments read_target read_value more_names read_names read_bracketed read_imported evaluate_of annotate_of targeted_of unmarked_of return_of alone message_of assert_of raised_of raise_of delete_of import_of from_of marked_of simple_of type_behind read_parameter parameters_with def_of class_of condition_of for_of read_caught except_of headed_of read_header headed_line read_line
annotated = refl

-- a[b] += c
augmented : read_line (Name 1 a ∷ Sign 1 mark.OpenBracket ∷ Name 1 b ∷ Sign 1 mark.CloseBracket ∷ Sign 1 mark.PlusAssign ∷ Name 1 c ∷ []) ≡ Some (tree.simple (tree.augment 1 (index 1 (name 1 a) (name 1 b)) operator.Add (name 1 c)))
unfolding chain_with links_with conditions_with generator_with arg_with args_with arguments_with slice_with subscript_with suffixes_with items_with list_with pair_with pairs_with dict_with group_with signed_with strings_onto atom_with prim_with level_with expr_with below read_expr type_arguments_with type_atom_with members_with type_with type_below read_type read_prim read_arguments read_target read_value more_names read_names read_bracketed read_imported evaluate_of annotate_of targeted_of unmarked_of return_of alone message_of assert_of raised_of raise_of delete_of import_of from_of marked_of simple_of type_behind read_parameter parameters_with def_of class_of condition_of for_of read_caught except_of headed_of read_header headed_line read_line
augmented = refl

-- a == b
compared : read_line (Name 1 a ∷ Sign 1 mark.Equal ∷ Name 1 b ∷ []) ≡ Some (tree.simple (tree.evaluate 1 (chain 1 (name 1 a) (link operator.Equal (name 1 b) no_links))))
unfolding chain_with links_with conditions_with generator_with arg_with args_with arguments_with slice_with subscript_with suffixes_with items_with list_with pair_with pairs_with dict_with group_with signed_with strings_onto atom_with prim_with level_with expr_with below read_expr type_arguments_with type_atom_with members_with type_with type_below read_type read_prim read_arguments read_target read_value more_names read_names read_bracketed read_imported evaluate_of annotate_of targeted_of unmarked_of return_of alone message_of assert_of raised_of raise_of delete_of import_of from_of marked_of simple_of type_behind read_parameter parameters_with def_of class_of condition_of for_of read_caught except_of headed_of read_header headed_line read_line
compared = refl

-- raise a(b)
raised : read_line (Sign 1 mark.Raise ∷ Name 1 a ∷ Sign 1 mark.OpenParen ∷ Name 1 b ∷ Sign 1 mark.CloseParen ∷ []) ≡ Some (tree.simple (tree.raise 1 a (Some (listed (argument None (name 1 b) no_arguments)))))
unfolding chain_with links_with conditions_with generator_with arg_with args_with arguments_with slice_with subscript_with suffixes_with items_with list_with pair_with pairs_with dict_with group_with signed_with strings_onto atom_with prim_with level_with expr_with below read_expr type_arguments_with type_atom_with members_with type_with type_below read_type read_prim read_arguments read_target read_value more_names read_names read_bracketed read_imported evaluate_of annotate_of targeted_of unmarked_of return_of alone message_of assert_of raised_of raise_of delete_of import_of from_of marked_of simple_of type_behind read_parameter parameters_with def_of class_of condition_of for_of read_caught except_of headed_of read_header headed_line read_line
raised = refl

-- del a[b]
deleted : read_line (Sign 1 mark.Del ∷ Name 1 a ∷ Sign 1 mark.OpenBracket ∷ Name 1 b ∷ Sign 1 mark.CloseBracket ∷ []) ≡ Some (tree.simple (tree.delete 1 (index 1 (name 1 a) (name 1 b))))
unfolding chain_with links_with conditions_with generator_with arg_with args_with arguments_with slice_with subscript_with suffixes_with items_with list_with pair_with pairs_with dict_with group_with signed_with strings_onto atom_with prim_with level_with expr_with below read_expr type_arguments_with type_atom_with members_with type_with type_below read_type read_prim read_arguments read_target read_value more_names read_names read_bracketed read_imported evaluate_of annotate_of targeted_of unmarked_of return_of alone message_of assert_of raised_of raise_of delete_of import_of from_of marked_of simple_of type_behind read_parameter parameters_with def_of class_of condition_of for_of read_caught except_of headed_of read_header headed_line read_line
deleted = refl

-- from a import (b, c,)
imported : read_line (Sign 1 mark.From ∷ Name 1 a ∷ Sign 1 mark.Import ∷ Sign 1 mark.OpenParen ∷ Name 1 b ∷ Sign 1 mark.Comma ∷ Name 1 c ∷ Sign 1 mark.Comma ∷ Sign 1 mark.CloseParen ∷ []) ≡ Some (tree.simple (tree.import_from 1 a (b ∷ c ∷ [])))
unfolding chain_with links_with conditions_with generator_with arg_with args_with arguments_with slice_with subscript_with suffixes_with items_with list_with pair_with pairs_with dict_with group_with signed_with strings_onto atom_with prim_with level_with expr_with below read_expr type_arguments_with type_atom_with members_with type_with type_below read_type read_prim read_arguments read_target read_value more_names read_names read_bracketed read_imported evaluate_of annotate_of targeted_of unmarked_of return_of alone message_of assert_of raised_of raise_of delete_of import_of from_of marked_of simple_of type_behind read_parameter parameters_with def_of class_of condition_of for_of read_caught except_of headed_of read_header headed_line read_line
imported = refl

-- if a: pass
with_its_block : read_line (Sign 1 mark.If ∷ Name 1 a ∷ Sign 1 mark.Colon ∷ Sign 1 mark.Pass ∷ []) ≡ Some (tree.header_simple (tree.if 1 (name 1 a)) (tree.pass 1))
unfolding chain_with links_with conditions_with generator_with arg_with args_with arguments_with slice_with subscript_with suffixes_with items_with list_with pair_with pairs_with dict_with group_with signed_with strings_onto atom_with prim_with level_with expr_with below read_expr type_arguments_with type_atom_with members_with type_with type_below read_type read_prim read_arguments read_target read_value more_names read_names read_bracketed read_imported evaluate_of annotate_of targeted_of unmarked_of return_of alone message_of assert_of raised_of raise_of delete_of import_of from_of marked_of simple_of type_behind read_parameter parameters_with def_of class_of condition_of for_of read_caught except_of headed_of read_header headed_line read_line
with_its_block = refl

-- def f(a: b, c=1,) -> b:
defined : read_line (Sign 1 mark.Def ∷ Name 1 f ∷ Sign 1 mark.OpenParen ∷ Name 1 a ∷ Sign 1 mark.Colon ∷ Name 1 b ∷ Sign 1 mark.Comma ∷ Name 1 c ∷ Sign 1 mark.Assign ∷ Int 1 1 ∷ Sign 1 mark.Comma ∷ Sign 1 mark.CloseParen ∷ Sign 1 mark.Arrow ∷ Name 1 b ∷ Sign 1 mark.Colon ∷ []) ≡ Some (tree.header (tree.def 1 f (record { name = a; annotation = Some (tree.name 1 b no_types); default = None } ∷ record { name = c; annotation = None; default = Some (integer 1 1) } ∷ []) (Some (tree.name 1 b no_types))))
unfolding chain_with links_with conditions_with generator_with arg_with args_with arguments_with slice_with subscript_with suffixes_with items_with list_with pair_with pairs_with dict_with group_with signed_with strings_onto atom_with prim_with level_with expr_with below read_expr type_arguments_with type_atom_with members_with type_with type_below read_type read_prim read_arguments read_target read_value more_names read_names read_bracketed read_imported evaluate_of annotate_of targeted_of unmarked_of return_of alone message_of assert_of raised_of raise_of delete_of import_of from_of marked_of simple_of type_behind read_parameter parameters_with def_of class_of condition_of for_of read_caught except_of headed_of read_header headed_line read_line
defined = refl

-- except (a, b):
caught : read_line (Sign 1 mark.Except ∷ Sign 1 mark.OpenParen ∷ Name 1 a ∷ Sign 1 mark.Comma ∷ Name 1 b ∷ Sign 1 mark.CloseParen ∷ Sign 1 mark.Colon ∷ []) ≡ Some (tree.header (tree.except 1 (a ∷ b ∷ [])))
unfolding chain_with links_with conditions_with generator_with arg_with args_with arguments_with slice_with subscript_with suffixes_with items_with list_with pair_with pairs_with dict_with group_with signed_with strings_onto atom_with prim_with level_with expr_with below read_expr type_arguments_with type_atom_with members_with type_with type_below read_type read_prim read_arguments read_target read_value more_names read_names read_bracketed read_imported evaluate_of annotate_of targeted_of unmarked_of return_of alone message_of assert_of raised_of raise_of delete_of import_of from_of marked_of simple_of type_behind read_parameter parameters_with def_of class_of condition_of for_of read_caught except_of headed_of read_header headed_line read_line
caught = refl

-- (a) = 1
no_group_target : read_line (Sign 1 mark.OpenParen ∷ Name 1 a ∷ Sign 1 mark.CloseParen ∷ Sign 1 mark.Assign ∷ Int 1 1 ∷ []) ≡ None
unfolding chain_with links_with conditions_with generator_with arg_with args_with arguments_with slice_with subscript_with suffixes_with items_with list_with pair_with pairs_with dict_with group_with signed_with strings_onto atom_with prim_with level_with expr_with below read_expr type_arguments_with type_atom_with members_with type_with type_below read_type read_prim read_arguments read_target read_value more_names read_names read_bracketed read_imported evaluate_of annotate_of targeted_of unmarked_of return_of alone message_of assert_of raised_of raise_of delete_of import_of from_of marked_of simple_of type_behind read_parameter parameters_with def_of class_of condition_of for_of read_caught except_of headed_of read_header headed_line read_line
no_group_target = refl

-- del (a[b])
no_group_deleted : read_line (Sign 1 mark.Del ∷ Sign 1 mark.OpenParen ∷ Name 1 a ∷ Sign 1 mark.OpenBracket ∷ Name 1 b ∷ Sign 1 mark.CloseBracket ∷ Sign 1 mark.CloseParen ∷ []) ≡ None
unfolding chain_with links_with conditions_with generator_with arg_with args_with arguments_with slice_with subscript_with suffixes_with items_with list_with pair_with pairs_with dict_with group_with signed_with strings_onto atom_with prim_with level_with expr_with below read_expr type_arguments_with type_atom_with members_with type_with type_below read_type read_prim read_arguments read_target read_value more_names read_names read_bracketed read_imported evaluate_of annotate_of targeted_of unmarked_of return_of alone message_of assert_of raised_of raise_of delete_of import_of from_of marked_of simple_of type_behind read_parameter parameters_with def_of class_of condition_of for_of read_caught except_of headed_of read_header headed_line read_line
no_group_deleted = refl

-- f(a) = 1
no_call_target : read_line (Name 1 f ∷ Sign 1 mark.OpenParen ∷ Name 1 a ∷ Sign 1 mark.CloseParen ∷ Sign 1 mark.Assign ∷ Int 1 1 ∷ []) ≡ None
unfolding chain_with links_with conditions_with generator_with arg_with args_with arguments_with slice_with subscript_with suffixes_with items_with list_with pair_with pairs_with dict_with group_with signed_with strings_onto atom_with prim_with level_with expr_with below read_expr type_arguments_with type_atom_with members_with type_with type_below read_type read_prim read_arguments read_target read_value more_names read_names read_bracketed read_imported evaluate_of annotate_of targeted_of unmarked_of return_of alone message_of assert_of raised_of raise_of delete_of import_of from_of marked_of simple_of type_behind read_parameter parameters_with def_of class_of condition_of for_of read_caught except_of headed_of read_header headed_line read_line
no_call_target = refl

-- a = b = c
no_two_targets : read_line (Name 1 a ∷ Sign 1 mark.Assign ∷ Name 1 b ∷ Sign 1 mark.Assign ∷ Name 1 c ∷ []) ≡ None
unfolding chain_with links_with conditions_with generator_with arg_with args_with arguments_with slice_with subscript_with suffixes_with items_with list_with pair_with pairs_with dict_with group_with signed_with strings_onto atom_with prim_with level_with expr_with below read_expr type_arguments_with type_atom_with members_with type_with type_below read_type read_prim read_arguments read_target read_value more_names read_names read_bracketed read_imported evaluate_of annotate_of targeted_of unmarked_of return_of alone message_of assert_of raised_of raise_of delete_of import_of from_of marked_of simple_of type_behind read_parameter parameters_with def_of class_of condition_of for_of read_caught except_of headed_of read_header headed_line read_line
no_two_targets = refl

-- del a[1:]
no_slice_deleted : read_line (Sign 1 mark.Del ∷ Name 1 a ∷ Sign 1 mark.OpenBracket ∷ Int 1 1 ∷ Sign 1 mark.Colon ∷ Sign 1 mark.CloseBracket ∷ []) ≡ None
unfolding chain_with links_with conditions_with generator_with arg_with args_with arguments_with slice_with subscript_with suffixes_with items_with list_with pair_with pairs_with dict_with group_with signed_with strings_onto atom_with prim_with level_with expr_with below read_expr type_arguments_with type_atom_with members_with type_with type_below read_type read_prim read_arguments read_target read_value more_names read_names read_bracketed read_imported evaluate_of annotate_of targeted_of unmarked_of return_of alone message_of assert_of raised_of raise_of delete_of import_of from_of marked_of simple_of type_behind read_parameter parameters_with def_of class_of condition_of for_of read_caught except_of headed_of read_header headed_line read_line
no_slice_deleted = refl

-- from a import ()
no_empty_import : read_line (Sign 1 mark.From ∷ Name 1 a ∷ Sign 1 mark.Import ∷ Sign 1 mark.OpenParen ∷ Sign 1 mark.CloseParen ∷ []) ≡ None
unfolding chain_with links_with conditions_with generator_with arg_with args_with arguments_with slice_with subscript_with suffixes_with items_with list_with pair_with pairs_with dict_with group_with signed_with strings_onto atom_with prim_with level_with expr_with below read_expr type_arguments_with type_atom_with members_with type_with type_below read_type read_prim read_arguments read_target read_value more_names read_names read_bracketed read_imported evaluate_of annotate_of targeted_of unmarked_of return_of alone message_of assert_of raised_of raise_of delete_of import_of from_of marked_of simple_of type_behind read_parameter parameters_with def_of class_of condition_of for_of read_caught except_of headed_of read_header headed_line read_line
no_empty_import = refl

-- if a: if b: pass
no_header_twice : read_line (Sign 1 mark.If ∷ Name 1 a ∷ Sign 1 mark.Colon ∷ Sign 1 mark.If ∷ Name 1 b ∷ Sign 1 mark.Colon ∷ Sign 1 mark.Pass ∷ []) ≡ None
unfolding chain_with links_with conditions_with generator_with arg_with args_with arguments_with slice_with subscript_with suffixes_with items_with list_with pair_with pairs_with dict_with group_with signed_with strings_onto atom_with prim_with level_with expr_with below read_expr type_arguments_with type_atom_with members_with type_with type_below read_type read_prim read_arguments read_target read_value more_names read_names read_bracketed read_imported evaluate_of annotate_of targeted_of unmarked_of return_of alone message_of assert_of raised_of raise_of delete_of import_of from_of marked_of simple_of type_behind read_parameter parameters_with def_of class_of condition_of for_of read_caught except_of headed_of read_header headed_line read_line
no_header_twice = refl

-- no word
no_nothing : read_line ([]) ≡ None
unfolding chain_with links_with conditions_with generator_with arg_with args_with arguments_with slice_with subscript_with suffixes_with items_with list_with pair_with pairs_with dict_with group_with signed_with strings_onto atom_with prim_with level_with expr_with below read_expr type_arguments_with type_atom_with members_with type_with type_below read_type read_prim read_arguments read_target read_value more_names read_names read_bracketed read_imported evaluate_of annotate_of targeted_of unmarked_of return_of alone message_of assert_of raised_of raise_of delete_of import_of from_of marked_of simple_of type_behind read_parameter parameters_with def_of class_of condition_of for_of read_caught except_of headed_of read_header headed_line read_line
no_nothing = refl

-- - - a
load_of_prefixes : load (Sign 1 mark.Minus ∷ Sign 1 mark.Minus ∷ Name 1 a ∷ []) ≡ 2
load_of_prefixes = refl

-- f(a, (b), [c
load_of_brackets : load (Name 1 f ∷ Sign 1 mark.OpenParen ∷ Name 1 a ∷ Sign 1 mark.Comma ∷ Sign 1 mark.OpenParen ∷ Name 1 b ∷ Sign 1 mark.CloseParen ∷ Sign 1 mark.Comma ∷ Sign 1 mark.OpenBracket ∷ Name 1 c ∷ []) ≡ 2
load_of_brackets = refl

-- f(not a, b, not c)
load_behind_comma : load (Name 1 f ∷ Sign 1 mark.OpenParen ∷ Sign 1 mark.Not ∷ Name 1 a ∷ Sign 1 mark.Comma ∷ Name 1 b ∷ Sign 1 mark.Comma ∷ Sign 1 mark.Not ∷ Name 1 c ∷ Sign 1 mark.CloseParen ∷ []) ≡ 2
load_behind_comma = refl

-- (a)
load_of_group : load (Sign 1 mark.OpenParen ∷ Name 1 a ∷ Sign 1 mark.CloseParen ∷ []) ≡ 1
load_of_group = refl
