-- What a few short texts are, by the words of their lines.
use Rattle.std.proofs.Common.{◌≡◌, ℕ, zero, suc, List, [], ◌∷◌, ◌++◌, None, Result, Ok, Err, refl, replicate}
use Rattle.spec_trees.specs.Expr.{name}
use Rattle.spec_trees.specs.Stmt as line
use Rattle.spec_trees.specs.Stmt.{Line}
use Rattle.spec_trees.specs.Module as tree
use Rattle.spec_trees.specs.Module.{Block, no_statement, statement, no_branch, branch, no_handler, handler}
use Rattle.spec_grammar.specs.declared.Mark.{Mark}
use Rattle.spec_grammar.specs.declared.Mark.TheVariants as mark
use Rattle.spec_grammar.specs.Words.{Word, Name, Sign}
use Rattle.spec_grammar.specs.Blocks.{PlacedLine}
use Rattle.spec_grammar.specs.Reading.{chain_with, links_with, conditions_with, generator_with, arg_with, args_with, arguments_with, slice_with, subscript_with, suffixes_with, items_with, list_with, pair_with, pairs_with, dict_with, group_with, signed_with, strings_onto, atom_with, prim_with, level_with, expr_with, below, read_expr}
use Rattle.spec_grammar.specs.TypeReading.{type_arguments_with, type_atom_with, members_with, type_with, type_below, read_type}
use Rattle.spec_grammar.specs.StatementReading.{read_prim, read_arguments, read_target, read_value, more_names, read_names, read_bracketed, read_imported, evaluate_of, annotate_of, targeted_of, unmarked_of, return_of, alone, message_of, assert_of, raised_of, raise_of, delete_of, import_of, from_of, marked_of, simple_of}
use Rattle.spec_grammar.specs.HeaderReading.{type_behind, read_parameter, parameters_with, def_of, class_of, condition_of, for_of, read_caught, except_of, headed_of, read_header, headed_line, read_line}
use Rattle.spec_grammar.specs.BlockReading.{block_with, body_with, branches_with, handlers_with, else_with, tried_with, headed_with, placed_with, statement_with, statement_below, module_of}
use Rattle.spec_syntax.specs.Lines.{WordLine}
use Rattle.spec_syntax.specs.Placement.{faults_among, placement_faults}
use Rattle.spec_syntax.specs.Phases.{Misfit, too_deep, no_line, misplaced, first_overloaded, read_lines, first_deep, first_misplaced, parsed}

-- what a text is
told : List WordLine → Result Block Misfit
unfolding chain_with links_with conditions_with generator_with arg_with args_with arguments_with slice_with subscript_with suffixes_with items_with list_with pair_with pairs_with dict_with group_with signed_with strings_onto atom_with prim_with level_with expr_with below read_expr type_arguments_with type_atom_with members_with type_with type_below read_type read_prim read_arguments read_target read_value more_names read_names read_bracketed read_imported evaluate_of annotate_of targeted_of unmarked_of return_of alone message_of assert_of raised_of raise_of delete_of import_of from_of marked_of simple_of type_behind read_parameter parameters_with def_of class_of condition_of for_of read_caught except_of headed_of read_header headed_line read_line block_with body_with branches_with handlers_with else_with tried_with headed_with placed_with statement_with statement_below module_of first_overloaded read_lines first_deep first_misplaced faults_among parsed
told ls = parsed ls

-- all places of faults
faults : List PlacedLine → List ℕ
unfolding faults_among
faults ps = placement_faults ps

-- a line of words in d blocks
abbrev at : ℕ → List Word → WordLine
at d s = record { depth = d; words = s }

-- a line in d blocks
abbrev placed : ℕ → Line → PlacedLine
placed d l = record { depth = d; line = l }

-- a name of one letter
abbrev a : List ℕ
a = 97 ∷ []

-- `pass` on line n
abbrev pass : ℕ → List Word
pass n = Sign n mark.Pass ∷ []

-- a keyword and a colon on line n
abbrev word : Mark → ℕ → List Word
word m n = Sign n m ∷ Sign n mark.Colon ∷ []

-- a keyword, the name `a` and a colon on line n
abbrev named : Mark → ℕ → List Word
named m n = Sign n m ∷ Name n a ∷ Sign n mark.Colon ∷ []

-- `def a():` on line n
abbrev def : ℕ → List Word
def n = Sign n mark.Def ∷ Name n a ∷ Sign n mark.OpenParen ∷ Sign n mark.CloseParen ∷ Sign n mark.Colon ∷ []

-- the block of `pass` on line n
abbrev passes : ℕ → Block
passes n = statement (tree.simple (line.pass n)) no_statement

-- no line at all
nothing : told ([]) ≡ Ok no_statement
unfolding told
nothing = refl

-- `return`
return_alone : told (at 0 (Sign 1 mark.Return ∷ []) ∷ []) ≡ Err (misplaced 1)
unfolding told
return_alone = refl

-- `pass`, and `if a:` at the end
no_block_at_end : told (at 0 (pass 1) ∷ at 0 (named mark.If 2) ∷ []) ≡ Err (misplaced 2)
unfolding told
no_block_at_end = refl

-- `if a:`, and `pass` in the same block
no_block : told (at 0 (named mark.If 1) ∷ at 0 (pass 2) ∷ []) ≡ Err (misplaced 1)
unfolding told
no_block = refl

-- `pass`, and an indented `pass`
no_header : told (at 0 (pass 1) ∷ at 1 (pass 2) ∷ []) ≡ Err (misplaced 2)
unfolding told
no_header = refl

-- an indented `pass` at the front
no_header_at_front : told (at 1 (pass 1) ∷ []) ≡ Err (misplaced 1)
unfolding told
no_header_at_front = refl

-- `if a: pass`, and an indented `pass`
no_header_behind_full_line : told (at 0 (named mark.If 1 ++ pass 1) ∷ at 1 (pass 2) ∷ []) ≡ Err (misplaced 2)
unfolding told
no_header_behind_full_line = refl

-- `if a:`, and `pass` two blocks deeper
too_far_in : told (at 0 (named mark.If 1) ∷ at 2 (pass 2) ∷ []) ≡ Err (misplaced 2)
unfolding told
too_far_in = refl

-- `pass`, and `else: pass`
else_behind_simple : told (at 0 (pass 1) ∷ at 0 (word mark.Else 2 ++ pass 2) ∷ []) ≡ Err (misplaced 2)
unfolding told
else_behind_simple = refl

-- `else: pass` at the front of a block
else_at_front : told (at 0 (named mark.If 1) ∷ at 1 (word mark.Else 2 ++ pass 2) ∷ []) ≡ Err (misplaced 2)
unfolding told
else_at_front = refl

-- `if a: pass`, `else: pass` and `elif a: pass`
elif_behind_else : told (at 0 (named mark.If 1 ++ pass 1) ∷ at 0 (word mark.Else 2 ++ pass 2) ∷ at 0 (named mark.Elif 3 ++ pass 3) ∷ []) ≡ Err (misplaced 3)
unfolding told
elif_behind_else = refl

-- `try:` and `pass`, and then `pass`
try_alone : told (at 0 (word mark.Try 1) ∷ at 1 (pass 2) ∷ at 0 (pass 3) ∷ []) ≡ Err (misplaced 1)
unfolding told
try_alone = refl

-- `try: pass` and `else: pass`
try_with_else : told (at 0 (word mark.Try 1 ++ pass 1) ∷ at 0 (word mark.Else 2 ++ pass 2) ∷ []) ≡ Err (misplaced 1)
unfolding told
try_with_else = refl

-- `try: pass`, an indented `pass`, and `except: pass`: the line between belongs to the block round `try`
try_cut_off : told (at 0 (word mark.Try 1 ++ pass 1) ∷ at 1 (pass 2) ∷ at 0 (word mark.Except 3 ++ pass 3) ∷ []) ≡ Err (misplaced 1)
unfolding told
try_cut_off = refl

-- `try: pass`, `except: pass` and `except a: pass`
except_behind_all : told (at 0 (word mark.Try 1 ++ pass 1) ∷ at 0 (word mark.Except 2 ++ pass 2) ∷ at 0 (named mark.Except 3 ++ pass 3) ∷ []) ≡ Err (misplaced 2)
unfolding told
except_behind_all = refl

-- `try: pass`, `except a: pass`, `except: pass` and `else: pass`
all_caught_last : told (at 0 (word mark.Try 1 ++ pass 1) ∷ at 0 (named mark.Except 2 ++ pass 2) ∷ at 0 (word mark.Except 3 ++ pass 3) ∷ at 0 (word mark.Else 4 ++ pass 4) ∷ []) ≡ Ok (statement (tree.try 1 (passes 1) (handler 2 (a ∷ []) (passes 2) (handler 3 [] (passes 3) no_handler)) (passes 4)) no_statement)
unfolding told
all_caught_last = refl

-- `while a:` and `if a: break`
break_in_loop : told (at 0 (named mark.While 1) ∷ at 1 (named mark.If 2 ++ Sign 2 mark.Break ∷ []) ∷ []) ≡ Ok (statement (tree.while 1 (name 1 a) (statement (tree.if 2 (name 2 a) (statement (tree.simple (line.break 2)) no_statement) no_branch no_statement) no_statement) no_statement) no_statement)
unfolding told
break_in_loop = refl

-- `while a: pass` and `else: break`
break_behind_loop : told (at 0 (named mark.While 1 ++ pass 1) ∷ at 0 (word mark.Else 2 ++ Sign 2 mark.Break ∷ []) ∷ []) ≡ Err (misplaced 2)
unfolding told
break_behind_loop = refl

-- `while a:`, `def a():` in it and `break` in that
break_in_function : faults (placed 0 (line.header (line.while 1 (name 1 a))) ∷ placed 1 (line.header (line.def 2 a [] None)) ∷ placed 2 (line.simple (line.break 3)) ∷ []) ≡ 2 ∷ 3 ∷ []
unfolding faults
break_in_function = refl

-- `raise` alone in a handler, and behind it
raise_behind_handler : told (at 0 (word mark.Try 1 ++ pass 1) ∷ at 0 (word mark.Except 2) ∷ at 1 (Sign 3 mark.Raise ∷ []) ∷ at 0 (Sign 4 mark.Raise ∷ []) ∷ []) ≡ Err (misplaced 4)
unfolding told
raise_behind_handler = refl

-- `def a():` and `class a: pass` in it
class_in_function : told (at 0 (def 1) ∷ at 1 (named mark.Class 2 ++ pass 2) ∷ []) ≡ Err (misplaced 2)
unfolding told
class_in_function = refl

-- `class a:` and `def a(): pass` in it
def_in_class : told (at 0 (named mark.Class 1) ∷ at 1 (def 2 ++ pass 2) ∷ []) ≡ Ok (statement (tree.class 1 a (statement (tree.def 2 a [] None (passes 2)) no_statement)) no_statement)
unfolding told
def_in_class = refl

-- `def a():` and `def a(): pass` in it
nested_functions : told (at 0 (def 1) ∷ at 1 (def 2 ++ pass 2) ∷ []) ≡ Err (misplaced 2)
unfolding told
nested_functions = refl

-- `if a: import a`
import_in_block : told (at 0 (named mark.If 1 ++ Sign 1 mark.Import ∷ Name 1 a ∷ []) ∷ []) ≡ Err (misplaced 1)
unfolding told
import_in_block = refl

-- `return`, and a word that is no line
line_before_place : told (at 0 (Sign 1 mark.Return ∷ []) ∷ at 0 (Sign 2 mark.Reserved ∷ []) ∷ []) ≡ Err (no_line 2)
unfolding told
line_before_place = refl

-- a word that is no line, and a load that is too great
load_before_line : told (at 0 (Sign 1 mark.Reserved ∷ []) ∷ at 0 (replicate 101 (Sign 2 mark.Not) ++ Name 2 a ∷ []) ∷ []) ≡ Err (too_deep 2)
unfolding told
load_before_line = refl

-- `pass` in 101 blocks
too_many_blocks : told (at 101 (pass 1) ∷ []) ≡ Err (too_deep 1)
unfolding told
too_many_blocks = refl

-- `if a: pass` in 100 blocks
too_many_on_the_line : told (at 100 (named mark.If 1 ++ pass 1) ∷ []) ≡ Err (too_deep 1)
unfolding told
too_many_on_the_line = refl

-- `pass` in 100 blocks without a header
just_enough_blocks : told (at 100 (pass 1) ∷ []) ≡ Err (misplaced 1)
unfolding told
just_enough_blocks = refl

-- so many attributes
abbrev attributes : ℕ → List Word
attributes zero = []
attributes (suc n) = Sign 1 mark.Dot ∷ Name 1 a ∷ attributes n

-- the name `a` behind `return` with 101 attributes: the height is told before the place
too_high : told (at 0 (Sign 1 mark.Return ∷ Name 1 a ∷ attributes 101) ∷ []) ≡ Err (too_deep 1)
unfolding told
too_high = refl

-- the same with 100 attributes
just_high_enough : told (at 0 (Sign 1 mark.Return ∷ Name 1 a ∷ attributes 100) ∷ []) ≡ Err (misplaced 1)
unfolding told
just_high_enough = refl
