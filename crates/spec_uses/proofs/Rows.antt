-- What a few uses of names come to.
use Rattle.std.proofs.Common.{◌≡◌, ℕ, true, false, List, [], ◌∷◌, Some, None, refl}
use Rattle.std.specs.Prelude.{codes}
use Rattle.spec_trees.specs.declared.Operator.TheVariants as operator
use Rattle.spec_trees.specs.Expr as expr
use Rattle.spec_trees.specs.Expr.{ArgumentList, Arguments, Generator, no_arguments, argument, listed, generated, generator, no_exprs}
use Rattle.spec_trees.specs.Stmt as simple
use Rattle.spec_trees.specs.Stmt.{Parameter}
use Rattle.spec_trees.specs.Module as tree
use Rattle.spec_trees.specs.Module.{Block, Statement, no_statement, statement}
use Rattle.spec_contracts.specs.declared.LineKind.TheVariants.{Pre, Post, Invariant}
use Rattle.spec_names.specs.declared.ProfileFault.TheVariants.{Duplicate, Form, UnknownName}
use Rattle.spec_uses.specs.declared.Meaning.TheVariants as meaning
use Rattle.spec_uses.specs.declared.Place.TheVariants.{Read}
use Rattle.spec_uses.specs.Meanings.{Scope, meaning_in, module_scope, with_locals}
use Rattle.spec_uses.specs.Expressions.{refused, uses}
use Rattle.spec_uses.specs.Statements.{assigned, uses_in_simple}
use Rattle.spec_uses.specs.ContractScopes.{scope_of}
use Rattle.spec_uses.specs.ModuleUses.{use_refusals}

-- a module with a constant, a function, a class and an import
abbrev pass : Block
pass = statement (tree.simple (simple.pass 2)) no_statement

abbrev body : Block
body = statement (tree.simple (simple.assign 1 (expr.name 1 (codes "K")) (expr.integer 1 1)))
    (statement (tree.def 2 (codes "f") [] None pass)
    (statement (tree.class 3 (codes "C") pass)
    (statement (tree.simple (simple.import_from 4 (codes "typing") (codes "List" ∷ []))) no_statement)))

-- a place in which x is local
abbrev here : Scope
here = with_locals (codes "x" ∷ []) (module_scope body)

abbrev name : List ℕ → expr.Expr
name n = expr.name 1 n

abbrev one : ArgumentList
one = argument None (name (codes "x")) no_arguments

abbrev call : expr.Expr → ArgumentList → expr.Expr
call f xs = expr.call 1 f (listed xs)

-- ---- meanings

first_definition_counts : meaning_in (statement (tree.class 1 (codes "A") pass) (statement (tree.def 2 (codes "A") [] None pass) no_statement)) (codes "A") ≡ meaning.Class
first_definition_counts = refl

exception_classes_are_known : meaning_in body (codes "KeyError") ≡ meaning.Exception
exception_classes_are_known = refl

other_classes_are_not : meaning_in body (codes "OSError") ≡ meaning.Unknown
other_classes_are_not = refl

-- ---- names

locals_are_read : uses Read here (name (codes "x")) ≡ []
locals_are_read = refl

constants_are_read : uses Read here (name (codes "K")) ≡ []
constants_are_read = refl

other_names_are_unknown : uses Read here (name (codes "y")) ≡ refused 1 UnknownName
other_names_are_unknown = refl

functions_are_not_read : uses Read here (name (codes "f")) ≡ refused 1 Form
functions_are_not_read = refl

built_in_functions_are_not_read : uses Read here (name (codes "len")) ≡ refused 1 Form
built_in_functions_are_not_read = refl

imported_names_are_not_read : uses Read here (name (codes "List")) ≡ refused 1 Form
imported_names_are_not_read = refl

-- ---- calls

functions_are_called : uses Read here (call (expr.group 1 (name (codes "f"))) one) ≡ []
functions_are_called = refl

locals_are_not_called : uses Read here (call (name (codes "x")) one) ≡ refused 1 Form
locals_are_not_called = refl

results_are_not_called : uses Read here (call (call (name (codes "f")) no_arguments) one) ≡ refused 1 Form
results_are_not_called = refl

built_in_functions_take_their_arguments : uses Read here (call (name (codes "len")) (argument None (name (codes "x")) one)) ≡ refused 1 Form
built_in_functions_take_their_arguments = refl

keywords_are_apart : uses Read here (call (name (codes "f")) (argument (Some (codes "a")) (name (codes "x")) (argument (Some (codes "a")) (name (codes "x")) no_arguments))) ≡ refused 1 Duplicate
keywords_are_apart = refl

abbrev range : expr.Expr
range = call (name (codes "range")) one

ranges_are_walked_over : uses Read here (call (name (codes "list")) (argument None (expr.group 1 range) no_arguments)) ≡ []
ranges_are_walked_over = refl

ranges_are_not_read : uses Read here (call (name (codes "len")) (argument None range no_arguments)) ≡ refused 1 Form
ranges_are_not_read = refl

classes_are_asked_for : uses Read here (call (name (codes "isinstance")) (argument None (name (codes "x")) (argument None (name (codes "C")) no_arguments))) ≡ []
classes_are_asked_for = refl

functions_are_no_classes : uses Read here (call (name (codes "isinstance")) (argument None (name (codes "x")) (argument None (name (codes "x")) no_arguments))) ≡ refused 1 Form
functions_are_no_classes = refl

-- ---- comprehensions

abbrev each_of : Generator
each_of = generator (name (codes "i")) (codes "i") range no_exprs

variables_are_their_own : uses Read here (expr.comprehension 1 each_of) ≡ []
variables_are_their_own = refl

variables_are_not_seen_outside : uses Read here (expr.binary 1 operator.Add (expr.comprehension 1 each_of) (name (codes "i"))) ≡ refused 1 UnknownName
variables_are_not_seen_outside = refl

generators_are_summed : uses Read here (expr.call 1 (name (codes "sum")) (generated each_of)) ≡ []
generators_are_summed = refl

generators_are_no_arguments : uses Read here (expr.call 1 (name (codes "f")) (generated each_of)) ≡ refused 1 Form
generators_are_no_arguments = refl

-- ---- post lines

abbrev post : Scope
post = scope_of Post false (codes "x" ∷ []) (module_scope body)

results_are_read : uses Read post (name (codes "_")) ≡ []
results_are_read = refl

old_arguments_are_read : uses Read post (expr.attribute 1 (name (codes "__old__")) (codes "x")) ≡ []
old_arguments_are_read = refl

other_names_are_not_old : uses Read post (expr.attribute 1 (name (codes "__old__")) (codes "y")) ≡ refused 1 UnknownName
other_names_are_not_old = refl

old_alone_is_not_read : uses Read post (name (codes "__old__")) ≡ refused 1 Form
old_alone_is_not_read = refl

abbrev constructor : Scope
constructor = scope_of Post true (codes "self" ∷ codes "x" ∷ []) (module_scope body)

constructors_have_no_old_self : uses Read constructor (expr.attribute 1 (name (codes "__old__")) (codes "self")) ≡ refused 1 UnknownName
constructors_have_no_old_self = refl

constructors_have_no_self_before : uses Read (scope_of Pre true (codes "self" ∷ codes "x" ∷ []) (module_scope body)) (name (codes "self")) ≡ refused 1 UnknownName
constructors_have_no_self_before = refl

invariants_have_self_alone : uses Read (scope_of Invariant false [] (module_scope body)) (name (codes "self")) ≡ []
invariants_have_self_alone = refl

-- ---- statements

exceptions_are_raised : uses_in_simple here (simple.raise 5 (codes "KeyError") None) ≡ []
exceptions_are_raised = refl

classes_of_the_module_are_not : uses_in_simple here (simple.raise 5 (codes "C") None) ≡ refused 5 Form
classes_of_the_module_are_not = refl

loops_assign_their_variables : assigned (statement (tree.for 1 (codes "i") range (statement (tree.simple (simple.assign 2 (name (codes "y")) range)) no_statement) no_statement) no_statement) ≡ codes "i" ∷ codes "y" ∷ []
loops_assign_their_variables = refl

-- ---- modules

abbrev parameter : List ℕ → Parameter
parameter x = record { name = x; annotation = None; default = None }

abbrev returns : ℕ → List ℕ → Block
returns n x = statement (tree.simple (simple.return n (Some (expr.name n x)))) no_statement

parameters_are_seen_in_bodies : use_refusals (statement (tree.def 1 (codes "g") (parameter (codes "x") ∷ []) None (returns 2 (codes "x"))) no_statement) [] ≡ []
parameters_are_seen_in_bodies = refl

and_in_no_other_function : use_refusals (statement (tree.def 1 (codes "g") (parameter (codes "x") ∷ []) None (returns 2 (codes "x"))) (statement (tree.def 3 (codes "h") [] None (returns 4 (codes "x"))) no_statement)) [] ≡ refused 4 UnknownName
and_in_no_other_function = refl
