-- The statements that a module and a class admit.
use Rattle.std.specs.Prelude.{ℕ, Bool, true, false, not, ◌&&◌, ◌||◌, List, [], ◌∷◌, ◌++◌, codes, Option, Some, None, if◌then◌else◌}
use Rattle.std.specs.List.{flat_map}
use Rattle.std.specs.Option.{is_some}
use Rattle.std.specs.Str.{bytes_eq}
use Rattle.spec_trees.specs.declared.Operator.{Operator}
use Rattle.spec_trees.specs.declared.Operator.TheVariants.{Equal}
use Rattle.spec_trees.specs.declared.Prefix.{Prefix}
use Rattle.spec_trees.specs.declared.Prefix.TheVariants.{Minus}
use Rattle.spec_trees.specs.Expr.{Expr, StringPart, Links, name, integer, text, truth, none, group, prefixed, chain, link, no_links}
use Rattle.spec_trees.specs.Stmt.{assign, annotate, evaluate, pass, import_from}
use Rattle.spec_trees.specs.Module as tree
use Rattle.spec_trees.specs.Module.{Statement, Block, simple, def, no_branch, no_statement, statement}
use Rattle.spec_contracts.specs.ContractLines.{is_among}
use Rattle.spec_names.specs.Lines.{line_of}
use Rattle.spec_names.specs.declared.ProfileFault.TheVariants.{ModuleStatement}
use Rattle.spec_names.specs.declared.Refusal.{Refusal}
use Rattle.spec_names.specs.Refusals.{refused_if}

-- what a statement of a module or a class defines
pub data Member : Type 0 where
  -- nothing that has a name
  unnamed : Member
  imported : List (List ℕ) → Member
  constant : List ℕ → Member
  function : List ℕ → Member
  class : List ℕ → Member

-- ---- expressions, to which brackets make no difference

-- the expression within brackets
abbrev pub bare : Expr → Expr
bare (group n e) = bare e
bare e = e

abbrev pub is_text : Expr → Bool
is_text (text n p ps) = true
is_text e = false

abbrev pub is_integer : Expr → Bool
is_integer (integer n v) = true
is_integer e = false

abbrev pub is_minus : Prefix → Bool
is_minus Minus = true
is_minus o = false

-- a string, a truth value, None, or an integer
abbrev pub is_literal : Expr → Bool
is_literal (truth n b) = true
is_literal (none n) = true
is_literal e = is_text e || is_integer e

abbrev pub is_negative : Expr → Bool
is_negative (prefixed n o e) = is_minus o && is_integer (bare e)
is_negative e = false

-- a literal, or an integer with a minus
abbrev pub is_constant : Expr → Bool
is_constant e = is_literal (bare e) || is_negative (bare e)

-- ---- the main test

-- the code points of adjacent literals, which join
abbrev pub joined : StringPart → List StringPart → List ℕ
joined p ps = p.value ++ flat_map (λ (q : StringPart). q.value) ps

abbrev pub is_named : List ℕ → Expr → Bool
is_named x (name n y) = bytes_eq x y
is_named x e = false

abbrev pub is_spelled : List ℕ → Expr → Bool
is_spelled x (text n p ps) = bytes_eq x (joined p ps)
is_spelled x e = false

abbrev pub is_equal : Operator → Bool
is_equal Equal = true
is_equal o = false

-- one link, `== "__main__"`
abbrev pub is_main_link : Links → Bool
is_main_link (link o e no_links) = is_equal o && is_spelled (codes "__main__") (bare e)
is_main_link ls = false

abbrev pub is_main_chain : Expr → Bool
is_main_chain (chain n e ls) = is_named (codes "__name__") (bare e) && is_main_link ls
is_main_chain e = false

-- `__name__ == "__main__"`
abbrev pub is_main_test : Expr → Bool
is_main_test e = is_main_chain (bare e)

-- ---- members

-- this, where the test passes
abbrev pub given_if : {X : Type 0} → Bool → X → Option X
given_if b x = if b then Some x else None

abbrev pub is_admitted_module : List ℕ → Bool
is_admitted_module x = is_among (codes "typing" ∷ codes "__future__" ∷ []) x

-- the constant that a target gets
abbrev pub constant_of : Expr → Expr → Option Member
constant_of (name n x) e = given_if (is_constant e) (constant x)
constant_of d e = None

-- What a statement of a module defines, where the module admits it. The block of the main test is not looked at.
abbrev pub member_of : Statement → Option Member
member_of (simple (evaluate n e)) = given_if (is_text (bare e)) unnamed
member_of (simple (pass n)) = Some unnamed
member_of (simple (import_from n x xs)) = given_if (is_admitted_module x) (imported xs)
member_of (simple (assign n d e)) = constant_of d e
member_of (simple (annotate n d a (Some e))) = constant_of d e
member_of (def n x ps r b) = Some (function x)
member_of (tree.class n x b) = Some (class x)
member_of (tree.if n e b no_branch no_statement) = given_if (is_main_test e) unnamed
member_of _ = None

-- the same of a statement of a class
abbrev pub method_of : Statement → Option Member
method_of (simple (evaluate n e)) = given_if (is_text (bare e)) unnamed
method_of (simple (pass n)) = Some unnamed
method_of (def n x ps r b) = Some (function x)
method_of _ = None

-- ---- refusals

-- what the statements of a block add, one after the other
abbrev pub each : (Statement → List Refusal) → Block → List Refusal
each f no_statement = []
each f (statement s b) = f s ++ each f b

-- the statements of a class, and none of another statement
abbrev pub methods_in : Statement → Block
methods_in (tree.class n x b) = b
methods_in s = no_statement

abbrev pub unless_method : Statement → List Refusal
unless_method s = refused_if (not (is_some (method_of s))) (line_of s) ModuleStatement

-- a statement that is not admitted, and those of a class
abbrev pub unless_member : Statement → List Refusal
unless_member s = refused_if (not (is_some (member_of s))) (line_of s) ModuleStatement ++ each unless_method (methods_in s)

-- the statements of a module, and of its classes, that are not admitted
abbrev pub statement_refusals : Block → List Refusal
statement_refusals b = each unless_member b
