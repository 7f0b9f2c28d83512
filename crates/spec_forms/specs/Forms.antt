-- The functions of a module that are run, and the first statement or contract line that has another form.
--   def NAME(NAME: int, NAME: int) -> TYPE:
--       """
--       pre: EXPR
--       post: EXPR
--       raises: CLASS, CLASS
--       """
--       return EXPR
-- Every function is read, and those with contract lines are run. A function has any number of parameters and of contract
-- lines, and its body any number of string literals and of statements `return EXPR`. The module may hold imports, string
-- literals, `pass` and the main test beside functions.
use Rattle.std.specs.Prelude.{ℕ, suc, Bool, true, false, not, ◌&&◌, ◌==◌, List, [], ◌∷◌, ◌++◌, map, filter, filter_map, flat_map, Option, Some, None, Result, Ok, Err, codes, if◌then◌else◌}
use Rattle.std.specs.List.{list_all}
use Rattle.spec_trees.specs.Expr as tree
use Rattle.spec_trees.specs.Stmt as simple
use Rattle.spec_trees.specs.Stmt.{TypeExpr, no_types, Parameter}
use Rattle.spec_trees.specs.Module as block
use Rattle.spec_trees.specs.Module.{Statement, Block, no_statement, statement}
use Rattle.spec_first_trees.specs.declared.ExcClass.{ExcClass}
use Rattle.spec_first_trees.specs.Classes.{class_named}
use Rattle.spec_first_trees.specs.Expr.{Expr}
use Rattle.spec_first_trees.specs.Program as program
use Rattle.spec_first_trees.specs.Program.{Function, Condition}
use Rattle.spec_grammar.specs.Reading.{◌>>=◌, given}
use Rattle.spec_contracts.specs.declared.LineKind.{LineKind}
use Rattle.spec_contracts.specs.declared.LineKind.TheVariants as kind
use Rattle.spec_contracts.specs.ContractLines.{ContractLine, is_among}
use Rattle.spec_names.specs.Names.{names_of}
use Rattle.spec_names.specs.Lines.{line_of}
use Rattle.spec_names.specs.Members.{Member, unnamed, imported, member_of, bare, is_text}
use Rattle.spec_types.specs.Signatures.{is_function}
use Rattle.spec_forms.specs.Expressions.{expression_of}
use Rattle.spec_forms.specs.Names.{returned_name, names_among}

-- ---- contract lines

-- an expression that is run, with these names
abbrev pub named : List (List ℕ) → tree.Expr → Option Expr
named names t = expression_of t >>= λ e. if names_among names e then Some e else None

-- What a contract line promises. Which parameters a post line may change makes no difference to integers.
pub data Promise : Type 0 where
  precondition : Expr → Promise
  -- the line, and what holds there
  postcondition : ℕ → Expr → Promise
  permission : List ExcClass → Promise

abbrev pub classes_of : Option (List (List ℕ)) → List ExcClass
classes_of None = []
classes_of (Some xs) = filter_map class_named xs

-- the promise of a contract line of a function with parameters of these names, where it is run
abbrev pub promise_of : List (List ℕ) → ContractLine → Option Promise
promise_of names l = by_kind l.kind
  where
    by_kind : LineKind → Option Promise
    by_kind kind.Pre = l.expression >>= named names >>= λ e. Some (precondition e)
    by_kind kind.Post = l.expression >>= named (names ++ returned_name ∷ []) >>= λ e. Some (postcondition l.line e)
    by_kind kind.Raises = Some (permission (classes_of l.names))
    by_kind kind.Invariant = None

-- one before others
abbrev pub onto : {X : Type 0} → X → Result (List X) ℕ → Result (List X) ℕ
onto x (Err n) = Err n
onto x (Ok xs) = Ok (x ∷ xs)

-- the promises of contract lines, or the first line that is not run
abbrev pub promises_of : List (List ℕ) → List ContractLine → Result (List Promise) ℕ
promises_of names [] = Ok []
promises_of names (l ∷ ls) = given (promise_of names l) (λ p. onto p (promises_of names ls)) (Err l.line)

abbrev pub preconditions_of : List Promise → List Expr
preconditions_of ps = filter_map chosen ps
  where
    chosen : Promise → Option Expr
    chosen (precondition e) = Some e
    chosen p = None

abbrev pub posts_of : List Promise → List Condition
posts_of ps = filter_map chosen ps
  where
    chosen : Promise → Option Condition
    chosen (postcondition n e) = Some (program.Post n e)
    chosen p = None

abbrev pub permitted_of : List Promise → List ExcClass
permitted_of ps = flat_map chosen ps
  where
    chosen : Promise → List ExcClass
    chosen (permission ks) = ks
    chosen p = []

-- ---- bodies

-- a string literal alone, which is dropped
abbrev pub is_dropped : Statement → Bool
is_dropped (block.simple (simple.evaluate n e)) = is_text (bare e)
is_dropped s = false

-- `return` with an expression that is run
abbrev pub value_of : List (List ℕ) → Statement → Option Expr
value_of names (block.simple (simple.return n (Some e))) = named names e
value_of names s = None

-- what the statements of a body return, of which the first counts, or the line of the first statement of another form
abbrev pub values_of : List (List ℕ) → Block → Result (List Expr) ℕ
values_of names no_statement = Ok []
values_of names (statement s b) =
    if is_dropped s then values_of names b else given (value_of names s) (λ e. onto e (values_of names b)) (Err (line_of s))

-- ---- functions

-- the type `int`
abbrev pub is_int : Option TypeExpr → Bool
is_int (Some (simple.name n x no_types)) = is_among (codes "int" ∷ []) x
is_int o = false

abbrev pub are_integers : List Parameter → Bool
are_integers ps = list_all (λ (p : Parameter). is_int p.annotation) ps

abbrev pub integer_parameter : Parameter → program.Parameter
integer_parameter p = record { name = p.name; type = program.Integer }

-- No report shows the number of a statement yet, so each has number 0.
abbrev pub returned : Expr → program.Numbered
returned e = record { number = 0; statement = program.Return e }

-- the function of a header on the line n, with what it promises and returns
abbrev pub function_of : ℕ → List ℕ → List Parameter → List Promise → List Expr → Function
function_of n x ps promises values = record {
  name = x;
  parameters = map integer_parameter ps;
  preconditions = preconditions_of promises;
  conditions = program.Raises n (permitted_of promises) ∷ posts_of promises;
  body = map returned values;
}

-- what comes of two results, of which the first refusal counts
abbrev pub both : {X Y Z : Type 0} → (X → Y → Z) → Result X ℕ → Result Y ℕ → Result Z ℕ
both f (Ok x) (Ok y) = Ok (f x y)
both f (Ok x) (Err n) = Err n
both f (Err n) r = Err n

-- the function of a header on the line n that has contract lines
abbrev pub checked : ℕ → List ℕ → List Parameter → Block → List ContractLine → Result Function ℕ
checked n x ps b ls =
    if are_integers ps then both (function_of n x ps) (promises_of (names_of ps) ls) (values_of (names_of ps) b) else Err n

-- a function that is read and not run
abbrev pub unlisted : Result (List Expr) ℕ → Result (List Function) ℕ
unlisted (Ok es) = Ok []
unlisted (Err n) = Err n

abbrev pub listed : Result Function ℕ → Result (List Function) ℕ
listed (Ok f) = Ok (f ∷ [])
listed (Err n) = Err n

-- the function of a header on the line n, where these are its contract lines
abbrev pub functions_at : ℕ → List ℕ → List Parameter → Block → List ContractLine → Result (List Function) ℕ
functions_at n x ps b [] = unlisted (values_of (names_of ps) b)
functions_at n x ps b (l ∷ ls) = listed (checked n x ps b (l ∷ ls))

-- ---- modules

-- those of a function, by its number
abbrev pub lines_at : ℕ → List ContractLine → List ContractLine
lines_at k ls = filter (λ (l : ContractLine). is_function k l.owner) ls

-- a statement of a module that does nothing when it is run: an import, a string literal, `pass` or the main test
abbrev pub is_passed_over : Option Member → Bool
is_passed_over (Some unnamed) = true
is_passed_over (Some (imported xs)) = true
is_passed_over m = false

-- the functions of a block behind k functions, or the line of the first statement or contract line of another form
abbrev pub functions_behind : ℕ → List ContractLine → Block → Result (List Function) ℕ
functions_behind k ls no_statement = Ok []
functions_behind k ls (statement (block.def n x ps r b) c) = both (λ fs gs. fs ++ gs) (functions_at n x ps b (lines_at k ls)) (functions_behind (suc k) ls c)
functions_behind k ls (statement s c) = if is_passed_over (member_of s) then functions_behind k ls c else Err (line_of s)

-- the functions of a module with these contract lines that are run
abbrev pub functions_of : List ContractLine → Block → Result (List Function) ℕ
functions_of ls b = functions_behind 0 ls b
