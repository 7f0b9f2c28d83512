-- Reading a simple statement from left to right. A target is tried first. Where what follows it is no `=`, no `:` and no
-- augmented assignment, the words are read again as an expression.
use Rattle.std.specs.Prelude.{ℕ, zero, suc, List, [], ◌∷◌, ◌++◌, length, Bool, true, false, Option, Some, None, if◌then◌else◌}
use Rattle.spec_trees.specs.Expr as expr
use Rattle.spec_trees.specs.Expr.{Expr, Arguments}
use Rattle.spec_trees.specs.Stmt.{Simple, assign, annotate, augment, evaluate, return, pass, break, continue, assert, reraise, raise, delete, import, import_from}
use Rattle.spec_grammar.specs.declared.Mark.{Mark}
use Rattle.spec_grammar.specs.declared.Mark.TheVariants as mark
use Rattle.spec_grammar.specs.Words.{Word, Name, Int, Str, Sign, line_of}
use Rattle.spec_grammar.specs.Marks.{sign_at, name_at, augmented_at}
use Rattle.spec_grammar.specs.Reading.{Parse, ◌>>=◌, given, whole, below, prim_with, arguments_with, read_expr, expr_of}
use Rattle.spec_grammar.specs.TypeReading.{read_type}

-- the prim that words begin with, and what follows it
unfoldable pub read_prim : Parse Expr
read_prim s = prim_with (below (suc (length s))) s

-- the arguments behind a bracket, and what follows the bracket that closes them
unfoldable pub read_arguments : Parse Arguments
read_arguments s = arguments_with (below (suc (length s))) s

-- Brackets round an expression are a node, so the tree of a prim tells whether it is a target.
abbrev pub is_target : Expr → Bool
is_target (expr.name n x) = true
is_target (expr.attribute n a x) = true
is_target (expr.index n a i) = true
is_target _ = false

unfoldable pub read_target : Parse Expr
read_target s = read_prim s >>= λ x. if is_target x.0 then Some x else None

-- ["=" expr]
unfoldable pub read_value : Parse (Option Expr)
read_value s = given (sign_at mark.Assign s) (λ t. read_expr t >>= λ e. Some (Some e.0, e.1)) (Some (None, s))

-- the name behind a separator
abbrev pub next_name : Mark → Parse (List ℕ)
next_name m s = sign_at m s >>= name_at

-- {separator NAME}, behind the names xs
unfoldable pub more_names : Mark → ℕ → List (List ℕ) → Parse (List (List ℕ))
more_names m zero xs s = None
more_names m (suc k) xs s = given (next_name m s) (λ x. more_names m k (xs ++ x.0 ∷ []) x.1) (Some (xs, s))

-- NAME {separator NAME}
unfoldable pub read_names : Mark → Parse (List (List ℕ))
read_names m s = name_at s >>= λ x. more_names m (length s) (x.0 ∷ []) x.1

-- [","] ")"
abbrev pub closing_at : List Word → Option (List Word)
closing_at s = given (sign_at mark.CloseParen s) Some (sign_at mark.Comma s >>= sign_at mark.CloseParen)

-- names [","] ")"
unfoldable pub read_bracketed : Parse (List (List ℕ))
read_bracketed s = read_names mark.Comma s >>= λ xs. closing_at xs.1 >>= λ r. Some (xs.0, r)

-- names | "(" names [","] ")"
unfoldable pub read_imported : Parse (List (List ℕ))
read_imported s = given (sign_at mark.OpenParen s) read_bracketed (read_names mark.Comma s)

-- ---- what begins with no keyword

unfoldable pub evaluate_of : List Word → Option Simple
evaluate_of s = expr_of s >>= λ e. Some (evaluate (line_of s) e)

unfoldable pub annotate_of : ℕ → Expr → List Word → Option Simple
annotate_of n a t = read_type t >>= λ d. whole (read_value d.1) >>= λ v. Some (annotate n a d.0 v)

-- the statement s, whose target a is followed by m
unfoldable pub targeted_of : List Word → Expr → List Word → Option Simple
targeted_of s a m =
    given (sign_at mark.Assign m) (λ t. expr_of t >>= λ e. Some (assign (line_of s) a e)) (
    given (sign_at mark.Colon m) (annotate_of (line_of s) a) (
    given (augmented_at m) (λ o. expr_of o.1 >>= λ e. Some (augment (line_of s) a o.0 e)) (evaluate_of s)))

unfoldable pub unmarked_of : List Word → Option Simple
unmarked_of s = given (read_target s) (λ x. targeted_of s x.0 x.1) (evaluate_of s)

-- ---- what begins with a keyword on line n, behind the keyword

unfoldable pub return_of : ℕ → List Word → Option Simple
return_of n [] = Some (return n None)
return_of n (w ∷ s) = expr_of (w ∷ s) >>= λ e. Some (return n (Some e))

-- the keyword is the whole statement
unfoldable pub alone : Simple → List Word → Option Simple
alone d [] = Some d
alone d (w ∷ s) = None

unfoldable pub message_of : ℕ → Expr → List Word → Option Simple
message_of n e [] = Some (assert n e None)
message_of n e (w ∷ s) = sign_at mark.Comma (w ∷ s) >>= λ t. expr_of t >>= λ d. Some (assert n e (Some d))

unfoldable pub assert_of : ℕ → List Word → Option Simple
assert_of n s = read_expr s >>= λ e. message_of n e.0 e.1

unfoldable pub raised_of : ℕ → List ℕ → List Word → Option Simple
raised_of n x [] = Some (raise n x None)
raised_of n x (w ∷ s) = sign_at mark.OpenParen (w ∷ s) >>= λ t. whole (read_arguments t) >>= λ xs. Some (raise n x (Some xs))

unfoldable pub raise_of : ℕ → List Word → Option Simple
raise_of n [] = Some (reraise n)
raise_of n (w ∷ s) = name_at (w ∷ s) >>= λ x. raised_of n x.0 x.1

abbrev pub is_index : Expr → Bool
is_index (expr.index n a i) = true
is_index _ = false

unfoldable pub delete_of : ℕ → List Word → Option Simple
delete_of n s = whole (read_prim s) >>= λ e. if is_index e then Some (delete n e) else None

unfoldable pub import_of : ℕ → List Word → Option Simple
import_of n s = whole (read_names mark.Dot s) >>= λ xs. Some (import n xs)

unfoldable pub from_of : ℕ → List Word → Option Simple
from_of n s = name_at s >>= λ x. sign_at mark.Import x.1 >>= λ t. whole (read_imported t) >>= λ xs. Some (import_from n x.0 xs)

-- the statement that a sign on line n begins, where s follows the sign
unfoldable pub marked_of : Mark → ℕ → List Word → Option Simple
marked_of mark.Return n s = return_of n s
marked_of mark.Pass n s = alone (pass n) s
marked_of mark.Break n s = alone (break n) s
marked_of mark.Continue n s = alone (continue n) s
marked_of mark.Assert n s = assert_of n s
marked_of mark.Raise n s = raise_of n s
marked_of mark.Del n s = delete_of n s
marked_of mark.Import n s = import_of n s
marked_of mark.From n s = from_of n s
marked_of m n s = unmarked_of (Sign n m ∷ s)

-- the simple statement that all the words spell, where there is one
unfoldable pub simple_of : List Word → Option Simple
simple_of [] = None
simple_of (Name n x ∷ s) = unmarked_of (Name n x ∷ s)
simple_of (Int n v ∷ s) = unmarked_of (Int n v ∷ s)
simple_of (Str p ∷ s) = unmarked_of (Str p ∷ s)
simple_of (Sign n m ∷ s) = marked_of m n s
