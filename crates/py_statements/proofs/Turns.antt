-- The steps of reading, each as one equation of what is read.
use Rattle.std.proofs.Common.{◌≡◌, ℕ, zero, suc, ◌<◌, ◌≤◌, Bool, true, false, List, [], ◌∷◌, ◌++◌, length, drop, Option, Some, None, refl, sym, ap, arith}
use Rattle.std.proofs.Math.Dec.{leb}
use Rattle.std.proofs.lemmas.Bool.{leb-true, leb-false}
use Rattle.std.specs.Option.{option_map}
use Rattle.spec_trees.specs.Expr.{Expr, Arguments}
use Rattle.spec_trees.specs.Stmt.{Simple, TypeExpr, assign, annotate, augment, evaluate, return, assert, reraise, raise, delete, import, import_from}
use Rattle.spec_trees.specs.Module as tree
use Rattle.spec_trees.specs.Module.{Statement}
use Rattle.spec_trees.specs.declared.Operator.{Operator}
use Rattle.spec_grammar.specs.declared.Mark.{Mark}
use Rattle.spec_grammar.specs.declared.Mark.TheVariants as mark
use Rattle.spec_grammar.specs.Words.{Word, Name, Int, Str, Sign, line_of}
use Rattle.spec_grammar.specs.Marks.{sign_at, name_at, augmented_at}
use Rattle.spec_grammar.specs.Reading.{whole, read_expr, expr_of, prim_with, atom_with, below, expr_with, level_with}
use Rattle.spec_grammar.specs.TypeReading.{read_type}
use Rattle.spec_grammar.specs.StatementReading.{read_prim, read_arguments, is_target, read_target, read_value, next_name, more_names, read_names, closing_at, read_bracketed, read_imported, evaluate_of, annotate_of, targeted_of, unmarked_of, return_of, alone, message_of, assert_of, raised_of, raise_of, is_index, delete_of, import_of, from_of, marked_of, simple_of}
use Rattle.spec_grammar.proofs.Steps.{some_is}
use Rattle.py_words.specs.declared.unread.Unread.{Unread}
use Rattle.py_words.specs.declared.unread.Unread.TheVariants.{NoForm, NoMemory}
use Rattle.py_words.specs.Found.{Fails, first_sign}
use Rattle.py_statements.specs.Given.{ends, assign_of, augment_of}

-- ---- failures

-- the failure of a part is the failure of the whole
pub fails_on : {A B : Type 0} (e : Unread) (o : Option A) (q : Option B) → Fails e o → (o ≡ None → q ≡ None) → Fails e q
fails_on NoForm o q h f = f h
fails_on NoMemory o q h f = tt

-- ---- the end of the words

-- words end where no place is left
ends_behind : (p : ℕ) (s : List Word) → length s ≤ p → ends (drop p s) ≡ true
ends_behind p [] le = rw (drop_none p) refl
  where
    drop_none : (p : ℕ) → drop p (let none : List Word = [] in none) ≡ []
    drop_none zero = refl
    drop_none (suc p) = refl
ends_behind zero (w ∷ s) le = absurd (omega arith)
ends_behind (suc p) (w ∷ s) le = ends_behind p s (omega arith)

ends_before : (p : ℕ) (s : List Word) → p < length s → ends (drop p s) ≡ false
ends_before p [] lt = absurd (omega arith)
ends_before zero (w ∷ s) lt = refl
ends_before (suc p) (w ∷ s) lt = ends_before p s (omega arith)

-- the test of a place tells
pub ends_at : (n p : ℕ) (s : List Word) (b : Bool) → n ≡ length s → leb n p ≡ b → b ≡ ends (drop p s)
ends_at n p s true e f = let le = leb-true n p f in sym (ends_behind p s (omega arith))
ends_at n p s false e f = let lt = leb-false n p f in sym (ends_before p s (omega arith))

pub ends_is : (s : List Word) → ends s ≡ true → s ≡ []
ends_is [] e = refl
ends_is (w ∷ s) e = absurd cc

pub whole_read : {A : Type 0} (o : Option (A × List Word)) (x : A) (r : List Word) → o ≡ Some (x, r) → ends r ≡ true → whole o ≡ Some x
whole_read o x r e f = rw (e, ends_is r f) refl

pub whole_left : {A : Type 0} (o : Option (A × List Word)) (x : A) (r : List Word) → o ≡ Some (x, r) → ends r ≡ false → whole o ≡ None
whole_left o x [] e f = absurd cc
whole_left o x (w ∷ r) e f = rw e refl

pub whole_none : {A : Type 0} (o : Option (A × List Word)) → o ≡ None → whole o ≡ None
whole_none o e = rw e refl

-- ---- names

pub names_turn : (m : Mark) (k j : ℕ) (xs : List (List ℕ)) (x : List ℕ) (s r : List Word) → k ≡ suc j → next_name m s ≡ Some (x, r) → more_names m k xs s ≡ more_names m j (xs ++ x ∷ []) r
unfolding more_names
names_turn m k j xs x s r f0 f1 = rw (f0, f1) refl

pub names_end : (m : Mark) (k j : ℕ) (xs : List (List ℕ)) (s : List Word) → k ≡ suc j → next_name m s ≡ None → more_names m k xs s ≡ Some (xs, s)
unfolding more_names
names_end m k j xs s f0 f1 = rw (f0, f1) refl

pub names_out : (m : Mark) (k : ℕ) (xs : List (List ℕ)) (s : List Word) → k ≡ 0 → more_names m k xs s ≡ None
unfolding more_names
names_out m k xs s f0 = rw f0 refl

pub names_none : (m : Mark) (s : List Word) → name_at s ≡ None → read_names m s ≡ None
unfolding read_names
names_none m s f0 = rw f0 refl

pub names_more : (m : Mark) (k : ℕ) (x : List ℕ) (s t : List Word) → k ≡ length s → name_at s ≡ Some (x, t) → read_names m s ≡ more_names m k (x ∷ []) t
unfolding read_names
names_more m k x s t h f0 = rw (f0, h) refl

pub bracketed_none : (s : List Word) → read_names mark.Comma s ≡ None → read_bracketed s ≡ None
unfolding read_bracketed
bracketed_none s f0 = rw f0 refl

pub bracketed_open : (xs : List (List ℕ)) (s t : List Word) → read_names mark.Comma s ≡ Some (xs, t) → closing_at t ≡ None → read_bracketed s ≡ None
unfolding read_bracketed
bracketed_open xs s t f0 f1 = rw (f0, f1) refl

pub bracketed_read : (xs : List (List ℕ)) (s t r : List Word) → read_names mark.Comma s ≡ Some (xs, t) → closing_at t ≡ Some r → read_bracketed s ≡ Some (xs, r)
unfolding read_bracketed
bracketed_read xs s t r f0 f1 = rw (f0, f1) refl

pub imported_bracketed : (s t : List Word) → sign_at mark.OpenParen s ≡ Some t → read_imported s ≡ read_bracketed t
unfolding read_imported
imported_bracketed s t f0 = rw f0 refl

pub imported_bare : (s : List Word) → sign_at mark.OpenParen s ≡ None → read_imported s ≡ read_names mark.Comma s
unfolding read_imported
imported_bare s f0 = rw f0 refl

-- ---- targets and values

pub target_none : (s : List Word) → read_prim s ≡ None → read_target s ≡ None
unfolding read_target
target_none s f0 = rw f0 refl

pub target_other : (x : Expr) (s r : List Word) → read_prim s ≡ Some (x, r) → is_target x ≡ false → read_target s ≡ None
unfolding read_target
target_other x s r f0 f1 = rw (f0, f1) refl

pub target_read : (x : Expr) (s r : List Word) → read_prim s ≡ Some (x, r) → is_target x ≡ true → read_target s ≡ Some (x, r)
unfolding read_target
target_read x s r f0 f1 = rw (f0, f1) refl

pub value_absent : (s : List Word) → sign_at mark.Assign s ≡ None → read_value s ≡ Some (None, s)
unfolding read_value
value_absent s f0 = rw f0 refl

pub value_none : (s t : List Word) → sign_at mark.Assign s ≡ Some t → read_expr t ≡ None → read_value s ≡ None
unfolding read_value
value_none s t f0 f1 = rw (f0, f1) refl

pub value_read : (x : Expr) (s t r : List Word) → sign_at mark.Assign s ≡ Some t → read_expr t ≡ Some (x, r) → read_value s ≡ Some (Some x, r)
unfolding read_value
value_read x s t r f0 f1 = rw (f0, f1) refl

-- ---- what begins with no keyword

-- a statement and its tree
pub shows : (o : Option Simple) (d : Simple) (t : Statement) → o ≡ Some d → t ≡ tree.simple d → option_map tree.simple o ≡ Some t
shows o d t e f = rw (e, f) refl

pub evaluate_none : (s : List Word) → expr_of s ≡ None → evaluate_of s ≡ None
unfolding evaluate_of
evaluate_none s f0 = rw f0 refl

pub evaluate_read : (n : ℕ) (e : Expr) (s : List Word) → n ≡ line_of s → expr_of s ≡ Some e → evaluate_of s ≡ Some (evaluate n e)
unfolding evaluate_of
evaluate_read n e s f0 f1 = rw (f1, f0) refl

pub assign_none : (n : ℕ) (a : Expr) (s : List Word) → expr_of s ≡ None → assign_of n a s ≡ None
assign_none n a s f0 = rw f0 refl

pub assign_read : (n : ℕ) (a e : Expr) (s : List Word) → expr_of s ≡ Some e → assign_of n a s ≡ Some (assign n a e)
assign_read n a e s f0 = rw f0 refl

pub augment_none : (n : ℕ) (a : Expr) (o : Operator) (s : List Word) → expr_of s ≡ None → augment_of n a o s ≡ None
augment_none n a o s f0 = rw f0 refl

pub augment_read : (n : ℕ) (a e : Expr) (o : Operator) (s : List Word) → expr_of s ≡ Some e → augment_of n a o s ≡ Some (augment n a o e)
augment_read n a e o s f0 = rw f0 refl

pub annotate_no_type : (n : ℕ) (a : Expr) (s : List Word) → read_type s ≡ None → annotate_of n a s ≡ None
unfolding annotate_of
annotate_no_type n a s f0 = rw f0 refl

pub annotate_no_value : (n : ℕ) (a : Expr) (d : TypeExpr) (s t : List Word) → read_type s ≡ Some (d, t) → read_value t ≡ None → annotate_of n a s ≡ None
unfolding annotate_of
annotate_no_value n a d s t f0 f1 = rw (f0, f1) refl

pub annotate_left : (n : ℕ) (a : Expr) (d : TypeExpr) (v : Option Expr) (s t r : List Word) → read_type s ≡ Some (d, t) → read_value t ≡ Some (v, r) → ends r ≡ false → annotate_of n a s ≡ None
unfolding annotate_of
annotate_left n a d v s t r f0 f1 f2 = rw (f0, whole_left (read_value t) v r f1 f2) refl

pub annotate_read : (n : ℕ) (a : Expr) (d : TypeExpr) (v : Option Expr) (s t r : List Word) → read_type s ≡ Some (d, t) → read_value t ≡ Some (v, r) → ends r ≡ true → annotate_of n a s ≡ Some (annotate n a d v)
unfolding annotate_of
annotate_read n a d v s t r f0 f1 f2 = rw (f0, whole_read (read_value t) v r f1 f2) refl

pub targeted_assign : (n : ℕ) (a : Expr) (s m t : List Word) → n ≡ line_of s → sign_at mark.Assign m ≡ Some t → targeted_of s a m ≡ assign_of n a t
unfolding targeted_of
targeted_assign n a s m t e f0 = rw (f0, e) refl

pub targeted_annotate : (n : ℕ) (a : Expr) (s m t : List Word) → n ≡ line_of s → sign_at mark.Assign m ≡ None → sign_at mark.Colon m ≡ Some t → targeted_of s a m ≡ annotate_of n a t
unfolding targeted_of
targeted_annotate n a s m t e f0 f1 = rw (f0, f1, e) refl

pub targeted_augment : (n : ℕ) (a : Expr) (o : Operator) (s m t : List Word) → n ≡ line_of s → sign_at mark.Assign m ≡ None → sign_at mark.Colon m ≡ None → augmented_at m ≡ Some (o, t) → targeted_of s a m ≡ augment_of n a o t
unfolding targeted_of
targeted_augment n a o s m t e f0 f1 f2 = rw (f0, f1, f2, e) refl

pub targeted_other : (a : Expr) (s m : List Word) → sign_at mark.Assign m ≡ None → sign_at mark.Colon m ≡ None → augmented_at m ≡ None → targeted_of s a m ≡ evaluate_of s
unfolding targeted_of
targeted_other a s m f0 f1 f2 = rw (f0, f1, f2) refl

pub unmarked_target : (x : Expr) (s r : List Word) → read_target s ≡ Some (x, r) → unmarked_of s ≡ targeted_of s x r
unfolding unmarked_of
unmarked_target x s r f0 = rw f0 refl

pub unmarked_other : (s : List Word) → read_target s ≡ None → unmarked_of s ≡ evaluate_of s
unfolding unmarked_of
unmarked_other s f0 = rw f0 refl

-- ---- what begins with a keyword

pub return_alone : (n : ℕ) (s : List Word) → ends s ≡ true → return_of n s ≡ Some (return n None)
unfolding return_of
return_alone n [] f0 = refl
return_alone n (w ∷ s) f0 = absurd cc

pub return_none : (n : ℕ) (s : List Word) → ends s ≡ false → expr_of s ≡ None → return_of n s ≡ None
unfolding return_of
return_none n [] f0 f1 = absurd cc
return_none n (w ∷ s) f0 f1 = rw f1 refl

pub return_read : (n : ℕ) (e : Expr) (s : List Word) → ends s ≡ false → expr_of s ≡ Some e → return_of n s ≡ Some (return n (Some e))
unfolding return_of
return_read n e [] f0 f1 = absurd cc
return_read n e (w ∷ s) f0 f1 = rw f1 refl

pub alone_read : (d : Simple) (s : List Word) → ends s ≡ true → alone d s ≡ Some d
unfolding alone
alone_read d [] f0 = refl
alone_read d (w ∷ s) f0 = absurd cc

pub alone_left : (d : Simple) (s : List Word) → ends s ≡ false → alone d s ≡ None
unfolding alone
alone_left d [] f0 = absurd cc
alone_left d (w ∷ s) f0 = refl

pub message_absent : (n : ℕ) (e : Expr) (s : List Word) → ends s ≡ true → message_of n e s ≡ Some (assert n e None)
unfolding message_of
message_absent n e [] f0 = refl
message_absent n e (w ∷ s) f0 = absurd cc

pub message_no_comma : (n : ℕ) (e : Expr) (s : List Word) → ends s ≡ false → sign_at mark.Comma s ≡ None → message_of n e s ≡ None
unfolding message_of
message_no_comma n e [] f0 f1 = absurd cc
message_no_comma n e (w ∷ s) f0 f1 = rw f1 refl

pub message_none : (n : ℕ) (e : Expr) (s t : List Word) → sign_at mark.Comma s ≡ Some t → expr_of t ≡ None → message_of n e s ≡ None
unfolding message_of
message_none n e [] t f0 f1 = absurd cc
message_none n e (w ∷ s) t f0 f1 = rw (f0, f1) refl

pub message_read : (n : ℕ) (e d : Expr) (s t : List Word) → sign_at mark.Comma s ≡ Some t → expr_of t ≡ Some d → message_of n e s ≡ Some (assert n e (Some d))
unfolding message_of
message_read n e d [] t f0 f1 = absurd cc
message_read n e d (w ∷ s) t f0 f1 = rw (f0, f1) refl

pub assert_none : (n : ℕ) (s : List Word) → read_expr s ≡ None → assert_of n s ≡ None
unfolding assert_of
assert_none n s f0 = rw f0 refl

pub assert_turn : (n : ℕ) (e : Expr) (s r : List Word) → read_expr s ≡ Some (e, r) → assert_of n s ≡ message_of n e r
unfolding assert_of
assert_turn n e s r f0 = rw f0 refl

pub raise_alone : (n : ℕ) (s : List Word) → ends s ≡ true → raise_of n s ≡ Some (reraise n)
unfolding raise_of
raise_alone n [] f0 = refl
raise_alone n (w ∷ s) f0 = absurd cc

pub raise_no_name : (n : ℕ) (s : List Word) → ends s ≡ false → name_at s ≡ None → raise_of n s ≡ None
unfolding raise_of
raise_no_name n [] f0 f1 = absurd cc
raise_no_name n (w ∷ s) f0 f1 = rw f1 refl

pub raise_turn : (n : ℕ) (x : List ℕ) (s r : List Word) → name_at s ≡ Some (x, r) → raise_of n s ≡ raised_of n x r
unfolding raise_of
raise_turn n x [] r f0 = absurd cc
raise_turn n x (w ∷ s) r f0 = rw f0 refl

pub raised_alone : (n : ℕ) (x : List ℕ) (s : List Word) → ends s ≡ true → raised_of n x s ≡ Some (raise n x None)
unfolding raised_of
raised_alone n x [] f0 = refl
raised_alone n x (w ∷ s) f0 = absurd cc

pub raised_no_bracket : (n : ℕ) (x : List ℕ) (s : List Word) → ends s ≡ false → sign_at mark.OpenParen s ≡ None → raised_of n x s ≡ None
unfolding raised_of
raised_no_bracket n x [] f0 f1 = absurd cc
raised_no_bracket n x (w ∷ s) f0 f1 = rw f1 refl

pub raised_none : (n : ℕ) (x : List ℕ) (s t : List Word) → sign_at mark.OpenParen s ≡ Some t → read_arguments t ≡ None → raised_of n x s ≡ None
unfolding raised_of
raised_none n x [] t f0 f1 = absurd cc
raised_none n x (w ∷ s) t f0 f1 = rw (f0, f1) refl

pub raised_left : (n : ℕ) (x : List ℕ) (xs : Arguments) (s t r : List Word) → sign_at mark.OpenParen s ≡ Some t → read_arguments t ≡ Some (xs, r) → ends r ≡ false → raised_of n x s ≡ None
unfolding raised_of
raised_left n x xs [] t r f0 f1 f2 = absurd cc
raised_left n x xs (w ∷ s) t r f0 f1 f2 = rw (f0, whole_left (read_arguments t) xs r f1 f2) refl

pub raised_read : (n : ℕ) (x : List ℕ) (xs : Arguments) (s t r : List Word) → sign_at mark.OpenParen s ≡ Some t → read_arguments t ≡ Some (xs, r) → ends r ≡ true → raised_of n x s ≡ Some (raise n x (Some xs))
unfolding raised_of
raised_read n x xs [] t r f0 f1 f2 = absurd cc
raised_read n x xs (w ∷ s) t r f0 f1 f2 = rw (f0, whole_read (read_arguments t) xs r f1 f2) refl

pub delete_none : (n : ℕ) (s : List Word) → read_prim s ≡ None → delete_of n s ≡ None
unfolding delete_of
delete_none n s f0 = rw f0 refl

pub delete_left : (n : ℕ) (e : Expr) (s r : List Word) → read_prim s ≡ Some (e, r) → ends r ≡ false → delete_of n s ≡ None
unfolding delete_of
delete_left n e s r f0 f1 = rw (whole_left (read_prim s) e r f0 f1) refl

pub delete_other : (n : ℕ) (e : Expr) (s r : List Word) → read_prim s ≡ Some (e, r) → ends r ≡ true → is_index e ≡ false → delete_of n s ≡ None
unfolding delete_of
delete_other n e s r f0 f1 f2 = rw (whole_read (read_prim s) e r f0 f1, f2) refl

pub delete_read : (n : ℕ) (e : Expr) (s r : List Word) → read_prim s ≡ Some (e, r) → ends r ≡ true → is_index e ≡ true → delete_of n s ≡ Some (delete n e)
unfolding delete_of
delete_read n e s r f0 f1 f2 = rw (whole_read (read_prim s) e r f0 f1, f2) refl

pub import_none : (n : ℕ) (s : List Word) → read_names mark.Dot s ≡ None → import_of n s ≡ None
unfolding import_of
import_none n s f0 = rw f0 refl

pub import_left : (n : ℕ) (xs : List (List ℕ)) (s r : List Word) → read_names mark.Dot s ≡ Some (xs, r) → ends r ≡ false → import_of n s ≡ None
unfolding import_of
import_left n xs s r f0 f1 = rw (whole_left (read_names mark.Dot s) xs r f0 f1) refl

pub import_read : (n : ℕ) (xs : List (List ℕ)) (s r : List Word) → read_names mark.Dot s ≡ Some (xs, r) → ends r ≡ true → import_of n s ≡ Some (import n xs)
unfolding import_of
import_read n xs s r f0 f1 = rw (whole_read (read_names mark.Dot s) xs r f0 f1) refl

pub from_no_name : (n : ℕ) (s : List Word) → name_at s ≡ None → from_of n s ≡ None
unfolding from_of
from_no_name n s f0 = rw f0 refl

pub from_no_import : (n : ℕ) (x : List ℕ) (s m : List Word) → name_at s ≡ Some (x, m) → sign_at mark.Import m ≡ None → from_of n s ≡ None
unfolding from_of
from_no_import n x s m f0 f1 = rw (f0, f1) refl

pub from_none : (n : ℕ) (x : List ℕ) (s m t : List Word) → name_at s ≡ Some (x, m) → sign_at mark.Import m ≡ Some t → read_imported t ≡ None → from_of n s ≡ None
unfolding from_of
from_none n x s m t f0 f1 f2 = rw (f0, f1, f2) refl

pub from_left : (n : ℕ) (x : List ℕ) (xs : List (List ℕ)) (s m t r : List Word) → name_at s ≡ Some (x, m) → sign_at mark.Import m ≡ Some t → read_imported t ≡ Some (xs, r) → ends r ≡ false → from_of n s ≡ None
unfolding from_of
from_left n x xs s m t r f0 f1 f2 f3 = rw (f0, f1, whole_left (read_imported t) xs r f2 f3) refl

pub from_read : (n : ℕ) (x : List ℕ) (xs : List (List ℕ)) (s m t r : List Word) → name_at s ≡ Some (x, m) → sign_at mark.Import m ≡ Some t → read_imported t ≡ Some (xs, r) → ends r ≡ true → from_of n s ≡ Some (import_from n x xs)
unfolding from_of
from_read n x xs s m t r f0 f1 f2 f3 = rw (f0, f1, whole_read (read_imported t) xs r f2 f3) refl

-- ---- simple statements

-- no statement is spelled by no words
nothing_read : unmarked_of [] ≡ None
unfolding unmarked_of evaluate_of read_target read_prim read_expr prim_with atom_with below expr_with level_with
nothing_read = refl

pub simple_unmarked : (s : List Word) → first_sign s ≡ None → simple_of s ≡ unmarked_of s
unfolding simple_of
simple_unmarked [] e = sym nothing_read
simple_unmarked (Name n x ∷ s) e = refl
simple_unmarked (Int n v ∷ s) e = refl
simple_unmarked (Str p ∷ s) e = refl
simple_unmarked (Sign n k ∷ s) e = absurd cc

pub simple_marked : (m : Mark) (n : ℕ) (s t : List Word) → first_sign s ≡ Some (m, t) → n ≡ line_of s → simple_of s ≡ marked_of m n t
unfolding simple_of
simple_marked m n [] t e f = absurd cc
simple_marked m n (Name k x ∷ s) t e f = absurd cc
simple_marked m n (Int k v ∷ s) t e f = absurd cc
simple_marked m n (Str p ∷ s) t e f = absurd cc
simple_marked m n (Sign k j ∷ s) t e f =
    let h = some_is (j, s) (m, t) e in
    let p : j ≡ m = ap (λ (x : Mark × List Word). x.0) h in
    let q : s ≡ t = ap (λ (x : Mark × List Word). x.1) h in
    rw (p, q, f) refl

-- a mark that is no keyword of a statement
marked_other : (m : Mark) (n : ℕ) (s : List Word) → (m ≡ mark.Return → ⊥) → (m ≡ mark.Pass → ⊥) → (m ≡ mark.Break → ⊥) → (m ≡ mark.Continue → ⊥) → (m ≡ mark.Assert → ⊥) → (m ≡ mark.Raise → ⊥) → (m ≡ mark.Del → ⊥) → (m ≡ mark.Import → ⊥) → (m ≡ mark.From → ⊥) → marked_of m n s ≡ unmarked_of (Sign n m ∷ s)
unfolding marked_of
marked_other mark.Return n s f0 f1 f2 f3 f4 f5 f6 f7 f8 = absurd (f0 refl)
marked_other mark.Pass n s f0 f1 f2 f3 f4 f5 f6 f7 f8 = absurd (f1 refl)
marked_other mark.Break n s f0 f1 f2 f3 f4 f5 f6 f7 f8 = absurd (f2 refl)
marked_other mark.Continue n s f0 f1 f2 f3 f4 f5 f6 f7 f8 = absurd (f3 refl)
marked_other mark.Assert n s f0 f1 f2 f3 f4 f5 f6 f7 f8 = absurd (f4 refl)
marked_other mark.Raise n s f0 f1 f2 f3 f4 f5 f6 f7 f8 = absurd (f5 refl)
marked_other mark.Del n s f0 f1 f2 f3 f4 f5 f6 f7 f8 = absurd (f6 refl)
marked_other mark.Import n s f0 f1 f2 f3 f4 f5 f6 f7 f8 = absurd (f7 refl)
marked_other mark.From n s f0 f1 f2 f3 f4 f5 f6 f7 f8 = absurd (f8 refl)
marked_other _ n s f0 f1 f2 f3 f4 f5 f6 f7 f8 = refl

pub simple_other : (m : Mark) (s t : List Word) → first_sign s ≡ Some (m, t) → (m ≡ mark.Return → ⊥) → (m ≡ mark.Pass → ⊥) → (m ≡ mark.Break → ⊥) → (m ≡ mark.Continue → ⊥) → (m ≡ mark.Assert → ⊥) → (m ≡ mark.Raise → ⊥) → (m ≡ mark.Del → ⊥) → (m ≡ mark.Import → ⊥) → (m ≡ mark.From → ⊥) → simple_of s ≡ unmarked_of s
unfolding simple_of
simple_other m [] t e f0 f1 f2 f3 f4 f5 f6 f7 f8 = absurd cc
simple_other m (Name n x ∷ s) t e f0 f1 f2 f3 f4 f5 f6 f7 f8 = absurd cc
simple_other m (Int n v ∷ s) t e f0 f1 f2 f3 f4 f5 f6 f7 f8 = absurd cc
simple_other m (Str p ∷ s) t e f0 f1 f2 f3 f4 f5 f6 f7 f8 = absurd cc
simple_other m (Sign n k ∷ s) t e f0 f1 f2 f3 f4 f5 f6 f7 f8 =
    let h = some_is (k, s) (m, t) e in
    let p : k ≡ m = ap (λ (x : Mark × List Word). x.0) h in
    rw p (marked_other m n s f0 f1 f2 f3 f4 f5 f6 f7 f8)
