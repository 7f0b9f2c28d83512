-- A simple statement is read as the one tree that its words spell.
use Rattle.std.proofs.Common.{◌≡◌, ℕ, zero, ◌<◌, true, false, List, [], ◌∷◌, length, Option, Some, None, refl, sym, subst, arith, ◌∙◌}
use Rattle.spec_trees.specs.declared.Operator.{Operator}
use Rattle.spec_trees.specs.Expr as expr
use Rattle.spec_trees.specs.Expr.{Expr, Arguments}
use Rattle.spec_trees.specs.Stmt as tree
use Rattle.spec_trees.specs.Stmt.{TypeExpr, Simple}
use Rattle.spec_grammar.specs.declared.Mark.{Mark}
use Rattle.spec_grammar.specs.declared.Mark.TheVariants as mark
use Rattle.spec_grammar.specs.Words.{Word, Name, Int, Str, Sign, line_of, IsSign, one_sign, IsName, one_name}
use Rattle.spec_grammar.specs.Marks.{sign_at, name_at, augmented_at, may_begin, Stops}
use Rattle.spec_grammar.specs.Grammar.{loosest, IsExpr, IsPrim, atom, attribute, call, index, slice, IsAtom, name, IsArguments}
use Rattle.spec_grammar.specs.Reading.{given, whole, read_expr, expr_of}
use Rattle.spec_grammar.specs.Types.{IsType}
use Rattle.spec_grammar.specs.TypeReading.{read_type}
use Rattle.spec_grammar.specs.Statements.{IsTarget, IsValue, IsNames, IsImported, IsSimple, assigns, annotates, augments, evaluates, returns, returns_value, passes, breaks, continues, asserts, asserts_message, reraises, raises, raises_arguments, deletes, imports, imports_from}
use Rattle.spec_grammar.specs.StatementReading.{read_prim, read_arguments, read_target, read_value, read_names, read_imported, is_index, evaluate_of, annotate_of, targeted_of, unmarked_of, return_of, alone, message_of, assert_of, raised_of, raise_of, delete_of, import_of, from_of, marked_of, simple_of}
use Rattle.spec_grammar.proofs.Steps.{some_is, whole_is, sign_is, name_is, not_at}
use Rattle.spec_grammar.proofs.Fronts.{prim_not, expr_not, expr_shorter, prim_shorter}
use Rattle.spec_grammar.proofs.Full.{StopsExpr, expr_is_read}
use Rattle.spec_grammar.proofs.Sound.{bind_then, given_then, read_is_expr}
use Rattle.spec_grammar.proofs.Laws.{expr_is, is_expr}
use Rattle.spec_grammar.proofs.TypeLaws.{type_is_read, read_is_type}
use Rattle.spec_grammar.proofs.StatementParts.{picked, prim_is_read, read_is_prim, arguments_are_read, read_is_arguments, prim_of_target, target_is_read, read_is_target, stops_zero, augmented_stops, augmented_no_sign, ends_there, value_is_read, read_is_value, value_stops, names_are_read, read_is_names, imported_are_read, read_is_imported}

-- ---- what is read is a statement

-- the statement that is read
is_as : {s : List Word} {c d : Simple} → Some c ≡ Some d → IsSimple s c → IsSimple s d
is_as {s} {c} {d} e h = subst (IsSimple s) (some_is c d e) h

evaluate_sound : (s : List Word) (d : Simple) → evaluate_of s ≡ Some d → IsSimple s d
unfolding evaluate_of
evaluate_sound s d e = bind_then (expr_of s) _ _ e (λ x read same. is_as same (evaluates (expr_is s x read)))

annotate_sound : (s m t : List Word) (a : Expr) (d : Simple) → IsTarget s m a → IsSign mark.Colon m t → annotate_of (line_of s) a t ≡ Some d → IsSimple s d
unfolding annotate_of
annotate_sound s m t a d h i e =
    bind_then (read_type t) _ _ e (λ x read rest.
    bind_then (whole (read_value x.1)) _ _ rest (λ v valued same.
    is_as same (annotates h i (read_is_type t x read) (read_is_value x.1 (v, []) (whole_is (read_value x.1) v valued)))))

targeted_sound : (s m : List Word) (a : Expr) (d : Simple) → IsTarget s m a → targeted_of s a m ≡ Some d → IsSimple s d
unfolding targeted_of
targeted_sound s m a d h e =
    given_then (sign_at mark.Assign m) _ _ _ e
    (λ t is rest. bind_then (expr_of t) _ _ rest (λ x read same. is_as same (assigns h (sign_is mark.Assign m t is) (expr_is t x read))))
    (λ not rest. given_then (sign_at mark.Colon m) _ _ _ rest
    (λ t is rest2. annotate_sound s m t a d h (sign_is mark.Colon m t is) rest2)
    (λ not2 rest2. given_then (augmented_at m) _ _ _ rest2
    (λ o is rest3. bind_then (expr_of o.1) _ _ rest3 (λ x read same. is_as same (augments h is (expr_is o.1 x read))))
    (λ not3 rest3. evaluate_sound s d rest3)))

unmarked_sound : (s : List Word) (d : Simple) → unmarked_of s ≡ Some d → IsSimple s d
unfolding unmarked_of
unmarked_sound s d e =
    given_then (read_target s) _ _ _ e
    (λ x read rest. targeted_sound s x.1 x.0 d (read_is_target s x read) rest)
    (λ not rest. evaluate_sound s d rest)

return_sound : (n : ℕ) (s : List Word) (d : Simple) → return_of n s ≡ Some d → IsSimple (Sign n mark.Return ∷ s) d
unfolding return_of
return_sound n [] d e = is_as e (returns one_sign)
return_sound n (w ∷ s) d e = bind_then (expr_of (w ∷ s)) _ _ e (λ x read same. is_as same (returns_value one_sign (expr_is (w ∷ s) x read)))

alone_sound : (m : Mark) (n : ℕ) (s : List Word) (c d : Simple) → IsSimple (Sign n m ∷ []) c → alone c s ≡ Some d → IsSimple (Sign n m ∷ s) d
unfolding alone
alone_sound m n [] c d h e = is_as e h
alone_sound m n (w ∷ s) c d h e = absurd cc

message_sound : (n : ℕ) (s m : List Word) (x : Expr) (d : Simple) → IsExpr s m x → message_of n x m ≡ Some d → IsSimple (Sign n mark.Assert ∷ s) d
unfolding message_of
message_sound n s [] x d h e = is_as e (asserts one_sign h)
message_sound n s (w ∷ m) x d h e =
    bind_then (sign_at mark.Comma (w ∷ m)) _ _ e (λ t is rest.
    bind_then (expr_of t) _ _ rest (λ y read same. is_as same (asserts_message one_sign h (sign_is mark.Comma (w ∷ m) t is) (expr_is t y read))))

assert_sound : (n : ℕ) (s : List Word) (d : Simple) → assert_of n s ≡ Some d → IsSimple (Sign n mark.Assert ∷ s) d
unfolding assert_of
assert_sound n s d e = bind_then (read_expr s) _ _ e (λ x read rest. message_sound n s x.1 x.0 d (read_is_expr s x read) rest)

raised_sound : (n : ℕ) (s m : List Word) (x : List ℕ) (d : Simple) → IsName s m x → raised_of n x m ≡ Some d → IsSimple (Sign n mark.Raise ∷ s) d
unfolding raised_of
raised_sound n s [] x d h e = is_as e (raises one_sign h)
raised_sound n s (w ∷ m) x d h e =
    bind_then (sign_at mark.OpenParen (w ∷ m)) _ _ e (λ t is rest.
    bind_then (whole (read_arguments t)) _ _ rest (λ xs read same.
    is_as same (raises_arguments one_sign h (sign_is mark.OpenParen (w ∷ m) t is) (read_is_arguments t (xs, []) (whole_is (read_arguments t) xs read)))))

raise_sound : (n : ℕ) (s : List Word) (d : Simple) → raise_of n s ≡ Some d → IsSimple (Sign n mark.Raise ∷ s) d
unfolding raise_of
raise_sound n [] d e = is_as e (reraises one_sign)
raise_sound n (w ∷ s) d e = bind_then (name_at (w ∷ s)) _ _ e (λ x named rest. raised_sound n (w ∷ s) x.1 x.0 d (name_is (w ∷ s) x named) rest)

-- a prim whose tree is an index ends with one
delete_from : {s : List Word} {e : Expr} (n : ℕ) → IsPrim s [] e → is_index e ≡ true → IsSimple (Sign n mark.Del ∷ s) (tree.delete n e)
delete_from n (atom a) t = absurd (no_atom a t)
  where
    no_atom : {s r : List Word} {e : Expr} → IsAtom s r e → is_index e ≡ true → ⊥
    no_atom (name i) t = cc
    no_atom _ t = cc
delete_from n (attribute p d x) t = absurd cc
delete_from n (call p o xs) t = absurd cc
delete_from n (index p o i c) t = deletes one_sign p o i c
delete_from n (slice p o f d g c) t = absurd cc

delete_sound : (n : ℕ) (s : List Word) (d : Simple) → delete_of n s ≡ Some d → IsSimple (Sign n mark.Del ∷ s) d
unfolding delete_of
delete_sound n s d e =
    bind_then (whole (read_prim s)) _ _ e (λ x read rest.
    let p = picked (is_index x) (tree.delete n x) d rest in
    subst (IsSimple (Sign n mark.Del ∷ s)) p.1 (delete_from n (read_is_prim s (x, []) (whole_is (read_prim s) x read)) p.0))

import_sound : (n : ℕ) (s : List Word) (d : Simple) → import_of n s ≡ Some d → IsSimple (Sign n mark.Import ∷ s) d
unfolding import_of
import_sound n s d e =
    bind_then (whole (read_names mark.Dot s)) _ _ e (λ xs read same.
    is_as same (imports one_sign (read_is_names mark.Dot s (xs, []) (whole_is (read_names mark.Dot s) xs read))))

from_sound : (n : ℕ) (s : List Word) (d : Simple) → from_of n s ≡ Some d → IsSimple (Sign n mark.From ∷ s) d
unfolding from_of
from_sound n s d e =
    bind_then (name_at s) _ _ e (λ x named rest.
    bind_then (sign_at mark.Import x.1) _ _ rest (λ t is rest2.
    bind_then (whole (read_imported t)) _ _ rest2 (λ xs read same.
    is_as same (imports_from one_sign (name_is s x named) (sign_is mark.Import x.1 t is) (read_is_imported t (xs, []) (whole_is (read_imported t) xs read))))))

marked_sound : (m : Mark) (n : ℕ) (s : List Word) (d : Simple) → marked_of m n s ≡ Some d → IsSimple (Sign n m ∷ s) d
unfolding marked_of
marked_sound mark.Return n s d e = return_sound n s d e
marked_sound mark.Pass n s d e = alone_sound mark.Pass n s (tree.pass n) d (passes one_sign) e
marked_sound mark.Break n s d e = alone_sound mark.Break n s (tree.break n) d (breaks one_sign) e
marked_sound mark.Continue n s d e = alone_sound mark.Continue n s (tree.continue n) d (continues one_sign) e
marked_sound mark.Assert n s d e = assert_sound n s d e
marked_sound mark.Raise n s d e = raise_sound n s d e
marked_sound mark.Del n s d e = delete_sound n s d e
marked_sound mark.Import n s d e = import_sound n s d e
marked_sound mark.From n s d e = from_sound n s d e
marked_sound m n s d e = unmarked_sound (Sign n m ∷ s) d e

pub simple_is : (s : List Word) (d : Simple) → simple_of s ≡ Some d → IsSimple s d
unfolding simple_of
simple_is [] d e = absurd cc
simple_is (Name n x ∷ s) d e = unmarked_sound (Name n x ∷ s) d e
simple_is (Int n v ∷ s) d e = unmarked_sound (Int n v ∷ s) d e
simple_is (Str p ∷ s) d e = unmarked_sound (Str p ∷ s) d e
simple_is (Sign n m ∷ s) d e = marked_sound m n s d e

-- ---- what is a statement is read

return_full : (n : ℕ) (s : List Word) (e : Expr) → IsExpr s [] e → return_of n s ≡ Some (tree.return n (Some e))
unfolding return_of
return_full n [] e h = let less = expr_shorter h in absurd (omega arith)
return_full n (w ∷ s) e h = rw (is_expr (w ∷ s) e h) refl

assert_full : (n : ℕ) (s : List Word) (e : Expr) → IsExpr s [] e → assert_of n s ≡ Some (tree.assert n e None)
unfolding assert_of message_of
assert_full n s e h = rw (expr_is_read s [] e h (refl, refl)) refl

assert_message_full : (n : ℕ) (s m u : List Word) (e d : Expr) → IsExpr s m e → IsSign mark.Comma m u → IsExpr u [] d → assert_of n s ≡ Some (tree.assert n e (Some d))
unfolding assert_of message_of
assert_message_full n s m u e d h one_sign i = rw (expr_is_read s m e h (refl, refl), is_expr u d i) refl

raise_arguments_full : (n : ℕ) (s u v : List Word) (x : List ℕ) (xs : Arguments) → IsName s u x → IsSign mark.OpenParen u v → IsArguments v [] xs → raise_of n s ≡ Some (tree.raise n x (Some xs))
unfolding raise_of raised_of
raise_arguments_full n s u v x xs one_name one_sign h = rw (arguments_are_read v [] xs h) refl

delete_full : (n : ℕ) (s m u v : List Word) (a i : Expr) → IsPrim s m a → IsSign mark.OpenBracket m u → IsExpr u v i → IsSign mark.CloseBracket v [] → delete_of n s ≡ Some (tree.delete n (expr.index (line_of s) a i))
unfolding delete_of
delete_full n s m u v a i p o h c = rw (prim_is_read s [] (expr.index (line_of s) a i) (index p o h c) refl) refl

import_full : (n : ℕ) (s : List Word) (xs : List (List ℕ)) → IsNames mark.Dot s [] xs → import_of n s ≡ Some (tree.import n xs)
unfolding import_of
import_full n s xs h = rw (names_are_read mark.Dot s [] xs h refl) refl

from_full : (n : ℕ) (s u v : List Word) (x : List ℕ) (xs : List (List ℕ)) → IsName s u x → IsSign mark.Import u v → IsImported v [] xs → from_of n s ≡ Some (tree.import_from n x xs)
unfolding from_of
from_full n s u v x xs one_name one_sign h = rw (imported_are_read v [] xs h refl) refl

-- ---- what begins with no keyword of a statement

marked_is : (m : Mark) (n : ℕ) (s : List Word) → ((k : Mark) → may_begin k ≡ false → sign_at k (Sign n m ∷ s) ≡ None) → marked_of m n s ≡ unmarked_of (Sign n m ∷ s)
unfolding marked_of
marked_is mark.Return n s h = absurd (let p : Some s ≡ None = h mark.Return refl in cc)
marked_is mark.Pass n s h = absurd (let p : Some s ≡ None = h mark.Pass refl in cc)
marked_is mark.Break n s h = absurd (let p : Some s ≡ None = h mark.Break refl in cc)
marked_is mark.Continue n s h = absurd (let p : Some s ≡ None = h mark.Continue refl in cc)
marked_is mark.Assert n s h = absurd (let p : Some s ≡ None = h mark.Assert refl in cc)
marked_is mark.Raise n s h = absurd (let p : Some s ≡ None = h mark.Raise refl in cc)
marked_is mark.Del n s h = absurd (let p : Some s ≡ None = h mark.Del refl in cc)
marked_is mark.Import n s h = absurd (let p : Some s ≡ None = h mark.Import refl in cc)
marked_is mark.From n s h = absurd (let p : Some s ≡ None = h mark.From refl in cc)
marked_is _ n s h = refl

unmarked_is : (s : List Word) → 0 < length s → ((k : Mark) → may_begin k ≡ false → sign_at k s ≡ None) → simple_of s ≡ unmarked_of s
unfolding simple_of
unmarked_is [] lt h = absurd (omega arith)
unmarked_is (Name n x ∷ s) lt h = refl
unmarked_is (Int n v ∷ s) lt h = refl
unmarked_is (Str p ∷ s) lt h = refl
unmarked_is (Sign n m ∷ s) lt h = marked_is m n s h

-- a target and what follows it
unmarked_target : (s m : List Word) (a : Expr) → IsTarget s m a → Stops zero m → simple_of s ≡ targeted_of s a m
unfolding unmarked_of
unmarked_target s m a h st =
    let p : IsPrim s m a = prim_of_target h in
    let less = prim_shorter p in
    unmarked_is s (omega arith) (λ k f. prim_not p k f) ∙ rw (target_is_read s m a h st) refl

assign_full : (s m t : List Word) (a e : Expr) → IsTarget s m a → IsSign mark.Assign m t → IsExpr t [] e → simple_of s ≡ Some (tree.assign (line_of s) a e)
unfolding targeted_of
assign_full s m t a e h one_sign i = unmarked_target s m a h refl ∙ rw (is_expr t e i) refl

annotate_full : (s m t u : List Word) (a : Expr) (d : TypeExpr) (v : Option Expr) → IsTarget s m a → IsSign mark.Colon m t → IsType t u d → IsValue u [] v → simple_of s ≡ Some (tree.annotate (line_of s) a d v)
unfolding targeted_of annotate_of
annotate_full s m t u a d v h one_sign i j = unmarked_target s m a h refl ∙ rw (type_is_read t u d i (value_stops j (refl, refl)), value_is_read u [] v j (refl, refl) refl) refl

augment_full : (s m t : List Word) (a e : Expr) (o : Operator) → IsTarget s m a → augmented_at m ≡ Some (o, t) → IsExpr t [] e → simple_of s ≡ Some (tree.augment (line_of s) a o e)
unfolding targeted_of
augment_full s m t a e o h is i =
    let st = augmented_stops m (o, t) is in
    unmarked_target s m a h (stops_zero loosest m st.0) ∙ rw (augmented_no_sign m (o, t) is mark.Assign refl, augmented_no_sign m (o, t) is mark.Colon refl, is, is_expr t e i) refl

-- An expression alone is not read as something behind a target.
no_sign_there : {m : Mark} {u t : List Word} → u ≡ [] → IsSign m u t → ⊥
no_sign_there f one_sign = cc

assign_stops : {u t : List Word} → IsSign mark.Assign u t → StopsExpr u
assign_stops one_sign = (refl, refl)

colon_stops : {u t : List Word} → IsSign mark.Colon u t → StopsExpr u
colon_stops one_sign = (refl, refl)

no_augmented_there : (u : List Word) → (StopsExpr u → u ≡ []) → (o : Option (Operator × List Word)) → augmented_at u ≡ o → augmented_at u ≡ None
no_augmented_there u f None is = is
no_augmented_there u f (Some y) is =
    let g : augmented_at [] ≡ Some y = subst (λ v. augmented_at v ≡ Some y) (f (augmented_stops u y is)) is in absurd cc

evaluate_behind : (s u : List Word) (a : Expr) → (StopsExpr u → u ≡ []) → targeted_of s a u ≡ evaluate_of s
unfolding targeted_of
evaluate_behind s u a f =
    rw (not_at mark.Assign u (λ r i. no_sign_there (f (assign_stops i)) i), not_at mark.Colon u (λ r i. no_sign_there (f (colon_stops i)) i), no_augmented_there u f (augmented_at u) refl) refl

evaluate_full : (s : List Word) (e : Expr) → IsExpr s [] e → simple_of s ≡ Some (tree.evaluate (line_of s) e)
unfolding unmarked_of evaluate_of
evaluate_full s e h = let less = expr_shorter h in unmarked_is s (omega arith) (λ k f. expr_not h k f) ∙ by_target (read_target s) refl ∙ rw (is_expr s e h) refl
  where
    by_target : (o : Option (Expr × List Word)) → read_target s ≡ o → given o (λ x. targeted_of s x.0 x.1) (evaluate_of s) ≡ evaluate_of s
    by_target None is = refl
    by_target (Some x) is = evaluate_behind s x.1 x.0 (ends_there s x.1 x.0 e h (read_is_target s x is))

pub is_simple : (s : List Word) (d : Simple) → IsSimple s d → simple_of s ≡ Some d
unfolding simple_of marked_of alone raise_of raised_of return_of
is_simple s d (assigns {m = m} {t = t} {a = a} {e = e} h i j) = assign_full s m t a e h i j
is_simple s d (annotates {m = m} {t = t} {u = u} {a = a} {d = c} {v = v} h i j k) = annotate_full s m t u a c v h i j k
is_simple s d (augments {m = m} {t = t} {a = a} {e = e} {o = o} h i j) = augment_full s m t a e o h i j
is_simple s d (evaluates {e = e} h) = evaluate_full s e h
is_simple s d (returns one_sign) = refl
is_simple s d (returns_value {t = t} {e = e} (one_sign {n = n}) h) = return_full n t e h
is_simple s d (passes one_sign) = refl
is_simple s d (breaks one_sign) = refl
is_simple s d (continues one_sign) = refl
is_simple s d (asserts {t = t} {e = e} (one_sign {n = n}) h) = assert_full n t e h
is_simple s d (asserts_message {t = t} {m = m} {u = u} {e = e} {d = c} (one_sign {n = n}) h i j) = assert_message_full n t m u e c h i j
is_simple s d (reraises one_sign) = refl
is_simple s d (raises one_sign one_name) = refl
is_simple s d (raises_arguments {t = t} {u = u} {v = v} {x = x} {xs = xs} (one_sign {n = n}) i j h) = raise_arguments_full n t u v x xs i j h
is_simple s d (deletes {t = t} {m = m} {u = u} {v = v} {a = a} {i = i} (one_sign {n = n}) p o h c) = delete_full n t m u v a i p o h c
is_simple s d (imports {t = t} {xs = xs} (one_sign {n = n}) h) = import_full n t xs h
is_simple s d (imports_from {t = t} {u = u} {v = v} {x = x} {xs = xs} (one_sign {n = n}) i j h) = from_full n t u v x xs i j h

pub one_simple : (s : List Word) (c d : Simple) → IsSimple s c → IsSimple s d → c ≡ d
one_simple s c d g h = some_is c d (sym (is_simple s c g) ∙ is_simple s d h)
