-- The parts of statements are read as what they spell.
use Rattle.std.proofs.Common.{◌≡◌, ℕ, zero, suc, ◌<◌, ◌≤◌, Bool, true, false, cond, List, [], ◌∷◌, ◌++◌, length, Option, Some, None, refl, sym, ap, subst, arith, ◌∙◌, append_assoc}
use Rattle.std.proofs.lemmas.Bool.{eq-eqb}
use Rattle.std.proofs.lemmas.List.{append-nil}
use Rattle.spec_trees.specs.declared.Operator.{Operator}
use Rattle.spec_trees.specs.Expr.{Expr, Arguments}
use Rattle.spec_grammar.specs.declared.Mark.{Mark}
use Rattle.spec_grammar.specs.declared.Mark.TheVariants as mark
use Rattle.spec_grammar.specs.Words.{Word, Name, Int, Str, Sign, IsSign, one_sign, IsName, one_name}
use Rattle.spec_grammar.specs.Marks.{code_of, sign_at, name_at, augmented_of, before, augmented_at, first_operator, is_suffix, groups_left, StopsAt, Stops}
use Rattle.spec_grammar.specs.Grammar.{loosest, IsExpr, plain, IsLevel, primary, left, joined, no_operator, no_link, IsPrim, atom, attribute, call, index, slice, IsAtom, name, IsArguments}
use Rattle.spec_grammar.specs.Reading.{below, read_expr}
use Rattle.spec_grammar.specs.Statements.{IsTarget, to_name, to_attribute, to_index, IsValue, no_value, value, IsMoreNames, no_name, another_name, IsNames, names, IsClosing, closing, comma_closing, IsImported, bare, bracketed}
use Rattle.spec_grammar.specs.StatementReading.{read_prim, read_arguments, is_target, read_target, read_value, next_name, more_names, read_names, closing_at, read_bracketed, read_imported}
use Rattle.spec_grammar.proofs.Steps.{some_is, sign_is, name_is, not_at, sign_shorter}
use Rattle.spec_grammar.proofs.Fronts.{name_shorter}
use Rattle.spec_grammar.proofs.Full.{StopsExpr, prim_full, arguments_full, below_full, room_of_below, expr_is_read}
use Rattle.spec_grammar.proofs.Sound.{Reads, bind_then, given_then, read_as, ListRead, nothing_more, prim_sound, arguments_sound, below_sound, read_is_expr}
use Rattle.spec_grammar.proofs.TypeLaws.{StopsType}

pub is_sign : {m : Mark} {s t : List Word} → IsSign m s t → sign_at m s ≡ Some t
is_sign (one_sign {m = m} {r = r}) = rw (eq-eqb (code_of m) (code_of m) refl) refl

pub picked : {A : Type 0} (b : Bool) (x y : A) → cond b (Some x) None ≡ Some y → (b ≡ true) × (x ≡ y)
picked true x y e = (refl, some_is x y e)
picked false x y e = absurd cc

-- ---- prims and arguments

pub prim_is_read : (s r : List Word) (e : Expr) → IsPrim s r e → Stops zero r → read_prim s ≡ Some (e, r)
unfolding read_prim
prim_is_read s r e d st = prim_full (below (suc (length s))) (below_full (suc (length s))) (omega (arith, room_of_below (suc (length s)))) st d

pub read_is_prim : Reads read_prim IsPrim
unfolding read_prim
read_is_prim s x e = prim_sound (below (suc (length s))) (below_sound (suc (length s))) s x e

pub arguments_are_read : (s r : List Word) (xs : Arguments) → IsArguments s r xs → read_arguments s ≡ Some (xs, r)
unfolding read_arguments
arguments_are_read s r xs d = arguments_full (below (suc (length s))) (below_full (suc (length s))) (omega (arith, room_of_below (suc (length s)))) d

pub read_is_arguments : Reads read_arguments IsArguments
unfolding read_arguments
read_is_arguments s x e = arguments_sound (below (suc (length s))) (below_sound (suc (length s))) s x e

-- a prim is an expression of each level
level_of_prim : {s r : List Word} {e : Expr} → IsPrim s r e → (l : ℕ) → IsLevel l s r e
level_of_prim p zero = primary p
level_of_prim {s = s} {r = r} {e = e} p (suc l) = by (groups_left l) refl (level_of_prim p l)
  where
    by : (g : Bool) → groups_left l ≡ g → IsLevel l s r e → IsLevel (suc l) s r e
    by true g h = left g h no_operator
    by false g h = joined g h no_link

pub expr_of_prim : {s r : List Word} {e : Expr} → IsPrim s r e → IsExpr s r e
expr_of_prim p = plain (level_of_prim p loosest)

-- ---- targets

pub prim_of_target : {s r : List Word} {e : Expr} → IsTarget s r e → IsPrim s r e
prim_of_target (to_name i) = atom (name i)
prim_of_target (to_attribute p d x) = attribute p d x
prim_of_target (to_index p o i c) = index p o i c

has_target : {s r : List Word} {e : Expr} → IsTarget s r e → is_target e ≡ true
has_target (to_name i) = refl
has_target (to_attribute p d x) = refl
has_target (to_index p o i c) = refl

target_of_atom : {s r : List Word} {e : Expr} → IsAtom s r e → is_target e ≡ true → IsTarget s r e
target_of_atom (name i) t = to_name i
target_of_atom _ t = absurd cc

target_of_prim : {s r : List Word} {e : Expr} → IsPrim s r e → is_target e ≡ true → IsTarget s r e
target_of_prim (atom a) t = target_of_atom a t
target_of_prim (attribute p d x) t = to_attribute p d x
target_of_prim (call p o xs) t = absurd cc
target_of_prim (index p o i c) t = to_index p o i c
target_of_prim (slice p o f d g c) t = absurd cc

pub target_is_read : (s r : List Word) (e : Expr) → IsTarget s r e → Stops zero r → read_target s ≡ Some (e, r)
unfolding read_target
target_is_read s r e d st = rw (prim_is_read s r e (prim_of_target d) st, has_target d) refl

pub read_is_target : Reads read_target IsTarget
unfolding read_target
read_is_target s x e = bind_then (read_prim s) _ _ e (λ y read rest.
    let p = picked (is_target y.0) y x rest in
    subst (λ (z : Expr × List Word). IsTarget s z.1 z.0) p.1 (target_of_prim (read_is_prim s y read) p.0))

-- ---- what follows a target

pub stops_zero : (l : ℕ) (s : List Word) → Stops l s → Stops zero s
stops_zero l s h = less (first_operator s) (is_suffix s) h
  where
    less : (o : Option (Operator × List Word)) (b : Bool) → StopsAt l o b → StopsAt zero o b
    less None b h = h
    less (Some y) b h = omega arith

augmented_mark : (m : Mark) (n : ℕ) (s : List Word) (o : Operator) → augmented_of m ≡ Some o → StopsExpr (Sign n m ∷ s)
augmented_mark mark.PlusAssign n s o e = (refl, refl)
augmented_mark mark.MinusAssign n s o e = (refl, refl)
augmented_mark mark.StarAssign n s o e = (refl, refl)
augmented_mark mark.DoubleSlashAssign n s o e = (refl, refl)
augmented_mark mark.PercentAssign n s o e = (refl, refl)
augmented_mark mark.AmpersandAssign n s o e = (refl, refl)
augmented_mark mark.BarAssign n s o e = (refl, refl)
augmented_mark mark.CaretAssign n s o e = (refl, refl)
augmented_mark mark.ShiftLeftAssign n s o e = (refl, refl)
augmented_mark mark.ShiftRightAssign n s o e = (refl, refl)
augmented_mark _ n s o e = absurd cc

pub augmented_stops : (s : List Word) (x : Operator × List Word) → augmented_at s ≡ Some x → StopsExpr s
augmented_stops [] x e = absurd cc
augmented_stops (Name n y ∷ s) x e = absurd cc
augmented_stops (Int n v ∷ s) x e = absurd cc
augmented_stops (Str p ∷ s) x e = absurd cc
augmented_stops (Sign n m ∷ s) x e = by_cases (augmented_of m) refl e
  where
    by_cases : (o : Option Operator) → augmented_of m ≡ o → before o s ≡ Some x → StopsExpr (Sign n m ∷ s)
    by_cases None f e = absurd cc
    by_cases (Some o) f e = augmented_mark m n s o f

pub augmented_no_sign : (s : List Word) (x : Operator × List Word) → augmented_at s ≡ Some x → (m : Mark) → augmented_of m ≡ None → sign_at m s ≡ None
augmented_no_sign s x e m f = not_at m s (λ r i. clash i e f)
  where
    clash : {k : Mark} {q r : List Word} → IsSign k q r → augmented_at q ≡ Some x → augmented_of k ≡ None → ⊥
    clash (one_sign {r = r}) e f = let g : before None r ≡ Some x = subst (λ o. before o r ≡ Some x) f e in absurd cc

-- Words that are an expression to their end do not go on behind a target.
pub ends_there : (s u : List Word) (a e : Expr) → IsExpr s [] e → IsTarget s u a → StopsExpr u → u ≡ []
ends_there s u a e h t st =
    let one = expr_is_read s [] e h (refl, refl) in
    let two = expr_is_read s u a (expr_of_prim (prim_of_target t)) st in
    let same : (let p : Expr × List Word = (e, []) in p) ≡ (a, u) = some_is (e, []) (a, u) (sym one ∙ two) in
    ap (λ (p : Expr × List Word). p.1) (sym same)

-- ---- values

pub value_is_read : (s r : List Word) (v : Option Expr) → IsValue s r v → StopsExpr r → sign_at mark.Assign r ≡ None → read_value s ≡ Some (v, r)
unfolding read_value
value_is_read s r v no_value st f = rw f refl
value_is_read s r v (value {t = t} {e = e} one_sign d) st f = rw (expr_is_read t r e d st) refl

pub read_is_value : Reads read_value IsValue
unfolding read_value
read_is_value s x e =
    given_then (sign_at mark.Assign s) _ _ _ e
    (λ t is rest. bind_then (read_expr t) _ _ rest (λ d read same. read_as (IsValue s) same (value (sign_is mark.Assign s t is) (read_is_expr t d read))))
    (λ not same. read_as (IsValue s) same no_value)

-- what follows a type before a value
pub value_stops : {s r : List Word} {v : Option Expr} → IsValue s r v → StopsType r → StopsType s
value_stops no_value st = st
value_stops (value one_sign d) st = (refl, refl)

pub value_no_colon : {s r : List Word} {v : Option Expr} → IsValue s r v → sign_at mark.Colon r ≡ None → sign_at mark.Colon s ≡ None
value_no_colon no_value f = f
value_no_colon (value one_sign d) f = refl

-- ---- names

more_names_shorter : {m : Mark} {s r : List Word} {xs : List (List ℕ)} → IsMoreNames m s r xs → length r ≤ length s
more_names_shorter no_name = omega arith
more_names_shorter (another_name i j c) = omega (arith, sign_shorter i, name_shorter j, more_names_shorter c)

next_name_is : {m : Mark} {s t u : List Word} {x : List ℕ} → IsSign m s t → IsName t u x → next_name m s ≡ Some (x, u)
next_name_is i one_name = rw (is_sign i) refl

more_names_full : (m : Mark) (k : ℕ) (xs : List (List ℕ)) (s r : List Word) (ys : List (List ℕ)) → length s < k → IsMoreNames m s r ys → next_name m r ≡ None → more_names m k xs s ≡ Some (xs ++ ys, r)
unfolding more_names
more_names_full m zero xs s r ys lt d f = absurd (omega arith)
more_names_full m (suc k) xs s r ys lt no_name f = rw (f, append-nil xs) refl
more_names_full m (suc k) xs s r ys lt (another_name {u = u} {x = x} {xs = zs} i j c) f =
    let less = sign_shorter i in
    let less2 = name_shorter j in
    let next : next_name m s ≡ Some (x, u) = next_name_is i j in
    rw next (more_names_full m k (xs ++ x ∷ []) u r zs (omega arith) c f ∙ ap (λ (ws : List (List ℕ)). Some (ws, r)) (append_assoc xs (x ∷ []) zs))

pub names_are_read : (m : Mark) (s r : List Word) (xs : List (List ℕ)) → IsNames m s r xs → next_name m r ≡ None → read_names m s ≡ Some (xs, r)
unfolding read_names
names_are_read m s r xs (names {t = t} {x = x} {xs = ys} one_name c) f = more_names_full m (length s) (x ∷ []) t r ys (omega arith) c f

more_names_sound : (m : Mark) (k : ℕ) (xs : List (List ℕ)) (s : List Word) (x : List (List ℕ) × List Word) → more_names m k xs s ≡ Some x → ListRead (IsMoreNames m) (λ ys zs. ys ++ zs) xs s x
unfolding more_names
more_names_sound m zero xs s x e = absurd cc
more_names_sound m (suc k) xs s x e =
    given_then (next_name m s) _ _ _ e
    (λ y next rest. bind_then (sign_at m s) _ _ next (λ t is named.
    let c = more_names_sound m k (xs ++ y.0 ∷ []) y.1 x rest in
    record { ys = y.0 ∷ c.ys; is = another_name (sign_is m s t is) (name_is t y named) c.is; whole = c.whole ∙ append_assoc xs (y.0 ∷ []) c.ys }))
    (λ not same. nothing_more (IsMoreNames m) (λ ys zs. ys ++ zs) xs s s x [] no_name (sym (append-nil xs)) same)

pub read_is_names : (m : Mark) → Reads (read_names m) (IsNames m)
unfolding read_names
read_is_names m s x e = bind_then (name_at s) _ _ e (λ y named rest.
    let c = more_names_sound m (length s) (y.0 ∷ []) y.1 x rest in
    subst (λ v. IsNames m s x.1 v) (sym c.whole) (names (name_is s y named) c.is))

closing_is_read : {s r : List Word} → IsClosing s r → closing_at s ≡ Some r
closing_is_read (closing one_sign) = refl
closing_is_read (comma_closing one_sign one_sign) = refl

closing_no_name : {s r : List Word} → IsClosing s r → next_name mark.Comma s ≡ None
closing_no_name (closing one_sign) = refl
closing_no_name (comma_closing one_sign one_sign) = refl

read_is_closing : (s r : List Word) → closing_at s ≡ Some r → IsClosing s r
read_is_closing s r e =
    given_then (sign_at mark.CloseParen s) _ _ _ e
    (λ t is same. closing (sign_is mark.CloseParen s r (is ∙ same)))
    (λ not rest. bind_then (sign_at mark.Comma s) _ _ rest (λ t is same. comma_closing (sign_is mark.Comma s t is) (sign_is mark.CloseParen t r same)))

pub bracketed_are_read : (s m r : List Word) (xs : List (List ℕ)) → IsNames mark.Comma s m xs → IsClosing m r → read_bracketed s ≡ Some (xs, r)
unfolding read_bracketed
bracketed_are_read s m r xs d c = rw (names_are_read mark.Comma s m xs d (closing_no_name c), closing_is_read c) refl

-- names in brackets, up to where the brackets close
pub record BracketedRead (s r : List Word) (xs : List (List ℕ)) : Type 0 where
  pub after : List Word
  pub names : IsNames mark.Comma s after xs
  pub closing : IsClosing after r

pub read_is_bracketed : Reads read_bracketed BracketedRead
unfolding read_bracketed
read_is_bracketed s x e =
    bind_then (read_names mark.Comma s) _ _ e (λ xs read rest.
    bind_then (closing_at xs.1) _ _ rest (λ r is same.
    read_as (BracketedRead s) same (record { after = xs.1; names = read_is_names mark.Comma s xs read; closing = read_is_closing xs.1 r is })))

pub imported_are_read : (s r : List Word) (xs : List (List ℕ)) → IsImported s r xs → next_name mark.Comma r ≡ None → read_imported s ≡ Some (xs, r)
unfolding read_imported
imported_are_read s r xs (bare (names one_name c)) f = names_are_read mark.Comma s r xs (names one_name c) f
imported_are_read s r xs (bracketed {t = t} {m = m} one_sign d c) f = bracketed_are_read t m r xs d c

pub read_is_imported : Reads read_imported IsImported
unfolding read_imported
read_is_imported s x e =
    given_then (sign_at mark.OpenParen s) _ _ _ e
    (λ t is rest. let b = read_is_bracketed t x rest in bracketed (sign_is mark.OpenParen s t is) b.names b.closing)
    (λ not rest. bare (read_is_names mark.Comma s x rest))
