-- A header and a line are read as the one tree that their words spell.
use Rattle.std.proofs.Common.{◌≡◌, ℕ, zero, suc, ◌<◌, ◌≤◌, ◌-◌, Bool, true, false, List, [], ◌∷◌, ◌++◌, length, Option, Some, None, refl, sym, ap, subst, arith, ◌∙◌, append_assoc}
use Rattle.std.proofs.lemmas.List.{append-nil}
use Rattle.spec_trees.specs.Expr.{Expr}
use Rattle.spec_trees.specs.Stmt as tree
use Rattle.spec_trees.specs.Stmt.{TypeExpr, Parameter, Simple, Header, Line}
use Rattle.spec_grammar.specs.declared.Mark.{Mark}
use Rattle.spec_grammar.specs.declared.Mark.TheVariants as mark
use Rattle.spec_grammar.specs.Words.{Word, Name, Int, Str, Sign, IsSign, one_sign, IsName, one_name}
use Rattle.spec_grammar.specs.Marks.{sign_at, name_at, may_begin}
use Rattle.spec_grammar.specs.Grammar.{IsExpr}
use Rattle.spec_grammar.specs.Reading.{Parse, read_expr}
use Rattle.spec_grammar.specs.TypeReading.{read_type}
use Rattle.spec_grammar.specs.Statements.{IsTarget, IsValue, no_value, value, IsSimple, assigns, annotates, augments, evaluates, returns, returns_value, passes, breaks, continues, asserts, asserts_message, reraises, raises, raises_arguments, deletes, imports, imports_from}
use Rattle.spec_grammar.specs.Headers.{IsAnnotation, no_annotation, annotation, IsResult, no_result, result, IsParameter, parameter, IsParameters, no_more, more, IsRest, end, comma, IsBrackets, no_brackets, brackets, IsCaught, all_classes, one_class, classes, IsHeader, defines, classifies, tests, tests_again, otherwise, repeats, walks, tries, catches, IsLine, simple, header, header_simple}
use Rattle.spec_grammar.specs.StatementReading.{read_value, simple_of}
use Rattle.spec_grammar.specs.HeaderReading.{type_behind, read_parameter, rest_of_parameters, parameters_with, with_colon, def_of, brackets_at, class_of, condition_of, for_of, read_caught, except_of, headed_of, read_header, headed_line, read_line}
use Rattle.spec_grammar.proofs.Steps.{some_is, sign_is, name_is, not_at, same_mark, sign_shorter}
use Rattle.spec_grammar.proofs.Fronts.{name_shorter, expr_not, expr_shorter, prim_not, prim_shorter}
use Rattle.spec_grammar.proofs.Full.{StopsExpr, expr_is_read}
use Rattle.spec_grammar.proofs.Sound.{Reads, bind_then, given_then, read_as, ListRead, nothing_more, read_is_expr}
use Rattle.spec_grammar.proofs.TypeLaws.{StopsType, type_shorter, type_is_read, read_is_type}
use Rattle.spec_grammar.proofs.StatementParts.{prim_of_target, value_is_read, read_is_value, value_stops, value_no_colon, bracketed_are_read, read_is_bracketed}
use Rattle.spec_grammar.proofs.StatementLaws.{simple_is, is_simple}

-- ---- types behind a sign

annotation_is_read : (s r : List Word) (a : Option TypeExpr) → IsAnnotation s r a → StopsType r → sign_at mark.Colon r ≡ None → type_behind mark.Colon s ≡ Some (a, r)
unfolding type_behind
annotation_is_read s r a no_annotation st f = rw f refl
annotation_is_read s r a (annotation {t = t} {a = b} one_sign d) st f = rw (type_is_read t r b d st) refl

result_is_read : (s r : List Word) (a : Option TypeExpr) → IsResult s r a → StopsType r → sign_at mark.Arrow r ≡ None → type_behind mark.Arrow s ≡ Some (a, r)
unfolding type_behind
result_is_read s r a no_result st f = rw f refl
result_is_read s r a (result {t = t} {a = b} one_sign d) st f = rw (type_is_read t r b d st) refl

read_is_annotation : Reads (type_behind mark.Colon) IsAnnotation
unfolding type_behind
read_is_annotation s x e =
    given_then (sign_at mark.Colon s) _ _ _ e
    (λ t is rest. bind_then (read_type t) _ _ rest (λ a read same. read_as (IsAnnotation s) same (annotation (sign_is mark.Colon s t is) (read_is_type t a read))))
    (λ not same. read_as (IsAnnotation s) same no_annotation)

read_is_result : Reads (type_behind mark.Arrow) IsResult
unfolding type_behind
read_is_result s x e =
    given_then (sign_at mark.Arrow s) _ _ _ e
    (λ t is rest. bind_then (read_type t) _ _ rest (λ a read same. read_as (IsResult s) same (result (sign_is mark.Arrow s t is) (read_is_type t a read))))
    (λ not same. read_as (IsResult s) same no_result)

-- ---- parameters

annotation_shorter : {s r : List Word} {a : Option TypeExpr} → IsAnnotation s r a → length r ≤ length s
annotation_shorter no_annotation = omega arith
annotation_shorter (annotation i d) = omega (arith, sign_shorter i, type_shorter d)

value_shorter : {s r : List Word} {v : Option Expr} → IsValue s r v → length r ≤ length s
value_shorter no_value = omega arith
value_shorter (value i d) = omega (arith, sign_shorter i, expr_shorter d)

parameter_shorter : {s r : List Word} {p : Parameter} → IsParameter s r p → length r < length s
parameter_shorter (parameter i a v) = omega (arith, name_shorter i, annotation_shorter a, value_shorter v)

-- what follows a parameter
record StopsParameter (s : List Word) : Type 0 where
  pub expr : StopsExpr s
  pub type : StopsType s
  pub value : sign_at mark.Assign s ≡ None
  pub annotation : sign_at mark.Colon s ≡ None

rest_stops : {s r : List Word} {ps : List Parameter} → IsRest s r ps → StopsParameter s
rest_stops (end one_sign) = record { expr = (refl, refl); type = (refl, refl); value = refl; annotation = refl }
rest_stops (comma one_sign h) = record { expr = (refl, refl); type = (refl, refl); value = refl; annotation = refl }

parameter_is_read : (s r : List Word) (p : Parameter) → IsParameter s r p → StopsParameter r → read_parameter s ≡ Some (p, r)
unfolding read_parameter
parameter_is_read s r p (parameter {t = t} {u = u} {a = a} {d = d} one_name i j) st =
    rw (annotation_is_read t u a i (value_stops j st.type) (value_no_colon j st.annotation), value_is_read u r d j st.expr st.value) refl

read_is_parameter : Reads read_parameter IsParameter
unfolding read_parameter
read_is_parameter s x e =
    bind_then (name_at s) _ _ e (λ y named rest.
    bind_then (type_behind mark.Colon y.1) _ _ rest (λ a typed rest2.
    bind_then (read_value a.1) _ _ rest2 (λ d valued same.
    read_as (IsParameter s) same (parameter (name_is s y named) (read_is_annotation y.1 a typed) (read_is_value a.1 d valued)))))

rest_full : (next : Parse (List Parameter)) (n : ℕ) (xs : List Parameter) → ((s r : List Word) (ys : List Parameter) → length s < n → IsParameters s r ys → next s ≡ Some (xs ++ ys, r)) → (s r : List Word) (ys : List Parameter) → length s ≤ n → IsRest s r ys → rest_of_parameters next xs s ≡ Some (xs ++ ys, r)
rest_full next n xs h s r ys le (end one_sign) = rw (append-nil xs) refl
rest_full next n xs h s r ys le (comma {t = t} one_sign d) = h t r ys (omega arith) d

no_end : {s r : List Word} {p : Parameter} → IsParameter s r p → sign_at mark.CloseParen s ≡ None
no_end (parameter one_name a v) = refl

parameters_full : (k : ℕ) (xs : List Parameter) (s r : List Word) (ys : List Parameter) → length s < k → IsParameters s r ys → parameters_with k xs s ≡ Some (xs ++ ys, r)
unfolding parameters_with
parameters_full zero xs s r ys lt d = absurd (omega arith)
parameters_full (suc k) xs s r ys lt (no_more one_sign) = rw (append-nil xs) refl
parameters_full (suc k) xs s r ys lt (more {m = m} {p = p} {ps = ps} d c) =
    let less = parameter_shorter d in
    let rest = rest_full (parameters_with k (xs ++ p ∷ [])) (length s - 1) (xs ++ p ∷ []) (λ t q zs less i. parameters_full k (xs ++ p ∷ []) t q zs (omega arith) i) m r ps (omega arith) c in
    rw (no_end d, parameter_is_read s m p d (rest_stops c)) (rest ∙ ap (λ (zs : List Parameter). Some (zs, r)) (append_assoc xs (p ∷ []) ps))

rest_sound : (next : Parse (List Parameter)) (xs : List Parameter) → ((s : List Word) (x : List Parameter × List Word) → next s ≡ Some x → ListRead IsParameters (λ ys zs. ys ++ zs) xs s x) → (s : List Word) (x : List Parameter × List Word) → rest_of_parameters next xs s ≡ Some x → ListRead IsRest (λ ys zs. ys ++ zs) xs s x
rest_sound next xs h s x e =
    given_then (sign_at mark.CloseParen s) _ _ _ e
    (λ r is same. nothing_more IsRest (λ ys zs. ys ++ zs) xs s r x [] (end (sign_is mark.CloseParen s r is)) (sym (append-nil xs)) same)
    (λ not rest. bind_then (sign_at mark.Comma s) _ _ rest (λ t is read.
    let d = h t x read in record { ys = d.ys; is = comma (sign_is mark.Comma s t is) d.is; whole = d.whole }))

parameters_sound : (k : ℕ) (xs : List Parameter) (s : List Word) (x : List Parameter × List Word) → parameters_with k xs s ≡ Some x → ListRead IsParameters (λ ys zs. ys ++ zs) xs s x
unfolding parameters_with
parameters_sound zero xs s x e = absurd cc
parameters_sound (suc k) xs s x e =
    given_then (sign_at mark.CloseParen s) _ _ _ e
    (λ r is same. nothing_more IsParameters (λ ys zs. ys ++ zs) xs s r x [] (no_more (sign_is mark.CloseParen s r is)) (sym (append-nil xs)) same)
    (λ not rest. bind_then (read_parameter s) _ _ rest (λ p read after.
    let d = rest_sound (parameters_with k (xs ++ p.0 ∷ [])) (xs ++ p.0 ∷ []) (parameters_sound k (xs ++ p.0 ∷ [])) p.1 x after in
    record { ys = p.0 ∷ d.ys; is = more (read_is_parameter s p read) d.is; whole = d.whole ∙ append_assoc xs (p.0 ∷ []) d.ys }))

-- ---- headers

-- the colon at the end
colon_then : {P : Type 0} (h : Header) (s : List Word) (x : Header × List Word) → with_colon h s ≡ Some x → ((r : List Word) → IsSign mark.Colon s r → Some (let y : Header × List Word = (h, r) in y) ≡ Some x → P) → P
colon_then h s x e g = bind_then (sign_at mark.Colon s) _ _ e (λ r is same. g r (sign_is mark.Colon s r is) same)

result_stops : {s r : List Word} {a : Option TypeExpr} → IsResult s r a → StopsType r → StopsType s
result_stops no_result st = st
result_stops (result one_sign d) st = (refl, refl)

def_full : (n : ℕ) (t u v w y r : List Word) (x : List ℕ) (ps : List Parameter) (a : Option TypeExpr) → IsName t u x → IsSign mark.OpenParen u v → IsParameters v w ps → IsResult w y a → IsSign mark.Colon y r → def_of n t ≡ Some (tree.def n x ps a, r)
unfolding def_of
def_full n t u v w y r x ps a one_name one_sign d i one_sign = rw (parameters_full (suc (length v)) [] v w ps (omega arith) d, result_is_read w y a i (refl, refl) refl) refl

def_sound : (n : ℕ) (s : List Word) (x : Header × List Word) → def_of n s ≡ Some x → IsHeader (Sign n mark.Def ∷ s) x.1 x.0
unfolding def_of
def_sound n s x e =
    bind_then (name_at s) _ _ e (λ y named rest.
    bind_then (sign_at mark.OpenParen y.1) _ _ rest (λ t is rest2.
    bind_then (parameters_with (suc (length t)) [] t) _ _ rest2 (λ ps read rest3.
    bind_then (type_behind mark.Arrow ps.1) _ _ rest3 (λ a typed rest4.
    let c = parameters_sound (suc (length t)) [] t ps read in
    colon_then (tree.def n y.0 ps.0 a.0) a.1 x rest4 (λ r end same.
    read_as (IsHeader (Sign n mark.Def ∷ s)) same (defines one_sign (name_is s y named) (sign_is mark.OpenParen y.1 t is) (subst (λ zs. IsParameters t ps.1 zs) (sym c.whole) c.is) (read_is_result ps.1 a typed) end))))))

class_full : (n : ℕ) (t u v r : List Word) (x : List ℕ) → IsName t u x → IsBrackets u v → IsSign mark.Colon v r → class_of n t ≡ Some (tree.class n x, r)
unfolding class_of
class_full n t u v r x one_name no_brackets one_sign = refl
class_full n t u v r x one_name (brackets one_sign one_sign) one_sign = refl

read_is_brackets : (s r : List Word) → brackets_at s ≡ Some r → IsBrackets s r
read_is_brackets s r e =
    given_then (sign_at mark.OpenParen s) _ _ _ e
    (λ t is rest. brackets (sign_is mark.OpenParen s t is) (sign_is mark.CloseParen t r rest))
    (λ not same. subst (IsBrackets s) (some_is s r same) no_brackets)

class_sound : (n : ℕ) (s : List Word) (x : Header × List Word) → class_of n s ≡ Some x → IsHeader (Sign n mark.Class ∷ s) x.1 x.0
unfolding class_of
class_sound n s x e =
    bind_then (name_at s) _ _ e (λ y named rest.
    bind_then (brackets_at y.1) _ _ rest (λ t is rest2.
    colon_then (tree.class n y.0) t x rest2 (λ r end same.
    read_as (IsHeader (Sign n mark.Class ∷ s)) same (classifies one_sign (name_is s y named) (read_is_brackets y.1 t is) end))))

condition_full : (h : Expr → Header) (t u r : List Word) (e : Expr) → IsExpr t u e → IsSign mark.Colon u r → condition_of h t ≡ Some (h e, r)
unfolding condition_of
condition_full h t u r e d one_sign = rw (expr_is_read t u e d (refl, refl)) refl

condition_sound : (o : List Word) (h : Expr → Header) (s : List Word) (x : Header × List Word) → ((u r : List Word) (e : Expr) → IsExpr s u e → IsSign mark.Colon u r → IsHeader o r (h e)) → condition_of h s ≡ Some x → IsHeader o x.1 x.0
unfolding condition_of
condition_sound o h s x g e =
    bind_then (read_expr s) _ _ e (λ d read rest.
    colon_then (h d.0) d.1 x rest (λ r end same. read_as (IsHeader o) same (g d.1 r d.0 (read_is_expr s d read) end)))

for_full : (n : ℕ) (t u v w r : List Word) (x : List ℕ) (e : Expr) → IsName t u x → IsSign mark.In u v → IsExpr v w e → IsSign mark.Colon w r → for_of n t ≡ Some (tree.for n x e, r)
unfolding for_of
for_full n t u v w r x e one_name one_sign d one_sign = rw (expr_is_read v w e d (refl, refl)) refl

for_sound : (n : ℕ) (s : List Word) (x : Header × List Word) → for_of n s ≡ Some x → IsHeader (Sign n mark.For ∷ s) x.1 x.0
unfolding for_of
for_sound n s x e =
    bind_then (name_at s) _ _ e (λ y named rest.
    bind_then (sign_at mark.In y.1) _ _ rest (λ t is rest2.
    bind_then (read_expr t) _ _ rest2 (λ d read rest3.
    colon_then (tree.for n y.0 d.0) d.1 x rest3 (λ r end same.
    read_as (IsHeader (Sign n mark.For ∷ s)) same (walks one_sign (name_is s y named) (sign_is mark.In y.1 t is) (read_is_expr t d read) end)))))

caught_is_read : (s u r : List Word) (xs : List (List ℕ)) → IsCaught s u xs → IsSign mark.Colon u r → read_caught s ≡ Some (xs, u)
unfolding read_caught
caught_is_read s u r xs all_classes one_sign = refl
caught_is_read s u r xs (one_class one_name) i = refl
caught_is_read s u r xs (classes {t = t} {m = m} one_sign d c) i = bracketed_are_read t m u xs d c

read_is_caught : Reads read_caught IsCaught
unfolding read_caught
read_is_caught s x e =
    given_then (name_at s) _ _ _ e
    (λ y named same. read_as (IsCaught s) same (one_class (name_is s y named)))
    (λ not rest. given_then (sign_at mark.OpenParen s) _ _ _ rest
    (λ t is rest2. let b = read_is_bracketed t x rest2 in classes (sign_is mark.OpenParen s t is) b.names b.closing)
    (λ not2 same. read_as (IsCaught s) same all_classes))

except_full : (n : ℕ) (t u r : List Word) (xs : List (List ℕ)) → IsCaught t u xs → IsSign mark.Colon u r → except_of n t ≡ Some (tree.except n xs, r)
unfolding except_of
except_full n t u r xs d one_sign = rw (caught_is_read t u r xs d one_sign) refl

except_sound : (n : ℕ) (s : List Word) (x : Header × List Word) → except_of n s ≡ Some x → IsHeader (Sign n mark.Except ∷ s) x.1 x.0
unfolding except_of
except_sound n s x e =
    bind_then (read_caught s) _ _ e (λ xs read rest.
    colon_then (tree.except n xs.0) xs.1 x rest (λ r end same. read_as (IsHeader (Sign n mark.Except ∷ s)) same (catches one_sign (read_is_caught s xs read) end)))

headed_sound : (m : Mark) (n : ℕ) (s : List Word) (x : Header × List Word) → headed_of m n s ≡ Some x → IsHeader (Sign n m ∷ s) x.1 x.0
unfolding headed_of
headed_sound mark.Def n s x e = def_sound n s x e
headed_sound mark.Class n s x e = class_sound n s x e
headed_sound mark.If n s x e = condition_sound (Sign n mark.If ∷ s) (tree.if n) s x (λ u r d i j. tests one_sign i j) e
headed_sound mark.Elif n s x e = condition_sound (Sign n mark.Elif ∷ s) (tree.elif n) s x (λ u r d i j. tests_again one_sign i j) e
headed_sound mark.Else n s x e = colon_then (tree.else n) s x e (λ r end same. read_as (IsHeader (Sign n mark.Else ∷ s)) same (otherwise one_sign end))
headed_sound mark.While n s x e = condition_sound (Sign n mark.While ∷ s) (tree.while n) s x (λ u r d i j. repeats one_sign i j) e
headed_sound mark.For n s x e = for_sound n s x e
headed_sound mark.Try n s x e = colon_then (tree.try n) s x e (λ r end same. read_as (IsHeader (Sign n mark.Try ∷ s)) same (tries one_sign end))
headed_sound mark.Except n s x e = except_sound n s x e
headed_sound _ n s x e = absurd cc

pub read_is_header : Reads read_header IsHeader
unfolding read_header
read_is_header [] x e = absurd cc
read_is_header (Name n y ∷ s) x e = absurd cc
read_is_header (Int n v ∷ s) x e = absurd cc
read_is_header (Str p ∷ s) x e = absurd cc
read_is_header (Sign n m ∷ s) x e = headed_sound m n s x e

pub header_is_read : (s r : List Word) (h : Header) → IsHeader s r h → read_header s ≡ Some (h, r)
unfolding read_header headed_of
header_is_read s r h (defines {t = t} {u = u} {v = v} {w = w} {y = y} {x = x} {ps = ps} {a = a} (one_sign {n = n}) i j d k l) = def_full n t u v w y r x ps a i j d k l
header_is_read s r h (classifies {t = t} {u = u} {v = v} {x = x} (one_sign {n = n}) i j k) = class_full n t u v r x i j k
header_is_read s r h (tests {t = t} {u = u} {e = e} (one_sign {n = n}) i j) = condition_full (tree.if n) t u r e i j
header_is_read s r h (tests_again {t = t} {u = u} {e = e} (one_sign {n = n}) i j) = condition_full (tree.elif n) t u r e i j
header_is_read s r h (otherwise one_sign one_sign) = refl
header_is_read s r h (repeats {t = t} {u = u} {e = e} (one_sign {n = n}) i j) = condition_full (tree.while n) t u r e i j
header_is_read s r h (walks {t = t} {u = u} {v = v} {w = w} {x = x} {e = e} (one_sign {n = n}) i j k l) = for_full n t u v w r x e i j k l
header_is_read s r h (tries one_sign one_sign) = refl
header_is_read s r h (catches {t = t} {u = u} {xs = xs} (one_sign {n = n}) i j) = except_full n t u r xs i j

-- ---- no simple statement begins as a header does

heads : Mark → Bool
heads mark.Def = true
heads mark.Class = true
heads mark.If = true
heads mark.Elif = true
heads mark.Else = true
heads mark.While = true
heads mark.For = true
heads mark.Try = true
heads mark.Except = true
heads _ = false

heads_begin_none : (m : Mark) → heads m ≡ true → may_begin m ≡ false
unfolding heads
heads_begin_none mark.Def h = refl
heads_begin_none mark.Class h = refl
heads_begin_none mark.If h = refl
heads_begin_none mark.Elif h = refl
heads_begin_none mark.Else h = refl
heads_begin_none mark.While h = refl
heads_begin_none mark.For h = refl
heads_begin_none mark.Try h = refl
heads_begin_none mark.Except h = refl
heads_begin_none _ h = absurd cc

sign_no_head : {k : Mark} {s t : List Word} → IsSign k s t → heads k ≡ false → (m : Mark) → heads m ≡ true → sign_at m s ≡ None
sign_no_head {k = k} {s = s} i g m f = not_at m s (λ r j. let same : k ≡ m = same_mark i j in cc)

target_no_head : {s r : List Word} {a : Expr} → IsTarget s r a → (m : Mark) → heads m ≡ true → sign_at m s ≡ None
target_no_head h m f = prim_not (prim_of_target h) m (heads_begin_none m f)

simple_no_head : {s : List Word} {d : Simple} → IsSimple s d → (m : Mark) → heads m ≡ true → sign_at m s ≡ None
unfolding heads
simple_no_head (assigns h i j) m f = target_no_head h m f
simple_no_head (annotates h i j k) m f = target_no_head h m f
simple_no_head (augments h i j) m f = target_no_head h m f
simple_no_head (evaluates h) m f = expr_not h m (heads_begin_none m f)
simple_no_head (returns i) m f = sign_no_head i refl m f
simple_no_head (returns_value i h) m f = sign_no_head i refl m f
simple_no_head (passes i) m f = sign_no_head i refl m f
simple_no_head (breaks i) m f = sign_no_head i refl m f
simple_no_head (continues i) m f = sign_no_head i refl m f
simple_no_head (asserts i h) m f = sign_no_head i refl m f
simple_no_head (asserts_message i h j k) m f = sign_no_head i refl m f
simple_no_head (reraises i) m f = sign_no_head i refl m f
simple_no_head (raises i j) m f = sign_no_head i refl m f
simple_no_head (raises_arguments i j k h) m f = sign_no_head i refl m f
simple_no_head (deletes i p o h c) m f = sign_no_head i refl m f
simple_no_head (imports i h) m f = sign_no_head i refl m f
simple_no_head (imports_from i j k h) m f = sign_no_head i refl m f

headed_none : (m : Mark) (n : ℕ) (s : List Word) → ((k : Mark) → heads k ≡ true → sign_at k (Sign n m ∷ s) ≡ None) → headed_of m n s ≡ None
unfolding headed_of heads
headed_none mark.Def n s h = absurd (let p : Some s ≡ None = h mark.Def refl in cc)
headed_none mark.Class n s h = absurd (let p : Some s ≡ None = h mark.Class refl in cc)
headed_none mark.If n s h = absurd (let p : Some s ≡ None = h mark.If refl in cc)
headed_none mark.Elif n s h = absurd (let p : Some s ≡ None = h mark.Elif refl in cc)
headed_none mark.Else n s h = absurd (let p : Some s ≡ None = h mark.Else refl in cc)
headed_none mark.While n s h = absurd (let p : Some s ≡ None = h mark.While refl in cc)
headed_none mark.For n s h = absurd (let p : Some s ≡ None = h mark.For refl in cc)
headed_none mark.Try n s h = absurd (let p : Some s ≡ None = h mark.Try refl in cc)
headed_none mark.Except n s h = absurd (let p : Some s ≡ None = h mark.Except refl in cc)
headed_none _ n s h = refl

no_header : (s : List Word) → ((k : Mark) → heads k ≡ true → sign_at k s ≡ None) → read_header s ≡ None
unfolding read_header
no_header [] h = refl
no_header (Name n x ∷ s) h = refl
no_header (Int n v ∷ s) h = refl
no_header (Str p ∷ s) h = refl
no_header (Sign n m ∷ s) h = headed_none m n s h

-- a simple statement has a word
simple_longer : {s : List Word} {d : Simple} → IsSimple s d → 0 < length s
simple_longer (assigns h i j) = omega (arith, prim_shorter (prim_of_target h))
simple_longer (annotates h i j k) = omega (arith, prim_shorter (prim_of_target h))
simple_longer (augments h i j) = omega (arith, prim_shorter (prim_of_target h))
simple_longer (evaluates h) = omega (arith, expr_shorter h)
simple_longer (returns i) = omega (arith, sign_shorter i)
simple_longer (returns_value i h) = omega (arith, sign_shorter i)
simple_longer (passes i) = omega (arith, sign_shorter i)
simple_longer (breaks i) = omega (arith, sign_shorter i)
simple_longer (continues i) = omega (arith, sign_shorter i)
simple_longer (asserts i h) = omega (arith, sign_shorter i)
simple_longer (asserts_message i h j k) = omega (arith, sign_shorter i)
simple_longer (reraises i) = omega (arith, sign_shorter i)
simple_longer (raises i j) = omega (arith, sign_shorter i)
simple_longer (raises_arguments i j k h) = omega (arith, sign_shorter i)
simple_longer (deletes i p o h c) = omega (arith, sign_shorter i)
simple_longer (imports i h) = omega (arith, sign_shorter i)
simple_longer (imports_from i j k h) = omega (arith, sign_shorter i)

-- ---- lines

line_as : {s : List Word} {c d : Line} → Some c ≡ Some d → IsLine s c → IsLine s d
line_as {s} {c} {d} e h = subst (IsLine s) (some_is c d e) h

headed_line_sound : (s r : List Word) (h : Header) (l : Line) → IsHeader s r h → headed_line h r ≡ Some l → IsLine s l
unfolding headed_line
headed_line_sound s [] h l is e = line_as e (header is)
headed_line_sound s (w ∷ r) h l is e = bind_then (simple_of (w ∷ r)) _ _ e (λ d read same. line_as same (header_simple is (simple_is (w ∷ r) d read)))

pub line_is : (s : List Word) (l : Line) → read_line s ≡ Some l → IsLine s l
unfolding read_line
line_is s l e =
    given_then (read_header s) _ _ _ e
    (λ h read rest. headed_line_sound s h.1 h.0 l (read_is_header s h read) rest)
    (λ not rest. bind_then (simple_of s) _ _ rest (λ d read same. line_as same (simple (simple_is s d read))))

headed_line_full : (h : Header) (s : List Word) (d : Simple) → IsSimple s d → headed_line h s ≡ Some (tree.header_simple h d)
unfolding headed_line
headed_line_full h [] d i = let less = simple_longer i in absurd (omega arith)
headed_line_full h (w ∷ s) d i = rw (is_simple (w ∷ s) d i) refl

pub is_line : (s : List Word) (l : Line) → IsLine s l → read_line s ≡ Some l
unfolding read_line headed_line
is_line s l (simple {d = d} i) = rw (no_header s (λ k f. simple_no_head i k f), is_simple s d i) refl
is_line s l (header {h = h} i) = rw (header_is_read s [] h i) refl
is_line s l (header_simple {r = r} {h = h} {d = d} i j) = rw (header_is_read s r h i) (headed_line_full h r d j)

pub one_line : (s : List Word) (k l : Line) → IsLine s k → IsLine s l → k ≡ l
one_line s k l g h = some_is k l (sym (is_line s k g) ∙ is_line s l h)
