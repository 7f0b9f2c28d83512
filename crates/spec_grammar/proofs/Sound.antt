-- What is read is in the grammar.
use Rattle.std.proofs.Common.{◌≡◌, ℕ, zero, suc, Bool, true, false, List, [], ◌∷◌, ◌++◌, Option, Some, None, is_some, refl, sym, subst, ◌∙◌, append_assoc, length}
use Rattle.std.proofs.lemmas.List.{append-nil}
use Rattle.spec_trees.specs.declared.Prefix.{Prefix}
use Rattle.spec_trees.specs.Expr as tree
use Rattle.spec_trees.specs.Expr.{Expr, Generator, Arguments, ArgumentList, Bound, Links, Exprs, Pairs, StringPart}
use Rattle.spec_grammar.specs.declared.Mark.{Mark}
use Rattle.spec_grammar.specs.declared.Mark.TheVariants as mark
use Rattle.spec_grammar.specs.Words.{Word, Name, Int, Str, Sign, line_of, IsSign, one_sign, one_name, one_integer, one_string}
use Rattle.spec_grammar.specs.Marks.{operator_at, prefix_at, sign_at, keyword_at, name_at, groups_left}
use Rattle.spec_grammar.specs.Grammar.{loosest, IsExpr, plain, choice, IsLevel, prefixed, primary, left, joined, IsChain, no_operator, operator, IsLinks, no_link, link, IsPrim, atom, attribute, call, index, slice, IsBound, absent, present, IsAtom, name, integer, text, truth, falsehood, none, group, empty_list, list, comprehension, empty_dict, dict, IsStrings, no_string, string, IsItems, no_item, last_item, item, IsPairs, no_pair, last_pair, pair, IsGenerator, generator, IsConditions, no_condition, condition, IsArguments, generated, listed, IsArgs, no_more, more, IsArg, positional, keyword, IsRest, end, comma}
use Rattle.spec_grammar.specs.Reading.{Parse, ◌>>=◌, given, with_argument, all_arguments, with_link, all_links, with_item, all_items, with_pair, all_pairs, Below, chain_with, links_with, conditions_with, generator_with, arg_with, rest_with, args_with, for_at, arguments_with, slice_with, subscript_with, suffixes_with, items_with, list_with, pair_with, pairs_with, dict_with, group_with, signed_with, strings_onto, atom_with, prim_with, joined_with, level_with, expr_with, below, read_expr}
use Rattle.spec_grammar.proofs.Steps.{some_is, cond_some, sign_is, keyword_is, name_is, all_with_argument, all_no_arguments, all_with_link, all_no_links, all_with_item, all_no_items, all_with_pair, all_no_pairs}

-- A value of R is read.
abbrev pub Reads : {A : Type 0} → Parse A → (List Word → List Word → A → Type 0) → Type 0
Reads {A} p R = (s : List Word) (x : A × List Word) → p s ≡ Some x → R s x.1 x.0

pub record IsSound (b : Below) : Type 0 where
  pub level : (l : ℕ) → Reads (b.level l) (IsLevel l)
  pub expr : Reads b.expr IsExpr

-- ---- one step of reading

pub bind_then : {A B P : Type 0} (o : Option A) (f : A → Option B) (y : B) → (o >>= f) ≡ Some y → ((x : A) → o ≡ Some x → f x ≡ Some y → P) → P
bind_then (Some x) f y e g = g x refl e
bind_then None f y e g = absurd cc

pub given_then : {A B P : Type 0} (o : Option A) (f : A → Option B) (y : Option B) (z : B) → given o f y ≡ Some z → ((x : A) → o ≡ Some x → f x ≡ Some z → P) → (o ≡ None → y ≡ Some z → P) → P
given_then (Some x) f y z e g h = g x refl e
given_then None f y z e g h = h refl e

-- the value that is read
pub read_as : {T A : Type 0} (R : List T → A → Type 0) {v x : A × List T} → Some v ≡ Some x → R v.1 v.0 → R x.1 x.0
read_as R {v} {x} e h = subst (λ y. R y.1 y.0) (some_is v x e) h

-- A loop adds to xs the list ys, which is of R.
pub record ListRead {T L : Type 0} (R : List T → List T → L → Type 0) (all : L → L → L) (xs : L) (s : List T) (x : L × List T) : Type 0 where
  pub ys : L
  pub is : R s x.1 ys
  pub whole : x.0 ≡ all xs ys

pub nothing_more : {T L : Type 0} (R : List T → List T → L → Type 0) (all : L → L → L) (xs : L) (s r : List T) (x : L × List T) (ys : L) → R s r ys → xs ≡ all xs ys → Some (let y : L × List T = (xs, r) in y) ≡ Some x → ListRead R all xs s x
nothing_more R all xs s r x ys is whole same = subst (λ y. ListRead R all xs s y) (some_is (xs, r) x same) (record { ys = ys; is = is; whole = whole })

-- ---- operands

chain_sound : (p : Parse Expr) (l n : ℕ) → Reads p (IsLevel l) → (k : ℕ) (a : Expr) (s : List Word) (x : Expr × List Word) → chain_with p l n k a s ≡ Some x → IsChain l n s x.1 a x.0
unfolding chain_with
chain_sound p l n h zero a s x e = absurd cc
chain_sound p l n h (suc k) a s x e =
    given_then (operator_at l s) _ _ _ e
    (λ o is rest. bind_then (p o.1) _ _ rest (λ b read after. operator is (h o.1 b read) (chain_sound p l n h k (tree.binary n o.0 a b.0) b.1 x after)))
    (λ not same. read_as (λ r d. IsChain l n s r a d) same no_operator)

links_sound : (p : Parse Expr) (l : ℕ) → Reads p (IsLevel l) → (k : ℕ) (xs : Links) (s : List Word) (x : Links × List Word) → links_with p l k xs s ≡ Some x → ListRead (IsLinks l) all_links xs s x
unfolding links_with
links_sound p l h zero xs s x e = absurd cc
links_sound p l h (suc k) xs s x e =
    given_then (operator_at l s) _ _ _ e
    (λ o is rest. bind_then (p o.1) _ _ rest (λ b read after.
    let c = links_sound p l h k (with_link xs o.0 b.0) b.1 x after in
    record { ys = tree.link o.0 b.0 c.ys; is = link is (h o.1 b read) c.is; whole = c.whole ∙ all_with_link xs o.0 b.0 c.ys }))
    (λ not same. nothing_more (IsLinks l) all_links xs s s x tree.no_links no_link (sym (all_no_links xs)) same)

-- ---- generators

conditions_sound : (b : Below) → IsSound b → (n : ℕ) (xs : Exprs) (s : List Word) (x : Exprs × List Word) → conditions_with b n xs s ≡ Some x → ListRead IsConditions all_items xs s x
unfolding conditions_with
conditions_sound b h zero xs s x e = absurd cc
conditions_sound b h (suc n) xs s x e =
    given_then (sign_at mark.If s) _ _ _ e
    (λ t is rest. bind_then (b.level loosest t) _ _ rest (λ c read after.
    let d = conditions_sound b h n (with_item xs c.0) c.1 x after in
    record { ys = tree.item c.0 d.ys; is = condition (sign_is mark.If s t is) (h.level loosest t c read) d.is; whole = d.whole ∙ all_with_item xs c.0 d.ys }))
    (λ not same. nothing_more IsConditions all_items xs s s x tree.no_exprs no_condition (sym (all_no_items xs)) same)

generator_sound : (b : Below) → IsSound b → {s m : List Word} (t : List Word) (d : Expr) (x : Generator × List Word) → IsExpr s m d → IsSign mark.For m t → generator_with b d t ≡ Some x → IsGenerator s x.1 x.0
unfolding generator_with
generator_sound b h {s = s} t d x front for e =
    bind_then (name_at t) _ _ e (λ y named rest.
    bind_then (sign_at mark.In y.1) _ _ rest (λ v is rest2.
    bind_then (b.level loosest v) _ _ rest2 (λ i read rest3.
    bind_then (conditions_with b b.room tree.no_exprs i.1) _ _ rest3 (λ c filtered same.
    let cs = conditions_sound b h b.room tree.no_exprs i.1 c filtered in
    read_as (IsGenerator s) same (generator front for (name_is t y named) (sign_is mark.In y.1 v is) (h.level loosest v i read) (subst (λ z. IsConditions i.1 c.1 z) (sym cs.whole) cs.is))))))

-- ---- arguments

arg_sound : (b : Below) → IsSound b → (k : Bool) (s : List Word) (x : (Option (List ℕ) × Expr) × List Word) → arg_with b k s ≡ Some x → IsArg k s x.1 x.0.0 x.0.1
unfolding arg_with
arg_sound b h k s x e =
    given_then (keyword_at s) _ _ _ e
    (λ t is rest. bind_then (b.expr t.1) _ _ rest (λ d read same.
    let key = keyword_is s t is in
    read_as (λ r (y : Option (List ℕ) × Expr). IsArg k s r y.0 y.1) same (keyword key.1 key.2 (h.expr t.1 d read))))
    (λ not rest. plainly k (cond_some k _ x rest))
  where
    plainly : (k : Bool) → (k ≡ false) × ((b.expr s >>= λ d. Some ((None, d.0), d.1)) ≡ Some x) → IsArg k s x.1 x.0.0 x.0.1
    plainly true p = absurd cc
    plainly false p = bind_then (b.expr s) _ _ p.1 (λ d read same. read_as (λ r (y : Option (List ℕ) × Expr). IsArg false s r y.0 y.1) same (positional (h.expr s d read)))

rest_sound : (next : Parse ArgumentList) (k : Bool) (xs : ArgumentList) → ((s : List Word) (x : ArgumentList × List Word) → next s ≡ Some x → ListRead (IsArgs k) all_arguments xs s x) → (s : List Word) (x : ArgumentList × List Word) → rest_with next xs s ≡ Some x → ListRead (IsRest k) all_arguments xs s x
rest_sound next k xs h s x e =
    given_then (sign_at mark.CloseParen s) _ _ _ e
    (λ r is same. nothing_more (IsRest k) all_arguments xs s r x tree.no_arguments (end (sign_is mark.CloseParen s r is)) (sym (all_no_arguments xs)) same)
    (λ not rest. bind_then (sign_at mark.Comma s) _ _ rest (λ t is read.
    let d = h t x read in record { ys = d.ys; is = comma (sign_is mark.Comma s t is) d.is; whole = d.whole }))

args_sound : (b : Below) → IsSound b → (n : ℕ) (k : Bool) (xs : ArgumentList) (s : List Word) (x : ArgumentList × List Word) → args_with b n k xs s ≡ Some x → ListRead (IsArgs k) all_arguments xs s x
unfolding args_with
args_sound b h zero k xs s x e = absurd cc
args_sound b h (suc n) k xs s x e =
    given_then (sign_at mark.CloseParen s) _ _ _ e
    (λ r is same. nothing_more (IsArgs k) all_arguments xs s r x tree.no_arguments (no_more (sign_is mark.CloseParen s r is)) (sym (all_no_arguments xs)) same)
    (λ not rest. bind_then (arg_with b k s) _ _ rest (λ a read after.
    let zs : ArgumentList = with_argument xs a.0.0 a.0.1 in
    let d = rest_sound (args_with b n (is_some a.0.0) zs) (is_some a.0.0) zs (args_sound b h n (is_some a.0.0) zs) a.1 x after in
    record { ys = tree.argument a.0.0 a.0.1 d.ys; is = more (arg_sound b h k s a read) d.is; whole = d.whole ∙ all_with_argument xs a.0.0 a.0.1 d.ys }))

for_is : (o : Option (List ℕ)) (s t : List Word) → for_at o s ≡ Some t → (o ≡ None) × IsSign mark.For s t
for_is None s t e = (refl, sign_is mark.For s t e)
for_is (Some x) s t e = absurd cc

plain_arg : {k : Bool} {s r : List Word} {o : Option (List ℕ)} {e : Expr} → IsArg k s r o e → o ≡ None → IsExpr s r e
plain_arg (positional h) f = h
plain_arg (keyword x i h) f = absurd cc

pub arguments_sound : (b : Below) → IsSound b → Reads (arguments_with b) IsArguments
unfolding arguments_with
arguments_sound b h s x e =
    given_then (sign_at mark.CloseParen s) _ _ _ e
    (λ r is same. read_as (IsArguments s) same (listed (no_more (sign_is mark.CloseParen s r is))))
    (λ not rest. bind_then (arg_with b false s) _ _ rest (λ a read after.
    let arg = arg_sound b h false s a read in
    let zs : ArgumentList = with_argument tree.no_arguments a.0.0 a.0.1 in
    given_then (for_at a.0.0 a.1) _ _ _ after
    (λ t found rest2.
    let for = for_is a.0.0 a.1 t found in
    bind_then (generator_with b a.0.1 t) _ _ rest2 (λ g built rest3.
    bind_then (sign_at mark.CloseParen g.1) _ _ rest3 (λ r is same.
    read_as (IsArguments s) same (generated (generator_sound b h t a.0.1 g (plain_arg arg for.0) for.1 built) (sign_is mark.CloseParen g.1 r is)))))
    (λ not2 rest2. bind_then (rest_with (args_with b b.room (is_some a.0.0) zs) zs a.1) _ _ rest2 (λ y others same.
    let d = rest_sound (args_with b b.room (is_some a.0.0) zs) (is_some a.0.0) zs (args_sound b h b.room (is_some a.0.0) zs) a.1 y others in
    read_as (IsArguments s) same (listed (subst (λ v. IsArgs false s y.1 v) (sym d.whole) (more arg d.is)))))))

-- ---- prims

slice_sound : (b : Below) → IsSound b → {o m t u : List Word} {a : Expr} {from : Bound} (v : List Word) (x : Expr × List Word) → IsPrim o m a → IsSign mark.OpenBracket m t → IsBound t u from → IsSign mark.Colon u v → slice_with b (line_of o) a from v ≡ Some x → IsPrim o x.1 x.0
unfolding slice_with
slice_sound b h {o = o} v x p i f j e =
    given_then (sign_at mark.CloseBracket v) _ _ _ e
    (λ r is same. read_as (IsPrim o) same (slice p i f j absent (sign_is mark.CloseBracket v r is)))
    (λ not rest. bind_then (b.expr v) _ _ rest (λ d read rest2.
    bind_then (sign_at mark.CloseBracket d.1) _ _ rest2 (λ r is same.
    read_as (IsPrim o) same (slice p i f j (present (h.expr v d read)) (sign_is mark.CloseBracket d.1 r is)))))

subscript_sound : (b : Below) → IsSound b → {o m : List Word} {a : Expr} (t : List Word) (x : Expr × List Word) → IsPrim o m a → IsSign mark.OpenBracket m t → subscript_with b (line_of o) a t ≡ Some x → IsPrim o x.1 x.0
unfolding subscript_with
subscript_sound b h {o = o} t x p i e =
    given_then (sign_at mark.Colon t) _ _ _ e
    (λ v is rest. slice_sound b h v x p i absent (sign_is mark.Colon t v is) rest)
    (λ not rest. bind_then (b.expr t) _ _ rest (λ d read rest2.
    given_then (sign_at mark.CloseBracket d.1) _ _ _ rest2
    (λ r is same. read_as (IsPrim o) same (index p i (h.expr t d read) (sign_is mark.CloseBracket d.1 r is)))
    (λ not2 rest3. bind_then (sign_at mark.Colon d.1) _ _ rest3 (λ v is rest4. slice_sound b h v x p i (present (h.expr t d read)) (sign_is mark.Colon d.1 v is) rest4))))

suffixes_sound : (b : Below) → IsSound b → (o : List Word) (k : ℕ) (a : Expr) (s : List Word) (x : Expr × List Word) → IsPrim o s a → suffixes_with b (line_of o) k a s ≡ Some x → IsPrim o x.1 x.0
unfolding suffixes_with
suffixes_sound b h o zero a s x p e = absurd cc
suffixes_sound b h o (suc k) a s x p e =
    given_then (sign_at mark.OpenParen s) _ _ _ e
    (λ t is rest. bind_then (arguments_with b t) _ _ rest (λ y read after. suffixes_sound b h o k (tree.call (line_of o) a y.0) y.1 x (call p (sign_is mark.OpenParen s t is) (arguments_sound b h t y read)) after))
    (λ not rest. given_then (sign_at mark.OpenBracket s) _ _ _ rest
    (λ t is rest2. bind_then (subscript_with b (line_of o) a t) _ _ rest2 (λ y read after. suffixes_sound b h o k y.0 y.1 x (subscript_sound b h t y p (sign_is mark.OpenBracket s t is) read) after))
    (λ not2 rest2. given_then (sign_at mark.Dot s) _ _ _ rest2
    (λ t is rest3. bind_then (name_at t) _ _ rest3 (λ y read after. suffixes_sound b h o k (tree.attribute (line_of o) a y.0) y.1 x (attribute p (sign_is mark.Dot s t is) (name_is t y read)) after))
    (λ not3 same. read_as (IsPrim o) same p)))

-- ---- atoms

items_sound : (b : Below) → IsSound b → (n : ℕ) (xs : Exprs) (s : List Word) (x : Exprs × List Word) → items_with b n xs s ≡ Some x → ListRead IsItems all_items xs s x
unfolding items_with
items_sound b h zero xs s x e = absurd cc
items_sound b h (suc n) xs s x e =
    given_then (sign_at mark.CloseBracket s) _ _ _ e
    (λ r is same. nothing_more IsItems all_items xs s r x tree.no_exprs (no_item (sign_is mark.CloseBracket s r is)) (sym (all_no_items xs)) same)
    (λ not rest. bind_then (sign_at mark.Comma s) _ _ rest (λ t is rest2.
    given_then (sign_at mark.CloseBracket t) _ _ _ rest2
    (λ r is2 same. nothing_more IsItems all_items xs s r x tree.no_exprs (last_item (sign_is mark.Comma s t is) (sign_is mark.CloseBracket t r is2)) (sym (all_no_items xs)) same)
    (λ not2 rest3. bind_then (b.expr t) _ _ rest3 (λ d read after.
    let c = items_sound b h n (with_item xs d.0) d.1 x after in
    record { ys = tree.item d.0 c.ys; is = item (sign_is mark.Comma s t is) (h.expr t d read) c.is; whole = c.whole ∙ all_with_item xs d.0 c.ys }))))

list_sound : (b : Below) → IsSound b → {o : List Word} (s : List Word) (x : Expr × List Word) → IsSign mark.OpenBracket o s → list_with b (line_of o) s ≡ Some x → IsAtom o x.1 x.0
unfolding list_with
list_sound b h {o = o} s x i e =
    given_then (sign_at mark.CloseBracket s) _ _ _ e
    (λ r is same. read_as (IsAtom o) same (empty_list i (sign_is mark.CloseBracket s r is)))
    (λ not rest. bind_then (b.expr s) _ _ rest (λ d read rest2.
    given_then (sign_at mark.For d.1) _ _ _ rest2
    (λ t is rest3. bind_then (generator_with b d.0 t) _ _ rest3 (λ g built rest4.
    bind_then (sign_at mark.CloseBracket g.1) _ _ rest4 (λ r is2 same.
    read_as (IsAtom o) same (comprehension i (generator_sound b h t d.0 g (h.expr s d read) (sign_is mark.For d.1 t is) built) (sign_is mark.CloseBracket g.1 r is2)))))
    (λ not2 rest3. bind_then (items_with b b.room (tree.item d.0 tree.no_exprs) d.1) _ _ rest3 (λ y others same.
    let c = items_sound b h b.room (tree.item d.0 tree.no_exprs) d.1 y others in
    read_as (IsAtom o) same (subst (λ v. IsAtom o y.1 (tree.list (line_of o) v)) (sym c.whole) (list i (h.expr s d read) c.is))))))

-- a key and its value
record PairRead (s : List Word) (x : (Expr × Expr) × List Word) : Type 0 where
  pub colon : List Word
  pub after : List Word
  pub key : IsExpr s colon x.0.0
  pub sign : IsSign mark.Colon colon after
  pub value : IsExpr after x.1 x.0.1

pair_sound : (b : Below) → IsSound b → (s : List Word) (x : (Expr × Expr) × List Word) → pair_with b s ≡ Some x → PairRead s x
unfolding pair_with
pair_sound b h s x e =
    bind_then (b.expr s) _ _ e (λ k read rest.
    bind_then (sign_at mark.Colon k.1) _ _ rest (λ t is rest2.
    bind_then (b.expr t) _ _ rest2 (λ d read2 same.
    read_as (λ r (y : Expr × Expr). PairRead s (y, r)) same (record { colon = k.1; after = t; key = h.expr s k read; sign = sign_is mark.Colon k.1 t is; value = h.expr t d read2 }))))

pairs_sound : (b : Below) → IsSound b → (n : ℕ) (xs : Pairs) (s : List Word) (x : Pairs × List Word) → pairs_with b n xs s ≡ Some x → ListRead IsPairs all_pairs xs s x
unfolding pairs_with
pairs_sound b h zero xs s x e = absurd cc
pairs_sound b h (suc n) xs s x e =
    given_then (sign_at mark.CloseBrace s) _ _ _ e
    (λ r is same. nothing_more IsPairs all_pairs xs s r x tree.no_pairs (no_pair (sign_is mark.CloseBrace s r is)) (sym (all_no_pairs xs)) same)
    (λ not rest. bind_then (sign_at mark.Comma s) _ _ rest (λ t is rest2.
    given_then (sign_at mark.CloseBrace t) _ _ _ rest2
    (λ r is2 same. nothing_more IsPairs all_pairs xs s r x tree.no_pairs (last_pair (sign_is mark.Comma s t is) (sign_is mark.CloseBrace t r is2)) (sym (all_no_pairs xs)) same)
    (λ not2 rest3. bind_then (pair_with b t) _ _ rest3 (λ d read after.
    let p = pair_sound b h t d read in
    let c = pairs_sound b h n (with_pair xs d.0.0 d.0.1) d.1 x after in
    record { ys = tree.pair d.0.0 d.0.1 c.ys; is = pair (sign_is mark.Comma s t is) p.key p.sign p.value c.is; whole = c.whole ∙ all_with_pair xs d.0.0 d.0.1 c.ys }))))

dict_sound : (b : Below) → IsSound b → {o : List Word} (s : List Word) (x : Expr × List Word) → IsSign mark.OpenBrace o s → dict_with b (line_of o) s ≡ Some x → IsAtom o x.1 x.0
unfolding dict_with
dict_sound b h {o = o} s x i e =
    given_then (sign_at mark.CloseBrace s) _ _ _ e
    (λ r is same. read_as (IsAtom o) same (empty_dict i (sign_is mark.CloseBrace s r is)))
    (λ not rest. bind_then (pair_with b s) _ _ rest (λ d read rest2.
    let p = pair_sound b h s d read in
    bind_then (pairs_with b b.room (tree.pair d.0.0 d.0.1 tree.no_pairs) d.1) _ _ rest2 (λ y others same.
    let c = pairs_sound b h b.room (tree.pair d.0.0 d.0.1 tree.no_pairs) d.1 y others in
    read_as (IsAtom o) same (subst (λ v. IsAtom o y.1 (tree.dict (line_of o) v)) (sym c.whole) (dict i p.key p.sign p.value c.is)))))

group_sound : (b : Below) → IsSound b → {o : List Word} (s : List Word) (x : Expr × List Word) → IsSign mark.OpenParen o s → group_with b (line_of o) s ≡ Some x → IsAtom o x.1 x.0
unfolding group_with
group_sound b h {o = o} s x i e =
    bind_then (b.expr s) _ _ e (λ d read rest.
    bind_then (sign_at mark.CloseParen d.1) _ _ rest (λ r is same.
    read_as (IsAtom o) same (group i (h.expr s d read) (sign_is mark.CloseParen d.1 r is))))

signed_sound : (b : Below) → IsSound b → (m : Mark) (n : ℕ) (s : List Word) (x : Expr × List Word) → signed_with b m n s ≡ Some x → IsAtom (Sign n m ∷ s) x.1 x.0
unfolding signed_with
signed_sound b h mark.OpenParen n s x e = group_sound b h s x one_sign e
signed_sound b h mark.OpenBracket n s x e = list_sound b h s x one_sign e
signed_sound b h mark.OpenBrace n s x e = dict_sound b h s x one_sign e
signed_sound b h mark.True n s x e = read_as (IsAtom (Sign n mark.True ∷ s)) e (truth one_sign)
signed_sound b h mark.False n s x e = read_as (IsAtom (Sign n mark.False ∷ s)) e (falsehood one_sign)
signed_sound b h mark.None n s x e = read_as (IsAtom (Sign n mark.None ∷ s)) e (none one_sign)
signed_sound b h _ n s x e = absurd cc

strings_sound : (ps : List StringPart) (s : List Word) → ListRead IsStrings (λ xs ys. xs ++ ys) ps s (strings_onto ps s)
unfolding strings_onto
strings_sound ps [] = record { ys = []; is = no_string; whole = sym (append-nil ps) }
strings_sound ps (Name n x ∷ s) = record { ys = []; is = no_string; whole = sym (append-nil ps) }
strings_sound ps (Int n v ∷ s) = record { ys = []; is = no_string; whole = sym (append-nil ps) }
strings_sound ps (Str p ∷ s) = let c = strings_sound (ps ++ p ∷ []) s in record { ys = p ∷ c.ys; is = string one_string c.is; whole = c.whole ∙ append_assoc ps (p ∷ []) c.ys }
strings_sound ps (Sign n m ∷ s) = record { ys = []; is = no_string; whole = sym (append-nil ps) }

atom_sound : (b : Below) → IsSound b → Reads (atom_with b) IsAtom
unfolding atom_with
atom_sound b h [] x e = absurd cc
atom_sound b h (Name n y ∷ s) x e = read_as (IsAtom (Name n y ∷ s)) e (name one_name)
atom_sound b h (Int n v ∷ s) x e = read_as (IsAtom (Int n v ∷ s)) e (integer one_integer)
atom_sound b h (Str p ∷ s) x e =
    let c = strings_sound [] s in
    read_as (IsAtom (Str p ∷ s)) e (text one_string (subst (λ v. IsStrings s (strings_onto [] s).1 v) (sym c.whole) c.is))
atom_sound b h (Sign n m ∷ s) x e = signed_sound b h m n s x e

pub prim_sound : (b : Below) → IsSound b → Reads (prim_with b) IsPrim
unfolding prim_with
prim_sound b h s x e = bind_then (atom_with b s) _ _ e (λ a read rest. suffixes_sound b h s b.room a.0 a.1 x (atom (atom_sound b h s a read)) rest)

-- ---- levels

-- the operands of level l + 1, behind its first one
joined_sound : (b : Below) (p : Parse Expr) (l : ℕ) → Reads p (IsLevel l) → (g : Bool) → groups_left l ≡ g → (s : List Word) (a x : Expr × List Word) → IsLevel l s a.1 a.0 → joined_with g p l (line_of s) b.room a.0 a.1 ≡ Some x → IsLevel (suc l) s x.1 x.0
joined_sound b p l h true g s a x is e = left g is (chain_sound p l (line_of s) h b.room a.0 a.1 x e)
joined_sound b p l h false g s a x is e =
    bind_then (links_with p l b.room tree.no_links a.1) _ _ e (λ y read same.
    let c = links_sound p l h b.room tree.no_links a.1 y read in
    read_as (IsLevel (suc l) s) same (joined g is (subst (λ v. IsLinks l a.1 y.1 v) (sym c.whole) c.is)))

prefixed_sound : (b : Below) → IsSound b → (l : ℕ) (s : List Word) (o : Prefix × List Word) (x : Expr × List Word) → prefix_at l s ≡ Some o → (b.level l o.1 >>= λ d. Some (tree.prefixed (line_of s) o.0 d.0, d.1)) ≡ Some x → IsLevel l s x.1 x.0
prefixed_sound b h l s o x is e = bind_then (b.level l o.1) _ _ e (λ d read same. read_as (IsLevel l s) same (prefixed is (h.level l o.1 d read)))

level_sound : (b : Below) → IsSound b → (l : ℕ) → Reads (level_with b l) (IsLevel l)
unfolding level_with
level_sound b h zero s x e =
    given_then (prefix_at zero s) _ _ _ e
    (λ o is rest. prefixed_sound b h zero s o x is rest)
    (λ not rest. primary (prim_sound b h s x rest))
level_sound b h (suc l) s x e =
    given_then (prefix_at (suc l) s) _ _ _ e
    (λ o is rest. prefixed_sound b h (suc l) s o x is rest)
    (λ not rest. bind_then (level_with b l s) _ _ rest (λ a read after.
    joined_sound b (level_with b l) l (level_sound b h l) (groups_left l) refl s a x (level_sound b h l s a read) after))

expr_sound : (b : Below) → IsSound b → Reads (expr_with b) IsExpr
unfolding expr_with
expr_sound b h s x e =
    bind_then (level_with b loosest s) _ _ e (λ a read rest.
    let first = level_sound b h loosest s a read in
    given_then (sign_at mark.If a.1) _ _ _ rest
    (λ t is rest2. bind_then (b.level loosest t) _ _ rest2 (λ c read2 rest3.
    bind_then (sign_at mark.Else c.1) _ _ rest3 (λ u is2 rest4.
    bind_then (b.expr u) _ _ rest4 (λ d read3 same.
    read_as (IsExpr s) same (choice first (sign_is mark.If a.1 t is) (h.level loosest t c read2) (sign_is mark.Else c.1 u is2) (h.expr u d read3))))))
    (λ not same. read_as (IsExpr s) same (plain first)))

pub below_sound : (n : ℕ) → IsSound (below n)
unfolding below
below_sound zero = record { level = λ l s x e. absurd cc; expr = λ s x e. absurd cc }
below_sound (suc n) = record { level = level_sound (below n) (below_sound n); expr = expr_sound (below n) (below_sound n) }

-- what is read is an expression
pub read_is_expr : Reads read_expr IsExpr
unfolding read_expr
read_is_expr s x e = (below_sound (suc (length s))).expr s x e
