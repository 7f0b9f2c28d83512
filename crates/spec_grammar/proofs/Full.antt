-- What is in the grammar is read, where nothing that follows goes on with it.
use Rattle.std.proofs.Common.{◌≡◌, ℕ, zero, suc, ◌<◌, ◌≤◌, ◌-◌, Bool, true, false, List, [], ◌∷◌, ◌++◌, length, Option, Some, None, is_some, refl, ap, arith, ◌∙◌, append_assoc}
use Rattle.std.proofs.lemmas.List.{append-nil}
use Rattle.spec_trees.specs.Expr as tree
use Rattle.spec_trees.specs.Expr.{Expr, Generator, Arguments, ArgumentList, Bound, Links, Exprs, Pairs, StringPart}
use Rattle.spec_grammar.specs.declared.Mark.TheVariants as mark
use Rattle.spec_grammar.specs.Words.{Word, Name, Int, Str, Sign, line_of, IsSign, one_sign, IsName, one_name, one_integer, one_string}
use Rattle.spec_grammar.specs.Marks.{sign_at, is_suffix, Stops}
use Rattle.spec_grammar.specs.Grammar.{loosest, IsExpr, plain, choice, IsLevel, prefixed, primary, left, joined, IsChain, no_operator, operator, IsLinks, no_link, link, IsPrim, atom, attribute, call, index, slice, IsBound, absent, present, IsAtom, name, integer, text, truth, falsehood, none, group, empty_list, list, comprehension, empty_dict, dict, IsStrings, no_string, string, IsItems, no_item, last_item, item, IsPairs, no_pair, last_pair, pair, IsGenerator, generator, IsConditions, no_condition, condition, IsArguments, generated, listed, IsArgs, no_more, more, IsArg, positional, keyword, IsRest, end, comma}
use Rattle.spec_grammar.specs.Reading.{Parse, with_argument, all_arguments, with_link, all_links, with_item, all_items, with_pair, all_pairs, Below, chain_with, links_with, conditions_with, generator_with, arg_with, rest_with, args_with, for_at, arguments_with, slice_with, subscript_with, suffixes_with, items_with, list_with, pair_with, pairs_with, dict_with, group_with, signed_with, strings_onto, atom_with, prim_with, level_with, expr_with, below, read_expr}
use Rattle.spec_grammar.proofs.Steps.{operator_stops, operator_shorter, prefix_shorter, no_operator_at, stops_suffix, no_call_at, no_index_at, no_dot_at, stops_less, sign_shorter, all_with_argument, all_no_arguments, all_with_link, all_no_links, all_with_item, all_no_items, all_with_pair, all_no_pairs}
use Rattle.spec_grammar.proofs.Fronts.{level_no_prefix, prim_no_prefix, expr_not, expr_shorter, level_shorter, prim_shorter, atom_shorter, bound_shorter, arg_shorter, arguments_shorter, no_keyword}

-- nothing at the front of the words goes on with an expression
abbrev pub StopsExpr : List Word → Type 0
StopsExpr s = Stops loosest s × (sign_at mark.If s ≡ None)

-- What is of R, in a text of at most n words, is read by p.
abbrev pub IsRead : Parse Expr → ℕ → ℕ → (List Word → List Word → Expr → Type 0) → Type 0
IsRead p n l R = (s r : List Word) (e : Expr) → length s ≤ n → R s r e → Stops l r → p s ≡ Some (e, r)

-- b reads the texts that are shorter than its room
pub record IsFull (b : Below) : Type 0 where
  pub level : (l : ℕ) (s r : List Word) (e : Expr) → length s < b.room → IsLevel l s r e → Stops l r → b.level l s ≡ Some (e, r)
  pub expr : (s r : List Word) (e : Expr) → length s < b.room → IsExpr s r e → StopsExpr r → b.expr s ≡ Some (e, r)

-- ---- operands

chain_stops : {l n : ℕ} {s r : List Word} {a e : Expr} → IsChain l n s r a e → Stops (suc l) r → Stops l s
chain_stops (no_operator {l = l} {r = r}) st = stops_less l r st
chain_stops (operator {l = l} {s = s} {t = t} {o = o} is h c) st = operator_stops l s (o, t) is

links_stops : {l : ℕ} {s r : List Word} {xs : Links} → IsLinks l s r xs → Stops (suc l) r → Stops l s
links_stops (no_link {l = l} {r = r}) st = stops_less l r st
links_stops (link {l = l} {s = s} {t = t} {o = o} is h c) st = operator_stops l s (o, t) is

chain_full : (p : Parse Expr) (l n : ℕ) → IsRead p n l (IsLevel l) → (i k : ℕ) (s r : List Word) (a e : Expr) → length s < k → length s ≤ n → IsChain l i s r a e → Stops (suc l) r → chain_with p l i k a s ≡ Some (e, r)
unfolding chain_with
chain_full p l n h i zero s r a e lt le c st = absurd (omega arith)
chain_full p l n h i (suc k) s r a e lt le no_operator st = rw (no_operator_at l s st) refl
chain_full p l n h i (suc k) s r a e lt le (operator {t = t} {m = m} {o = o} {b = b} is d c) st =
    let less = operator_shorter l s (o, t) is in
    let less2 = level_shorter d in
    let first : p t ≡ Some (b, m) = h t m b (omega arith) d (chain_stops c st) in
    rw (is, first) (chain_full p l n h i k m r (tree.binary i o a b) e (omega arith) (omega arith) c st)

links_full : (p : Parse Expr) (l n : ℕ) → IsRead p n l (IsLevel l) → (k : ℕ) (xs : Links) (s r : List Word) (ys : Links) → length s < k → length s ≤ n → IsLinks l s r ys → Stops (suc l) r → links_with p l k xs s ≡ Some (all_links xs ys, r)
unfolding links_with
links_full p l n h zero xs s r ys lt le c st = absurd (omega arith)
links_full p l n h (suc k) xs s r ys lt le no_link st = rw (no_operator_at l s st, all_no_links xs) refl
links_full p l n h (suc k) xs s r ys lt le (link {t = t} {m = m} {o = o} {b = b} {xs = zs} is d c) st =
    let less = operator_shorter l s (o, t) is in
    let less2 = level_shorter d in
    let first : p t ≡ Some (b, m) = h t m b (omega arith) d (links_stops c st) in
    rw (is, first) (links_full p l n h k (with_link xs o b) m r zs (omega arith) (omega arith) c st ∙ ap (λ (ws : Links). Some (ws, r)) (all_with_link xs o b zs))

-- ---- generators

conditions_stop : {s r : List Word} {cs : Exprs} → IsConditions s r cs → Stops loosest r → Stops loosest s
conditions_stop no_condition st = st
conditions_stop (condition one_sign h c) st = refl

conditions_full : (b : Below) → IsFull b → (n : ℕ) (xs : Exprs) (s r : List Word) (ys : Exprs) → length s < n → length s ≤ b.room → IsConditions s r ys → StopsExpr r → conditions_with b n xs s ≡ Some (all_items xs ys, r)
unfolding conditions_with
conditions_full b h zero xs s r ys lt le d st = absurd (omega arith)
conditions_full b h (suc n) xs s r ys lt le no_condition st = rw (st.1, all_no_items xs) refl
conditions_full b h (suc n) xs s r ys lt le (condition {t = t} {m = m} {c = e} {cs = zs} one_sign d c) st =
    let less = level_shorter d in
    rw (h.level loosest t m e (omega arith) d (conditions_stop c st.0)) (conditions_full b h n (with_item xs e) m r zs (omega arith) (omega arith) c st ∙ ap (λ (ws : Exprs). Some (ws, r)) (all_with_item xs e zs))

generator_full : (b : Below) → IsFull b → {t u v w r : List Word} {x : List ℕ} {i : Expr} {cs : Exprs} (e : Expr) → length t ≤ b.room → IsName t u x → IsSign mark.In u v → IsLevel loosest v w i → IsConditions w r cs → StopsExpr r → generator_with b e t ≡ Some (tree.generator e x i cs, r)
unfolding generator_with
generator_full b h {v = v} {w = w} {r = r} {i = i} {cs = cs} e le one_name one_sign d c st =
    let less = level_shorter d in
    rw (h.level loosest v w i (omega arith) d (conditions_stop c st.0), conditions_full b h b.room tree.no_exprs w r cs (omega arith) (omega arith) c st) refl

-- ---- arguments

-- what follows an argument stops an expression, and is neither `=` nor `for`
rest_stops : {k : Bool} {s r : List Word} {xs : ArgumentList} → IsRest k s r xs → StopsExpr s × (sign_at mark.Assign s ≡ None)
rest_stops (end one_sign) = ((refl, refl), refl)
rest_stops (comma one_sign h) = ((refl, refl), refl)

no_for : {k : Bool} {s r : List Word} {xs : ArgumentList} → (x : Option (List ℕ)) → IsRest k s r xs → for_at x s ≡ None
no_for None (end one_sign) = refl
no_for None (comma one_sign h) = refl
no_for (Some x) c = refl

arg_full : (b : Below) → IsFull b → {k : Bool} {s m r : List Word} {x : Option (List ℕ)} {e : Expr} {j : Bool} {xs : ArgumentList} → length s < b.room → IsArg k s m x e → IsRest j m r xs → arg_with b k s ≡ Some ((x, e), m)
unfolding arg_with
arg_full b h {m = m} {e = e} lt (positional {s = s} d) c = let st = rest_stops c in rw (no_keyword s d st.1, h.expr s m e lt d st.0) refl
arg_full b h {m = m} {e = e} lt (keyword {u = u} one_name one_sign d) c = rw (h.expr u m e (omega arith) d (rest_stops c).0) refl

no_end : {k : Bool} {s m : List Word} {x : Option (List ℕ)} {e : Expr} → IsArg k s m x e → sign_at mark.CloseParen s ≡ None
no_end (positional d) = expr_not d mark.CloseParen refl
no_end (keyword one_name i d) = refl

rest_full : (next : Parse ArgumentList) (n : ℕ) (k : Bool) (xs : ArgumentList) → ((s r : List Word) (ys : ArgumentList) → length s < n → IsArgs k s r ys → next s ≡ Some (all_arguments xs ys, r)) → (s r : List Word) (ys : ArgumentList) → length s ≤ n → IsRest k s r ys → rest_with next xs s ≡ Some (all_arguments xs ys, r)
rest_full next n k xs h s r ys le (end one_sign) = rw (all_no_arguments xs) refl
rest_full next n k xs h s r ys le (comma {t = t} one_sign d) = h t r ys (omega arith) d

args_full : (b : Below) → IsFull b → (n : ℕ) (k : Bool) (xs : ArgumentList) (s r : List Word) (ys : ArgumentList) → length s < n → length s < b.room → IsArgs k s r ys → args_with b n k xs s ≡ Some (all_arguments xs ys, r)
unfolding args_with
args_full b h zero k xs s r ys lt room d = absurd (omega arith)
args_full b h (suc n) k xs s r ys lt room (no_more one_sign) = rw (all_no_arguments xs) refl
args_full b h (suc n) k xs s r ys lt room (more {m = m} {x = x} {e = e} {xs = zs} d c) =
    let less = arg_shorter d in
    let rest = rest_full (args_with b n (is_some x) (with_argument xs x e)) (length s - 1) (is_some x) (with_argument xs x e) (λ t q ws less i. args_full b h n (is_some x) (with_argument xs x e) t q ws (omega arith) (omega arith) i) m r zs (omega arith) c in
    rw (no_end d, arg_full b h room d c) (rest ∙ ap (λ (ws : ArgumentList). Some (ws, r)) (all_with_argument xs x e zs))

pub arguments_full : (b : Below) → IsFull b → {s r : List Word} {xs : Arguments} → length s < b.room → IsArguments s r xs → arguments_with b s ≡ Some (xs, r)
unfolding arguments_with arg_with
arguments_full b h {s = s} lt (generated (generator {m = m} {e = e} d one_sign x i l c) one_sign) =
    let less = expr_shorter d in
    rw (expr_not d mark.CloseParen refl, no_keyword s d refl, h.expr s m e lt d (refl, refl), generator_full b h e (omega arith) x i l c (refl, refl)) refl
arguments_full b h lt (listed (no_more one_sign)) = refl
arguments_full b h {s = s} {r = r} lt (listed (more {m = m} {x = x} {e = e} {xs = zs} d c)) =
    let less = arg_shorter d in
    let zs1 : ArgumentList = with_argument tree.no_arguments x e in
    let first : arg_with b false s ≡ Some ((x, e), m) = arg_full b h lt d c in
    let rest = rest_full (args_with b b.room (is_some x) zs1) (length s - 1) (is_some x) zs1 (λ t q ws less i. args_full b h b.room (is_some x) zs1 t q ws (omega arith) (omega arith) i) m r zs (omega arith) c in
    rw (no_end d, first, no_for x c, rest) refl

-- ---- prims

slice_full : (b : Below) → IsFull b → {v w r : List Word} {to : Bound} (n : ℕ) (a : Expr) (from : Bound) → length v < b.room → IsBound v w to → IsSign mark.CloseBracket w r → slice_with b n a from v ≡ Some (tree.slice n a from to, r)
unfolding slice_with
slice_full b h n a from lt absent one_sign = refl
slice_full b h {v = v} {w = w} n a from lt (present {e = e} d) one_sign = rw (expr_not d mark.CloseBracket refl, h.expr v w e lt d (refl, refl)) refl

index_full : (b : Below) → IsFull b → {t u r : List Word} {i : Expr} (n : ℕ) (a : Expr) → length t < b.room → IsExpr t u i → IsSign mark.CloseBracket u r → subscript_with b n a t ≡ Some (tree.index n a i, r)
unfolding subscript_with
index_full b h {t = t} {u = u} {i = i} n a lt d one_sign = rw (expr_not d mark.Colon refl, h.expr t u i lt d (refl, refl)) refl

bounds_full : (b : Below) → IsFull b → {t u v w r : List Word} {from to : Bound} (n : ℕ) (a : Expr) → length t < b.room → IsBound t u from → IsSign mark.Colon u v → IsBound v w to → IsSign mark.CloseBracket w r → subscript_with b n a t ≡ Some (tree.slice n a from to, r)
unfolding subscript_with
bounds_full b h n a lt absent one_sign d i = slice_full b h n a tree.absent (omega arith) d i
bounds_full b h {t = t} {u = u} n a lt (present {e = e} f) one_sign d i =
    let less = expr_shorter f in
    rw (expr_not f mark.Colon refl, h.expr t u e lt f (refl, refl)) (slice_full b h n a (tree.present e) (omega arith) d i)

items_stop : {s r : List Word} {es : Exprs} → IsItems s r es → StopsExpr s × (sign_at mark.For s ≡ None)
items_stop (no_item one_sign) = ((refl, refl), refl)
items_stop (last_item one_sign i) = ((refl, refl), refl)
items_stop (item one_sign h c) = ((refl, refl), refl)

items_full : (b : Below) → IsFull b → (n : ℕ) (xs : Exprs) (s r : List Word) (ys : Exprs) → length s < n → length s ≤ b.room → IsItems s r ys → items_with b n xs s ≡ Some (all_items xs ys, r)
unfolding items_with
items_full b h zero xs s r ys lt le d = absurd (omega arith)
items_full b h (suc n) xs s r ys lt le (no_item one_sign) = rw (all_no_items xs) refl
items_full b h (suc n) xs s r ys lt le (last_item one_sign one_sign) = rw (all_no_items xs) refl
items_full b h (suc n) xs s r ys lt le (item {t = t} {m = m} {e = e} {es = zs} one_sign d c) =
    let less = expr_shorter d in
    rw (expr_not d mark.CloseBracket refl, h.expr t m e (omega arith) d (items_stop c).0) (items_full b h n (with_item xs e) m r zs (omega arith) (omega arith) c ∙ ap (λ (ws : Exprs). Some (ws, r)) (all_with_item xs e zs))

list_full : (b : Below) → IsFull b → {s m r : List Word} {e : Expr} {es : Exprs} (n : ℕ) → length s < b.room → IsExpr s m e → IsItems m r es → list_with b n s ≡ Some (tree.list n (tree.item e es), r)
unfolding list_with
list_full b h {s = s} {m = m} {r = r} {e = e} {es = es} n lt d c =
    let less = expr_shorter d in
    let st = items_stop c in
    rw (expr_not d mark.CloseBracket refl, h.expr s m e lt d st.0, st.1, items_full b h b.room (tree.item e tree.no_exprs) m r es (omega arith) (omega arith) c) refl

comprehension_full : (b : Below) → IsFull b → {s m r : List Word} {g : Generator} (n : ℕ) → length s < b.room → IsGenerator s m g → IsSign mark.CloseBracket m r → list_with b n s ≡ Some (tree.comprehension n g, r)
unfolding list_with
comprehension_full b h {s = s} n lt (generator {m = m} {e = e} d one_sign x i l c) one_sign =
    let less = expr_shorter d in
    rw (expr_not d mark.CloseBracket refl, h.expr s m e lt d (refl, refl), generator_full b h e (omega arith) x i l c (refl, refl)) refl

pairs_stop : {s r : List Word} {ps : Pairs} → IsPairs s r ps → StopsExpr s
pairs_stop (no_pair one_sign) = (refl, refl)
pairs_stop (last_pair one_sign i) = (refl, refl)
pairs_stop (pair one_sign h i d c) = (refl, refl)

pair_full : (b : Below) → IsFull b → {s m u v : List Word} {k e : Expr} → length s < b.room → IsExpr s m k → IsSign mark.Colon m u → IsExpr u v e → StopsExpr v → pair_with b s ≡ Some ((k, e), v)
unfolding pair_with
pair_full b h {s = s} {m = m} {u = u} {v = v} {k = k} {e = e} lt d one_sign i st =
    let less = expr_shorter d in
    rw (h.expr s m k lt d (refl, refl), h.expr u v e (omega arith) i st) refl

pairs_full : (b : Below) → IsFull b → (n : ℕ) (xs : Pairs) (s r : List Word) (ys : Pairs) → length s < n → length s ≤ b.room → IsPairs s r ys → pairs_with b n xs s ≡ Some (all_pairs xs ys, r)
unfolding pairs_with
pairs_full b h zero xs s r ys lt le d = absurd (omega arith)
pairs_full b h (suc n) xs s r ys lt le (no_pair one_sign) = rw (all_no_pairs xs) refl
pairs_full b h (suc n) xs s r ys lt le (last_pair one_sign one_sign) = rw (all_no_pairs xs) refl
pairs_full b h (suc n) xs s r ys lt le (pair {v = v} {k = k} {e = e} {ps = zs} one_sign d i j c) =
    let less = expr_shorter d in
    let less2 = sign_shorter i in
    let less3 = expr_shorter j in
    rw (expr_not d mark.CloseBrace refl, pair_full b h (omega arith) d i j (pairs_stop c)) (pairs_full b h n (with_pair xs k e) v r zs (omega arith) (omega arith) c ∙ ap (λ (ws : Pairs). Some (ws, r)) (all_with_pair xs k e zs))

dict_full : (b : Below) → IsFull b → {s m u v r : List Word} {k e : Expr} {ps : Pairs} (n : ℕ) → length s < b.room → IsExpr s m k → IsSign mark.Colon m u → IsExpr u v e → IsPairs v r ps → dict_with b n s ≡ Some (tree.dict n (tree.pair k e ps), r)
unfolding dict_with
dict_full b h {s = s} {v = v} {r = r} {k = k} {e = e} {ps = ps} n lt d i j c =
    let less = expr_shorter d in
    let less2 = sign_shorter i in
    let less3 = expr_shorter j in
    rw (expr_not d mark.CloseBrace refl, pair_full b h lt d i j (pairs_stop c), pairs_full b h b.room (tree.pair k e tree.no_pairs) v r ps (omega arith) (omega arith) c) refl

-- what no string follows
begins_string : List Word → Bool
begins_string [] = false
begins_string (Name n x ∷ s) = false
begins_string (Int n v ∷ s) = false
begins_string (Str p ∷ s) = true
begins_string (Sign n m ∷ s) = false

strings_full : (ps : List StringPart) {s r : List Word} {qs : List StringPart} → IsStrings s r qs → begins_string r ≡ false → strings_onto ps s ≡ (let x : List StringPart × List Word = (ps ++ qs, r) in x)
unfolding begins_string strings_onto
strings_full ps (no_string {r = []}) f = rw (append-nil ps) refl
strings_full ps (no_string {r = Name n x ∷ s}) f = rw (append-nil ps) refl
strings_full ps (no_string {r = Int n v ∷ s}) f = rw (append-nil ps) refl
strings_full ps (no_string {r = Str p ∷ s}) f = absurd cc
strings_full ps (no_string {r = Sign n m ∷ s}) f = rw (append-nil ps) refl
strings_full ps {r = r} (string {p = p} {ps = qs} one_string c) f = strings_full (ps ++ p ∷ []) c f ∙ ap (λ (ws : List StringPart). let x : List StringPart × List Word = (ws, r) in x) (append_assoc ps (p ∷ []) qs)

atom_full : (b : Below) → IsFull b → {s r : List Word} {e : Expr} → length s ≤ b.room → begins_string r ≡ false → IsAtom s r e → atom_with b s ≡ Some (e, r)
unfolding atom_with signed_with group_with list_with dict_with
atom_full b h le st (name one_name) = refl
atom_full b h le st (integer one_integer) = refl
atom_full b h le st (text one_string c) = rw (strings_full [] c st) refl
atom_full b h le st (truth one_sign) = refl
atom_full b h le st (falsehood one_sign) = refl
atom_full b h le st (none one_sign) = refl
atom_full b h le st (group {t = t} {m = m} {e = e} one_sign d one_sign) = rw (h.expr t m e (omega arith) d (refl, refl)) refl
atom_full b h le st (empty_list one_sign one_sign) = refl
atom_full b h le st (list (one_sign {n = n}) d c) = list_full b h n (omega arith) d c
atom_full b h le st (comprehension (one_sign {n = n}) g i) = comprehension_full b h n (omega arith) g i
atom_full b h le st (empty_dict one_sign one_sign) = refl
atom_full b h le st (dict (one_sign {n = n}) d i j c) = dict_full b h n (omega arith) d i j c

-- the prim at the front is read up to r, and turns enough for the rest are left
record PrimRead (b : Below) (s r : List Word) (e : Expr) : Type 0 where
  pub turns : ℕ
  pub enough : length r < turns
  pub is : prim_with b s ≡ suffixes_with b (line_of s) turns e r

one_suffix : (b : Below) (s m r : List Word) (a e : Expr) → length r < length m → ((k : ℕ) → suffixes_with b (line_of s) (suc k) a m ≡ suffixes_with b (line_of s) k e r) → PrimRead b s m a → PrimRead b s r e
one_suffix b s m r a e less step p = by_turns p.turns p.enough p.is
  where
    by_turns : (k : ℕ) → length m < k → prim_with b s ≡ suffixes_with b (line_of s) k a m → PrimRead b s r e
    by_turns zero lt is = absurd (omega arith)
    by_turns (suc k) lt is = record { turns = k; enough = omega arith; is = is ∙ step k }

prim_reads : (b : Below) → IsFull b → {s r : List Word} {e : Expr} → length s ≤ b.room → begins_string r ≡ false → IsPrim s r e → PrimRead b s r e
unfolding begins_string prim_with suffixes_with
prim_reads b h le st (atom a) = let less = atom_shorter a in record { turns = b.room; enough = omega arith; is = rw (atom_full b h le st a) refl }
prim_reads b h {s = s} {r = r} le st (attribute {m = m} {a = a} {x = x} p one_sign one_name) =
    one_suffix b s m r a (tree.attribute (line_of s) a x) (omega arith) (λ k. refl) (prim_reads b h le refl p)
prim_reads b h {s = s} {r = r} le st (call {m = m} {t = t} {a = a} {xs = xs} p one_sign d) =
    let less = prim_shorter p in
    let less2 = arguments_shorter d in
    let first : arguments_with b t ≡ Some (xs, r) = arguments_full b h (omega arith) d in
    one_suffix b s m r a (tree.call (line_of s) a xs) (omega arith) (λ k. rw first refl) (prim_reads b h le refl p)
prim_reads b h {s = s} {r = r} le st (index {m = m} {t = t} {a = a} {i = i} p one_sign d c) =
    let less = prim_shorter p in
    let less2 = expr_shorter d in
    let less3 = sign_shorter c in
    let first : subscript_with b (line_of s) a t ≡ Some (tree.index (line_of s) a i, r) = index_full b h (line_of s) a (omega arith) d c in
    one_suffix b s m r a (tree.index (line_of s) a i) (omega arith) (λ k. rw first refl) (prim_reads b h le refl p)
prim_reads b h {s = s} {r = r} le st (slice {m = m} {t = t} {a = a} {from = from} {to = to} p one_sign f d i c) =
    let less = prim_shorter p in
    let less2 = slice_shorter f d i c in
    let first : subscript_with b (line_of s) a t ≡ Some (tree.slice (line_of s) a from to, r) = bounds_full b h (line_of s) a (omega arith) f d i c in
    one_suffix b s m r a (tree.slice (line_of s) a from to) (omega arith) (λ k. rw first refl) (prim_reads b h le refl p)
  where
    slice_shorter : {t u v w q : List Word} {from to : Bound} → IsBound t u from → IsSign mark.Colon u v → IsBound v w to → IsSign mark.CloseBracket w q → length q < length t
    slice_shorter f d i c = omega (arith, bound_shorter f, sign_shorter d, bound_shorter i, sign_shorter c)

no_string_at : (s : List Word) → is_suffix s ≡ false → begins_string s ≡ false
unfolding begins_string
no_string_at [] h = refl
no_string_at (Name n x ∷ s) h = refl
no_string_at (Int n v ∷ s) h = refl
no_string_at (Str p ∷ s) h = h
no_string_at (Sign n m ∷ s) h = refl

pub prim_full : (b : Below) → IsFull b → {s r : List Word} {e : Expr} → length s ≤ b.room → Stops zero r → IsPrim s r e → prim_with b s ≡ Some (e, r)
unfolding suffixes_with
prim_full b h {s = s} {r = r} {e = e} le st d = let p = prim_reads b h le (no_string_at r f) d in by_turns p.turns p.enough p.is
  where
    f : is_suffix r ≡ false
    f = stops_suffix zero r st

    by_turns : (k : ℕ) → length r < k → prim_with b s ≡ suffixes_with b (line_of s) k e r → prim_with b s ≡ Some (e, r)
    by_turns zero lt is = absurd (omega arith)
    by_turns (suc k) lt is = is ∙ rw (no_call_at r f, no_index_at r f, no_dot_at r f) refl

-- ---- levels

level_full : (b : Below) → IsFull b → (l : ℕ) → IsRead (level_with b l) b.room l (IsLevel l)
unfolding level_with
level_full b h zero s r e le (prefixed {t = t} {o = o} {e = d} is i) st =
    let less = prefix_shorter zero s (o, t) is in
    rw (is, h.level zero t r d (omega arith) i st) refl
level_full b h zero s r e le (primary p) st = rw (prim_no_prefix p zero) (prim_full b h le st p)
level_full b h (suc l) s r e le (prefixed {t = t} {o = o} {e = d} is i) st =
    let less = prefix_shorter (suc l) s (o, t) is in
    rw (is, h.level (suc l) t r d (omega arith) i st) refl
level_full b h (suc l) s r e le (left {m = m} {a = a} g d c) st =
    let less = level_shorter d in
    rw (level_no_prefix d (suc l) (omega arith), level_full b h l s m a le d (chain_stops c st), g) (chain_full (level_with b l) l b.room (level_full b h l) (line_of s) b.room m r a e (omega arith) (omega arith) c st)
level_full b h (suc l) s r e le (joined {m = m} {a = a} {xs = xs} g d c) st =
    let less = level_shorter d in
    rw (level_no_prefix d (suc l) (omega arith), level_full b h l s m a le d (links_stops c st), g, links_full (level_with b l) l b.room (level_full b h l) b.room tree.no_links m r xs (omega arith) (omega arith) c st) refl

expr_full : (b : Below) → IsFull b → (s r : List Word) (e : Expr) → length s ≤ b.room → IsExpr s r e → StopsExpr r → expr_with b s ≡ Some (e, r)
unfolding expr_with
expr_full b h s r e le (plain i) st = rw (level_full b h loosest s r e le i st.0, st.1) refl
expr_full b h s r e le (choice {m = m} {t = t} {u = u} {v = v} {a = a} {c = c} {b = d} i one_sign j one_sign k) st =
    let less = level_shorter i in
    let less2 = level_shorter j in
    rw (level_full b h loosest s m a le i refl, h.level loosest t u c (omega arith) j refl, h.expr v r d (omega arith) k st) refl

pub room_of_below : (n : ℕ) → (below n).room ≡ n
unfolding below
room_of_below zero = refl
room_of_below (suc n) = refl

pub below_full : (n : ℕ) → IsFull (below n)
unfolding below
below_full zero = record { level = λ l s r e lt d st. absurd (omega arith); expr = λ s r e lt d st. absurd (omega arith) }
below_full (suc n) = record {
  level = λ l s r e lt d st. level_full (below n) (below_full n) l s r e (omega (arith, room_of_below n)) d st;
  expr = λ s r e lt d st. expr_full (below n) (below_full n) s r e (omega (arith, room_of_below n)) d st;
}

-- what is an expression, and what follows stops it, is read
pub expr_is_read : (s r : List Word) (e : Expr) → IsExpr s r e → StopsExpr r → read_expr s ≡ Some (e, r)
unfolding read_expr
expr_is_read s r e d st = (below_full (suc (length s))).expr s r e (omega (arith, room_of_below (suc (length s)))) d st
