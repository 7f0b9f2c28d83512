-- The steps of reading, each as one equation of what is read.
use Rattle.std.proofs.Common.{rules, ◌≡◌, ℕ, zero, suc, ◌-◌, ◌<◌, ◌≤◌, List, [], ◌∷◌, Bool, true, false, Option, Some, None, is_some, refl, sym, ap, subst, arith, ◌∙◌}
use Rattle.spec_trees.specs.declared.Operator.{Operator}
use Rattle.spec_trees.specs.declared.Prefix.{Prefix}
use Rattle.spec_trees.specs.Expr.{Expr, Arguments, ArgumentList, Links, Exprs, Pairs, Generator, generator, generated, listed, binary, call, attribute, prefixed, no_links, no_exprs, no_pairs, no_arguments, item, list, dict, pair}
use Rattle.spec_grammar.specs.declared.Mark.{Mark}
use Rattle.spec_grammar.specs.declared.Mark.TheVariants as mark
use Rattle.spec_grammar.proofs.Steps.{some_is}
use Rattle.py_words.specs.Found.{Fails, first_sign}
use Rattle.spec_grammar.specs.Words.{Word, Name, Int, Str, Sign, line_of}
use Rattle.spec_grammar.specs.Marks.{sign_at, operator_at, prefix_at, name_at, groups_left}
use Rattle.spec_grammar.specs.Grammar.{loosest, joined_tree}
use Rattle.spec_grammar.specs.Reading.{Parse, Below, below, expr_with, level_with, chain_with, links_with, conditions_with, items_with, pairs_with, pair_with, args_with, arg_with, suffixes_with, prim_with, arguments_with, subscript_with, generator_with, for_at, list_with, dict_with, atom_with, signed_with, with_item, with_pair, with_link, with_argument}
use Rattle.py_words.specs.declared.unread.Unread.{Unread}
use Rattle.py_words.specs.declared.unread.Unread.TheVariants.{NoForm, NoMemory}
use Rattle.py_expressions.specs.Given.{operands_with, list_from, leaf_with}
use Rattle.py_tree.specs.declared.ids.NameId.{NameId}
use Rattle.py_tree.specs.Exprs.{name_of}

-- one nesting further in there is one less
pub below_expr : (n : ℕ) (s : List Word) → 0 < n → (below n).expr s ≡ expr_with (below (n - 1)) s
unfolding below
below_expr zero s lt = absurd (omega arith)
below_expr (suc n) s lt = let e : suc n - 1 ≡ n = omega arith in rw e refl

pub below_level : (n l : ℕ) (s : List Word) → 0 < n → (below n).level l s ≡ level_with (below (n - 1)) l s
unfolding below
below_level zero l s lt = absurd (omega arith)
below_level (suc n) l s lt = let e : suc n - 1 ≡ n = omega arith in rw e refl

-- with no nesting left there is nothing
pub no_expr : (n : ℕ) (s : List Word) → n ≡ 0 → (below n).expr s ≡ None
unfolding below
no_expr n s e = rw e refl

pub no_level : (n l : ℕ) (s : List Word) → n ≡ 0 → (below n).level l s ≡ None
unfolding below
no_level n l s e = rw e refl

-- ---- operators that group from the left

pub chain_turn : (p : Parse Expr) (l n k j : ℕ) (a b : Expr) (o : Operator) (s t m : List Word) → k ≡ suc j → operator_at l s ≡ Some (o, t) → p t ≡ Some (b, m) → chain_with p l n k a s ≡ chain_with p l n j (binary n o a b) m
unfolding chain_with
chain_turn p l n k j a b o s t m f0 f1 f2 = rw (f0, f1, f2) refl

pub chain_end : (p : Parse Expr) (l n k j : ℕ) (a : Expr) (s : List Word) → k ≡ suc j → operator_at l s ≡ None → chain_with p l n k a s ≡ Some (a, s)
unfolding chain_with
chain_end p l n k j a s f0 f1 = rw (f0, f1) refl

pub chain_stuck : (p : Parse Expr) (l n k j : ℕ) (a : Expr) (o : Operator) (s t : List Word) → k ≡ suc j → operator_at l s ≡ Some (o, t) → p t ≡ None → chain_with p l n k a s ≡ None
unfolding chain_with
chain_stuck p l n k j a o s t f0 f1 f2 = rw (f0, f1, f2) refl

pub chain_out : (p : Parse Expr) (l n k : ℕ) (a : Expr) (s : List Word) → k ≡ 0 → chain_with p l n k a s ≡ None
unfolding chain_with
chain_out p l n k a s f0 = rw f0 refl

-- ---- operators that make one chain

pub links_turn : (p : Parse Expr) (l k j : ℕ) (b : Expr) (xs : Links) (o : Operator) (s t m : List Word) → k ≡ suc j → operator_at l s ≡ Some (o, t) → p t ≡ Some (b, m) → links_with p l k xs s ≡ links_with p l j (with_link xs o b) m
unfolding links_with
links_turn p l k j b xs o s t m f0 f1 f2 = rw (f0, f1, f2) refl

pub links_end : (p : Parse Expr) (l k j : ℕ) (xs : Links) (s : List Word) → k ≡ suc j → operator_at l s ≡ None → links_with p l k xs s ≡ Some (xs, s)
unfolding links_with
links_end p l k j xs s f0 f1 = rw (f0, f1) refl

pub links_stuck : (p : Parse Expr) (l k j : ℕ) (xs : Links) (o : Operator) (s t : List Word) → k ≡ suc j → operator_at l s ≡ Some (o, t) → p t ≡ None → links_with p l k xs s ≡ None
unfolding links_with
links_stuck p l k j xs o s t f0 f1 f2 = rw (f0, f1, f2) refl

pub links_out : (p : Parse Expr) (l k : ℕ) (xs : Links) (s : List Word) → k ≡ 0 → links_with p l k xs s ≡ None
unfolding links_with
links_out p l k xs s f0 = rw f0 refl

-- ---- conditions of a generator

pub conditions_turn : (b : Below) (k j : ℕ) (cs : Exprs) (c : Expr) (s t m : List Word) → k ≡ suc j → sign_at mark.If s ≡ Some t → b.level loosest t ≡ Some (c, m) → conditions_with b k cs s ≡ conditions_with b j (with_item cs c) m
unfolding conditions_with
conditions_turn b k j cs c s t m f0 f1 f2 = rw (f0, f1, f2) refl

pub conditions_end : (b : Below) (k j : ℕ) (cs : Exprs) (s : List Word) → k ≡ suc j → sign_at mark.If s ≡ None → conditions_with b k cs s ≡ Some (cs, s)
unfolding conditions_with
conditions_end b k j cs s f0 f1 = rw (f0, f1) refl

pub conditions_stuck : (b : Below) (k j : ℕ) (cs : Exprs) (s t : List Word) → k ≡ suc j → sign_at mark.If s ≡ Some t → b.level loosest t ≡ None → conditions_with b k cs s ≡ None
unfolding conditions_with
conditions_stuck b k j cs s t f0 f1 f2 = rw (f0, f1, f2) refl

pub conditions_out : (b : Below) (k : ℕ) (cs : Exprs) (s : List Word) → k ≡ 0 → conditions_with b k cs s ≡ None
unfolding conditions_with
conditions_out b k cs s f0 = rw f0 refl

-- ---- items of a list

pub items_turn : (b : Below) (k j : ℕ) (es : Exprs) (x : Expr) (s t m : List Word) → k ≡ suc j → sign_at mark.CloseBracket s ≡ None → sign_at mark.Comma s ≡ Some t → sign_at mark.CloseBracket t ≡ None → b.expr t ≡ Some (x, m) → items_with b k es s ≡ items_with b j (with_item es x) m
unfolding items_with
items_turn b k j es x s t m f0 f1 f2 f3 f4 = rw (f0, f1, f2, f3, f4) refl

pub items_end : (b : Below) (k j : ℕ) (es : Exprs) (s r : List Word) → k ≡ suc j → sign_at mark.CloseBracket s ≡ Some r → items_with b k es s ≡ Some (es, r)
unfolding items_with
items_end b k j es s r f0 f1 = rw (f0, f1) refl

pub items_trailing : (b : Below) (k j : ℕ) (es : Exprs) (s t r : List Word) → k ≡ suc j → sign_at mark.CloseBracket s ≡ None → sign_at mark.Comma s ≡ Some t → sign_at mark.CloseBracket t ≡ Some r → items_with b k es s ≡ Some (es, r)
unfolding items_with
items_trailing b k j es s t r f0 f1 f2 f3 = rw (f0, f1, f2, f3) refl

pub items_no_comma : (b : Below) (k j : ℕ) (es : Exprs) (s : List Word) → k ≡ suc j → sign_at mark.CloseBracket s ≡ None → sign_at mark.Comma s ≡ None → items_with b k es s ≡ None
unfolding items_with
items_no_comma b k j es s f0 f1 f2 = rw (f0, f1, f2) refl

pub items_stuck : (b : Below) (k j : ℕ) (es : Exprs) (s t : List Word) → k ≡ suc j → sign_at mark.CloseBracket s ≡ None → sign_at mark.Comma s ≡ Some t → sign_at mark.CloseBracket t ≡ None → b.expr t ≡ None → items_with b k es s ≡ None
unfolding items_with
items_stuck b k j es s t f0 f1 f2 f3 f4 = rw (f0, f1, f2, f3, f4) refl

pub items_out : (b : Below) (k : ℕ) (es : Exprs) (s : List Word) → k ≡ 0 → items_with b k es s ≡ None
unfolding items_with
items_out b k es s f0 = rw f0 refl

-- ---- pairs of a dict

pub pairs_turn : (b : Below) (k j : ℕ) (ps : Pairs) (x y : Expr) (s t m : List Word) → k ≡ suc j → sign_at mark.CloseBrace s ≡ None → sign_at mark.Comma s ≡ Some t → sign_at mark.CloseBrace t ≡ None → pair_with b t ≡ Some ((x, y), m) → pairs_with b k ps s ≡ pairs_with b j (with_pair ps x y) m
unfolding pairs_with
pairs_turn b k j ps x y s t m f0 f1 f2 f3 f4 = rw (f0, f1, f2, f3, f4) refl

pub pairs_end : (b : Below) (k j : ℕ) (ps : Pairs) (s r : List Word) → k ≡ suc j → sign_at mark.CloseBrace s ≡ Some r → pairs_with b k ps s ≡ Some (ps, r)
unfolding pairs_with
pairs_end b k j ps s r f0 f1 = rw (f0, f1) refl

pub pairs_trailing : (b : Below) (k j : ℕ) (ps : Pairs) (s t r : List Word) → k ≡ suc j → sign_at mark.CloseBrace s ≡ None → sign_at mark.Comma s ≡ Some t → sign_at mark.CloseBrace t ≡ Some r → pairs_with b k ps s ≡ Some (ps, r)
unfolding pairs_with
pairs_trailing b k j ps s t r f0 f1 f2 f3 = rw (f0, f1, f2, f3) refl

pub pairs_no_comma : (b : Below) (k j : ℕ) (ps : Pairs) (s : List Word) → k ≡ suc j → sign_at mark.CloseBrace s ≡ None → sign_at mark.Comma s ≡ None → pairs_with b k ps s ≡ None
unfolding pairs_with
pairs_no_comma b k j ps s f0 f1 f2 = rw (f0, f1, f2) refl

pub pairs_stuck : (b : Below) (k j : ℕ) (ps : Pairs) (s t : List Word) → k ≡ suc j → sign_at mark.CloseBrace s ≡ None → sign_at mark.Comma s ≡ Some t → sign_at mark.CloseBrace t ≡ None → pair_with b t ≡ None → pairs_with b k ps s ≡ None
unfolding pairs_with
pairs_stuck b k j ps s t f0 f1 f2 f3 f4 = rw (f0, f1, f2, f3, f4) refl

pub pairs_out : (b : Below) (k : ℕ) (ps : Pairs) (s : List Word) → k ≡ 0 → pairs_with b k ps s ≡ None
unfolding pairs_with
pairs_out b k ps s f0 = rw f0 refl

-- ---- arguments

pub args_turn : (b : Below) (k j : ℕ) (w : Bool) (xs : ArgumentList) (x : Option (List ℕ)) (v : Expr) (s m t : List Word) → k ≡ suc j → sign_at mark.CloseParen s ≡ None → arg_with b w s ≡ Some ((x, v), m) → sign_at mark.CloseParen m ≡ None → sign_at mark.Comma m ≡ Some t → args_with b k w xs s ≡ args_with b j (is_some x) (with_argument xs x v) t
unfolding args_with
args_turn b k j w xs x v s m t f0 f1 f2 f3 f4 = rw (f0, f1, f2, f3, f4) refl

pub args_end : (b : Below) (k j : ℕ) (w : Bool) (xs : ArgumentList) (s r : List Word) → k ≡ suc j → sign_at mark.CloseParen s ≡ Some r → args_with b k w xs s ≡ Some (xs, r)
unfolding args_with
args_end b k j w xs s r f0 f1 = rw (f0, f1) refl

pub args_last : (b : Below) (k j : ℕ) (w : Bool) (xs : ArgumentList) (x : Option (List ℕ)) (v : Expr) (s m r : List Word) → k ≡ suc j → sign_at mark.CloseParen s ≡ None → arg_with b w s ≡ Some ((x, v), m) → sign_at mark.CloseParen m ≡ Some r → args_with b k w xs s ≡ Some (with_argument xs x v, r)
unfolding args_with
args_last b k j w xs x v s m r f0 f1 f2 f3 = rw (f0, f1, f2, f3) refl

pub args_no_comma : (b : Below) (k j : ℕ) (w : Bool) (xs : ArgumentList) (x : Option (List ℕ)) (v : Expr) (s m : List Word) → k ≡ suc j → sign_at mark.CloseParen s ≡ None → arg_with b w s ≡ Some ((x, v), m) → sign_at mark.CloseParen m ≡ None → sign_at mark.Comma m ≡ None → args_with b k w xs s ≡ None
unfolding args_with
args_no_comma b k j w xs x v s m f0 f1 f2 f3 f4 = rw (f0, f1, f2, f3, f4) refl

pub args_stuck : (b : Below) (k j : ℕ) (w : Bool) (xs : ArgumentList) (s : List Word) → k ≡ suc j → sign_at mark.CloseParen s ≡ None → arg_with b w s ≡ None → args_with b k w xs s ≡ None
unfolding args_with
args_stuck b k j w xs s f0 f1 f2 = rw (f0, f1, f2) refl

pub args_out : (b : Below) (k : ℕ) (w : Bool) (xs : ArgumentList) (s : List Word) → k ≡ 0 → args_with b k w xs s ≡ None
unfolding args_with
args_out b k w xs s f0 = rw f0 refl

-- ---- what stands behind a prim

pub call_turn : (b : Below) (n k j : ℕ) (a : Expr) (x : Arguments) (s t m : List Word) → k ≡ suc j → sign_at mark.OpenParen s ≡ Some t → arguments_with b t ≡ Some (x, m) → suffixes_with b n k a s ≡ suffixes_with b n j (call n a x) m
unfolding suffixes_with
call_turn b n k j a x s t m f0 f1 f2 = rw (f0, f1, f2) refl

pub call_stuck : (b : Below) (n k j : ℕ) (a : Expr) (s t : List Word) → k ≡ suc j → sign_at mark.OpenParen s ≡ Some t → arguments_with b t ≡ None → suffixes_with b n k a s ≡ None
unfolding suffixes_with
call_stuck b n k j a s t f0 f1 f2 = rw (f0, f1, f2) refl

pub subscript_turn : (b : Below) (n k j : ℕ) (a x : Expr) (s t m : List Word) → k ≡ suc j → sign_at mark.OpenParen s ≡ None → sign_at mark.OpenBracket s ≡ Some t → subscript_with b n a t ≡ Some (x, m) → suffixes_with b n k a s ≡ suffixes_with b n j x m
unfolding suffixes_with
subscript_turn b n k j a x s t m f0 f1 f2 f3 = rw (f0, f1, f2, f3) refl

pub subscript_stuck : (b : Below) (n k j : ℕ) (a : Expr) (s t : List Word) → k ≡ suc j → sign_at mark.OpenParen s ≡ None → sign_at mark.OpenBracket s ≡ Some t → subscript_with b n a t ≡ None → suffixes_with b n k a s ≡ None
unfolding suffixes_with
subscript_stuck b n k j a s t f0 f1 f2 f3 = rw (f0, f1, f2, f3) refl

pub attribute_turn : (b : Below) (n k j : ℕ) (a : Expr) (x : List ℕ) (s t m : List Word) → k ≡ suc j → sign_at mark.OpenParen s ≡ None → sign_at mark.OpenBracket s ≡ None → sign_at mark.Dot s ≡ Some t → name_at t ≡ Some (x, m) → suffixes_with b n k a s ≡ suffixes_with b n j (attribute n a x) m
unfolding suffixes_with
attribute_turn b n k j a x s t m f0 f1 f2 f3 f4 = rw (f0, f1, f2, f3, f4) refl

pub attribute_stuck : (b : Below) (n k j : ℕ) (a : Expr) (s t : List Word) → k ≡ suc j → sign_at mark.OpenParen s ≡ None → sign_at mark.OpenBracket s ≡ None → sign_at mark.Dot s ≡ Some t → name_at t ≡ None → suffixes_with b n k a s ≡ None
unfolding suffixes_with
attribute_stuck b n k j a s t f0 f1 f2 f3 f4 = rw (f0, f1, f2, f3, f4) refl

pub suffixes_end : (b : Below) (n k j : ℕ) (a : Expr) (s : List Word) → k ≡ suc j → sign_at mark.OpenParen s ≡ None → sign_at mark.OpenBracket s ≡ None → sign_at mark.Dot s ≡ None → suffixes_with b n k a s ≡ Some (a, s)
unfolding suffixes_with
suffixes_end b n k j a s f0 f1 f2 f3 = rw (f0, f1, f2, f3) refl

pub suffixes_out : (b : Below) (n k : ℕ) (a : Expr) (s : List Word) → k ≡ 0 → suffixes_with b n k a s ≡ None
unfolding suffixes_with
suffixes_out b n k a s f0 = rw f0 refl

-- ---- levels

pub level_prefixed : (b : Below) (l : ℕ) (s t r : List Word) (o : Prefix) (e : Expr) → prefix_at l s ≡ Some (o, t) → b.level l t ≡ Some (e, r) → level_with b l s ≡ Some (prefixed (line_of s) o e, r)
unfolding level_with
level_prefixed b zero s t r o e f g = rw (f, g) refl
level_prefixed b (suc l) s t r o e f g = rw (f, g) refl

pub level_stuck : (b : Below) (l : ℕ) (s t : List Word) (o : Prefix) → prefix_at l s ≡ Some (o, t) → b.level l t ≡ None → level_with b l s ≡ None
unfolding level_with
level_stuck b zero s t o f g = rw (f, g) refl
level_stuck b (suc l) s t o f g = rw (f, g) refl

pub level_tight : (b : Below) (l : ℕ) (s : List Word) → l ≡ 0 → prefix_at l s ≡ None → level_with b l s ≡ prim_with b s
unfolding level_with
level_tight b zero s e f = rw f refl
level_tight b (suc l) s e f = absurd (omega arith)

pub level_loose : (b : Below) (l : ℕ) (s : List Word) → 0 < l → prefix_at l s ≡ None → level_with b l s ≡ operands_with b (l - 1) s
unfolding level_with
level_loose b zero s lt f = absurd (omega arith)
level_loose b (suc l) s lt f = let e : suc l - 1 ≡ l = omega arith in rw (f, e) refl

-- ---- operands of a level

left_of : (l : ℕ) → l < 6 → groups_left l ≡ true
left_of l lt = search (rules, arith)

right_of : (l : ℕ) → 6 ≤ l → groups_left l ≡ false
right_of l le = search (rules, arith)

pub operands_left : (b : Below) (l n k : ℕ) (s m : List Word) (a : Expr) → level_with b l s ≡ Some (a, m) → l < 6 → n ≡ line_of s → b.room ≡ k → operands_with b l s ≡ chain_with (level_with b l) l n k a m
operands_left b l n k s m a f lt g h = rw (f, left_of l lt, g, h) refl

pub operands_joined : (b : Below) (l n k : ℕ) (s m r : List Word) (a : Expr) (xs : Links) → level_with b l s ≡ Some (a, m) → 6 ≤ l → n ≡ line_of s → b.room ≡ k → links_with (level_with b l) l k no_links m ≡ Some (xs, r) → operands_with b l s ≡ Some (joined_tree n a xs, r)
operands_joined b l n k s m r a xs f le g h i =
    let j : links_with (level_with b l) l b.room no_links m ≡ Some (xs, r) = subst (λ (x : ℕ). links_with (level_with b l) l x no_links m ≡ Some (xs, r)) (sym h) i in
    rw (f, right_of l le, g, j) refl

pub operands_stuck : (b : Below) (l k : ℕ) (s m : List Word) (a : Expr) → level_with b l s ≡ Some (a, m) → 6 ≤ l → b.room ≡ k → links_with (level_with b l) l k no_links m ≡ None → operands_with b l s ≡ None
operands_stuck b l k s m a f le h i =
    let j : links_with (level_with b l) l b.room no_links m ≡ None = subst (λ (x : ℕ). links_with (level_with b l) l x no_links m ≡ None) (sym h) i in
    rw (f, right_of l le, j) refl

-- ---- forms that hold a list

pub prim_turn : (b : Below) (n k : ℕ) (s m : List Word) (a : Expr) → b.room ≡ k → n ≡ line_of s → atom_with b s ≡ Some (a, m) → prim_with b s ≡ suffixes_with b n k a m
unfolding prim_with
prim_turn b n k s m a h e f = rw (f, sym e, h) refl

pub generator_read : (b : Below) (k : ℕ) (e i : Expr) (x : List ℕ) (cs : Exprs) (s t u m r : List Word) → b.room ≡ k → name_at s ≡ Some (x, t) → sign_at mark.In t ≡ Some u → b.level loosest u ≡ Some (i, m) → conditions_with b k no_exprs m ≡ Some (cs, r) → generator_with b e s ≡ Some (generator e x i cs, r)
unfolding generator_with
generator_read b k e i x cs s t u m r h f0 f1 f2 f3 =
    let j : conditions_with b b.room no_exprs m ≡ Some (cs, r) = subst (λ (y : ℕ). conditions_with b y no_exprs m ≡ Some (cs, r)) (sym h) f3 in
    rw (f0, f1, f2, j) refl

pub generator_stuck : (b : Below) (k : ℕ) (e i : Expr) (x : List ℕ) (s t u m : List Word) → b.room ≡ k → name_at s ≡ Some (x, t) → sign_at mark.In t ≡ Some u → b.level loosest u ≡ Some (i, m) → conditions_with b k no_exprs m ≡ None → generator_with b e s ≡ None
unfolding generator_with
generator_stuck b k e i x s t u m h f0 f1 f2 f3 =
    let j : conditions_with b b.room no_exprs m ≡ None = subst (λ (y : ℕ). conditions_with b y no_exprs m ≡ None) (sym h) f3 in
    rw (f0, f1, f2, j) refl

pub list_read : (b : Below) (k n : ℕ) (e : Expr) (es : Exprs) (s m r : List Word) → b.room ≡ k → sign_at mark.CloseBracket s ≡ None → b.expr s ≡ Some (e, m) → sign_at mark.For m ≡ None → items_with b k (item e no_exprs) m ≡ Some (es, r) → list_with b n s ≡ Some (list n es, r)
unfolding list_with
list_read b k n e es s m r h f0 f1 f2 f3 =
    let j : items_with b b.room (item e no_exprs) m ≡ Some (es, r) = subst (λ (y : ℕ). items_with b y (item e no_exprs) m ≡ Some (es, r)) (sym h) f3 in
    rw (f0, f1, f2, j) refl

pub list_stuck : (b : Below) (k n : ℕ) (e : Expr) (s m : List Word) → b.room ≡ k → sign_at mark.CloseBracket s ≡ None → b.expr s ≡ Some (e, m) → sign_at mark.For m ≡ None → items_with b k (item e no_exprs) m ≡ None → list_with b n s ≡ None
unfolding list_with
list_stuck b k n e s m h f0 f1 f2 f3 =
    let j : items_with b b.room (item e no_exprs) m ≡ None = subst (λ (y : ℕ). items_with b y (item e no_exprs) m ≡ None) (sym h) f3 in
    rw (f0, f1, f2, j) refl

pub dict_read : (b : Below) (k n : ℕ) (x y : Expr) (ps : Pairs) (s m r : List Word) → b.room ≡ k → sign_at mark.CloseBrace s ≡ None → pair_with b s ≡ Some ((x, y), m) → pairs_with b k (pair x y no_pairs) m ≡ Some (ps, r) → dict_with b n s ≡ Some (dict n ps, r)
unfolding dict_with
dict_read b k n x y ps s m r h f0 f1 f2 =
    let j : pairs_with b b.room (pair x y no_pairs) m ≡ Some (ps, r) = subst (λ (z : ℕ). pairs_with b z (pair x y no_pairs) m ≡ Some (ps, r)) (sym h) f2 in
    rw (f0, f1, j) refl

pub dict_stuck : (b : Below) (k n : ℕ) (x y : Expr) (s m : List Word) → b.room ≡ k → sign_at mark.CloseBrace s ≡ None → pair_with b s ≡ Some ((x, y), m) → pairs_with b k (pair x y no_pairs) m ≡ None → dict_with b n s ≡ None
unfolding dict_with
dict_stuck b k n x y s m h f0 f1 f2 =
    let j : pairs_with b b.room (pair x y no_pairs) m ≡ None = subst (λ (z : ℕ). pairs_with b z (pair x y no_pairs) m ≡ None) (sym h) f2 in
    rw (f0, f1, j) refl

-- ---- arguments of a call

-- an argument has a name exactly where its node has one
pub named : (ns : List (List ℕ)) (x : Option NameId) → is_some (name_of ns x) ≡ is_some x
named ns None = refl
named ns (Some x) = refl

-- the arguments from one on, where others follow
pub list_more : (b : Below) (k : ℕ) (x : Option (List ℕ)) (e : Expr) (s t : List Word) → b.room ≡ k → sign_at mark.CloseParen s ≡ None → sign_at mark.Comma s ≡ Some t → list_from b x e s ≡ args_with b k (is_some x) (with_argument no_arguments x e) t
list_more b k x e s t h f0 f1 = rw (f0, f1, h) refl

pub list_last : (b : Below) (x : Option (List ℕ)) (e : Expr) (s r : List Word) → sign_at mark.CloseParen s ≡ Some r → list_from b x e s ≡ Some (with_argument no_arguments x e, r)
list_last b x e s r f0 = rw f0 refl

pub list_no_comma : (b : Below) (x : Option (List ℕ)) (e : Expr) (s : List Word) → sign_at mark.CloseParen s ≡ None → sign_at mark.Comma s ≡ None → list_from b x e s ≡ None
list_no_comma b x e s f0 f1 = rw (f0, f1) refl

pub arguments_generated : (b : Below) (x : Option (List ℕ)) (e : Expr) (g : Generator) (s m t u r : List Word) → sign_at mark.CloseParen s ≡ None → arg_with b false s ≡ Some ((x, e), m) → for_at x m ≡ Some t → generator_with b e t ≡ Some (g, u) → sign_at mark.CloseParen u ≡ Some r → arguments_with b s ≡ Some (generated g, r)
unfolding arguments_with
arguments_generated b x e g s m t u r f0 f1 f2 f3 f4 = rw (f0, f1, f2, f3, f4) refl

pub arguments_open : (b : Below) (x : Option (List ℕ)) (e : Expr) (g : Generator) (s m t u : List Word) → sign_at mark.CloseParen s ≡ None → arg_with b false s ≡ Some ((x, e), m) → for_at x m ≡ Some t → generator_with b e t ≡ Some (g, u) → sign_at mark.CloseParen u ≡ None → arguments_with b s ≡ None
unfolding arguments_with
arguments_open b x e g s m t u f0 f1 f2 f3 f4 = rw (f0, f1, f2, f3, f4) refl

pub arguments_no_generator : (b : Below) (x : Option (List ℕ)) (e : Expr) (s m t : List Word) → sign_at mark.CloseParen s ≡ None → arg_with b false s ≡ Some ((x, e), m) → for_at x m ≡ Some t → generator_with b e t ≡ None → arguments_with b s ≡ None
unfolding arguments_with
arguments_no_generator b x e s m t f0 f1 f2 f3 = rw (f0, f1, f2, f3) refl

pub arguments_listed : (b : Below) (x : Option (List ℕ)) (e : Expr) (xs : ArgumentList) (s m r : List Word) → sign_at mark.CloseParen s ≡ None → arg_with b false s ≡ Some ((x, e), m) → for_at x m ≡ None → list_from b x e m ≡ Some (xs, r) → arguments_with b s ≡ Some (listed xs, r)
unfolding arguments_with
arguments_listed b x e xs s m r f0 f1 f2 f3 = rw (f0, f1, f2, f3) refl

pub arguments_no_list : (b : Below) (x : Option (List ℕ)) (e : Expr) (s m : List Word) → sign_at mark.CloseParen s ≡ None → arg_with b false s ≡ Some ((x, e), m) → for_at x m ≡ None → list_from b x e m ≡ None → arguments_with b s ≡ None
unfolding arguments_with
arguments_no_list b x e s m f0 f1 f2 f3 = rw (f0, f1, f2, f3) refl

pub arguments_stuck : (b : Below) (s : List Word) → sign_at mark.CloseParen s ≡ None → arg_with b false s ≡ None → arguments_with b s ≡ None
unfolding arguments_with
arguments_stuck b s f0 f1 = rw (f0, f1) refl

pub no_arguments_at : (b : Below) (s r : List Word) → sign_at mark.CloseParen s ≡ Some r → arguments_with b s ≡ Some (listed no_arguments, r)
unfolding arguments_with
no_arguments_at b s r f0 = rw f0 refl

-- ---- atoms

pub atom_signed : (b : Below) (m : Mark) (s t : List Word) → first_sign s ≡ Some (m, t) → atom_with b s ≡ signed_with b m (line_of s) t
unfolding atom_with
atom_signed b m [] t e = absurd cc
atom_signed b m (Name n x ∷ s) t e = absurd cc
atom_signed b m (Int n v ∷ s) t e = absurd cc
atom_signed b m (Str p ∷ s) t e = absurd cc
atom_signed b m (Sign n k ∷ s) t e =
    let h = some_is (k, s) (m, t) e in
    let p : k ≡ m = ap (λ (x : Mark × List Word). x.0) h in
    let q : s ≡ t = ap (λ (x : Mark × List Word). x.1) h in
    rw (p, q) refl

pub atom_leaf : (b : Below) (s : List Word) → first_sign s ≡ None → atom_with b s ≡ leaf_with s
unfolding atom_with
atom_leaf b [] e = refl
atom_leaf b (Name n x ∷ s) e = refl
atom_leaf b (Int n v ∷ s) e = refl
atom_leaf b (Str p ∷ s) e = refl
atom_leaf b (Sign n k ∷ s) e = absurd cc

-- what no sign begins
pub signed_none : (b : Below) (m : Mark) (n : ℕ) (s : List Word) → (m ≡ mark.OpenParen → ⊥) → (m ≡ mark.OpenBracket → ⊥) → (m ≡ mark.OpenBrace → ⊥) → (m ≡ mark.True → ⊥) → (m ≡ mark.False → ⊥) → (m ≡ mark.None → ⊥) → signed_with b m n s ≡ None
unfolding signed_with
signed_none b mark.OpenParen n s f0 f1 f2 f3 f4 f5 = absurd (f0 refl)
signed_none b mark.OpenBracket n s f0 f1 f2 f3 f4 f5 = absurd (f1 refl)
signed_none b mark.OpenBrace n s f0 f1 f2 f3 f4 f5 = absurd (f2 refl)
signed_none b mark.True n s f0 f1 f2 f3 f4 f5 = absurd (f3 refl)
signed_none b mark.False n s f0 f1 f2 f3 f4 f5 = absurd (f4 refl)
signed_none b mark.None n s f0 f1 f2 f3 f4 f5 = absurd (f5 refl)
signed_none b _ n s f0 f1 f2 f3 f4 f5 = refl

-- ---- failures

-- the failure of a part is the failure of the whole
pub fails_on : {A B : Type 0} (e : Unread) (o : Option A) (q : Option B) → Fails e o → (o ≡ None → q ≡ None) → Fails e q
fails_on NoForm o q h f = f h
fails_on NoMemory o q h f = tt
