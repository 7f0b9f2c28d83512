-- Reading an expression from left to right, with no way back.
use Rattle.std.specs.Prelude.{ℕ, zero, suc, List, [], ◌∷◌, ◌++◌, length, Bool, true, false, Option, Some, None, is_some, if◌then◌else◌}
use Rattle.spec_trees.specs.declared.Operator.{Operator}
use Rattle.spec_trees.specs.Expr.{Expr, name, integer, text, truth, none, group, list, dict, comprehension, attribute, call, index, slice, prefixed, binary, choice, Generator, generator, Arguments, generated, listed, ArgumentList, no_arguments, argument, Bound, absent, present, Links, no_links, link, Exprs, no_exprs, item, Pairs, no_pairs, pair, StringPart}
use Rattle.spec_grammar.specs.declared.Mark.{Mark}
use Rattle.spec_grammar.specs.declared.Mark.TheVariants as mark
use Rattle.spec_grammar.specs.Words.{Word, Name, Int, Str, Sign, line_of}
use Rattle.spec_grammar.specs.Marks.{operator_at, prefix_at, sign_at, keyword_at, name_at, groups_left}
use Rattle.spec_grammar.specs.Grammar.{loosest, joined_tree}

-- a value and what follows it
abbrev pub Parse : Type 0 → Type 0
Parse A = List Word → Option (A × List Word)

infixl 10 ◌>>=◌
abbrev pub ◌>>=◌ : {A B : Type 0} → Option A → (A → Option B) → Option B
(Some x) >>= f = f x
None >>= f = None

-- f at the value, where there is one, and otherwise y
abbrev pub given : {A B : Type 0} → Option A → (A → B) → B → B
given (Some x) f y = f x
given None f y = y

-- lists with one more at the end, and whole
abbrev pub with_argument : ArgumentList → Option (List ℕ) → Expr → ArgumentList
with_argument no_arguments x e = argument x e no_arguments
with_argument (argument y d xs) x e = argument y d (with_argument xs x e)

abbrev pub all_arguments : ArgumentList → ArgumentList → ArgumentList
all_arguments no_arguments ys = ys
all_arguments (argument x d xs) ys = argument x d (all_arguments xs ys)

abbrev pub with_link : Links → Operator → Expr → Links
with_link no_links o e = link o e no_links
with_link (link p d xs) o e = link p d (with_link xs o e)

abbrev pub all_links : Links → Links → Links
all_links no_links ys = ys
all_links (link p d xs) ys = link p d (all_links xs ys)

abbrev pub with_item : Exprs → Expr → Exprs
with_item no_exprs e = item e no_exprs
with_item (item d xs) e = item d (with_item xs e)

abbrev pub all_items : Exprs → Exprs → Exprs
all_items no_exprs ys = ys
all_items (item d xs) ys = item d (all_items xs ys)

abbrev pub with_pair : Pairs → Expr → Expr → Pairs
with_pair no_pairs k e = pair k e no_pairs
with_pair (pair j d xs) k e = pair j d (with_pair xs k e)

abbrev pub all_pairs : Pairs → Pairs → Pairs
all_pairs no_pairs ys = ys
all_pairs (pair j d xs) ys = pair j d (all_pairs xs ys)

-- what can be read one level of nesting further in
pub record Below : Type 0 where
  pub level : ℕ → Parse Expr
  pub expr : Parse Expr
  pub room : ℕ

-- {operator operand}, behind a tree that begins on line n
unfoldable pub chain_with : Parse Expr → ℕ → ℕ → ℕ → Expr → Parse Expr
chain_with p l n zero a s = None
chain_with p l n (suc k) a s = given (operator_at l s) (λ o. p o.1 >>= λ b. chain_with p l n k (binary n o.0 a b.0) b.1) (Some (a, s))

unfoldable pub links_with : Parse Expr → ℕ → ℕ → Links → Parse Links
links_with p l zero xs s = None
links_with p l (suc k) xs s = given (operator_at l s) (λ o. p o.1 >>= λ b. links_with p l k (with_link xs o.0 b.0) b.1) (Some (xs, s))

-- {"if" or}
unfoldable pub conditions_with : Below → ℕ → Exprs → Parse Exprs
conditions_with b zero cs s = None
conditions_with b (suc n) cs s = given (sign_at mark.If s) (λ t. b.level loosest t >>= λ c. conditions_with b n (with_item cs c.0) c.1) (Some (cs, s))

-- a generator, behind the `for` that follows its element
unfoldable pub generator_with : Below → Expr → Parse Generator
generator_with b e s = name_at s >>= λ x. sign_at mark.In x.1 >>= λ t. b.level loosest t >>= λ i. conditions_with b b.room no_exprs i.1 >>= λ c. Some (generator e x.0 i.0 c.0, c.1)

-- arg = expr | NAME "=" expr
unfoldable pub arg_with : Below → Bool → Parse (Option (List ℕ) × Expr)
arg_with b k s = given (keyword_at s) (λ t. b.expr t.1 >>= λ e. Some ((Some t.0, e.0), e.1)) (if k then None else (b.expr s >>= λ e. Some ((None, e.0), e.1)))

abbrev pub rest_with : Parse ArgumentList → ArgumentList → Parse ArgumentList
rest_with next xs s = given (sign_at mark.CloseParen s) (λ r. Some (xs, r)) (sign_at mark.Comma s >>= next)

unfoldable pub args_with : Below → ℕ → Bool → ArgumentList → Parse ArgumentList
args_with b zero k xs s = None
args_with b (suc n) k xs s = given (sign_at mark.CloseParen s) (λ r. Some (xs, r)) (arg_with b k s >>= λ x. rest_with (args_with b n (is_some x.0.0) (with_argument xs x.0.0 x.0.1)) (with_argument xs x.0.0 x.0.1) x.1)

-- the `for` behind an argument that may be the element of a generator
abbrev pub for_at : Option (List ℕ) → List Word → Option (List Word)
for_at None s = sign_at mark.For s
for_at (Some x) s = None

-- args ")", where args = [gen | arg {"," arg} [","]]
unfoldable pub arguments_with : Below → Parse Arguments
arguments_with b s =
    given (sign_at mark.CloseParen s) (λ r. Some (listed no_arguments, r)) (
    arg_with b false s >>= λ x. given (for_at x.0.0 x.1) (λ t. generator_with b x.0.1 t >>= λ g. sign_at mark.CloseParen g.1 >>= λ r. Some (generated g.0, r)) (
    rest_with (args_with b b.room (is_some x.0.0) (with_argument no_arguments x.0.0 x.0.1)) (with_argument no_arguments x.0.0 x.0.1) x.1 >>= λ y. Some (listed y.0, y.1)))

-- the end of a slice, behind its colon
unfoldable pub slice_with : Below → ℕ → Expr → Bound → Parse Expr
slice_with b n a from s = given (sign_at mark.CloseBracket s) (λ r. Some (slice n a from absent, r)) (b.expr s >>= λ e. sign_at mark.CloseBracket e.1 >>= λ r. Some (slice n a from (present e.0), r))

-- an index or a slice, behind its bracket
unfoldable pub subscript_with : Below → ℕ → Expr → Parse Expr
subscript_with b n a s =
    given (sign_at mark.Colon s) (slice_with b n a absent) (
    b.expr s >>= λ i. given (sign_at mark.CloseBracket i.1) (λ r. Some (index n a i.0, r)) (sign_at mark.Colon i.1 >>= slice_with b n a (present i.0)))

-- what stands behind a prim that begins on line n
unfoldable pub suffixes_with : Below → ℕ → ℕ → Expr → Parse Expr
suffixes_with b n zero a s = None
suffixes_with b n (suc k) a s =
    given (sign_at mark.OpenParen s) (λ t. arguments_with b t >>= λ x. suffixes_with b n k (call n a x.0) x.1) (
    given (sign_at mark.OpenBracket s) (λ t. subscript_with b n a t >>= λ x. suffixes_with b n k x.0 x.1) (
    given (sign_at mark.Dot s) (λ t. name_at t >>= λ x. suffixes_with b n k (attribute n a x.0) x.1) (Some (a, s))))

-- {"," expr} [","] "]"
unfoldable pub items_with : Below → ℕ → Exprs → Parse Exprs
items_with b zero es s = None
items_with b (suc n) es s =
    given (sign_at mark.CloseBracket s) (λ r. Some (es, r)) (
    sign_at mark.Comma s >>= λ t. given (sign_at mark.CloseBracket t) (λ r. Some (es, r)) (b.expr t >>= λ e. items_with b n (with_item es e.0) e.1))

-- a list or a comprehension, behind its bracket
unfoldable pub list_with : Below → ℕ → Parse Expr
list_with b n s =
    given (sign_at mark.CloseBracket s) (λ r. Some (list n no_exprs, r)) (
    b.expr s >>= λ e. given (sign_at mark.For e.1) (λ t. generator_with b e.0 t >>= λ g. sign_at mark.CloseBracket g.1 >>= λ r. Some (comprehension n g.0, r)) (
    items_with b b.room (item e.0 no_exprs) e.1 >>= λ x. Some (list n x.0, x.1)))

-- expr ":" expr
unfoldable pub pair_with : Below → Parse (Expr × Expr)
pair_with b s = b.expr s >>= λ k. sign_at mark.Colon k.1 >>= λ t. b.expr t >>= λ e. Some ((k.0, e.0), e.1)

-- {"," expr ":" expr} [","] "}"
unfoldable pub pairs_with : Below → ℕ → Pairs → Parse Pairs
pairs_with b zero ps s = None
pairs_with b (suc n) ps s =
    given (sign_at mark.CloseBrace s) (λ r. Some (ps, r)) (
    sign_at mark.Comma s >>= λ t. given (sign_at mark.CloseBrace t) (λ r. Some (ps, r)) (pair_with b t >>= λ x. pairs_with b n (with_pair ps x.0.0 x.0.1) x.1))

-- a dict, behind its brace
unfoldable pub dict_with : Below → ℕ → Parse Expr
dict_with b n s =
    given (sign_at mark.CloseBrace s) (λ r. Some (dict n no_pairs, r)) (
    pair_with b s >>= λ x. pairs_with b b.room (pair x.0.0 x.0.1 no_pairs) x.1 >>= λ y. Some (dict n y.0, y.1))

unfoldable pub group_with : Below → ℕ → Parse Expr
group_with b n s = b.expr s >>= λ e. sign_at mark.CloseParen e.1 >>= λ r. Some (group n e.0, r)

-- the atom that a sign on line n begins, where s follows the sign
unfoldable pub signed_with : Below → Mark → ℕ → Parse Expr
signed_with b mark.OpenParen n s = group_with b n s
signed_with b mark.OpenBracket n s = list_with b n s
signed_with b mark.OpenBrace n s = dict_with b n s
signed_with b mark.True n s = Some (truth n true, s)
signed_with b mark.False n s = Some (truth n false, s)
signed_with b mark.None n s = Some (none n, s)
signed_with b _ n s = None

-- {STR}, behind the strings ps
unfoldable pub strings_onto : List StringPart → List Word → List StringPart × List Word
strings_onto ps [] = (ps, [])
strings_onto ps (Name n x ∷ s) = (ps, Name n x ∷ s)
strings_onto ps (Int n v ∷ s) = (ps, Int n v ∷ s)
strings_onto ps (Str p ∷ s) = strings_onto (ps ++ p ∷ []) s
strings_onto ps (Sign n m ∷ s) = (ps, Sign n m ∷ s)

abbrev pub text_of : StringPart → List StringPart × List Word → Expr × List Word
text_of p x = (text p.line p x.0, x.1)

unfoldable pub atom_with : Below → Parse Expr
atom_with b [] = None
atom_with b (Name n x ∷ s) = Some (name n x, s)
atom_with b (Int n v ∷ s) = Some (integer n v, s)
atom_with b (Str p ∷ s) = Some (text_of p (strings_onto [] s))
atom_with b (Sign n m ∷ s) = signed_with b m n s

unfoldable pub prim_with : Below → Parse Expr
prim_with b s = atom_with b s >>= λ a. suffixes_with b (line_of s) b.room a.0 a.1

-- what the first operand of a level is joined to
abbrev pub joined_with : Bool → Parse Expr → ℕ → ℕ → ℕ → Expr → Parse Expr
joined_with true p l n k a s = chain_with p l n k a s
joined_with false p l n k a s = links_with p l k no_links s >>= λ xs. Some (joined_tree n a xs.0, xs.1)

-- what is read where the words begin with no prefix of the level
abbrev pub prefixed_with : Below → ℕ → List Word → Option (Expr × List Word) → Option (Expr × List Word)
prefixed_with b l s other = given (prefix_at l s) (λ o. b.level l o.1 >>= λ e. Some (prefixed (line_of s) o.0 e.0, e.1)) other

unfoldable pub level_with : Below → ℕ → Parse Expr
level_with b zero s = prefixed_with b zero s (prim_with b s)
level_with b (suc l) s = prefixed_with b (suc l) s (level_with b l s >>= λ a. joined_with (groups_left l) (level_with b l) l (line_of s) b.room a.0 a.1)

unfoldable pub expr_with : Below → Parse Expr
expr_with b s = level_with b loosest s >>= λ a. given (sign_at mark.If a.1) (λ t. b.level loosest t >>= λ c. sign_at mark.Else c.1 >>= λ u. b.expr u >>= λ e. Some (choice (line_of s) a.0 c.0 e.0, e.1)) (Some a)

-- The number bounds the nesting and the turns. One more than the count of the words is always enough.
unfoldable pub below : ℕ → Below
below zero = record { level = λ l s. None; expr = λ s. None; room = zero }
below (suc n) = record { level = λ l s. level_with (below n) l s; expr = λ s. expr_with (below n) s; room = suc n }

-- the expression that words begin with, and what follows it
unfoldable pub read_expr : Parse Expr
read_expr s = (below (suc (length s))).expr s

-- nothing may be left
abbrev pub whole : {A : Type 0} → Option (A × List Word) → Option A
whole None = None
whole (Some (e, [])) = Some e
whole (Some (e, t ∷ s)) = None

-- the expression that all the words spell, where there is one
abbrev pub expr_of : List Word → Option Expr
expr_of s = whole (read_expr s)
