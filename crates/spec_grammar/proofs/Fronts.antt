-- How words of the grammar begin, how many they are, and where a lone name ends.
use Rattle.std.proofs.Common.{◌≡◌, ℕ, zero, suc, ◌<◌, ◌≤◌, Bool, true, false, List, [], ◌∷◌, length, Option, Some, None, refl, subst, arith}
use Rattle.spec_trees.specs.Expr.{Expr, Generator, Arguments, ArgumentList, Bound, Links, Exprs, Pairs, StringPart}
use Rattle.spec_grammar.specs.declared.Mark.{Mark}
use Rattle.spec_grammar.specs.declared.Mark.TheVariants as mark
use Rattle.spec_grammar.specs.Words.{Word, Name, Sign, IsSign, one_sign, IsName, one_name, IsInteger, one_integer, IsString, one_string}
use Rattle.spec_grammar.specs.Marks.{prefix_at, sign_at, keyword_at, named_at, may_begin}
use Rattle.spec_grammar.specs.Grammar.{loosest, IsExpr, plain, choice, IsLevel, prefixed, primary, left, joined, IsChain, no_operator, operator, IsLinks, no_link, link, IsPrim, atom, attribute, call, index, slice, IsBound, absent, present, IsAtom, name, integer, text, truth, falsehood, none, group, empty_list, list, comprehension, empty_dict, dict, IsStrings, no_string, string, IsItems, no_item, last_item, item, IsPairs, no_pair, last_pair, pair, IsGenerator, generator, IsConditions, no_condition, condition, IsArguments, generated, listed, IsArgs, no_more, more, IsArg, positional, keyword, IsRest, end, comma}
use Rattle.spec_grammar.proofs.Steps.{operator_shorter, prefix_shorter, prefix_other, prefix_not, not_at, same_mark, sign_is, sign_shorter}

-- ---- beginnings

atom_no_prefix : {s r : List Word} {e : Expr} → IsAtom s r e → (k : ℕ) → prefix_at k s ≡ None
atom_no_prefix (name one_name) k = refl
atom_no_prefix (integer one_integer) k = refl
atom_no_prefix (text one_string c) k = refl
atom_no_prefix (truth one_sign) k = refl
atom_no_prefix (falsehood one_sign) k = refl
atom_no_prefix (none one_sign) k = refl
atom_no_prefix (group one_sign h c) k = refl
atom_no_prefix (empty_list one_sign c) k = refl
atom_no_prefix (list one_sign h c) k = refl
atom_no_prefix (comprehension one_sign g c) k = refl
atom_no_prefix (empty_dict one_sign c) k = refl
atom_no_prefix (dict one_sign h c i d) k = refl

pub prim_no_prefix : {s r : List Word} {e : Expr} → IsPrim s r e → (k : ℕ) → prefix_at k s ≡ None
prim_no_prefix (atom a) k = atom_no_prefix a k
prim_no_prefix (attribute p d x) k = prim_no_prefix p k
prim_no_prefix (call p o xs) k = prim_no_prefix p k
prim_no_prefix (index p o i c) k = prim_no_prefix p k
prim_no_prefix (slice p o f d t c) k = prim_no_prefix p k

-- a form does not begin with a prefix of a looser level
pub level_no_prefix : {l : ℕ} {s r : List Word} {e : Expr} → IsLevel l s r e → (k : ℕ) → l < k → prefix_at k s ≡ None
level_no_prefix (prefixed {l = l} {s = s} {t = t} {o = o} is h) k lt = prefix_other l s (o, t) is k (λ e. omega arith)
level_no_prefix (primary p) k lt = prim_no_prefix p k
level_no_prefix (left g h c) k lt = level_no_prefix h k (omega arith)
level_no_prefix (joined g h c) k lt = level_no_prefix h k (omega arith)

-- no form begins with a sign that may not begin one
sign_not : {k : Mark} {s t : List Word} → IsSign k s t → may_begin k ≡ true → (m : Mark) → may_begin m ≡ false → sign_at m s ≡ None
sign_not {k = k} {s = s} i g m f = not_at m s (λ r j. let same : k ≡ m = same_mark i j in cc)

atom_not : {s r : List Word} {e : Expr} → IsAtom s r e → (m : Mark) → may_begin m ≡ false → sign_at m s ≡ None
atom_not (name one_name) m f = refl
atom_not (integer one_integer) m f = refl
atom_not (text one_string c) m f = refl
atom_not (truth i) m f = sign_not i refl m f
atom_not (falsehood i) m f = sign_not i refl m f
atom_not (none i) m f = sign_not i refl m f
atom_not (group i h c) m f = sign_not i refl m f
atom_not (empty_list i c) m f = sign_not i refl m f
atom_not (list i h c) m f = sign_not i refl m f
atom_not (comprehension i g c) m f = sign_not i refl m f
atom_not (empty_dict i c) m f = sign_not i refl m f
atom_not (dict i h c j d) m f = sign_not i refl m f

pub prim_not : {s r : List Word} {e : Expr} → IsPrim s r e → (m : Mark) → may_begin m ≡ false → sign_at m s ≡ None
prim_not (atom a) m f = atom_not a m f
prim_not (attribute p d x) m f = prim_not p m f
prim_not (call p o xs) m f = prim_not p m f
prim_not (index p o i c) m f = prim_not p m f
prim_not (slice p o g d t c) m f = prim_not p m f

pub level_not : {l : ℕ} {s r : List Word} {e : Expr} → IsLevel l s r e → (m : Mark) → may_begin m ≡ false → sign_at m s ≡ None
level_not (prefixed {l = l} {s = s} {t = t} {o = o} is h) m f = prefix_not l s (o, t) m is f
level_not (primary p) m f = prim_not p m f
level_not (left g h c) m f = level_not h m f
level_not (joined g h c) m f = level_not h m f

pub expr_not : {s r : List Word} {e : Expr} → IsExpr s r e → (m : Mark) → may_begin m ≡ false → sign_at m s ≡ None
expr_not (plain h) m f = level_not h m f
expr_not (choice a i c j b) m f = level_not a m f

-- ---- lengths

pub name_shorter : {s r : List Word} {x : List ℕ} → IsName s r x → length r < length s
name_shorter one_name = omega arith

integer_shorter : {s r : List Word} {v : ℕ} → IsInteger s r v → length r < length s
integer_shorter one_integer = omega arith

pub string_shorter : {s r : List Word} {p : StringPart} → IsString s r p → length r < length s
string_shorter one_string = omega arith

strings_shorter : {s r : List Word} {ps : List StringPart} → IsStrings s r ps → length r ≤ length s
strings_shorter no_string = omega arith
strings_shorter (string i c) = omega (arith, string_shorter i, strings_shorter c)

mutual
  pub expr_shorter : {s r : List Word} {e : Expr} → IsExpr s r e → length r < length s
  expr_shorter (plain h) = level_shorter h
  expr_shorter (choice a i c j b) = omega (arith, level_shorter a, sign_shorter i, level_shorter c, sign_shorter j, expr_shorter b)

  pub level_shorter : {l : ℕ} {s r : List Word} {e : Expr} → IsLevel l s r e → length r < length s
  level_shorter (prefixed {l = l} {s = s} {t = t} {o = o} is h) = omega (arith, prefix_shorter l s (o, t) is, level_shorter h)
  level_shorter (primary p) = prim_shorter p
  level_shorter (left g h c) = omega (arith, level_shorter h, chain_shorter c)
  level_shorter (joined g h c) = omega (arith, level_shorter h, links_shorter c)

  pub chain_shorter : {l n : ℕ} {s r : List Word} {a e : Expr} → IsChain l n s r a e → length r ≤ length s
  chain_shorter no_operator = omega arith
  chain_shorter (operator {l = l} {s = s} {t = t} {o = o} is h c) = omega (arith, operator_shorter l s (o, t) is, level_shorter h, chain_shorter c)

  pub links_shorter : {l : ℕ} {s r : List Word} {xs : Links} → IsLinks l s r xs → length r ≤ length s
  links_shorter no_link = omega arith
  links_shorter (link {l = l} {s = s} {t = t} {o = o} is h c) = omega (arith, operator_shorter l s (o, t) is, level_shorter h, links_shorter c)

  pub prim_shorter : {s r : List Word} {e : Expr} → IsPrim s r e → length r < length s
  prim_shorter (atom a) = atom_shorter a
  prim_shorter (attribute p d x) = omega (arith, prim_shorter p, sign_shorter d, name_shorter x)
  prim_shorter (call p o xs) = omega (arith, prim_shorter p, sign_shorter o, arguments_shorter xs)
  prim_shorter (index p o i c) = omega (arith, prim_shorter p, sign_shorter o, expr_shorter i, sign_shorter c)
  prim_shorter (slice p o f d t c) = omega (arith, prim_shorter p, sign_shorter o, bound_shorter f, sign_shorter d, bound_shorter t, sign_shorter c)

  pub bound_shorter : {s r : List Word} {b : Bound} → IsBound s r b → length r ≤ length s
  bound_shorter absent = omega arith
  bound_shorter (present h) = omega (arith, expr_shorter h)

  pub atom_shorter : {s r : List Word} {e : Expr} → IsAtom s r e → length r < length s
  atom_shorter (name i) = name_shorter i
  atom_shorter (integer i) = integer_shorter i
  atom_shorter (text i c) = omega (arith, string_shorter i, strings_shorter c)
  atom_shorter (truth i) = sign_shorter i
  atom_shorter (falsehood i) = sign_shorter i
  atom_shorter (none i) = sign_shorter i
  atom_shorter (group i h c) = omega (arith, sign_shorter i, expr_shorter h, sign_shorter c)
  atom_shorter (empty_list i c) = omega (arith, sign_shorter i, sign_shorter c)
  atom_shorter (list i h c) = omega (arith, sign_shorter i, expr_shorter h, items_shorter c)
  atom_shorter (comprehension i g c) = omega (arith, sign_shorter i, generator_shorter g, sign_shorter c)
  atom_shorter (empty_dict i c) = omega (arith, sign_shorter i, sign_shorter c)
  atom_shorter (dict i h c j d) = omega (arith, sign_shorter i, expr_shorter h, sign_shorter c, expr_shorter j, pairs_shorter d)

  pub items_shorter : {s r : List Word} {es : Exprs} → IsItems s r es → length r < length s
  items_shorter (no_item i) = sign_shorter i
  items_shorter (last_item i j) = omega (arith, sign_shorter i, sign_shorter j)
  items_shorter (item i h c) = omega (arith, sign_shorter i, expr_shorter h, items_shorter c)

  pub pairs_shorter : {s r : List Word} {ps : Pairs} → IsPairs s r ps → length r < length s
  pairs_shorter (no_pair i) = sign_shorter i
  pairs_shorter (last_pair i j) = omega (arith, sign_shorter i, sign_shorter j)
  pairs_shorter (pair i h j k c) = omega (arith, sign_shorter i, expr_shorter h, sign_shorter j, expr_shorter k, pairs_shorter c)

  pub generator_shorter : {s r : List Word} {g : Generator} → IsGenerator s r g → length r < length s
  generator_shorter (generator h f x i l c) = omega (arith, expr_shorter h, sign_shorter f, name_shorter x, sign_shorter i, level_shorter l, conditions_shorter c)

  pub conditions_shorter : {s r : List Word} {es : Exprs} → IsConditions s r es → length r ≤ length s
  conditions_shorter no_condition = omega arith
  conditions_shorter (condition i h c) = omega (arith, sign_shorter i, level_shorter h, conditions_shorter c)

  pub arguments_shorter : {s r : List Word} {xs : Arguments} → IsArguments s r xs → length r < length s
  arguments_shorter (generated g c) = omega (arith, generator_shorter g, sign_shorter c)
  arguments_shorter (listed d) = args_shorter d

  pub args_shorter : {k : Bool} {s r : List Word} {xs : ArgumentList} → IsArgs k s r xs → length r < length s
  args_shorter (no_more i) = sign_shorter i
  args_shorter (more a c) = omega (arith, arg_shorter a, rest_shorter c)

  pub arg_shorter : {k : Bool} {s r : List Word} {x : Option (List ℕ)} {e : Expr} → IsArg k s r x e → length r < length s
  arg_shorter (positional h) = expr_shorter h
  arg_shorter (keyword x i h) = omega (arith, name_shorter x, sign_shorter i, expr_shorter h)

  pub rest_shorter : {k : Bool} {s r : List Word} {xs : ArgumentList} → IsRest k s r xs → length r < length s
  rest_shorter (end i) = sign_shorter i
  rest_shorter (comma i h) = omega (arith, sign_shorter i, args_shorter h)

-- ---- a name before `=` is no longer expression

name_atom : {n : ℕ} {x : List ℕ} {q r : List Word} {e : Expr} → IsAtom (Name n x ∷ q) r e → r ≡ q
name_atom (name one_name) = refl
name_atom (integer i) = elim i [ ]
name_atom (text i c) = elim i [ ]
name_atom (truth i) = elim i [ ]
name_atom (falsehood i) = elim i [ ]
name_atom (none i) = elim i [ ]
name_atom (group i h c) = elim i [ ]
name_atom (empty_list i c) = elim i [ ]
name_atom (list i h c) = elim i [ ]
name_atom (comprehension i g c) = elim i [ ]
name_atom (empty_dict i c) = elim i [ ]
name_atom (dict i h c j d) = elim i [ ]

at_assign : {k : Mark} {n : ℕ} {q m t : List Word} → m ≡ Sign n mark.Assign ∷ q → IsSign k m t → k ≡ mark.Assign
at_assign {k = k} {t = t} e i = same_mark (subst (λ (v : List Word). IsSign k v t) e i) one_sign

name_prim : {n j : ℕ} {x : List ℕ} {q r : List Word} {e : Expr} → IsPrim (Name n x ∷ Sign j mark.Assign ∷ q) r e → r ≡ Sign j mark.Assign ∷ q
name_prim (atom a) = name_atom a
name_prim (attribute p d x) = let f : mark.Dot ≡ mark.Assign = at_assign (name_prim p) d in absurd cc
name_prim (call p o xs) = let f : mark.OpenParen ≡ mark.Assign = at_assign (name_prim p) o in absurd cc
name_prim (index p o i c) = let f : mark.OpenBracket ≡ mark.Assign = at_assign (name_prim p) o in absurd cc
name_prim (slice p o g d t c) = let f : mark.OpenBracket ≡ mark.Assign = at_assign (name_prim p) o in absurd cc

assign_chain : {l n j : ℕ} {q r : List Word} {a e : Expr} → IsChain l n (Sign j mark.Assign ∷ q) r a e → r ≡ Sign j mark.Assign ∷ q
assign_chain no_operator = refl
assign_chain (operator is h c) = absurd cc

assign_links : {l j : ℕ} {q r : List Word} {xs : Links} → IsLinks l (Sign j mark.Assign ∷ q) r xs → r ≡ Sign j mark.Assign ∷ q
assign_links no_link = refl
assign_links (link is h c) = absurd cc

name_level : (l n j : ℕ) (x : List ℕ) (q r : List Word) (e : Expr) → IsLevel l (Name n x ∷ Sign j mark.Assign ∷ q) r e → r ≡ Sign j mark.Assign ∷ q
name_level zero n j x q r e (prefixed is h) = absurd cc
name_level zero n j x q r e (primary p) = name_prim p
name_level (suc l) n j x q r e (prefixed is h) = absurd cc
name_level (suc l) n j x q r e (left {m = m} {a = a} g h c) = assign_chain (subst (λ (v : List Word). IsChain l n v r a e) (name_level l n j x q m a h) c)
name_level (suc l) n j x q r e (joined {m = m} {a = a} {xs = xs} g h c) = assign_links (subst (λ (v : List Word). IsLinks l v r xs) (name_level l n j x q m a h) c)

name_expr : (n j : ℕ) (x : List ℕ) (q r : List Word) (e : Expr) → IsExpr (Name n x ∷ Sign j mark.Assign ∷ q) r e → r ≡ Sign j mark.Assign ∷ q
name_expr n j x q r e (plain h) = name_level loosest n j x q r e h
name_expr n j x q r e (choice {m = m} {a = a} h i c k b) = let f : mark.If ≡ mark.Assign = at_assign (name_level loosest n j x q m a h) i in absurd cc

-- An expression that no `=` follows does not begin as a keyword argument does.
pub no_keyword : (s : List Word) {m : List Word} {e : Expr} → IsExpr s m e → sign_at mark.Assign m ≡ None → keyword_at s ≡ None
no_keyword [] h c = refl
no_keyword (Name n x ∷ s) {m} {e} h c = by_cases (sign_at mark.Assign s) refl
  where
    clash : {k : Mark} {t q : List Word} → IsSign k t q → k ≡ mark.Assign → IsExpr (Name n x ∷ t) m e → ⊥
    clash (one_sign {n = j} {m = k} {r = q}) f h =
        let d : IsExpr (Name n x ∷ Sign j mark.Assign ∷ q) m e = subst (λ (i : Mark). IsExpr (Name n x ∷ Sign j i ∷ q) m e) f h in
        let g : sign_at mark.Assign (Sign j mark.Assign ∷ q) ≡ None = subst (λ (v : List Word). sign_at mark.Assign v ≡ None) (name_expr n j x q m e d) c in cc

    by_cases : (o : Option (List Word)) → sign_at mark.Assign s ≡ o → named_at x o ≡ None
    by_cases None f = refl
    by_cases (Some q) f = absurd (clash (sign_is mark.Assign s q f) refl h)
no_keyword (_ ∷ s) h c = refl
