-- The grammar of expressions. `IsExpr s r e` says that the words of s up to r spell the tree e. One case is one production.
-- The line of a tree is that of its first word.
use Rattle.std.specs.Prelude.{◌≡◌, ℕ, zero, suc, List, [], ◌∷◌, Bool, true, false, Option, Some, None, is_some}
use Rattle.spec_trees.specs.declared.Operator.{Operator}
use Rattle.spec_trees.specs.declared.Prefix.{Prefix}
use Rattle.spec_trees.specs.Expr as tree
use Rattle.spec_trees.specs.Expr.{Expr, Generator, Arguments, ArgumentList, Bound, Links, Exprs, Pairs, StringPart}
use Rattle.spec_grammar.specs.declared.Mark.TheVariants as mark
use Rattle.spec_grammar.specs.Words.{Word, line_of, IsSign, IsName, IsInteger, IsString}
use Rattle.spec_grammar.specs.Marks.{operator_at, prefix_at, groups_left}

-- the level of `or`
abbrev pub loosest : ℕ
loosest = 10

-- a chain of one operand is that operand, and any other is one node
abbrev pub joined_tree : ℕ → Expr → Links → Expr
joined_tree n a tree.no_links = a
joined_tree n a (tree.link o b xs) = tree.chain n a (tree.link o b xs)

-- {STR}
pub data IsStrings : List Word → List Word → List StringPart → Type 0 where
  no_string : {r : List Word} → IsStrings r r []
  string : {s m r : List Word} {p : StringPart} {ps : List StringPart} → IsString s m p → IsStrings m r ps → IsStrings s r (p ∷ ps)

mutual
  -- expr = or ["if" or "else" expr]
  pub data IsExpr : List Word → List Word → Expr → Type 0 where
    plain : {s r : List Word} {e : Expr} → IsLevel loosest s r e → IsExpr s r e
    choice : {s m t u v r : List Word} {a c b : Expr} → IsLevel loosest s m a → IsSign mark.If m t → IsLevel loosest t u c → IsSign mark.Else u v → IsExpr v r b → IsExpr s r (tree.choice (line_of s) a c b)

  -- Level 0 is unary = prefix unary | prim.
  -- Level l + 1 is `prefix level | lower {operator lower}`, where lower is level l. The tables say which operators a level has.
  pub data IsLevel : ℕ → List Word → List Word → Expr → Type 0 where
    prefixed : {l : ℕ} {s t r : List Word} {o : Prefix} {e : Expr} → prefix_at l s ≡ Some (o, t) → IsLevel l t r e → IsLevel l s r (tree.prefixed (line_of s) o e)
    primary : {s r : List Word} {e : Expr} → IsPrim s r e → IsLevel zero s r e
    left : {l : ℕ} {s m r : List Word} {a e : Expr} → groups_left l ≡ true → IsLevel l s m a → IsChain l (line_of s) m r a e → IsLevel (suc l) s r e
    joined : {l : ℕ} {s m r : List Word} {a : Expr} {xs : Links} → groups_left l ≡ false → IsLevel l s m a → IsLinks l m r xs → IsLevel (suc l) s r (joined_tree (line_of s) a xs)

  -- {operator operand}, behind the tree a, which begins on line n
  pub data IsChain : ℕ → ℕ → List Word → List Word → Expr → Expr → Type 0 where
    no_operator : {l n : ℕ} {r : List Word} {a : Expr} → IsChain l n r r a a
    operator : {l n : ℕ} {s t m r : List Word} {o : Operator} {a b e : Expr} → operator_at l s ≡ Some (o, t) → IsLevel l t m b → IsChain l n m r (tree.binary n o a b) e → IsChain l n s r a e

  -- {operator operand}
  pub data IsLinks : ℕ → List Word → List Word → Links → Type 0 where
    no_link : {l : ℕ} {r : List Word} → IsLinks l r r tree.no_links
    link : {l : ℕ} {s t m r : List Word} {o : Operator} {b : Expr} {xs : Links} → operator_at l s ≡ Some (o, t) → IsLevel l t m b → IsLinks l m r xs → IsLinks l s r (tree.link o b xs)

  -- prim = atom | prim "." NAME | prim "(" args ")" | prim "[" expr "]" | prim "[" [expr] ":" [expr] "]"
  pub data IsPrim : List Word → List Word → Expr → Type 0 where
    atom : {s r : List Word} {e : Expr} → IsAtom s r e → IsPrim s r e
    attribute : {s m t r : List Word} {a : Expr} {x : List ℕ} → IsPrim s m a → IsSign mark.Dot m t → IsName t r x → IsPrim s r (tree.attribute (line_of s) a x)
    call : {s m t r : List Word} {a : Expr} {xs : Arguments} → IsPrim s m a → IsSign mark.OpenParen m t → IsArguments t r xs → IsPrim s r (tree.call (line_of s) a xs)
    index : {s m t u r : List Word} {a i : Expr} → IsPrim s m a → IsSign mark.OpenBracket m t → IsExpr t u i → IsSign mark.CloseBracket u r → IsPrim s r (tree.index (line_of s) a i)
    slice : {s m t u v w r : List Word} {a : Expr} {from to : Bound} → IsPrim s m a → IsSign mark.OpenBracket m t → IsBound t u from → IsSign mark.Colon u v → IsBound v w to → IsSign mark.CloseBracket w r → IsPrim s r (tree.slice (line_of s) a from to)

  -- [expr]
  pub data IsBound : List Word → List Word → Bound → Type 0 where
    absent : {r : List Word} → IsBound r r tree.absent
    present : {s r : List Word} {e : Expr} → IsExpr s r e → IsBound s r (tree.present e)

  pub data IsAtom : List Word → List Word → Expr → Type 0 where
    name : {s r : List Word} {x : List ℕ} → IsName s r x → IsAtom s r (tree.name (line_of s) x)
    integer : {s r : List Word} {v : ℕ} → IsInteger s r v → IsAtom s r (tree.integer (line_of s) v)
    text : {s t r : List Word} {p : StringPart} {ps : List StringPart} → IsString s t p → IsStrings t r ps → IsAtom s r (tree.text (line_of s) p ps)
    truth : {s r : List Word} → IsSign mark.True s r → IsAtom s r (tree.truth (line_of s) true)
    falsehood : {s r : List Word} → IsSign mark.False s r → IsAtom s r (tree.truth (line_of s) false)
    none : {s r : List Word} → IsSign mark.None s r → IsAtom s r (tree.none (line_of s))
    group : {s t m r : List Word} {e : Expr} → IsSign mark.OpenParen s t → IsExpr t m e → IsSign mark.CloseParen m r → IsAtom s r (tree.group (line_of s) e)
    empty_list : {s t r : List Word} → IsSign mark.OpenBracket s t → IsSign mark.CloseBracket t r → IsAtom s r (tree.list (line_of s) tree.no_exprs)
    list : {s t m r : List Word} {e : Expr} {es : Exprs} → IsSign mark.OpenBracket s t → IsExpr t m e → IsItems m r es → IsAtom s r (tree.list (line_of s) (tree.item e es))
    comprehension : {s t m r : List Word} {g : Generator} → IsSign mark.OpenBracket s t → IsGenerator t m g → IsSign mark.CloseBracket m r → IsAtom s r (tree.comprehension (line_of s) g)
    empty_dict : {s t r : List Word} → IsSign mark.OpenBrace s t → IsSign mark.CloseBrace t r → IsAtom s r (tree.dict (line_of s) tree.no_pairs)
    dict : {s t m u v r : List Word} {k e : Expr} {ps : Pairs} → IsSign mark.OpenBrace s t → IsExpr t m k → IsSign mark.Colon m u → IsExpr u v e → IsPairs v r ps → IsAtom s r (tree.dict (line_of s) (tree.pair k e ps))

  -- {"," expr} [","] "]"
  pub data IsItems : List Word → List Word → Exprs → Type 0 where
    no_item : {s r : List Word} → IsSign mark.CloseBracket s r → IsItems s r tree.no_exprs
    last_item : {s t r : List Word} → IsSign mark.Comma s t → IsSign mark.CloseBracket t r → IsItems s r tree.no_exprs
    item : {s t m r : List Word} {e : Expr} {es : Exprs} → IsSign mark.Comma s t → IsExpr t m e → IsItems m r es → IsItems s r (tree.item e es)

  -- {"," expr ":" expr} [","] "}"
  pub data IsPairs : List Word → List Word → Pairs → Type 0 where
    no_pair : {s r : List Word} → IsSign mark.CloseBrace s r → IsPairs s r tree.no_pairs
    last_pair : {s t r : List Word} → IsSign mark.Comma s t → IsSign mark.CloseBrace t r → IsPairs s r tree.no_pairs
    pair : {s t m u v r : List Word} {k e : Expr} {ps : Pairs} → IsSign mark.Comma s t → IsExpr t m k → IsSign mark.Colon m u → IsExpr u v e → IsPairs v r ps → IsPairs s r (tree.pair k e ps)

  -- gen = expr "for" NAME "in" or {"if" or}
  pub data IsGenerator : List Word → List Word → Generator → Type 0 where
    generator : {s m t u v w r : List Word} {e i : Expr} {x : List ℕ} {cs : Exprs} → IsExpr s m e → IsSign mark.For m t → IsName t u x → IsSign mark.In u v → IsLevel loosest v w i → IsConditions w r cs → IsGenerator s r (tree.generator e x i cs)

  -- {"if" or}
  pub data IsConditions : List Word → List Word → Exprs → Type 0 where
    no_condition : {r : List Word} → IsConditions r r tree.no_exprs
    condition : {s t m r : List Word} {c : Expr} {cs : Exprs} → IsSign mark.If s t → IsLevel loosest t m c → IsConditions m r cs → IsConditions s r (tree.item c cs)

  -- args ")", where args = [gen | arg {"," arg} [","]]
  pub data IsArguments : List Word → List Word → Arguments → Type 0 where
    generated : {s m r : List Word} {g : Generator} → IsGenerator s m g → IsSign mark.CloseParen m r → IsArguments s r (tree.generated g)
    listed : {s r : List Word} {xs : ArgumentList} → IsArgs false s r xs → IsArguments s r (tree.listed xs)

  -- [arg {"," arg} [","]] ")". The flag says that a keyword stands before.
  pub data IsArgs : Bool → List Word → List Word → ArgumentList → Type 0 where
    no_more : {k : Bool} {s r : List Word} → IsSign mark.CloseParen s r → IsArgs k s r tree.no_arguments
    more : {k : Bool} {s m r : List Word} {x : Option (List ℕ)} {e : Expr} {xs : ArgumentList} → IsArg k s m x e → IsRest (is_some x) m r xs → IsArgs k s r (tree.argument x e xs)

  -- arg = expr | NAME "=" expr. After a keyword no positional one follows.
  pub data IsArg : Bool → List Word → List Word → Option (List ℕ) → Expr → Type 0 where
    positional : {s r : List Word} {e : Expr} → IsExpr s r e → IsArg false s r None e
    keyword : {k : Bool} {s t u r : List Word} {x : List ℕ} {e : Expr} → IsName s t x → IsSign mark.Assign t u → IsExpr u r e → IsArg k s r (Some x) e

  -- what follows an argument
  pub data IsRest : Bool → List Word → List Word → ArgumentList → Type 0 where
    end : {k : Bool} {s r : List Word} → IsSign mark.CloseParen s r → IsRest k s r tree.no_arguments
    comma : {k : Bool} {s t r : List Word} {xs : ArgumentList} → IsSign mark.Comma s t → IsArgs k t r xs → IsRest k s r xs
