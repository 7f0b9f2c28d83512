-- What was read keeps its trees while a module grows, and lists with one more.
use Rattle.std.proofs.Common.{◌≡◌, ℕ, ◌<◌, ◌≤◌, List, [], ◌∷◌, ◌++◌, length, Option, Some, None, refl, sym, ap, arith, ◌∙◌}
use Rattle.spec_trees.specs.declared.Operator.{Operator}
use Rattle.spec_trees.specs.Expr.{Expr, Generator, Arguments, ArgumentList, Links, Exprs, Pairs}
use Rattle.spec_grammar.specs.Words.{Word}
use Rattle.spec_grammar.specs.Reading.{with_item, with_pair, with_link, with_argument}
use Rattle.py_tree.specs.declared.ids.ExprId.{ExprId}
use Rattle.py_tree.specs.declared.ids.NameId.{NameId}
use Rattle.py_tree.specs.declared.exprs.Argument.{Argument}
use Rattle.py_tree.specs.declared.exprs.Link.{Link}
use Rattle.py_tree.specs.declared.exprs.Pair.{Pair}
use Rattle.py_tree.specs.Arena.{State, IsModule, shown}
use Rattle.py_tree.specs.Names.{text_of}
use Rattle.py_tree.specs.Exprs.{items_tree, pairs_tree, links_tree, bound_tree, name_of, argument_list_tree, AreItemsBelow, ArePairsBelow, AreLinksBelow, AreArgumentsBelow, IsBoundBelow, IsNameBelow}
use Rattle.py_tree.proofs.Arenas.{names_grow, exprs_grow, text_kept, shown_kept, items_kept, pairs_kept, links_kept, bound_kept, arguments_kept}
use Rattle.py_tree.proofs.Nodes.{items_more, pairs_more, links_more, bound_more, arguments_more, items_push, pairs_push, links_push, arguments_push}
use Rattle.py_expressions.specs.Given.{Grows}

-- what is read in m is read in n
module _ (m n : State) (g : Grows m n) (d : IsModule m) where
  pub expr_later : (i : ℕ) → i < length m.exprs → (i < length n.exprs) × (shown n i ≡ shown m i)
  expr_later i lt = let more = exprs_grow m n g.extends in (omega arith, shown_kept m n i g.extends d lt)

  pub expr_read : (i : ℕ) (o : Option (Expr × List Word)) (r : List Word) → (i < length m.exprs) × (o ≡ Some (shown m i, r)) → (i < length n.exprs) × (o ≡ Some (shown n i, r))
  expr_read i o r h = let l = expr_later i h.0 in (l.0, rw l.1 h.1)

  pub text_later : (x : NameId) → x.index < length m.names → (x.index < length n.names) × (text_of n.names x ≡ text_of m.names x)
  text_later x lt = let more = names_grow m n g.extends in (omega arith, text_kept m n x.index g.extends lt)

  pub bound_later : (x : Option ExprId) → IsBoundBelow (length m.exprs) x → IsBoundBelow (length n.exprs) x × (bound_tree (shown n) x ≡ bound_tree (shown m) x)
  bound_later x h = (bound_more (length m.exprs) (length n.exprs) (exprs_grow m n g.extends) x h, bound_kept m n g.extends d x h)

  pub items_later : (xs : List ExprId) → AreItemsBelow (length m.exprs) xs → AreItemsBelow (length n.exprs) xs × (items_tree (shown n) xs ≡ items_tree (shown m) xs)
  items_later xs h = (items_more (length m.exprs) (length n.exprs) (exprs_grow m n g.extends) xs h, items_kept m n g.extends d xs h)

  pub pairs_later : (xs : List Pair) → ArePairsBelow (length m.exprs) xs → ArePairsBelow (length n.exprs) xs × (pairs_tree (shown n) xs ≡ pairs_tree (shown m) xs)
  pairs_later xs h = (pairs_more (length m.exprs) (length n.exprs) (exprs_grow m n g.extends) xs h, pairs_kept m n g.extends d xs h)

  pub links_later : (xs : List Link) → AreLinksBelow (length m.exprs) xs → AreLinksBelow (length n.exprs) xs × (links_tree (shown n) xs ≡ links_tree (shown m) xs)
  links_later xs h = (links_more (length m.exprs) (length n.exprs) (exprs_grow m n g.extends) xs h, links_kept m n g.extends d xs h)

  pub arguments_later : (xs : List Argument) → AreArgumentsBelow (length m.names) (length m.exprs) xs → AreArgumentsBelow (length n.names) (length n.exprs) xs × (argument_list_tree n.names (shown n) xs ≡ argument_list_tree m.names (shown m) xs)
  arguments_later xs h = (arguments_more (length m.names) (length n.names) (length m.exprs) (length n.exprs) (names_grow m n g.extends) (exprs_grow m n g.extends) xs h, arguments_kept m n g.extends d xs h)

  -- lists of m with one more that is there in n
  pub items_then : (xs ys : List ExprId) (x : ExprId) → AreItemsBelow (length m.exprs) xs → x.index < length n.exprs → ys ≡ xs ++ x ∷ [] → AreItemsBelow (length n.exprs) ys × (items_tree (shown n) ys ≡ with_item (items_tree (shown m) xs) (shown n x.index))
  items_then xs ys x h lt e =
      let l = items_later xs h in
      rw e (items_push (length n.exprs) xs x l.0 lt, items_pushed (shown n) xs x ∙ ap (λ (t : Exprs). with_item t (shown n x.index)) l.1)
    where
      items_pushed : (t : ℕ → Expr) (xs : List ExprId) (x : ExprId) → items_tree t (xs ++ x ∷ []) ≡ with_item (items_tree t xs) (t x.index)
      items_pushed t [] x = refl
      items_pushed t (y ∷ xs) x = rw (items_pushed t xs x) refl

  pub pairs_then : (xs ys : List Pair) (x : Pair) → ArePairsBelow (length m.exprs) xs → x.key.index < length n.exprs → x.value.index < length n.exprs → ys ≡ xs ++ x ∷ [] → ArePairsBelow (length n.exprs) ys × (pairs_tree (shown n) ys ≡ with_pair (pairs_tree (shown m) xs) (shown n x.key.index) (shown n x.value.index))
  pairs_then xs ys x h p q e =
      let l = pairs_later xs h in
      rw e (pairs_push (length n.exprs) xs x l.0 p q, pairs_pushed (shown n) xs x ∙ ap (λ (t : Pairs). with_pair t (shown n x.key.index) (shown n x.value.index)) l.1)
    where
      pairs_pushed : (t : ℕ → Expr) (xs : List Pair) (x : Pair) → pairs_tree t (xs ++ x ∷ []) ≡ with_pair (pairs_tree t xs) (t x.key.index) (t x.value.index)
      pairs_pushed t [] x = refl
      pairs_pushed t (y ∷ xs) x = rw (pairs_pushed t xs x) refl

  pub links_then : (xs ys : List Link) (x : Link) → AreLinksBelow (length m.exprs) xs → x.operand.index < length n.exprs → ys ≡ xs ++ x ∷ [] → AreLinksBelow (length n.exprs) ys × (links_tree (shown n) ys ≡ with_link (links_tree (shown m) xs) x.operator (shown n x.operand.index))
  links_then xs ys x h lt e =
      let l = links_later xs h in
      rw e (links_push (length n.exprs) xs x l.0 lt, links_pushed (shown n) xs x ∙ ap (λ (t : Links). with_link t x.operator (shown n x.operand.index)) l.1)
    where
      links_pushed : (t : ℕ → Expr) (xs : List Link) (x : Link) → links_tree t (xs ++ x ∷ []) ≡ with_link (links_tree t xs) x.operator (t x.operand.index)
      links_pushed t [] x = refl
      links_pushed t (y ∷ xs) x = rw (links_pushed t xs x) refl

  pub arguments_then : (xs ys : List Argument) (x : Argument) → AreArgumentsBelow (length m.names) (length m.exprs) xs → IsNameBelow (length n.names) x.name → x.value.index < length n.exprs → ys ≡ xs ++ x ∷ [] → AreArgumentsBelow (length n.names) (length n.exprs) ys × (argument_list_tree n.names (shown n) ys ≡ with_argument (argument_list_tree m.names (shown m) xs) (name_of n.names x.name) (shown n x.value.index))
  arguments_then xs ys x h p q e =
      let l = arguments_later xs h in
      rw e (arguments_push (length n.exprs) (length n.names) xs x l.0 p q, arguments_pushed n.names (shown n) xs x ∙ ap (λ (t : ArgumentList). with_argument t (name_of n.names x.name) (shown n x.value.index)) l.1)
    where
      arguments_pushed : (ns : List (List ℕ)) (t : ℕ → Expr) (xs : List Argument) (x : Argument) → argument_list_tree ns t (xs ++ x ∷ []) ≡ with_argument (argument_list_tree ns t xs) (name_of ns x.name) (t x.value.index)
      arguments_pushed ns t [] x = refl
      arguments_pushed ns t (y ∷ xs) x = rw (arguments_pushed ns t xs x) refl
