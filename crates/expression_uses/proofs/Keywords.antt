-- The keywords of calls.
use Rattle.std.proofs.Common.{◌≡◌, ℕ, suc, ◌+◌, ◌<◌, List, [], ◌∷◌, length, drop, get_or, slice_get, Some, None, refl, ap, ◌∙◌}
use Rattle.std.proofs.lemmas.Option.{get_or_from_slice_get}
use Rattle.spec_trees.specs.Expr.{Expr}
use Rattle.spec_uses.specs.Expressions.{count, keywords}
use Rattle.py_tree.specs.declared.exprs.Argument.{Argument}
use Rattle.py_tree.specs.declared.ids.NameId.{NameId}
use Rattle.py_tree.specs.Exprs.{argument_list_tree}
use Rattle.py_tree.specs.Names.{text_of}
use Rattle.told_refusals.proofs.Telling.{drop_from}

module _ (names : List (List ℕ)) (t : ℕ → Expr) where
  abbrev pub keywords_of : List Argument → List (List ℕ)
  keywords_of xs = keywords (argument_list_tree names t xs)

  pub count_is : (xs : List Argument) → count (argument_list_tree names t xs) ≡ length xs
  count_is [] = refl
  count_is (x ∷ xs) = ap suc (count_is xs)

  module _ (xs : List Argument) (i : ℕ) (d : Argument) (lt : i < length xs) where
    pub keyword_none : (get_or xs i d).name ≡ None → keywords_of (drop i xs) ≡ keywords_of (drop (i + 1) xs)
    keyword_none e = ap keywords_of (drop_from xs i d lt) ∙ rw e refl

    pub keyword_some : (n : NameId) → (get_or xs i d).name ≡ Some n → keywords_of (drop i xs) ≡ text_of names n ∷ keywords_of (drop (i + 1) xs)
    keyword_some n e = ap keywords_of (drop_from xs i d lt) ∙ rw e refl

pub text_is : (names : List (List ℕ)) (n : NameId) (x : List ℕ) → slice_get names n.index ≡ Some x → text_of names n ≡ x
text_is names n x e = get_or_from_slice_get names n.index x [] e
