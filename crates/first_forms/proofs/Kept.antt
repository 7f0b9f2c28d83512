-- Functions whose expressions are there are the same where there are more nodes.
use Rattle.std.proofs.Common.{◌≡◌, ℕ, zero, suc, ◌<◌, List, [], ◌∷◌, length, map, refl, ap, arith}
use Rattle.spec_first_trees.specs.Program as program
use Rattle.spec_forms.specs.Forms.{returned}
use Rattle.first_tree.specs.declared.nodes.ExprId.{ExprId}
use Rattle.first_tree.specs.declared.nodes.ExprNode.{ExprNode}
use Rattle.first_tree.specs.declared.nodes.FnNode.{FnNode}
use Rattle.first_tree.specs.declared.nodes.Post.{Post}
use Rattle.first_tree.specs.Arena.{Extends, AreExprsBelow, AreFunctionsBelow, ArePostsBelow, IsFunctionBelow}
use Rattle.first_tree.specs.Functions.{expr_in, function_in, post_in, return_in}
use Rattle.first_tree.proofs.Arenas.{extends_length, shown_kept}

-- what a list of values returns
pub returned_in : (nodes : List ExprNode) (es : List ExprId) → map returned (map (expr_in nodes) es) ≡ map (return_in nodes) es
returned_in nodes [] = refl
returned_in nodes (e ∷ es) = ap (λ (xs : List program.Numbered). return_in nodes e ∷ xs) (returned_in nodes es)

module _ (old new : List ExprNode) (g : Extends old new) where
  pub exprs_below : (es : List ExprId) → AreExprsBelow (length old) es → AreExprsBelow (length new) es
  exprs_below es h = λ k d lt. below _ (h k d lt)
    where
      below : (i : ℕ) → i < length old → i < length new
      below i lt = omega (arith, extends_length old new g)

  pub posts_below : (ps : List Post) → ArePostsBelow (length old) ps → ArePostsBelow (length new) ps
  posts_below ps h = λ k d lt. below _ (h k d lt)
    where
      below : (i : ℕ) → i < length old → i < length new
      below i lt = omega (arith, extends_length old new g)

  pub exprs_kept : (es : List ExprId) → AreExprsBelow (length old) es → map (expr_in new) es ≡ map (expr_in old) es
  exprs_kept [] h = refl
  exprs_kept (e ∷ es) h = rw (shown_kept old new e.index g (h zero e (omega arith)), exprs_kept es (λ k d lt. h (suc k) d (omega arith))) refl

  pub returns_kept : (es : List ExprId) → AreExprsBelow (length old) es → map (return_in new) es ≡ map (return_in old) es
  returns_kept [] h = refl
  returns_kept (e ∷ es) h = rw (shown_kept old new e.index g (h zero e (omega arith)), returns_kept es (λ k d lt. h (suc k) d (omega arith))) refl

  pub posts_kept : (ps : List Post) → ArePostsBelow (length old) ps → map (post_in new) ps ≡ map (post_in old) ps
  posts_kept [] h = refl
  posts_kept (p ∷ ps) h = rw (shown_kept old new p.expr.index g (h zero p (omega arith)), posts_kept ps (λ k d lt. h (suc k) d (omega arith))) refl

  pub function_kept : (f : FnNode) → IsFunctionBelow (length old) f → function_in new f ≡ function_in old f
  function_kept f h = rw (exprs_kept f.preconditions.items h.preconditions, posts_kept f.posts.items h.posts, returns_kept f.values.items h.values) refl

  pub functions_kept : (fs : List FnNode) → AreFunctionsBelow (length old) fs → map (function_in new) fs ≡ map (function_in old) fs
  functions_kept [] h = refl
  functions_kept (f ∷ fs) h = rw (function_kept f h.0, functions_kept fs h.1) refl
