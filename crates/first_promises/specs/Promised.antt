-- What reading contract lines answers.
use Rattle.std.specs.Prelude.{◌≡◌, ⊤, ℕ, List, length, map, Result, Ok, Err}
use Rattle.spec_forms.specs.Forms.{Promise, preconditions_of, permitted_of, posts_of}
use Rattle.first_tree.specs.declared.nodes.ExprNode.{ExprNode}
use Rattle.first_tree.specs.Arena.{AreExprsBelow, ArePostsBelow}
use Rattle.first_tree.specs.Functions.{expr_in, post_in}
use Rattle.first_promises.specs.declared.errors.FormError.{FormError}
use Rattle.first_promises.specs.declared.errors.FormError.TheVariants.{NotBuilt, NoMemory}
use Rattle.first_promises.specs.declared.promises.Promises.{Promises}

-- these are the promises of a list, by their kinds, and their expressions are there
pub record ArePromises (nodes : List ExprNode) (p : Promises) (ps : List Promise) : Type 0 where
  pub preconditions : map (expr_in nodes) p.preconditions.items ≡ preconditions_of ps
  pub permitted : p.permitted.items ≡ permitted_of ps
  pub posts : map (post_in nodes) p.posts.items ≡ posts_of ps
  pub preconditions_below : AreExprsBelow (length nodes) p.preconditions.items
  pub posts_below : ArePostsBelow (length nodes) p.posts.items

-- the promises of contract lines, or the first line that is not run
abbrev pub GivesPromises : List ExprNode → Result Promises FormError → Result (List Promise) ℕ → Type 0
GivesPromises nodes (Ok p) (Ok ps) = ArePromises nodes p ps
GivesPromises nodes (Ok p) (Err n) = ⊥
GivesPromises nodes (Err (NotBuilt n)) r = r ≡ Err n
GivesPromises nodes (Err NoMemory) r = ⊤
