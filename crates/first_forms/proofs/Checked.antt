-- The function of a `def` that has contract lines.
use Rattle.std.proofs.Common.{◌≡◌, ℕ, Bool, true, false, List, ◌∷◌, map, Some, None, Result, Ok, Err, refl, sym, ap, ◌∙◌, if◌then◌else◌}
use Rattle.std.specs.Global.{Vec}
use Rattle.spec_contracts.specs.ContractLines.{ContractLine}
use Rattle.spec_first_trees.specs.declared.ExcClass.{ExcClass}
use Rattle.spec_first_trees.specs.Expr.{Expr}
use Rattle.spec_first_trees.specs.Program as program
use Rattle.spec_first_trees.specs.Program.{Condition, Function, Numbered}
use Rattle.spec_forms.specs.Forms.{Promise, are_integers, integer_parameter, posts_of, preconditions_of, promises_of, values_of}
use Rattle.py_tree.specs.Arena.{State, shown_stmt}
use Rattle.py_tree.specs.Names.{text_of}
use Rattle.py_tree.specs.Stmts.{block_tree, parameters_tree}
use Rattle.xh_outside.specs.declared.bytes.Bytes.{Bytes}
use Rattle.first_tree.specs.declared.nodes.ExprId.{ExprId}
use Rattle.first_tree.specs.declared.nodes.ExprNode.{ExprNode}
use Rattle.first_tree.specs.Arena.{Extends}
use Rattle.first_tree.specs.Functions.{expr_in, int_parameter, post_in}
use Rattle.first_promises.specs.Promised.{ArePromises, GivesPromises}
use Rattle.first_promises.specs.Scopes.{parameter_names}
use Rattle.first_promises.specs.declared.promises.Promises.{Promises}
use Rattle.first_forms.specs.declared.reading.Definition.{Definition}
use Rattle.first_forms.specs.Bodies.{GivesValues}
use Rattle.first_forms.specs.Formed.{IsFormed, checked_at}
use Rattle.first_forms.proofs.Kept.{exprs_below, exprs_kept, posts_below, posts_kept, returned_in}

-- a function by its parts
abbrev made : ℕ → List ℕ → List program.Parameter → List Expr → List ExcClass → List Condition → List Numbered → Function
made n x ps es ks cs b = record { name = x; parameters = ps; preconditions = es; conditions = program.Raises n ks ∷ cs; body = b }

made_same : (n : ℕ) {x y : List ℕ} {ps qs : List program.Parameter} {es fs : List Expr} {ks js : List ExcClass} {cs ds : List Condition} {b d : List Numbered}
    → x ≡ y → ps ≡ qs → es ≡ fs → ks ≡ js → cs ≡ ds → b ≡ d → made n x ps es ks cs b ≡ made n y qs fs js ds d
made_same n e f g h i j = rw (e, f, g, h, i, j) refl

-- the parameters are integers where there are such parameters
pub record AreThese {X : Type 0} (b : Bool) (xs ys : List X) : Type 0 where
  pub passes : b ≡ true
  pub same : xs ≡ ys

these : {X : Type 0} (b : Bool) (xs ys : List X) → Some xs ≡ (if b then Some ys else None) → AreThese b xs ys
these true xs ys e = record { passes = refl; same = cc }
these false xs ys e = absurd cc

-- promises that are given
pub record ArePromised (nodes : List ExprNode) (p : Promises) (r : Result (List Promise) ℕ) : Type 0 where
  pub promises : List Promise
  pub is : r ≡ Ok promises
  pub are : ArePromises nodes p promises

promised : (nodes : List ExprNode) (p : Promises) (r : Result (List Promise) ℕ) → GivesPromises nodes (Ok p) r → ArePromised nodes p r
promised nodes p (Ok qs) h = record { promises = qs; is = refl; are = h }
promised nodes p (Err n) h = absurd h

module _ (m : State) (d : Definition) (ls : List ContractLine) where
  pub checked_formed : (nodes more : List ExprNode) (ns : Vec Bytes) (p : Promises) (es : Vec ExprId) (name : Bytes) → Extends nodes more
      → Some (map int_parameter ns.items) ≡ (if are_integers (parameters_tree m d.parameters.now) then Some (map integer_parameter (parameters_tree m d.parameters.now)) else None)
      → GivesPromises nodes (Ok p) (promises_of (parameter_names m d.parameters.now) ls)
      → GivesValues more (Ok es) (values_of (parameter_names m d.parameters.now) (block_tree (shown_stmt m) d.body.now))
      → name ≡ text_of m.names d.name
      → IsFormed more (Ok (record { name = name; line = d.line; parameters = ns; preconditions = p.preconditions; permitted = p.permitted; posts = p.posts; values = es })) (checked_at m d ls)
  checked_formed nodes more ns p es name g integers promises values text =
      let i = these (are_integers (parameters_tree m d.parameters.now)) _ _ integers in
      let q = promised nodes p (promises_of (parameter_names m d.parameters.now) ls) promises in
      let preconditions : preconditions_of q.promises ≡ map (expr_in more) p.preconditions.items = sym (exprs_kept nodes more g p.preconditions.items q.are.preconditions_below ∙ q.are.preconditions) in
      let posts : posts_of q.promises ≡ map (post_in more) p.posts.items = sym (posts_kept nodes more g p.posts.items q.are.posts_below ∙ q.are.posts) in
      let same = made_same d.line (sym text) (sym i.same) preconditions (sym q.are.permitted) posts (returned_in more es.items) in (
        record { preconditions = exprs_below nodes more g p.preconditions.items q.are.preconditions_below; posts = posts_below nodes more g p.posts.items q.are.posts_below; values = values.0 },
        rw (i.passes, q.is, values.1) (ap (λ (f : Function). Ok f) same),
      )
