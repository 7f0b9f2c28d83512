-- What one contract line promises, and what it adds to the promises before it.
use Rattle.std.specs.Prelude.{◌≡◌, ⊤, ◌<◌, List, [], ◌∷◌, ◌++◌, length, Option, Some, Result, Ok, Err}
use Rattle.spec_first_trees.specs.declared.ExcClass.{ExcClass}
use Rattle.spec_first_trees.specs.Expr.{Expr}
use Rattle.spec_grammar.specs.Reading.{◌>>=◌}
use Rattle.spec_forms.specs.Forms as forms
use Rattle.spec_forms.specs.Forms.{named, classes_of}
use Rattle.py_tree.specs.declared.ids.ExprId as source
use Rattle.py_tree.specs.State.{State}
use Rattle.py_tree.specs.Stmts.{optional_expr}
use Rattle.contract_lines.specs.Given.{IsListThere, optional_names}
use Rattle.first_tree.specs.declared.nodes.ExprId.{ExprId}
use Rattle.first_tree.specs.declared.nodes.ExprNode.{ExprNode}
use Rattle.first_tree.specs.declared.nodes.Post.{Post}
use Rattle.first_tree.specs.Arena.{shown}
use Rattle.first_promises.specs.declared.errors.Unformed.{Unformed}
use Rattle.first_promises.specs.declared.expressions.Scope.{Scope}
use Rattle.first_promises.specs.declared.promises.Promise.{Promise}
use Rattle.first_promises.specs.declared.promises.Promise.TheVariants as promise
use Rattle.first_promises.specs.declared.promises.Promises.{Promises}
use Rattle.first_promises.specs.Gives.{Fails}
use Rattle.first_promises.specs.Scopes.{names_in}

-- the expression of a contract line, where it is run
abbrev pub condition_in : State → Scope → Option source.ExprId → Option Expr
condition_in m s e = optional_expr m e >>= named (names_in m s)

module _ (m : State) where
  -- the names of a promise are there
  abbrev pub AreNamesThere : Promise → Type 0
  AreNamesThere (promise.Precondition e) = ⊤
  AreNamesThere (promise.Postcondition p) = ⊤
  AreNamesThere (promise.Permission l) = IsListThere m l

  abbrev pub classes_in : Promise → List ExcClass
  classes_in (promise.Precondition e) = []
  classes_in (promise.Postcondition p) = []
  classes_in (promise.Permission l) = classes_of (optional_names m l)

  module _ (nodes : List ExprNode) where
    abbrev pub promise_in : Promise → forms.Promise
    promise_in (promise.Precondition e) = forms.precondition (shown nodes e.index)
    promise_in (promise.Postcondition p) = forms.postcondition p.line (shown nodes p.expr.index)
    promise_in (promise.Permission l) = forms.permission (classes_of (optional_names m l))

    -- the expression of a promise is there
    abbrev pub IsExprThere : Promise → Type 0
    IsExprThere (promise.Precondition e) = e.index < length nodes
    IsExprThere (promise.Postcondition p) = p.expr.index < length nodes
    IsExprThere (promise.Permission l) = ⊤

    -- the promise is there, or there is none
    abbrev pub GivesPromise : Result Promise Unformed → Option forms.Promise → Type 0
    GivesPromise (Ok p) o = AreNamesThere p × IsExprThere p × (o ≡ Some (promise_in p))
    GivesPromise (Err u) o = Fails u o

abbrev pub preconditions_in : Promise → List ExprId
preconditions_in (promise.Precondition e) = e ∷ []
preconditions_in (promise.Postcondition p) = []
preconditions_in (promise.Permission l) = []

abbrev pub posts_in : Promise → List Post
posts_in (promise.Precondition e) = []
posts_in (promise.Postcondition p) = p ∷ []
posts_in (promise.Permission l) = []

-- a promise is added to those of its kind
pub record Adds (m : State) (p : Promise) (old new : Promises) : Type 0 where
  pub preconditions : new.preconditions.items ≡ old.preconditions.items ++ preconditions_in p
  pub permitted : new.permitted.items ≡ old.permitted.items ++ classes_in m p
  pub posts : new.posts.items ≡ old.posts.items ++ posts_in p
