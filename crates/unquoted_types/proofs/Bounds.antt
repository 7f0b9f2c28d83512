-- One more than the letters is enough for strings in strings, by definition.
use Rattle.std.proofs.Common.{◌≡◌, ℕ, suc, ◌+◌, Option, Some, None, Result, Ok, Err, sym, subst, arith}
use Rattle.std.specs.Prelude.{IfOk}
use Rattle.std.specs.Option.{option_map}
use Rattle.xh_outside.specs.declared.errors.NoMemory.{NoMemory}
use Rattle.spec_trees.specs.Stmt.{TypeExpr}
use Rattle.spec_types.specs.Quotes.{exchanged, held_type, letters, unquoted}
use Rattle.py_tree.specs.declared.ids.TypeId.{TypeId}
use Rattle.py_tree.specs.Arena.{State, shown_type}
use Rattle.unquoted_types.specs.Given.{GivesType}

given_is : (m : State) (o : Option TypeId) (x : Option TypeExpr) → GivesType m o x → option_map (λ (u : TypeId). shown_type m u.index) o ≡ x
given_is m None x h = sym h
given_is m (Some t) x h = sym h.1

pub unquoted_is : (m : State) (r : Result (Option TypeId) NoMemory) (b : ℕ) (e : TypeExpr) → b ≡ letters e + 1 → IfOk r (λ o. GivesType m o (exchanged (held_type b) e)) → IfOk r (λ o. option_map (λ (u : TypeId). shown_type m u.index) o ≡ unquoted e)
unfolding unquoted
unquoted_is m (Ok o) b e f h = let more : b ≡ suc (letters e) = omega (arith, f) in given_is m o _ (subst (λ (k : ℕ). GivesType m o (exchanged (held_type k) e)) more h)
unquoted_is m (Err x) b e f h = tt
