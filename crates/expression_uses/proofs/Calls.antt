-- The arguments of calls, the first two of which stand for themselves.
use Rattle.std.proofs.Common.{◌≡◌, ℕ, zero, suc, ◌-◌, ◌<◌, ◌≤◌, List, [], ◌∷◌, ◌++◌, length, drop, take, get_or, Option, refl, ap, arith, if◌then◌else◌}
use Rattle.spec_names.specs.declared.builtins.Builtin.{Builtin}
use Rattle.spec_uses.specs.declared.Place.TheVariants.{Read, Walked}
use Rattle.spec_uses.specs.Meanings.{Scope}
use Rattle.spec_uses.specs.Expressions.{is_walk, uses, uses_in_arguments, uses_in_rest}
use Rattle.py_tree.specs.declared.exprs.Argument.{Argument}
use Rattle.py_tree.specs.Arena.{State, shown}
use Rattle.py_tree.specs.Exprs.{argument_list_tree}
use Rattle.name_scopes.proofs.Repeating.{no_argument}
use Rattle.expression_uses.specs.Parts.{uses_in_second}

take_all : (n : ℕ) (xs : List Argument) → n ≡ length xs → take n xs ≡ xs
take_all zero [] e = refl
take_all zero (x ∷ xs) e = absurd (omega (arith, e))
take_all (suc n) [] e = refl
take_all (suc n) (x ∷ xs) e = ap (λ (v : List Argument). x ∷ v) (take_all n xs (omega (arith, e)))

module _ (m : State) (n : ℕ) (b : Option Builtin) (s : Scope) where
  pub sole_told : (xs : List Argument) → 1 ≤ length xs → length xs < 2 → uses (if is_walk b then Walked else Read) s (shown m (get_or xs 0 no_argument).value.index) ≡ uses_in_arguments s n b (argument_list_tree m.names (shown m) xs)
  sole_told [] h k = absurd (omega arith)
  sole_told (x ∷ []) h k = refl
  sole_told (x ∷ y ∷ xs) h k = absurd (omega arith)

  pub more_told : (xs : List Argument) → 2 ≤ length xs
      → uses Read s (shown m (get_or xs 0 no_argument).value.index) ++ uses_in_second s n b (shown m (get_or xs 1 no_argument).value.index) ++ uses_in_rest s (argument_list_tree m.names (shown m) (take (length xs - 2) (drop 2 xs)))
      ≡ uses_in_arguments s n b (argument_list_tree m.names (shown m) xs)
  more_told [] h = absurd (omega arith)
  more_told (x ∷ []) h = absurd (omega arith)
  more_told (x ∷ y ∷ xs) h = rw (take_all (length (x ∷ y ∷ xs) - 2) xs (omega arith)) refl
