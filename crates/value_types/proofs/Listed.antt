-- One of several types, by its place.
use Rattle.std.proofs.Common.{◌≡◌, ℕ, zero, suc, ◌<◌, List, [], ◌∷◌, length, get_or, Option, Some, None, refl, sym, ap, arith, ◌∙◌}
use Rattle.std.proofs.lemmas.Option.{same_Some}
use Rattle.spec_trees.specs.Stmt.{TypeExpr}
use Rattle.spec_types.specs.declared.TypeName.{TypeName}
use Rattle.spec_types.specs.Types.{ValueType, none, onto, type_in, types_in}
use Rattle.py_tree.specs.declared.ids.TypeId.{TypeId}
use Rattle.py_tree.specs.Types.{types_tree}

-- a type before others
onto_parts : {P : Type 0} (o : Option ValueType) (os : Option (List ValueType)) (vs : List ValueType) → onto o os ≡ Some vs → ((v : ValueType) (us : List ValueType) → o ≡ Some v → os ≡ Some us → vs ≡ v ∷ us → P) → P
onto_parts None os vs e k = absurd cc
onto_parts (Some v) None vs e k = absurd cc
onto_parts (Some v) (Some us) vs e k = k v us refl refl (sym (same_Some (v ∷ us) vs e))

module _ (named : List ℕ → TypeName) (t : ℕ → TypeExpr) where
  pub type_at : (xs : List TypeId) (i : ℕ) (d : TypeId) (vs : List ValueType) → i < length xs → types_in named (types_tree t xs) ≡ Some vs → type_in named (t (get_or xs i d).index) ≡ Some (get_or vs i none)
  type_at [] i d vs lt e = absurd (omega arith)
  type_at (x ∷ xs) zero d vs lt e = onto_parts (type_in named (t x.index)) (types_in named (types_tree t xs)) vs e (λ v us p q r. p ∙ ap (λ (ws : List ValueType). Some (get_or ws 0 none)) (sym r))
  type_at (x ∷ xs) (suc i) d vs lt e = onto_parts (type_in named (t x.index)) (types_in named (types_tree t xs)) vs e (λ v us p q r. type_at xs i d us (omega arith) q ∙ ap (λ (ws : List ValueType). Some (get_or ws (suc i) none)) (sym r))

  pub types_length : (xs : List TypeId) (vs : List ValueType) → types_in named (types_tree t xs) ≡ Some vs → length vs ≡ length xs
  types_length [] vs e = ap length (sym (same_Some [] vs e))
  types_length (x ∷ xs) vs e = onto_parts (type_in named (t x.index)) (types_in named (types_tree t xs)) vs e (λ v us p q r. ap length r ∙ ap suc (types_length xs us q))
