-- What is named by entries is there.
use Rattle.std.proofs.Common.{◌≡◌, ℕ, zero, suc, ◌<◌, List, [], ◌∷◌, ◌++◌, length, get_or, sym, subst, arith}
use Rattle.std.specs.List.{All}
use Rattle.std.proofs.lemmas.List.Elements.{All-append}
use Rattle.py_tree.specs.declared.ids.ExprId.{ExprId}
use Rattle.py_tree.specs.declared.stmts.ParameterNode.{ParameterNode}
use Rattle.py_tree.specs.Arena.{State}
use Rattle.py_tree.specs.Exprs.{AreItemsBelow}
use Rattle.py_tree.specs.Stmts.{AreParametersThere}
use Rattle.py_program.specs.Entries.{IsParameterThere}

item_below : (n : ℕ) (xs : List ExprId) (i : ℕ) (d : ExprId) → AreItemsBelow n xs → i < length xs → (get_or xs i d).index < n
item_below n [] i d h lt = absurd (omega arith)
item_below n (x ∷ xs) zero d h lt = h.0
item_below n (x ∷ xs) (suc i) d h lt = item_below n xs i d h.1 (omega arith)

-- the expression that was read at a place
pub item_found : (n : ℕ) (xs : List ExprId) (i : ℕ) (x : ExprId) → AreItemsBelow n xs → i < length xs → x ≡ get_or xs i x → x.index < n
item_found n xs i x h lt e = subst (λ (y : ExprId). y.index < n) (sym e) (item_below n xs i x h lt)

pub parameter_there : (m : State) (xs : List ParameterNode) (i : ℕ) (d : ParameterNode) → AreParametersThere m xs → i < length xs → IsParameterThere m (get_or xs i d)
parameter_there m [] i d h lt = absurd (omega arith)
parameter_there m (x ∷ xs) zero d h lt = record { name = h.0; annotation = h.1; default = h.2 }
parameter_there m (x ∷ xs) (suc i) d h lt = parameter_there m xs i d h.3 (omega arith)

-- the parameter that was read at a place
pub parameter_found : (m : State) (xs : List ParameterNode) (i : ℕ) (x : ParameterNode) → AreParametersThere m xs → i < length xs → x ≡ get_or xs i x → IsParameterThere m x
parameter_found m xs i x h lt e = subst (λ (y : ParameterNode). IsParameterThere m y) (sym e) (parameter_there m xs i x h lt)

-- one more at the end of a list
pub all_push : {X : Type 0} (P : X → Type 0) (xs : List X) (x : X) → All P xs → P x → All P (xs ++ x ∷ [])
all_push P xs x h p = All-append P xs (x ∷ []) h one
  where
    one : All P (x ∷ [])
    one zero d lt = p
    one (suc k) d lt = absurd (omega arith)
