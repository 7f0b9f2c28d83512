-- The contract lines of a docstring, one after the other.
use Rattle.std.proofs.Common.{◌≡◌, ◌<◌, ◌≤◌, ◌+◌, ℕ, zero, suc, List, [], ◌∷◌, length, drop, drop-cons, get_or, Option, refl, arith}
use Rattle.std.proofs.lemmas.Grind.{common_steps}
use Rattle.spec_contracts.specs.declared.LineKind.{LineKind}
use Rattle.spec_contracts.specs.Entries.{Promise}

-- the item at a place, and those behind it
pub item_from : {X : Type 0} (xs : List X) (i : ℕ) (x d : X) → i < length xs → x ≡ get_or xs i d → drop i xs ≡ x ∷ drop (i + 1) xs
item_from xs i x d lt e = grind (arith, common_steps, drop-cons)

pub items_end : {X : Type 0} (xs : List X) (i : ℕ) → length xs ≤ i → drop i xs ≡ []
items_end [] zero le = refl
items_end [] (suc i) le = refl
items_end (x ∷ xs) zero le = absurd (omega arith)
items_end (x ∷ xs) (suc i) le = items_end xs i (omega arith)

abbrev pub promise_with : ℕ → LineKind → Option (List (List ℕ)) → Promise
promise_with n k names = record { line = n; kind = k; names = names }
