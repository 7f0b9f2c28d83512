-- Numbers above all types of a list.
use Rattle.std.proofs.Common.{ℕ, zero, suc, ◌<◌, ◌≤◌, max, List, [], ◌∷◌, length, get_or, arith}
use Rattle.py_tree.specs.Types.{AreTypesBelow}
use Rattle.py_tree.specs.declared.ids.TypeId.{TypeId}

abbrev pub above : List TypeId → ℕ
above [] = 0
above (t ∷ ts) = max (suc t.index) (above ts)

pub above_least : (n : ℕ) (xs : List TypeId) → AreTypesBelow n xs → above xs ≤ n
above_least n [] h = omega arith
above_least n (x ∷ xs) h = let rest = above_least n xs h.1 in omega (arith, h.0, rest)

-- ---- one of several

pub type_above : (xs : List TypeId) (i : ℕ) (d : TypeId) → i < length xs → (get_or xs i d).index < above xs
type_above [] i d lt = absurd (omega arith)
type_above (x ∷ xs) zero d lt = omega arith
type_above (x ∷ xs) (suc i) d lt = let rest = type_above xs i d (omega arith) in omega (arith, rest)

pub type_there : (n : ℕ) (xs : List TypeId) (i : ℕ) (d : TypeId) → AreTypesBelow n xs → i < length xs → (get_or xs i d).index < n
type_there n [] i d h lt = absurd (omega arith)
type_there n (x ∷ xs) zero d h lt = h.0
type_there n (x ∷ xs) (suc i) d h lt = type_there n xs i d h.1 (omega arith)

-- the default of reads, which is never seen
abbrev pub no_type : TypeId
no_type = record { index = 0 }
