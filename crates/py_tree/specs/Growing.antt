-- Nodes that stand one behind the other, each with the tree of which it is the root.
use Rattle.std.specs.Prelude.{ℕ, ◌+◌, List, [], ◌∷◌, ◌++◌, slice_index_or}

-- the tree at a number, or d where there is none
abbrev pub tree_in : {T : Type 0} → T → List T → ℕ → T
tree_in d ts i = slice_index_or ts i d

-- the trees of nodes behind others with the trees ts, where f makes the tree of a node from those of its parts
abbrev pub grow : {X T : Type 0} → T → ((ℕ → T) → X → T) → List T → List X → List T
grow d f ts [] = ts
grow d f ts (x ∷ xs) = grow d f (ts ++ f (tree_in d ts) x ∷ []) xs

-- each node fits the number of nodes before it; the first one has n before it
abbrev pub AreFrom : {X : Type 0} → (ℕ → X → Type 0) → ℕ → List X → Type 0
AreFrom P n [] = Unit {0}
AreFrom P n (x ∷ xs) = P n x × AreFrom P (n + 1) xs
