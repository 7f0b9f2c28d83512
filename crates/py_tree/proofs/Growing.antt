-- Trees of nodes that grow.
use Rattle.std.proofs.Common.{◌≡◌, ℕ, zero, suc, ◌+◌, ◌<◌, List, [], ◌∷◌, ◌++◌, length, get_or, refl, sym, ap, subst, arith, ◌∙◌, append_assoc, length-append}
use Rattle.std.proofs.lemmas.List.{get_or_append_left, get_or_at}
use Rattle.py_tree.specs.Growing.{grow, tree_in, AreFrom}

module _ {X T : Type 0} (d : T) (f : (ℕ → T) → X → T) where
  -- growing adds a tree for each node
  length_grow : (ts : List T) (xs : List X) → length (grow d f ts xs) ≡ length ts + length xs
  length_grow ts [] = omega arith
  length_grow ts (x ∷ xs) = omega (arith, length_grow (ts ++ f (tree_in d ts) x ∷ []) xs, length-append ts (f (tree_in d ts) x ∷ []))

  -- growing goes from the left to the right
  grow_append : (ts : List T) (xs ys : List X) → grow d f ts (xs ++ ys) ≡ grow d f (grow d f ts xs) ys
  grow_append ts [] ys = refl
  grow_append ts (x ∷ xs) ys = grow_append (ts ++ f (tree_in d ts) x ∷ []) xs ys

  -- growing keeps the trees that are there
  grow_keeps : (ts : List T) (xs : List X) (i : ℕ) → i < length ts → tree_in d (grow d f ts xs) i ≡ tree_in d ts i
  grow_keeps ts [] i lt = refl
  grow_keeps ts (x ∷ xs) i lt = grow_keeps (ts ++ f (tree_in d ts) x ∷ []) xs i (omega (arith, length-append ts (f (tree_in d ts) x ∷ []))) ∙ get_or_append_left ts (f (tree_in d ts) x ∷ []) d i lt

  -- the tree at a place, where more nodes stand behind
  pub kept_before : (xs ys : List X) (i : ℕ) → i < length xs → tree_in d (grow d f [] (xs ++ ys)) i ≡ tree_in d (grow d f [] xs) i
  kept_before xs ys i lt = rw (grow_append [] xs ys) (grow_keeps (grow d f [] xs) ys i (omega (arith, length_grow [] xs)))

  -- the tree of a node that is added
  pub added_last : (xs : List X) (x : X) (i : ℕ) → i ≡ length xs → tree_in d (grow d f [] (xs ++ x ∷ [])) i ≡ f (tree_in d (grow d f [] xs)) x
  added_last xs x i at =
      ap (λ (ts : List T). tree_in d ts i) (grow_append [] xs (x ∷ []))
      ∙ get_or_at (grow d f [] xs) (f (tree_in d (grow d f [] xs)) x) [] d i (omega (arith, length_grow [] xs))

-- two ways to make the trees of nodes, which agree where the parts are there
pub grow_same : {X T : Type 0} (d : T) (f g : (ℕ → T) → X → T) (P : ℕ → X → Type 0) → ((n : ℕ) (t : ℕ → T) (x : X) → P n x → f t x ≡ g t x) → (ts : List T) (xs : List X) → AreFrom P (length ts) xs → grow d f ts xs ≡ grow d g ts xs
grow_same d f g P same ts [] h = refl
grow_same {X} {T} d f g P same ts (x ∷ xs) h =
    let l : length ts + 1 ≡ length (ts ++ f (tree_in d ts) x ∷ []) = omega (arith, length-append ts (f (tree_in d ts) x ∷ [])) in
    grow_same d f g P same (ts ++ f (tree_in d ts) x ∷ []) xs (subst (λ (n : ℕ). AreFrom P n xs) l h.1)
    ∙ ap (λ (y : T). grow d g (ts ++ y ∷ []) xs) (same (length ts) (tree_in d ts) x h.0)

module _ {X : Type 0} (P : ℕ → X → Type 0) where
  -- nodes and one more, whose parts are before it
  from_push_at : (a : ℕ) (xs : List X) (x : X) → AreFrom P a xs → P (a + length xs) x → AreFrom P a (xs ++ x ∷ [])
  from_push_at a [] x h p = (subst (λ (n : ℕ). P n x) (omega arith) p, tt)
  from_push_at a (y ∷ xs) x h p =
      let e : a + length (y ∷ xs) ≡ a + 1 + length xs = omega arith in
      (h.0, from_push_at (a + 1) xs x h.1 (subst (λ (n : ℕ). P n x) e p))

  pub from_push : (xs : List X) (x : X) → AreFrom P 0 xs → P (length xs) x → AreFrom P 0 (xs ++ x ∷ [])
  from_push xs x h p = let e : length xs ≡ 0 + length xs = omega arith in from_push_at 0 xs x h (subst (λ (n : ℕ). P n x) e p)

  -- the parts of the node at a place
  from_parts : (a : ℕ) (xs : List X) (i : ℕ) (x : X) → AreFrom P a xs → i < length xs → x ≡ get_or xs i x → P (a + i) x
  from_parts a [] i x h lt e = absurd (omega arith)
  from_parts a (y ∷ xs) zero x h lt e = subst (λ (n : ℕ). P n x) (omega arith) (subst (λ (z : X). P a z) (sym e) h.0)
  from_parts a (y ∷ xs) (suc i) x h lt e =
      let k : a + 1 + i ≡ a + suc i = omega arith in
      subst (λ (n : ℕ). P n x) k (from_parts (a + 1) xs i x h.1 (omega arith) e)

  pub parts_of : (xs : List X) (i : ℕ) (x : X) → AreFrom P 0 xs → i < length xs → x ≡ get_or xs i x → P i x
  parts_of xs i x h lt e = let k : 0 + i ≡ i = omega arith in subst (λ (n : ℕ). P n x) k (from_parts 0 xs i x h lt e)

-- a weaker fact of each node
pub from_more : {X : Type 0} (P Q : ℕ → X → Type 0) → ((n : ℕ) (x : X) → P n x → Q n x) → (a : ℕ) (xs : List X) → AreFrom P a xs → AreFrom Q a xs
from_more P Q more a [] h = tt
from_more P Q more a (x ∷ xs) h = (more a x h.0, from_more P Q more (a + 1) xs h.1)

-- a list before and behind the node at a place
record Split {X : Type 0} (xs : List X) (i : ℕ) (x : X) : Type 0 where
  front : List X
  back : List X
  is : xs ≡ front ++ x ∷ back
  place : length front ≡ i

split : {X : Type 0} (xs : List X) (i : ℕ) (x : X) → i < length xs → x ≡ get_or xs i x → Split xs i x
split [] i x lt e = absurd (omega arith)
split {X} (y ∷ xs) zero x lt e = record { front = []; back = xs; is = ap (λ (z : X). z ∷ xs) (sym e); place = refl }
split {X} (y ∷ xs) (suc i) x lt e =
    let h : Split xs i x = split xs i x (omega arith) e in
    record { front = y ∷ h.front; back = h.back; is = ap (λ (zs : List X). y ∷ zs) h.is; place = ap suc h.place }

-- the tree of the node at a place, where it depends on those of earlier ones alone
pub tree_at : {X T : Type 0} (d : T) (f : (ℕ → T) → X → T) (xs : List X) (i : ℕ) (x : X) → ((s t : ℕ → T) → ((j : ℕ) → j < i → s j ≡ t j) → f s x ≡ f t x) → i < length xs → x ≡ get_or xs i x → tree_in d (grow d f [] xs) i ≡ f (tree_in d (grow d f [] xs)) x
tree_at {X} {T} d f xs i x same lt e =
    let h : Split xs i x = split xs i x lt e in
    let place : length h.front ≡ i = h.place in
    let through : xs ≡ (h.front ++ x ∷ []) ++ h.back = h.is ∙ sym (append_assoc h.front (x ∷ []) h.back) in
    let before : (j : ℕ) → j < i → tree_in d (grow d f [] h.front) j ≡ tree_in d (grow d f [] xs) j = λ j less. sym (ap (λ (ys : List X). tree_in d (grow d f [] ys) j) h.is ∙ kept_before d f h.front (x ∷ h.back) j (omega arith)) in
    ap (λ (ys : List X). tree_in d (grow d f [] ys) i) through
    ∙ kept_before d f (h.front ++ x ∷ []) h.back i (omega (arith, length-append h.front (x ∷ [])))
    ∙ added_last d f h.front x i (sym place)
    ∙ same (tree_in d (grow d f [] h.front)) (tree_in d (grow d f [] xs)) before
