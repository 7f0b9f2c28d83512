-- The trees of an arena that grows.
use Rattle.std.proofs.Common.{◌≡◌, ℕ, zero, suc, ◌+◌, ◌<◌, ◌≤◌, List, [], ◌∷◌, ◌++◌, length, get_or, refl, sym, ap, subst, arith, ◌∙◌, append_assoc, append-nil, length-append}
use Rattle.std.proofs.lemmas.List.{get_or_append_left, get_or_at}
use Rattle.spec_first_trees.specs.Expr.{Expr, integer}
use Rattle.first_tree.specs.declared.nodes.ExprNode.{ExprNode}
use Rattle.first_tree.specs.declared.nodes.ExprNode.TheVariants as node
use Rattle.first_tree.specs.declared.nodes.FnNode.{FnNode}
use Rattle.first_tree.specs.Arena.{ArePartsBelow, AreFrom, IsArena, IsFunctionBelow, AreFunctionsBelow, node_tree, tree_in, grow, shown, Extends}

-- a list stands in itself
pub extends_same : (ns : List ExprNode) → Extends ns ns
extends_same ns = record { more = []; is = sym (append-nil ns) }

-- one extension after another
pub extends_then : (xs ys zs : List ExprNode) → Extends xs ys → Extends ys zs → Extends xs zs
extends_then xs ys zs p q = record { more = p.more ++ q.more; is = q.is ∙ ap (λ (x : List ExprNode). x ++ q.more) p.is ∙ append_assoc xs p.more q.more }

-- one more node
pub extends_push : (xs ys : List ExprNode) (n : ExprNode) → ys ≡ xs ++ n ∷ [] → Extends xs ys
extends_push xs ys n e = record { more = n ∷ []; is = e }

-- an extension has as many nodes, or more
pub extends_length : (xs ys : List ExprNode) → Extends xs ys → length xs ≤ length ys
extends_length xs ys h = omega (arith, ap length h.is, length-append xs h.more)

-- growing adds a tree for each node
length_grow : (ts : List Expr) (ns : List ExprNode) → length (grow ts ns) ≡ length ts + length ns
length_grow ts [] = omega arith
length_grow ts (n ∷ ns) = omega (arith, length_grow (ts ++ node_tree (tree_in ts) n ∷ []) ns, length-append ts (node_tree (tree_in ts) n ∷ []))

-- growing goes from the left to the right
grow_append : (ts : List Expr) (ms ns : List ExprNode) → grow ts (ms ++ ns) ≡ grow (grow ts ms) ns
grow_append ts [] ns = refl
grow_append ts (m ∷ ms) ns = grow_append (ts ++ node_tree (tree_in ts) m ∷ []) ms ns

-- growing keeps the trees that are there
grow_keeps : (ts : List Expr) (ns : List ExprNode) (i : ℕ) → i < length ts → tree_in (grow ts ns) i ≡ tree_in ts i
grow_keeps ts [] i lt = refl
grow_keeps ts (n ∷ ns) i lt = grow_keeps (ts ++ node_tree (tree_in ts) n ∷ []) ns i (omega (arith, length-append ts (node_tree (tree_in ts) n ∷ []))) ∙ get_or_append_left ts (node_tree (tree_in ts) n ∷ []) (integer 0) i lt

-- the tree of a node that was there
pub shown_kept : (ms ns : List ExprNode) (i : ℕ) → Extends ms ns → i < length ms → shown ns i ≡ shown ms i
unfolding shown
shown_kept ms ns i h lt = rw (h.is, grow_append [] ms h.more) (grow_keeps (grow [] ms) h.more i (omega (arith, length_grow [] ms)))

-- the tree of a node that is added
pub shown_added : (ns : List ExprNode) (n : ExprNode) (i : ℕ) → i ≡ length ns → shown (ns ++ n ∷ []) i ≡ node_tree (shown ns) n
unfolding shown
shown_added ns n i e = rw (grow_append [] ns (n ∷ [])) (get_or_at (grow [] ns) (node_tree (tree_in (grow [] ns)) n) [] (integer 0) i (omega (arith, length_grow [] ns)))

-- the parts below a place, at an equal one
parts_moved : (a b : ℕ) (n : ExprNode) → a ≡ b → ArePartsBelow a n → ArePartsBelow b n
parts_moved a b n e h = subst (λ (k : ℕ). ArePartsBelow k n) e h

-- nodes and one more, whose parts are before it
from_push : (k : ℕ) (ns : List ExprNode) (n : ExprNode) → AreFrom k ns → ArePartsBelow (k + length ns) n → AreFrom k (ns ++ n ∷ [])
from_push k [] n h d = (parts_moved (k + 0) k n (omega arith) d, tt)
from_push k (m ∷ ns) n h d = (h.0, from_push (k + 1) ns n h.1 (parts_moved (k + length (m ∷ ns)) (k + 1 + length ns) n (omega arith) d))

-- an arena and one more node, whose parts are there
pub arena_push : (ns ms : List ExprNode) (n : ExprNode) → IsArena ns → ArePartsBelow (length ns) n → ms ≡ ns ++ n ∷ [] → IsArena ms
arena_push ns ms n h d e = rw e (from_push 0 ns n h (parts_moved (length ns) (0 + length ns) n (omega arith) d))

-- the parts of the node at a place of nodes
from_parts : (k : ℕ) (ns : List ExprNode) (i : ℕ) (n : ExprNode) → AreFrom k ns → i < length ns → n ≡ get_or ns i n → ArePartsBelow (k + i) n
from_parts k [] i n h lt e = absurd (omega arith)
from_parts k (m ∷ ns) zero n h lt e = parts_moved k (k + 0) n (omega arith) (subst (λ (x : ExprNode). ArePartsBelow k x) (sym e) h.0)
from_parts k (m ∷ ns) (suc i) n h lt e = parts_moved (k + 1 + i) (k + suc i) n (omega arith) (from_parts (k + 1) ns i n h.1 (omega arith) e)

-- the parts of a node of an arena are before it
pub parts_at : (ns : List ExprNode) (i : ℕ) (n : ExprNode) → IsArena ns → i < length ns → n ≡ get_or ns i n → ArePartsBelow i n
parts_at ns i n h lt e = parts_moved (0 + i) i n (omega arith) (from_parts 0 ns i n h lt e)

-- a list before and behind the node at a place
record Split (ns : List ExprNode) (i : ℕ) (n : ExprNode) : Type 0 where
  front : List ExprNode
  back : List ExprNode
  is : ns ≡ front ++ n ∷ back
  place : length front ≡ i

split : (ns : List ExprNode) (i : ℕ) (n : ExprNode) → i < length ns → n ≡ get_or ns i n → Split ns i n
split [] i n lt e = absurd (omega arith)
split (m ∷ ns) zero n lt e = record { front = []; back = ns; is = ap (λ (x : ExprNode). x ∷ ns) (sym e); place = refl }
split (m ∷ ns) (suc i) n lt e =
    let h : Split ns i n = split ns i n (omega arith) e in
    record { front = m ∷ h.front; back = h.back; is = ap (λ (x : List ExprNode). m ∷ x) h.is; place = ap suc h.place }

-- the tree of a node depends on those of its parts alone
tree_same : (f g : ℕ → Expr) (n : ExprNode) (i : ℕ) → ArePartsBelow i n → ((j : ℕ) → j < i → f j ≡ g j) → node_tree f n ≡ node_tree g n
tree_same f g (node.Name x l) i d h = refl
tree_same f g (node.Int v l) i d h = refl
tree_same f g (node.Binary op a b l) i d h = rw (h a.index d.0, h b.index d.1) refl
tree_same f g (node.Compare op a b l) i d h = rw (h a.index d.0, h b.index d.1) refl
tree_same f g (node.Group a l) i d h = rw (h a.index d) refl

-- the tree of a node of an arena
pub shown_at : (ns : List ExprNode) (i : ℕ) (n : ExprNode) → IsArena ns → i < length ns → n ≡ get_or ns i n → shown ns i ≡ node_tree (shown ns) n
shown_at ns i n a lt e =
    let h : Split ns i n = split ns i n lt e in
    let place : length h.front ≡ i = h.place in
    let through : Extends (h.front ++ n ∷ []) ns = record { more = h.back; is = h.is ∙ sym (append_assoc h.front (n ∷ []) h.back) } in
    let before : Extends h.front ns = record { more = n ∷ h.back; is = h.is } in
    let parts : ArePartsBelow i n = parts_at ns i n a lt e in
    let kept : shown ns i ≡ shown (h.front ++ n ∷ []) i = shown_kept (h.front ++ n ∷ []) ns i through (omega (arith, length-append h.front (n ∷ []))) in
    kept ∙ shown_added h.front n i (sym place) ∙ tree_same (shown h.front) (shown ns) n i parts (λ j less. sym (shown_kept h.front ns j before (omega arith)))

-- a function stands where there are more nodes
pub function_kept : (k j : ℕ) (f : FnNode) → k ≤ j → IsFunctionBelow k f → IsFunctionBelow j f
function_kept k j f le h = record {
  preconditions = λ i d lt. trans_lt k j _ (h.preconditions i d lt) le;
  posts = λ i d lt. trans_lt k j _ (h.posts i d lt) le;
  values = λ i d lt. trans_lt k j _ (h.values i d lt) le;
}
  where
    trans_lt : (k j i : ℕ) → i < k → k ≤ j → i < j
    trans_lt k j i lt le = omega arith

-- functions stand where there are more nodes
pub functions_kept : (k j : ℕ) (fs : List FnNode) → k ≤ j → AreFunctionsBelow k fs → AreFunctionsBelow j fs
functions_kept k j [] le h = tt
functions_kept k j (f ∷ fs) le h = (function_kept k j f le h.0, functions_kept k j fs le h.1)

-- functions and one more
pub functions_push : (k : ℕ) (fs gs : List FnNode) (f : FnNode) → AreFunctionsBelow k fs → IsFunctionBelow k f → gs ≡ fs ++ f ∷ [] → AreFunctionsBelow k gs
functions_push k fs gs f h d e = rw e (onto fs h)
  where
    onto : (xs : List FnNode) → AreFunctionsBelow k xs → AreFunctionsBelow k (xs ++ f ∷ [])
    onto [] i = (d, tt)
    onto (x ∷ xs) i = (i.0, onto xs i.1)

-- the function at a place
pub function_at : (k : ℕ) (fs : List FnNode) (i : ℕ) (f : FnNode) → AreFunctionsBelow k fs → i < length fs → f ≡ get_or fs i f → IsFunctionBelow k f
function_at k [] i f h lt e = absurd (omega arith)
function_at k (g ∷ fs) zero f h lt e = subst (λ (x : FnNode). IsFunctionBelow k x) (sym e) h.0
function_at k (g ∷ fs) (suc i) f h lt e = function_at k fs i f h.1 (omega arith) e
