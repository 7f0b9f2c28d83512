-- The trees of statements, and modules that grow.
use Rattle.std.proofs.Common.{◌≡◌, ℕ, zero, suc, ◌<◌, ◌≤◌, List, [], ◌∷◌, ◌++◌, length, map, get_or, refl, sym, ap, subst, arith, ◌∙◌}
use Rattle.std.proofs.lemmas.List.{length-map, get_or-map}
use Rattle.spec_trees.specs.Stmt as simple
use Rattle.spec_trees.specs.Module as tree
use Rattle.spec_trees.specs.Module.{Statement}
use Rattle.py_tree.specs.declared.ids.NameId.{NameId}
use Rattle.py_tree.specs.declared.ids.StmtId.{StmtId}
use Rattle.py_tree.specs.declared.exprs.ExprNode.{ExprNode}
use Rattle.py_tree.specs.declared.types.TypeNode.{TypeNode}
use Rattle.py_tree.specs.declared.stmts.StmtNode.{StmtNode}
use Rattle.py_tree.specs.Names.{with_name, AreNamesBelow, AreListsBelow}
use Rattle.py_tree.specs.Growing.{grow, tree_in, AreFrom}
use Rattle.py_tree.specs.Exprs.{ArePartsBelow}
use Rattle.py_tree.specs.Types.{AreTypePartsBelow}
use Rattle.py_tree.specs.Stmts.{stmt_tree, block_tree, AreStmtsBelow, AreStmtPartsBelow, AreStmtPartsThere}
use Rattle.py_tree.specs.Arena.{State, ArePartsThere, AreTypePartsThere, IsModule, shown_stmt, Extends}
use Rattle.py_tree.proofs.Names.{IsAdded}
use Rattle.py_tree.proofs.Growing.{kept_before, added_last, grow_same, from_push, from_more, parts_of, tree_at}
use Rattle.py_tree.proofs.Nodes.{parts_more}
use Rattle.py_tree.proofs.TypeNodes.{type_parts_more}
use Rattle.py_tree.proofs.Arenas.{extends_same, extends_name, extends_list, extends_expr, extends_type, extends_stmt, extends_top, names_grow, stmts_grow}
use Rattle.py_tree.proofs.StmtNodes.{block_same, stmt_tree_same, stmt_parts_more, stmts_more, stmts_push}

-- the tree of a statement that was there
pub shown_stmt_kept : (m n : State) (i : ℕ) → Extends m n → IsModule m → i < length m.stmts → shown_stmt n i ≡ shown_stmt m i
unfolding shown_stmt
shown_stmt_kept m n i h d lt =
    ap (λ (x : List StmtNode). tree_in (tree.simple (simple.pass 0)) (grow (tree.simple (simple.pass 0)) (stmt_tree n) [] x) i) h.stmts
    ∙ kept_before (tree.simple (simple.pass 0)) (stmt_tree n) m.stmts h.more_stmts i lt
    ∙ ap (λ (x : List Statement). tree_in (tree.simple (simple.pass 0)) x i) (grow_same (tree.simple (simple.pass 0)) (stmt_tree n) (stmt_tree m) (AreStmtPartsBelow m) (λ a t x p. stmt_tree_same m n h d a t t (λ j less. refl) x p) [] m.stmts d.stmts)

-- a statement that is there does not depend on those behind it
stmts_added : (m n : State) (x : StmtNode) (i : ℕ) → Extends m n → IsModule m → AreStmtPartsThere m x → n.stmts ≡ m.stmts ++ x ∷ [] → i ≡ length m.stmts → shown_stmt n i ≡ stmt_tree m (shown_stmt m) x
unfolding shown_stmt
stmts_added m n x i h d p e at =
    let same : grow (tree.simple (simple.pass 0)) (stmt_tree n) [] m.stmts ≡ grow (tree.simple (simple.pass 0)) (stmt_tree m) [] m.stmts = grow_same (tree.simple (simple.pass 0)) (stmt_tree n) (stmt_tree m) (AreStmtPartsBelow m) (λ a t y q. stmt_tree_same m n h d a t t (λ j less. refl) y q) [] m.stmts d.stmts in
    ap (λ (xs : List StmtNode). tree_in (tree.simple (simple.pass 0)) (grow (tree.simple (simple.pass 0)) (stmt_tree n) [] xs) i) e
    ∙ added_last (tree.simple (simple.pass 0)) (stmt_tree n) m.stmts x i at
    ∙ stmt_tree_same m n h d (length m.stmts) (tree_in (tree.simple (simple.pass 0)) (grow (tree.simple (simple.pass 0)) (stmt_tree n) [] m.stmts)) (tree_in (tree.simple (simple.pass 0)) (grow (tree.simple (simple.pass 0)) (stmt_tree m) [] m.stmts)) (λ j less. ap (λ (ts : List Statement). tree_in (tree.simple (simple.pass 0)) ts j) same) x p

-- the tree of a statement that is added
pub shown_stmt_added : (m n : State) (x : StmtNode) (i : ℕ) → IsModule m → AreStmtPartsThere m x → n ≡ record m { stmts = m.stmts ++ x ∷ [] } → i ≡ length m.stmts → shown_stmt n i ≡ stmt_tree m (shown_stmt m) x
shown_stmt_added m n x i d p e at = stmts_added m n x i (extends_stmt m n x e) d p (ap (λ (s : State). s.stmts) e) at

-- parts that were there keep their trees
module _ (m n : State) (h : Extends m n) (d : IsModule m) where
  pub block_kept : (xs : List StmtId) → AreStmtsBelow (length m.stmts) xs → block_tree (shown_stmt n) xs ≡ block_tree (shown_stmt m) xs
  block_kept xs p = block_same (length m.stmts) (shown_stmt n) (shown_stmt m) (λ i lt. shown_stmt_kept m n i h d lt) xs p

  pub stmt_node_kept : (x : StmtNode) → AreStmtPartsThere m x → stmt_tree n (shown_stmt n) x ≡ stmt_tree m (shown_stmt m) x
  stmt_node_kept x p = stmt_tree_same m n h d (length m.stmts) (shown_stmt n) (shown_stmt m) (λ i lt. shown_stmt_kept m n i h d lt) x p

-- the parts of a statement that were there
pub stmt_parts_there : (m n : State) (x : StmtNode) → Extends m n → AreStmtPartsThere m x → AreStmtPartsThere n x
stmt_parts_there m n x h p = stmt_parts_more m n h (length m.stmts) (length n.stmts) (stmts_grow m n h) x p

-- the parts of a statement of a module are before it
pub stmt_parts_at : (m : State) (i : ℕ) (x : StmtNode) → IsModule m → i < length m.stmts → x ≡ get_or m.stmts i x → AreStmtPartsBelow m i x
stmt_parts_at m i x d lt e = parts_of (AreStmtPartsBelow m) m.stmts i x d.stmts lt e

-- the tree of a statement of a module
pub shown_stmt_at : (m : State) (i : ℕ) (x : StmtNode) → IsModule m → i < length m.stmts → x ≡ get_or m.stmts i x → shown_stmt m i ≡ stmt_tree m (shown_stmt m) x
unfolding shown_stmt
shown_stmt_at m i x d lt e = tree_at (tree.simple (simple.pass 0)) (stmt_tree m) m.stmts i x (λ s t same. stmt_tree_same m m (extends_same m) d i s t same x (stmt_parts_at m i x d lt e)) lt e

-- the names of lists are there where more names are
names_more : (a b : ℕ) (xs : List NameId) → a ≤ b → AreNamesBelow a xs → AreNamesBelow b xs
names_more a b [] le h = tt
names_more a b (x ∷ xs) le h = (omega arith, names_more a b xs le h.1)

lists_more : (a b : ℕ) (ls : List (List NameId)) → a ≤ b → AreListsBelow a ls → AreListsBelow b ls
lists_more a b [] le h = tt
lists_more a b (l ∷ ls) le h = (names_more a b l le h.0, lists_more a b ls le h.1)

lists_push : (a : ℕ) (ls : List (List NameId)) (l : List NameId) → AreListsBelow a ls → AreNamesBelow a l → AreListsBelow a (ls ++ l ∷ [])
lists_push a [] l h p = (p, tt)
lists_push a (k ∷ ls) l h p = (h.0, lists_push a ls l h.1 p)

-- what holds of a module holds where it is extended
module _ (m n : State) (h : Extends m n) (d : IsModule m) where
  exprs_in : AreFrom (ArePartsBelow (length n.names)) 0 m.exprs
  exprs_in = from_more (ArePartsBelow (length m.names)) (ArePartsBelow (length n.names)) (λ a x p. parts_more (length m.names) (length n.names) a a x (names_grow m n h) (omega arith) p) 0 m.exprs d.exprs

  types_in : AreFrom (AreTypePartsBelow (length n.names)) 0 m.types
  types_in = from_more (AreTypePartsBelow (length m.names)) (AreTypePartsBelow (length n.names)) (λ a x p. type_parts_more (length m.names) (length n.names) a a x (names_grow m n h) (omega arith) p) 0 m.types d.types

  stmts_in : AreFrom (AreStmtPartsBelow n) 0 m.stmts
  stmts_in = from_more (AreStmtPartsBelow m) (AreStmtPartsBelow n) (λ a x p. stmt_parts_more m n h a a (omega arith) x p) 0 m.stmts d.stmts

-- a module and one more name
pub module_name : (m n : State) (t : List ℕ) (i : ℕ) → IsModule m → IsAdded m.names t i n.names → n ≡ record m { names = with_name m.names t } → IsModule n
module_name m n t i d a e =
    let h : Extends m n = extends_name m n t e in
    record {
      distinct = a.distinct d.distinct;
      lists = subst (λ (ls : List (List NameId)). AreListsBelow (length n.names) ls) (sym (ap (λ (s : State). s.lists) e)) (lists_more (length m.names) (length n.names) m.lists (names_grow m n h) d.lists);
      exprs = subst (λ (xs : List ExprNode). AreFrom (ArePartsBelow (length n.names)) 0 xs) (sym (ap (λ (s : State). s.exprs) e)) (exprs_in m n h d);
      types = subst (λ (xs : List TypeNode). AreFrom (AreTypePartsBelow (length n.names)) 0 xs) (sym (ap (λ (s : State). s.types) e)) (types_in m n h d);
      stmts = subst (λ (xs : List StmtNode). AreFrom (AreStmtPartsBelow n) 0 xs) (sym (ap (λ (s : State). s.stmts) e)) (stmts_in m n h d);
      tops = rw e d.tops;
    }

-- one more list of names
pub module_list : (m n : State) (x : List NameId) → IsModule m → AreNamesBelow (length m.names) x → n ≡ record m { lists = m.lists ++ x ∷ [] } → IsModule n
module_list m n x d p e = rw e (record {
  distinct = d.distinct;
  lists = lists_push (length m.names) m.lists x d.lists p;
  exprs = d.exprs;
  types = d.types;
  stmts = stmts_in m _ (extends_list m (record m { lists = m.lists ++ x ∷ [] }) x refl) d;
  tops = d.tops;
})

-- one more expression
pub module_expr : (m n : State) (x : ExprNode) → IsModule m → ArePartsThere m x → n ≡ record m { exprs = m.exprs ++ x ∷ [] } → IsModule n
module_expr m n x d p e = rw e (record {
  distinct = d.distinct;
  lists = d.lists;
  exprs = from_push (ArePartsBelow (length m.names)) m.exprs x d.exprs p;
  types = d.types;
  stmts = stmts_in m _ (extends_expr m (record m { exprs = m.exprs ++ x ∷ [] }) x refl) d;
  tops = d.tops;
})

-- one more type
pub module_type : (m n : State) (x : TypeNode) → IsModule m → AreTypePartsThere m x → n ≡ record m { types = m.types ++ x ∷ [] } → IsModule n
module_type m n x d p e = rw e (record {
  distinct = d.distinct;
  lists = d.lists;
  exprs = d.exprs;
  types = from_push (AreTypePartsBelow (length m.names)) m.types x d.types p;
  stmts = stmts_in m _ (extends_type m (record m { types = m.types ++ x ∷ [] }) x refl) d;
  tops = d.tops;
})

-- one more statement
pub module_stmt : (m n : State) (x : StmtNode) → IsModule m → AreStmtPartsThere m x → n ≡ record m { stmts = m.stmts ++ x ∷ [] } → IsModule n
module_stmt m n x d p e =
    let k : State = record m { stmts = m.stmts ++ x ∷ [] } in
    let h : Extends m k = extends_stmt m k x refl in
    let q : AreStmtPartsBelow k (length m.stmts) x = stmt_parts_more m k h (length m.stmts) (length m.stmts) (omega arith) x p in
    rw e (record {
      distinct = d.distinct;
      lists = d.lists;
      exprs = d.exprs;
      types = d.types;
      stmts = from_push (AreStmtPartsBelow k) m.stmts x (stmts_in m k h d) q;
      tops = stmts_more (length m.stmts) (length k.stmts) (stmts_grow m k h) m.tops d.tops;
    })

-- one more statement of the module itself
pub module_top : (m n : State) (x : StmtId) → IsModule m → x.index < length m.stmts → n ≡ record m { tops = m.tops ++ x ∷ [] } → IsModule n
module_top m n x d lt e = rw e (record {
  distinct = d.distinct;
  lists = d.lists;
  exprs = d.exprs;
  types = d.types;
  stmts = stmts_in m _ (extends_top m (record m { tops = m.tops ++ x ∷ [] }) x refl) d;
  tops = stmts_push (length m.stmts) m.tops x d.tops lt;
})

-- the statement at a place is there
stmt_below : (n : ℕ) (xs : List StmtId) (i : ℕ) (d : StmtId) → AreStmtsBelow n xs → i < length xs → (get_or xs i d).index < n
stmt_below n [] i d h lt = absurd (omega arith)
stmt_below n (x ∷ xs) zero d h lt = h.0
stmt_below n (x ∷ xs) (suc i) d h lt = stmt_below n xs i d h.1 (omega arith)

-- the name at a place is there
name_below : (n : ℕ) (xs : List NameId) (i : ℕ) (d : NameId) → AreNamesBelow n xs → i < length xs → (get_or xs i d).index < n
name_below n [] i d h lt = absurd (omega arith)
name_below n (x ∷ xs) zero d h lt = h.0
name_below n (x ∷ xs) (suc i) d h lt = name_below n xs i d h.1 (omega arith)

-- and so where it was read
pub stmt_found : (n : ℕ) (xs : List StmtId) (i : ℕ) (x : StmtId) → AreStmtsBelow n xs → i < length xs → x ≡ get_or xs i x → x.index < n
stmt_found n xs i x h lt e = subst (λ (y : StmtId). y.index < n) (sym e) (stmt_below n xs i x h lt)

pub name_found : (n : ℕ) (xs : List NameId) (i : ℕ) (x : NameId) → AreNamesBelow n xs → i < length xs → x ≡ get_or xs i x → x.index < n
name_found n xs i x h lt e = subst (λ (y : NameId). y.index < n) (sym e) (name_below n xs i x h lt)

-- what is shown of the item at a place
pub item_at : {X Y : Type 0} (f : X → Y) (xs : List X) (i : ℕ) (x : X) (e : Y) → x ≡ get_or xs i x → i < length (map f xs) → f x ≡ get_or (map f xs) i e
item_at f xs i x e is lt = let within : i < length xs = omega (arith, length-map xs f) in ap f is ∙ sym (get_or-map f xs i x e within)
