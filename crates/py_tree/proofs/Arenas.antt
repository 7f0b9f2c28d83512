-- The trees of a module that grows.
use Rattle.std.proofs.Common.{◌≡◌, ℕ, ◌<◌, ◌≤◌, List, [], ◌∷◌, ◌++◌, length, get_or, Option, refl, sym, ap, subst, arith, ◌∙◌, append_assoc, append-nil, length-append}
use Rattle.std.proofs.lemmas.List.{get_or_append_left}
use Rattle.spec_trees.specs.Expr as tree
use Rattle.spec_trees.specs.Expr.{Expr}
use Rattle.spec_trees.specs.Stmt as types
use Rattle.spec_trees.specs.Stmt.{TypeExpr}
use Rattle.py_tree.specs.declared.ids.NameId.{NameId}
use Rattle.py_tree.specs.declared.ids.ExprId.{ExprId}
use Rattle.py_tree.specs.declared.ids.TypeId.{TypeId}
use Rattle.py_tree.specs.declared.ids.StmtId.{StmtId}
use Rattle.py_tree.specs.declared.exprs.Pair.{Pair}
use Rattle.py_tree.specs.declared.exprs.Link.{Link}
use Rattle.py_tree.specs.declared.exprs.Argument.{Argument}
use Rattle.py_tree.specs.declared.exprs.GeneratorNode.{GeneratorNode}
use Rattle.py_tree.specs.declared.exprs.ArgumentsNode.{ArgumentsNode}
use Rattle.py_tree.specs.declared.exprs.ExprNode.{ExprNode}
use Rattle.py_tree.specs.declared.types.TypeNode.{TypeNode}
use Rattle.py_tree.specs.declared.stmts.StmtNode.{StmtNode}
use Rattle.py_tree.specs.Names.{with_name}
use Rattle.py_tree.specs.Growing.{grow, tree_in}
use Rattle.py_tree.specs.Exprs.{items_tree, pairs_tree, links_tree, bound_tree, name_of, argument_list_tree, generator_tree, arguments_tree, node_tree, AreItemsBelow, ArePairsBelow, AreLinksBelow, IsBoundBelow, IsNameBelow, AreArgumentsBelow, IsGeneratorBelow, IsCallBelow, ArePartsBelow}
use Rattle.py_tree.specs.Types.{types_tree, optional_type, type_tree, AreTypesBelow, IsTypeBelow, AreTypePartsBelow}
use Rattle.py_tree.specs.Arena.{State, ArePartsThere, AreTypePartsThere, IsModule, shown, shown_type, Extends}
use Rattle.py_tree.proofs.Names.{with_name_more}
use Rattle.py_tree.proofs.Growing.{kept_before, added_last, grow_same, parts_of, tree_at}
use Rattle.py_tree.proofs.Nodes.{items_same, pairs_same, links_same, bound_same, name_same, arguments_same, generator_same, call_same, tree_same, parts_more}
use Rattle.py_tree.proofs.TypeNodes.{types_same, optional_type_same, type_tree_same, type_parts_more}

-- a module stands in itself
pub extends_same : (m : State) → Extends m m
extends_same m = record {
  more_names = [];
  names = sym (append-nil m.names);
  more_lists = [];
  lists = sym (append-nil m.lists);
  more_exprs = [];
  exprs = sym (append-nil m.exprs);
  more_types = [];
  types = sym (append-nil m.types);
  more_stmts = [];
  stmts = sym (append-nil m.stmts);
  more_tops = [];
  tops = sym (append-nil m.tops);
}

-- and in an equal one
pub extends_equal : (m n : State) → n ≡ m → Extends m n
extends_equal m n e = subst (λ (x : State). Extends m x) (sym e) (extends_same m)

-- one extension after another
pub extends_then : (l m n : State) → Extends l m → Extends m n → Extends l n
extends_then l m n p q = record {
  more_names = p.more_names ++ q.more_names;
  names = q.names ∙ ap (λ (x : List (List ℕ)). x ++ q.more_names) p.names ∙ append_assoc l.names p.more_names q.more_names;
  more_lists = p.more_lists ++ q.more_lists;
  lists = q.lists ∙ ap (λ (x : List (List NameId)). x ++ q.more_lists) p.lists ∙ append_assoc l.lists p.more_lists q.more_lists;
  more_exprs = p.more_exprs ++ q.more_exprs;
  exprs = q.exprs ∙ ap (λ (x : List ExprNode). x ++ q.more_exprs) p.exprs ∙ append_assoc l.exprs p.more_exprs q.more_exprs;
  more_types = p.more_types ++ q.more_types;
  types = q.types ∙ ap (λ (x : List TypeNode). x ++ q.more_types) p.types ∙ append_assoc l.types p.more_types q.more_types;
  more_stmts = p.more_stmts ++ q.more_stmts;
  stmts = q.stmts ∙ ap (λ (x : List StmtNode). x ++ q.more_stmts) p.stmts ∙ append_assoc l.stmts p.more_stmts q.more_stmts;
  more_tops = p.more_tops ++ q.more_tops;
  tops = q.tops ∙ ap (λ (x : List StmtId). x ++ q.more_tops) p.tops ∙ append_assoc l.tops p.more_tops q.more_tops;
}

-- what stands behind a list that stays
nothing : {X : Type 0} (xs : List X) → (more : List X) × (xs ≡ xs ++ more)
nothing xs = ([], sym (append-nil xs))

-- and behind one with one more
one : {X : Type 0} (xs : List X) (x : X) → (more : List X) × (xs ++ x ∷ [] ≡ xs ++ more)
one xs x = (x ∷ [], refl)

extends_of : (m n : State) → (more : List (List ℕ)) × (n.names ≡ m.names ++ more) → (more : List (List NameId)) × (n.lists ≡ m.lists ++ more) → (more : List ExprNode) × (n.exprs ≡ m.exprs ++ more) → (more : List TypeNode) × (n.types ≡ m.types ++ more) → (more : List StmtNode) × (n.stmts ≡ m.stmts ++ more) → (more : List StmtId) × (n.tops ≡ m.tops ++ more) → Extends m n
extends_of m n a b c d e f = record {
  more_names = a.0;
  names = a.1;
  more_lists = b.0;
  lists = b.1;
  more_exprs = c.0;
  exprs = c.1;
  more_types = d.0;
  types = d.1;
  more_stmts = e.0;
  stmts = e.1;
  more_tops = f.0;
  tops = f.1;
}

-- one more list of names
pub extends_list : (m n : State) (x : List NameId) → n ≡ record m { lists = m.lists ++ x ∷ [] } → Extends m n
extends_list m n x e = rw e (extends_of m _ (nothing m.names) (one m.lists x) (nothing m.exprs) (nothing m.types) (nothing m.stmts) (nothing m.tops))

-- one more node of an expression
pub extends_expr : (m n : State) (x : ExprNode) → n ≡ record m { exprs = m.exprs ++ x ∷ [] } → Extends m n
extends_expr m n x e = rw e (extends_of m _ (nothing m.names) (nothing m.lists) (one m.exprs x) (nothing m.types) (nothing m.stmts) (nothing m.tops))

-- of a type
pub extends_type : (m n : State) (x : TypeNode) → n ≡ record m { types = m.types ++ x ∷ [] } → Extends m n
extends_type m n x e = rw e (extends_of m _ (nothing m.names) (nothing m.lists) (nothing m.exprs) (one m.types x) (nothing m.stmts) (nothing m.tops))

-- of a statement
pub extends_stmt : (m n : State) (x : StmtNode) → n ≡ record m { stmts = m.stmts ++ x ∷ [] } → Extends m n
extends_stmt m n x e = rw e (extends_of m _ (nothing m.names) (nothing m.lists) (nothing m.exprs) (nothing m.types) (one m.stmts x) (nothing m.tops))

-- one more statement of the module itself
pub extends_top : (m n : State) (x : StmtId) → n ≡ record m { tops = m.tops ++ x ∷ [] } → Extends m n
extends_top m n x e = rw e (extends_of m _ (nothing m.names) (nothing m.lists) (nothing m.exprs) (nothing m.types) (nothing m.stmts) (one m.tops x))

-- one more name, where it is not there yet
pub extends_name : (m n : State) (t : List ℕ) → n ≡ record m { names = with_name m.names t } → Extends m n
extends_name m n t e = rw e (extends_of m _ (with_name_more m.names t) (nothing m.lists) (nothing m.exprs) (nothing m.types) (nothing m.stmts) (nothing m.tops))

-- an extension has as many names, or more
pub names_grow : (m n : State) → Extends m n → length m.names ≤ length n.names
names_grow m n h = omega (arith, ap length h.names, length-append m.names h.more_names)

-- as many lists of names
pub lists_grow : (m n : State) → Extends m n → length m.lists ≤ length n.lists
lists_grow m n h = omega (arith, ap length h.lists, length-append m.lists h.more_lists)

-- as many nodes of expressions
pub exprs_grow : (m n : State) → Extends m n → length m.exprs ≤ length n.exprs
exprs_grow m n h = omega (arith, ap length h.exprs, length-append m.exprs h.more_exprs)

-- of types
pub types_grow : (m n : State) → Extends m n → length m.types ≤ length n.types
types_grow m n h = omega (arith, ap length h.types, length-append m.types h.more_types)

-- and of statements
pub stmts_grow : (m n : State) → Extends m n → length m.stmts ≤ length n.stmts
stmts_grow m n h = omega (arith, ap length h.stmts, length-append m.stmts h.more_stmts)

-- a name keeps its text
pub text_kept : (m n : State) (i : ℕ) → Extends m n → i < length m.names → get_or n.names i [] ≡ get_or m.names i []
text_kept m n i h lt = ap (λ (x : List (List ℕ)). get_or x i []) h.names ∙ get_or_append_left m.names h.more_names [] i lt

-- a list keeps its names
pub list_kept : (m n : State) (i : ℕ) → Extends m n → i < length m.lists → get_or n.lists i [] ≡ get_or m.lists i []
list_kept m n i h lt = ap (λ (x : List (List NameId)). get_or x i []) h.lists ∙ get_or_append_left m.lists h.more_lists [] i lt

-- the tree of an expression that was there
pub shown_kept : (m n : State) (i : ℕ) → Extends m n → IsModule m → i < length m.exprs → shown n i ≡ shown m i
unfolding shown
shown_kept m n i h d lt =
    ap (λ (x : List ExprNode). tree_in (tree.none 0) (grow (tree.none 0) (node_tree n.names) [] x) i) h.exprs
    ∙ kept_before (tree.none 0) (node_tree n.names) m.exprs h.more_exprs i lt
    ∙ ap (λ (x : List Expr). tree_in (tree.none 0) x i) (grow_same (tree.none 0) (node_tree n.names) (node_tree m.names) (ArePartsBelow (length m.names)) (λ a t x p. tree_same (length m.names) a n.names m.names t t (λ j below. text_kept m n j h below) (λ j less. refl) x p) [] m.exprs d.exprs)

-- the tree of an expression that is added
pub shown_added : (m n : State) (x : ExprNode) (i : ℕ) → n ≡ record m { exprs = m.exprs ++ x ∷ [] } → i ≡ length m.exprs → shown n i ≡ node_tree m.names (shown m) x
unfolding shown
shown_added m n x i e at = ap (λ (s : State). tree_in (tree.none 0) (grow (tree.none 0) (node_tree s.names) [] s.exprs) i) e ∙ added_last (tree.none 0) (node_tree m.names) m.exprs x i at

-- the tree of a type that was there
pub shown_type_kept : (m n : State) (i : ℕ) → Extends m n → IsModule m → i < length m.types → shown_type n i ≡ shown_type m i
unfolding shown_type
shown_type_kept m n i h d lt =
    ap (λ (x : List TypeNode). tree_in (types.none 0) (grow (types.none 0) (type_tree n.names) [] x) i) h.types
    ∙ kept_before (types.none 0) (type_tree n.names) m.types h.more_types i lt
    ∙ ap (λ (x : List TypeExpr). tree_in (types.none 0) x i) (grow_same (types.none 0) (type_tree n.names) (type_tree m.names) (AreTypePartsBelow (length m.names)) (λ a t x p. type_tree_same (length m.names) a n.names m.names t t (λ j below. text_kept m n j h below) (λ j less. refl) x p) [] m.types d.types)

-- the tree of a type that is added
pub shown_type_added : (m n : State) (x : TypeNode) (i : ℕ) → n ≡ record m { types = m.types ++ x ∷ [] } → i ≡ length m.types → shown_type n i ≡ type_tree m.names (shown_type m) x
unfolding shown_type
shown_type_added m n x i e at = ap (λ (s : State). tree_in (types.none 0) (grow (types.none 0) (type_tree s.names) [] s.types) i) e ∙ added_last (types.none 0) (type_tree m.names) m.types x i at

-- parts that were there keep their trees
module _ (m n : State) (h : Extends m n) (d : IsModule m) where
  pub items_kept : (xs : List ExprId) → AreItemsBelow (length m.exprs) xs → items_tree (shown n) xs ≡ items_tree (shown m) xs
  items_kept xs p = items_same (length m.exprs) (shown n) (shown m) (λ i lt. shown_kept m n i h d lt) xs p

  pub pairs_kept : (xs : List Pair) → ArePairsBelow (length m.exprs) xs → pairs_tree (shown n) xs ≡ pairs_tree (shown m) xs
  pairs_kept xs p = pairs_same (length m.exprs) (shown n) (shown m) (λ i lt. shown_kept m n i h d lt) xs p

  pub links_kept : (xs : List Link) → AreLinksBelow (length m.exprs) xs → links_tree (shown n) xs ≡ links_tree (shown m) xs
  links_kept xs p = links_same (length m.exprs) (shown n) (shown m) (λ i lt. shown_kept m n i h d lt) xs p

  pub bound_kept : (x : Option ExprId) → IsBoundBelow (length m.exprs) x → bound_tree (shown n) x ≡ bound_tree (shown m) x
  bound_kept x p = bound_same (length m.exprs) (shown n) (shown m) (λ i lt. shown_kept m n i h d lt) x p

  pub name_kept : (x : Option NameId) → IsNameBelow (length m.names) x → name_of n.names x ≡ name_of m.names x
  name_kept x p = name_same (length m.names) n.names m.names (λ i lt. text_kept m n i h lt) x p

  pub arguments_kept : (xs : List Argument) → AreArgumentsBelow (length m.names) (length m.exprs) xs → argument_list_tree n.names (shown n) xs ≡ argument_list_tree m.names (shown m) xs
  arguments_kept xs p = arguments_same (length m.names) (length m.exprs) n.names m.names (shown n) (shown m) (λ i lt. text_kept m n i h lt) (λ i lt. shown_kept m n i h d lt) xs p

  pub generator_kept : (x : GeneratorNode) → IsGeneratorBelow (length m.names) (length m.exprs) x → generator_tree n.names (shown n) x ≡ generator_tree m.names (shown m) x
  generator_kept x p = generator_same (length m.names) (length m.exprs) n.names m.names (shown n) (shown m) (λ i lt. text_kept m n i h lt) (λ i lt. shown_kept m n i h d lt) x p

  pub call_kept : (x : ArgumentsNode) → IsCallBelow (length m.names) (length m.exprs) x → arguments_tree n.names (shown n) x ≡ arguments_tree m.names (shown m) x
  call_kept x p = call_same (length m.names) (length m.exprs) n.names m.names (shown n) (shown m) (λ i lt. text_kept m n i h lt) (λ i lt. shown_kept m n i h d lt) x p

  pub node_kept : (x : ExprNode) → ArePartsThere m x → node_tree n.names (shown n) x ≡ node_tree m.names (shown m) x
  node_kept x p = tree_same (length m.names) (length m.exprs) n.names m.names (shown n) (shown m) (λ i lt. text_kept m n i h lt) (λ i lt. shown_kept m n i h d lt) x p

  pub types_kept : (xs : List TypeId) → AreTypesBelow (length m.types) xs → types_tree (shown_type n) xs ≡ types_tree (shown_type m) xs
  types_kept xs p = types_same (length m.types) (shown_type n) (shown_type m) (λ i lt. shown_type_kept m n i h d lt) xs p

  pub optional_type_kept : (x : Option TypeId) → IsTypeBelow (length m.types) x → optional_type (shown_type n) x ≡ optional_type (shown_type m) x
  optional_type_kept x p = optional_type_same (length m.types) (shown_type n) (shown_type m) (λ i lt. shown_type_kept m n i h d lt) x p

  pub type_node_kept : (x : TypeNode) → AreTypePartsThere m x → type_tree n.names (shown_type n) x ≡ type_tree m.names (shown_type m) x
  type_node_kept x p = type_tree_same (length m.names) (length m.types) n.names m.names (shown_type n) (shown_type m) (λ i lt. text_kept m n i h lt) (λ i lt. shown_type_kept m n i h d lt) x p

-- the parts of an expression that were there
pub parts_there : (m n : State) (x : ExprNode) → Extends m n → ArePartsThere m x → ArePartsThere n x
parts_there m n x h p = parts_more (length m.names) (length n.names) (length m.exprs) (length n.exprs) x (names_grow m n h) (exprs_grow m n h) p

-- the parts of a type that were there
pub type_parts_there : (m n : State) (x : TypeNode) → Extends m n → AreTypePartsThere m x → AreTypePartsThere n x
type_parts_there m n x h p = type_parts_more (length m.names) (length n.names) (length m.types) (length n.types) x (names_grow m n h) (types_grow m n h) p

-- the parts of an expression of a module are before it
pub parts_at : (m : State) (i : ℕ) (x : ExprNode) → IsModule m → i < length m.exprs → x ≡ get_or m.exprs i x → ArePartsBelow (length m.names) i x
parts_at m i x d lt e = parts_of (ArePartsBelow (length m.names)) m.exprs i x d.exprs lt e

-- and those of a type
pub type_parts_at : (m : State) (i : ℕ) (x : TypeNode) → IsModule m → i < length m.types → x ≡ get_or m.types i x → AreTypePartsBelow (length m.names) i x
type_parts_at m i x d lt e = parts_of (AreTypePartsBelow (length m.names)) m.types i x d.types lt e

-- the tree of an expression of a module
pub shown_at : (m : State) (i : ℕ) (x : ExprNode) → IsModule m → i < length m.exprs → x ≡ get_or m.exprs i x → shown m i ≡ node_tree m.names (shown m) x
unfolding shown
shown_at m i x d lt e = tree_at (tree.none 0) (node_tree m.names) m.exprs i x (λ s t same. tree_same (length m.names) i m.names m.names s t (λ j below. refl) same x (parts_at m i x d lt e)) lt e

-- the tree of a type of a module
pub shown_type_at : (m : State) (i : ℕ) (x : TypeNode) → IsModule m → i < length m.types → x ≡ get_or m.types i x → shown_type m i ≡ type_tree m.names (shown_type m) x
unfolding shown_type
shown_type_at m i x d lt e = tree_at (types.none 0) (type_tree m.names) m.types i x (λ s t same. type_tree_same (length m.names) i m.names m.names s t (λ j below. refl) same x (type_parts_at m i x d lt e)) lt e
