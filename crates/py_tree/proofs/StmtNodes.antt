-- The trees of statements that are there depend on the trees and names of their parts alone.
use Rattle.std.proofs.Common.{◌≡◌, ℕ, zero, suc, ◌<◌, ◌≤◌, List, [], ◌∷◌, ◌++◌, length, map, get_or, refl, ap, arith, ◌∙◌, Option, Some, None}
use Rattle.spec_trees.specs.Expr.{Expr, Arguments}
use Rattle.spec_trees.specs.Module.{Statement}
use Rattle.py_tree.specs.declared.ids.NameId.{NameId}
use Rattle.py_tree.specs.declared.ids.NamesId.{NamesId}
use Rattle.py_tree.specs.declared.ids.ExprId.{ExprId}
use Rattle.py_tree.specs.declared.ids.StmtId.{StmtId}
use Rattle.py_tree.specs.declared.ids.TypeId.{TypeId}
use Rattle.py_tree.specs.declared.exprs.ArgumentsNode.{ArgumentsNode}
use Rattle.py_tree.specs.declared.stmts.ParameterNode.{ParameterNode}
use Rattle.py_tree.specs.declared.stmts.BranchNode.{BranchNode}
use Rattle.py_tree.specs.declared.stmts.HandlerNode.{HandlerNode}
use Rattle.py_tree.specs.declared.stmts.StmtNode.{StmtNode}
use Rattle.py_tree.specs.declared.stmts.StmtNode.TheVariants as node
use Rattle.py_tree.specs.Names.{text_of, AreNamesBelow, AreListsBelow}
use Rattle.py_tree.specs.Exprs.{IsBoundBelow}
use Rattle.py_tree.specs.Types.{IsTypeBelow}
use Rattle.py_tree.specs.Stmts.{texts_of, optional_expr, optional_arguments, parameters_tree, block_tree, branches_tree, handlers_tree, stmt_tree, AreStmtsBelow, IsCallThere, AreParametersThere, AreBranchesBelow, AreHandlersBelow, AreStmtPartsBelow}
use Rattle.py_tree.specs.Arena.{State, IsModule, Extends}
use Rattle.py_tree.proofs.Nodes.{bound_more, call_more}
use Rattle.py_tree.proofs.TypeNodes.{optional_type_more}
use Rattle.py_tree.proofs.Arenas.{names_grow, lists_grow, exprs_grow, types_grow, text_kept, list_kept, shown_kept, shown_type_kept, call_kept, optional_type_kept}

-- the names of a list that is there
pub list_at : (k : ℕ) (ls : List (List NameId)) (i : ℕ) → AreListsBelow k ls → i < length ls → AreNamesBelow k (get_or ls i [])
list_at k [] i h lt = absurd (omega arith)
list_at k (l ∷ ls) zero h lt = h.0
list_at k (l ∷ ls) (suc i) h lt = list_at k ls i h.1 (omega arith)

-- two ways to give the trees of the first n nodes
module _ (n : ℕ) (f g : ℕ → Statement) (trees : (i : ℕ) → i < n → f i ≡ g i) where
  pub block_same : (xs : List StmtId) → AreStmtsBelow n xs → block_tree f xs ≡ block_tree g xs
  block_same [] h = refl
  block_same (x ∷ xs) h = rw (trees x.index h.0, block_same xs h.1) refl

-- parts that were there keep their trees
module _ (m n : State) (e : Extends m n) (d : IsModule m) where
  texts_same : (xs : List NameId) → AreNamesBelow (length m.names) xs → map (text_of n.names) xs ≡ map (text_of m.names) xs
  texts_same [] h = refl
  texts_same (x ∷ xs) h = rw (text_kept m n x.index e h.0, texts_same xs h.1) refl

  pub texts_kept : (l : NamesId) → l.index < length m.lists → texts_of n l ≡ texts_of m l
  texts_kept l lt =
      ap (λ (xs : List NameId). map (text_of n.names) xs) (list_kept m n l.index e lt)
      ∙ texts_same (get_or m.lists l.index []) (list_at (length m.names) m.lists l.index d.lists lt)

  pub optional_expr_kept : (x : Option ExprId) → IsBoundBelow (length m.exprs) x → optional_expr n x ≡ optional_expr m x
  optional_expr_kept None h = refl
  optional_expr_kept (Some x) h = ap (λ (t : Expr). Some t) (shown_kept m n x.index e d h)

  pub optional_arguments_kept : (x : Option ArgumentsNode) → IsCallThere m x → optional_arguments n x ≡ optional_arguments m x
  optional_arguments_kept None h = refl
  optional_arguments_kept (Some x) h = ap (λ (t : Arguments). Some t) (call_kept m n e d x h)

  pub parameters_kept : (xs : List ParameterNode) → AreParametersThere m xs → parameters_tree n xs ≡ parameters_tree m xs
  parameters_kept [] h = refl
  parameters_kept (x ∷ xs) h = rw (text_kept m n x.name.index e h.0, optional_type_kept m n e d x.annotation h.1, optional_expr_kept x.default h.2, parameters_kept xs h.3) refl

  module _ (k : ℕ) (f g : ℕ → Statement) (trees : (i : ℕ) → i < k → f i ≡ g i) where
    pub branches_same : (xs : List BranchNode) → AreBranchesBelow m k xs → branches_tree n f xs ≡ branches_tree m g xs
    branches_same [] h = refl
    branches_same (x ∷ xs) h = rw (shown_kept m n x.condition.index e d h.0, block_same k f g trees x.body.items h.1, branches_same xs h.2) refl

    pub handlers_same : (xs : List HandlerNode) → AreHandlersBelow m k xs → handlers_tree n f xs ≡ handlers_tree m g xs
    handlers_same [] h = refl
    handlers_same (x ∷ xs) h = rw (texts_kept x.classes h.0, block_same k f g trees x.body.items h.1, handlers_same xs h.2) refl

    pub stmt_tree_same : (x : StmtNode) → AreStmtPartsBelow m k x → stmt_tree n f x ≡ stmt_tree m g x
    stmt_tree_same (node.Assign l a b) h = rw (shown_kept m n a.index e d h.0, shown_kept m n b.index e d h.1) refl
    stmt_tree_same (node.Annotate l a t b) h = rw (shown_kept m n a.index e d h.0, shown_type_kept m n t.index e d h.1, optional_expr_kept b h.2) refl
    stmt_tree_same (node.Augment l a o b) h = rw (shown_kept m n a.index e d h.0, shown_kept m n b.index e d h.1) refl
    stmt_tree_same (node.Evaluate l a) h = rw (shown_kept m n a.index e d h) refl
    stmt_tree_same (node.Return l a) h = rw (optional_expr_kept a h) refl
    stmt_tree_same (node.Pass l) h = refl
    stmt_tree_same (node.Break l) h = refl
    stmt_tree_same (node.Continue l) h = refl
    stmt_tree_same (node.Assert l a b) h = rw (shown_kept m n a.index e d h.0, optional_expr_kept b h.1) refl
    stmt_tree_same (node.Reraise l) h = refl
    stmt_tree_same (node.Raise l x xs) h = rw (text_kept m n x.index e h.0, optional_arguments_kept xs h.1) refl
    stmt_tree_same (node.Delete l a) h = rw (shown_kept m n a.index e d h) refl
    stmt_tree_same (node.Import l p) h = rw (texts_kept p h) refl
    stmt_tree_same (node.ImportFrom l x p) h = rw (text_kept m n x.index e h.0, texts_kept p h.1) refl
    stmt_tree_same (node.Def l z x ps r b) h = rw (text_kept m n x.index e h.0, parameters_kept ps.items h.1, optional_type_kept m n e d r h.2, block_same k f g trees b.items h.3) refl
    stmt_tree_same (node.Class l z x b) h = rw (text_kept m n x.index e h.0, block_same k f g trees b.items h.1) refl
    stmt_tree_same (node.If l c b bs o) h = rw (shown_kept m n c.index e d h.0, block_same k f g trees b.items h.1, branches_same bs.items h.2, block_same k f g trees o.items h.3) refl
    stmt_tree_same (node.While l c b o) h = rw (shown_kept m n c.index e d h.0, block_same k f g trees b.items h.1, block_same k f g trees o.items h.2) refl
    stmt_tree_same (node.For l x c b o) h = rw (text_kept m n x.index e h.0, shown_kept m n c.index e d h.1, block_same k f g trees b.items h.2, block_same k f g trees o.items h.3) refl
    stmt_tree_same (node.Try l b hs o) h = rw (block_same k f g trees b.items h.0, handlers_same hs.items h.1, block_same k f g trees o.items h.2) refl

-- statements that are among the first nodes are there where more of them are
module _ (a b : ℕ) (le : a ≤ b) where
  pub stmts_more : (xs : List StmtId) → AreStmtsBelow a xs → AreStmtsBelow b xs
  stmts_more [] h = tt
  stmts_more (x ∷ xs) h = (omega arith, stmts_more xs h.1)

-- the parts of a statement are there where more is
module _ (m n : State) (e : Extends m n) where
  call_there : (x : Option ArgumentsNode) → IsCallThere m x → IsCallThere n x
  call_there None h = tt
  call_there (Some x) h = call_more (length m.names) (length n.names) (length m.exprs) (length n.exprs) (names_grow m n e) (exprs_grow m n e) x h

  name_there : (i : ℕ) → i < length m.names → i < length n.names
  name_there i h = let le : length m.names ≤ length n.names = names_grow m n e in omega arith

  list_there : (i : ℕ) → i < length m.lists → i < length n.lists
  list_there i h = let le : length m.lists ≤ length n.lists = lists_grow m n e in omega arith

  expr_there : (i : ℕ) → i < length m.exprs → i < length n.exprs
  expr_there i h = let le : length m.exprs ≤ length n.exprs = exprs_grow m n e in omega arith

  type_there : (i : ℕ) → i < length m.types → i < length n.types
  type_there i h = let le : length m.types ≤ length n.types = types_grow m n e in omega arith

  bound_there : (x : Option ExprId) → IsBoundBelow (length m.exprs) x → IsBoundBelow (length n.exprs) x
  bound_there x h = bound_more (length m.exprs) (length n.exprs) (exprs_grow m n e) x h

  optional_type_there : (x : Option TypeId) → IsTypeBelow (length m.types) x → IsTypeBelow (length n.types) x
  optional_type_there x h = optional_type_more (length m.types) (length n.types) (types_grow m n e) x h

  pub parameters_there : (xs : List ParameterNode) → AreParametersThere m xs → AreParametersThere n xs
  parameters_there [] h = tt
  parameters_there (x ∷ xs) h = (name_there x.name.index h.0, optional_type_there x.annotation h.1, bound_there x.default h.2, parameters_there xs h.3)

  module _ (a b : ℕ) (le : a ≤ b) where
    pub branches_more : (xs : List BranchNode) → AreBranchesBelow m a xs → AreBranchesBelow n b xs
    branches_more [] h = tt
    branches_more (x ∷ xs) h = (expr_there x.condition.index h.0, stmts_more a b le x.body.items h.1, branches_more xs h.2)

    pub handlers_more : (xs : List HandlerNode) → AreHandlersBelow m a xs → AreHandlersBelow n b xs
    handlers_more [] h = tt
    handlers_more (x ∷ xs) h = (list_there x.classes.index h.0, stmts_more a b le x.body.items h.1, handlers_more xs h.2)

    pub stmt_parts_more : (x : StmtNode) → AreStmtPartsBelow m a x → AreStmtPartsBelow n b x
    stmt_parts_more (node.Assign l x y) h = (expr_there x.index h.0, expr_there y.index h.1)
    stmt_parts_more (node.Annotate l x t y) h = (expr_there x.index h.0, type_there t.index h.1, bound_there y h.2)
    stmt_parts_more (node.Augment l x o y) h = (expr_there x.index h.0, expr_there y.index h.1)
    stmt_parts_more (node.Evaluate l x) h = expr_there x.index h
    stmt_parts_more (node.Return l x) h = bound_there x h
    stmt_parts_more (node.Pass l) h = tt
    stmt_parts_more (node.Break l) h = tt
    stmt_parts_more (node.Continue l) h = tt
    stmt_parts_more (node.Assert l x y) h = (expr_there x.index h.0, bound_there y h.1)
    stmt_parts_more (node.Reraise l) h = tt
    stmt_parts_more (node.Raise l x xs) h = (name_there x.index h.0, call_there xs h.1)
    stmt_parts_more (node.Delete l x) h = expr_there x.index h
    stmt_parts_more (node.Import l p) h = list_there p.index h
    stmt_parts_more (node.ImportFrom l x p) h = (name_there x.index h.0, list_there p.index h.1)
    stmt_parts_more (node.Def l z x ps r xs) h = (name_there x.index h.0, parameters_there ps.items h.1, optional_type_there r h.2, stmts_more a b le xs.items h.3)
    stmt_parts_more (node.Class l z x xs) h = (name_there x.index h.0, stmts_more a b le xs.items h.1)
    stmt_parts_more (node.If l c xs bs ys) h = (expr_there c.index h.0, stmts_more a b le xs.items h.1, branches_more bs.items h.2, stmts_more a b le ys.items h.3)
    stmt_parts_more (node.While l c xs ys) h = (expr_there c.index h.0, stmts_more a b le xs.items h.1, stmts_more a b le ys.items h.2)
    stmt_parts_more (node.For l x c xs ys) h = (name_there x.index h.0, expr_there c.index h.1, stmts_more a b le xs.items h.2, stmts_more a b le ys.items h.3)
    stmt_parts_more (node.Try l xs hs ys) h = (stmts_more a b le xs.items h.0, handlers_more hs.items h.1, stmts_more a b le ys.items h.2)

-- one more statement at the end of a block
pub stmts_push : (n : ℕ) (xs : List StmtId) (x : StmtId) → AreStmtsBelow n xs → x.index < n → AreStmtsBelow n (xs ++ x ∷ [])
stmts_push n [] x h p = (p, tt)
stmts_push n (y ∷ xs) x h p = (h.0, stmts_push n xs x h.1 p)
