-- The tree of a node of a statement, from the module and the trees of its blocks.
use Rattle.std.specs.Prelude.{◌<◌, ℕ, List, [], ◌∷◌, length, map, Option, Some, None, slice_index_or}
use Rattle.spec_trees.specs.Expr.{Expr, Arguments}
use Rattle.spec_trees.specs.Stmt as simple
use Rattle.spec_trees.specs.Stmt.{Simple, Parameter}
use Rattle.spec_trees.specs.Module as tree
use Rattle.spec_trees.specs.Module.{Statement, Block, Branches, Handlers}
use Rattle.py_tree.specs.declared.ids.NamesId.{NamesId}
use Rattle.py_tree.specs.declared.ids.ExprId.{ExprId}
use Rattle.py_tree.specs.declared.ids.StmtId.{StmtId}
use Rattle.py_tree.specs.declared.exprs.ArgumentsNode.{ArgumentsNode}
use Rattle.py_tree.specs.declared.stmts.ParameterNode.{ParameterNode}
use Rattle.py_tree.specs.declared.stmts.BranchNode.{BranchNode}
use Rattle.py_tree.specs.declared.stmts.HandlerNode.{HandlerNode}
use Rattle.py_tree.specs.declared.stmts.StmtNode.{StmtNode}
use Rattle.py_tree.specs.declared.stmts.StmtNode.TheVariants as node
use Rattle.py_tree.specs.Names.{text_of}
use Rattle.py_tree.specs.Exprs.{IsBoundBelow, IsCallBelow, arguments_tree}
use Rattle.py_tree.specs.Types.{optional_type, IsTypeBelow}
use Rattle.py_tree.specs.State.{State, shown, shown_type}

module _ (m : State) where
  -- the texts of a list of names
  abbrev pub texts_of : NamesId → List (List ℕ)
  texts_of l = map (text_of m.names) (slice_index_or m.lists l.index [])

  abbrev pub optional_expr : Option ExprId → Option Expr
  optional_expr None = None
  optional_expr (Some x) = Some (shown m x.index)

  abbrev pub optional_arguments : Option ArgumentsNode → Option Arguments
  optional_arguments None = None
  optional_arguments (Some xs) = Some (arguments_tree m.names (shown m) xs)

  abbrev pub parameters_tree : List ParameterNode → List Parameter
  parameters_tree [] = []
  parameters_tree (x ∷ xs) = record { name = text_of m.names x.name; annotation = optional_type (shown_type m) x.annotation; default = optional_expr x.default } ∷ parameters_tree xs

-- the statements of a block, where t gives their trees
abbrev pub block_tree : (ℕ → Statement) → List StmtId → Block
block_tree t [] = tree.no_statement
block_tree t (x ∷ xs) = tree.statement (t x.index) (block_tree t xs)

module _ (m : State) (t : ℕ → Statement) where
  abbrev pub branches_tree : List BranchNode → Branches
  branches_tree [] = tree.no_branch
  branches_tree (x ∷ xs) = tree.branch x.line (shown m x.condition.index) (block_tree t x.body.items) (branches_tree xs)

  abbrev pub handlers_tree : List HandlerNode → Handlers
  handlers_tree [] = tree.no_handler
  handlers_tree (x ∷ xs) = tree.handler x.line (texts_of m x.classes) (block_tree t x.body.items) (handlers_tree xs)

  -- the tree of a node, where t gives those of the statements in its blocks
  abbrev pub stmt_tree : StmtNode → Statement
  stmt_tree (node.Assign l d e) = tree.simple (simple.assign l (shown m d.index) (shown m e.index))
  stmt_tree (node.Annotate l d a e) = tree.simple (simple.annotate l (shown m d.index) (shown_type m a.index) (optional_expr m e))
  stmt_tree (node.Augment l d o e) = tree.simple (simple.augment l (shown m d.index) o (shown m e.index))
  stmt_tree (node.Evaluate l e) = tree.simple (simple.evaluate l (shown m e.index))
  stmt_tree (node.Return l e) = tree.simple (simple.return l (optional_expr m e))
  stmt_tree (node.Pass l) = tree.simple (simple.pass l)
  stmt_tree (node.Break l) = tree.simple (simple.break l)
  stmt_tree (node.Continue l) = tree.simple (simple.continue l)
  stmt_tree (node.Assert l c e) = tree.simple (simple.assert l (shown m c.index) (optional_expr m e))
  stmt_tree (node.Reraise l) = tree.simple (simple.reraise l)
  stmt_tree (node.Raise l n xs) = tree.simple (simple.raise l (text_of m.names n) (optional_arguments m xs))
  stmt_tree (node.Delete l e) = tree.simple (simple.delete l (shown m e.index))
  stmt_tree (node.Import l p) = tree.simple (simple.import l (texts_of m p))
  stmt_tree (node.ImportFrom l n ns) = tree.simple (simple.import_from l (text_of m.names n) (texts_of m ns))
  stmt_tree (node.Def l k n ps r b) = tree.def l (text_of m.names n) (parameters_tree m ps.items) (optional_type (shown_type m) r) (block_tree t b.items)
  stmt_tree (node.Class l k n b) = tree.class l (text_of m.names n) (block_tree t b.items)
  stmt_tree (node.If l c b bs d) = tree.if l (shown m c.index) (block_tree t b.items) (branches_tree bs.items) (block_tree t d.items)
  stmt_tree (node.While l c b d) = tree.while l (shown m c.index) (block_tree t b.items) (block_tree t d.items)
  stmt_tree (node.For l n e b d) = tree.for l (text_of m.names n) (shown m e.index) (block_tree t b.items) (block_tree t d.items)
  stmt_tree (node.Try l b hs d) = tree.try l (block_tree t b.items) (handlers_tree hs.items) (block_tree t d.items)

-- statements are among the first n nodes
abbrev pub AreStmtsBelow : ℕ → List StmtId → Type 0
AreStmtsBelow n [] = Unit {0}
AreStmtsBelow n (x ∷ xs) = (x.index < n) × AreStmtsBelow n xs

module _ (m : State) where
  abbrev pub IsCallThere : Option ArgumentsNode → Type 0
  IsCallThere None = Unit {0}
  IsCallThere (Some xs) = IsCallBelow (length m.names) (length m.exprs) xs

  abbrev pub AreParametersThere : List ParameterNode → Type 0
  AreParametersThere [] = Unit {0}
  AreParametersThere (x ∷ xs) = (x.name.index < length m.names) × IsTypeBelow (length m.types) x.annotation × IsBoundBelow (length m.exprs) x.default × AreParametersThere xs

-- the names, expressions and types of a statement are in m, and its statements are among the first n nodes
module _ (m : State) (n : ℕ) where
  abbrev pub AreBranchesBelow : List BranchNode → Type 0
  AreBranchesBelow [] = Unit {0}
  AreBranchesBelow (x ∷ xs) = (x.condition.index < length m.exprs) × AreStmtsBelow n x.body.items × AreBranchesBelow xs

  abbrev pub AreHandlersBelow : List HandlerNode → Type 0
  AreHandlersBelow [] = Unit {0}
  AreHandlersBelow (x ∷ xs) = (x.classes.index < length m.lists) × AreStmtsBelow n x.body.items × AreHandlersBelow xs

  abbrev pub AreStmtPartsBelow : StmtNode → Type 0
  AreStmtPartsBelow (node.Assign l d e) = (d.index < length m.exprs) × (e.index < length m.exprs)
  AreStmtPartsBelow (node.Annotate l d a e) = (d.index < length m.exprs) × (a.index < length m.types) × IsBoundBelow (length m.exprs) e
  AreStmtPartsBelow (node.Augment l d o e) = (d.index < length m.exprs) × (e.index < length m.exprs)
  AreStmtPartsBelow (node.Evaluate l e) = e.index < length m.exprs
  AreStmtPartsBelow (node.Return l e) = IsBoundBelow (length m.exprs) e
  AreStmtPartsBelow (node.Pass l) = Unit {0}
  AreStmtPartsBelow (node.Break l) = Unit {0}
  AreStmtPartsBelow (node.Continue l) = Unit {0}
  AreStmtPartsBelow (node.Assert l c e) = (c.index < length m.exprs) × IsBoundBelow (length m.exprs) e
  AreStmtPartsBelow (node.Reraise l) = Unit {0}
  AreStmtPartsBelow (node.Raise l x xs) = (x.index < length m.names) × IsCallThere m xs
  AreStmtPartsBelow (node.Delete l e) = e.index < length m.exprs
  AreStmtPartsBelow (node.Import l p) = p.index < length m.lists
  AreStmtPartsBelow (node.ImportFrom l x ns) = (x.index < length m.names) × (ns.index < length m.lists)
  AreStmtPartsBelow (node.Def l k x ps r b) = (x.index < length m.names) × AreParametersThere m ps.items × IsTypeBelow (length m.types) r × AreStmtsBelow n b.items
  AreStmtPartsBelow (node.Class l k x b) = (x.index < length m.names) × AreStmtsBelow n b.items
  AreStmtPartsBelow (node.If l c b bs d) = (c.index < length m.exprs) × AreStmtsBelow n b.items × AreBranchesBelow bs.items × AreStmtsBelow n d.items
  AreStmtPartsBelow (node.While l c b d) = (c.index < length m.exprs) × AreStmtsBelow n b.items × AreStmtsBelow n d.items
  AreStmtPartsBelow (node.For l x e b d) = (x.index < length m.names) × (e.index < length m.exprs) × AreStmtsBelow n b.items × AreStmtsBelow n d.items
  AreStmtPartsBelow (node.Try l b hs d) = AreStmtsBelow n b.items × AreHandlersBelow hs.items × AreStmtsBelow n d.items

-- the parts of a statement are there
abbrev pub AreStmtPartsThere : State → StmtNode → Type 0
AreStmtPartsThere m node = AreStmtPartsBelow m (length m.stmts) node
