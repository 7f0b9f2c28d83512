-- What was built keeps its trees while statements are added, and lists with one more.
use Rattle.std.specs.Global.{Vec}
use Rattle.std.proofs.Common.{◌≡◌, ℕ, ◌<◌, List, [], ◌∷◌, ◌++◌, length, Option, refl, ap, arith, ◌∙◌}
use Rattle.spec_trees.specs.Module.{Statement, Block, Branches, Handlers}
use Rattle.spec_grammar.specs.Blocks.{PlacedLine}
use Rattle.spec_grammar.specs.BlockReading.{with_statement, with_branch, with_handler}
use Rattle.py_tree.specs.declared.ids.ExprId.{ExprId}
use Rattle.py_tree.specs.declared.ids.NameId.{NameId}
use Rattle.py_tree.specs.declared.ids.NamesId.{NamesId}
use Rattle.py_tree.specs.declared.ids.StmtId.{StmtId}
use Rattle.py_tree.specs.declared.ids.TypeId.{TypeId}
use Rattle.py_tree.specs.declared.stmts.ParameterNode.{ParameterNode}
use Rattle.py_tree.specs.declared.stmts.BranchNode.{BranchNode}
use Rattle.py_tree.specs.declared.stmts.HandlerNode.{HandlerNode}
use Rattle.py_tree.specs.Arena.{State, IsModule, shown, shown_type, shown_stmt}
use Rattle.py_tree.specs.Types.{optional_type}
use Rattle.py_tree.specs.Names.{text_of}
use Rattle.py_tree.specs.Stmts.{texts_of, parameters_tree, block_tree, branches_tree, handlers_tree, AreStmtsBelow, AreBranchesBelow, AreHandlersBelow}
use Rattle.py_tree.proofs.Arenas.{lists_grow, exprs_grow, stmts_grow, shown_kept, optional_type_kept}
use Rattle.py_tree.proofs.Statements.{shown_stmt_kept, block_kept}
use Rattle.py_tree.proofs.StmtNodes.{texts_kept, parameters_kept, branches_same, handlers_same, stmts_more, branches_more, handlers_more, stmts_push}
use Rattle.py_lines.specs.declared.nodes.HeaderNode.{HeaderNode}
use Rattle.py_lines.specs.declared.nodes.HeaderNode.TheVariants as node
use Rattle.py_lines.specs.Headers.{header_tree, IsHeaderThere}
use Rattle.py_lines.proofs.Later.{header_kept}
use Rattle.py_placed.specs.declared.placed.PlacedLine as placed
use Rattle.py_placed.specs.Placed.{ArePlaced}
use Rattle.py_placed.proofs.Later as read
use Rattle.py_blocks.specs.Growth.{Builds}
use Rattle.py_blocks.proofs.Growth.{builds_extends}

module _ (xs : List (ℕ × ℕ)) (m n : State) (b : Builds xs m n) (d : IsModule m) where
  pub placed_later : (ls : List placed.PlacedLine) (ps : List PlacedLine) → ArePlaced m ls ps → ArePlaced n ls ps
  placed_later ls ps h = read.placed_later m n (builds_extends xs m n b) d ls ps h

  pub header_later : (x : HeaderNode) → IsHeaderThere m x → IsHeaderThere n x × (header_tree n x ≡ header_tree m x)
  header_later x h = header_kept m n (builds_extends xs m n b) d x h

  pub expr_later : (e : ExprId) → e.index < length m.exprs → (e.index < length n.exprs) × (shown n e.index ≡ shown m e.index)
  expr_later e lt = let more = exprs_grow m n (builds_extends xs m n b) in (omega arith, shown_kept m n e.index (builds_extends xs m n b) d lt)

  pub name_later : (x : NameId) → x.index < length m.names → (x.index < length n.names) × (text_of n.names x ≡ text_of m.names x)
  name_later x lt = let e : n.names ≡ m.names = ap (λ (s : State). s.names) b.stmts in (rw e lt, ap (λ (v : List (List ℕ)). text_of v x) e)

  pub names_later : (l : NamesId) → l.index < length m.lists → (l.index < length n.lists) × (texts_of n l ≡ texts_of m l)
  names_later l lt = let more = lists_grow m n (builds_extends xs m n b) in (omega arith, texts_kept m n (builds_extends xs m n b) d l lt)

  pub block_later : (ys : List StmtId) → AreStmtsBelow (length m.stmts) ys → AreStmtsBelow (length n.stmts) ys × (block_tree (shown_stmt n) ys ≡ block_tree (shown_stmt m) ys)
  block_later ys h = (stmts_more (length m.stmts) (length n.stmts) (stmts_grow m n (builds_extends xs m n b)) ys h, block_kept m n (builds_extends xs m n b) d ys h)

  pub branches_later : (ys : List BranchNode) → AreBranchesBelow m (length m.stmts) ys → AreBranchesBelow n (length n.stmts) ys × (branches_tree n (shown_stmt n) ys ≡ branches_tree m (shown_stmt m) ys)
  branches_later ys h = (branches_more m n (builds_extends xs m n b) (length m.stmts) (length n.stmts) (stmts_grow m n (builds_extends xs m n b)) ys h, branches_same m n (builds_extends xs m n b) d (length m.stmts) (shown_stmt n) (shown_stmt m) (λ i lt. shown_stmt_kept m n i (builds_extends xs m n b) d lt) ys h)

  pub handlers_later : (ys : List HandlerNode) → AreHandlersBelow m (length m.stmts) ys → AreHandlersBelow n (length n.stmts) ys × (handlers_tree n (shown_stmt n) ys ≡ handlers_tree m (shown_stmt m) ys)
  handlers_later ys h = (handlers_more m n (builds_extends xs m n b) (length m.stmts) (length n.stmts) (stmts_grow m n (builds_extends xs m n b)) ys h, handlers_same m n (builds_extends xs m n b) d (length m.stmts) (shown_stmt n) (shown_stmt m) (λ i lt. shown_stmt_kept m n i (builds_extends xs m n b) d lt) ys h)

  -- lists of m with one more that is there in n
  pub block_then : (ys zs : List StmtId) (x : StmtId) → AreStmtsBelow (length m.stmts) ys → x.index < length n.stmts → zs ≡ ys ++ x ∷ [] → AreStmtsBelow (length n.stmts) zs × (block_tree (shown_stmt n) zs ≡ with_statement (block_tree (shown_stmt m) ys) (shown_stmt n x.index))
  block_then ys zs x h lt e =
      let l = block_later ys h in
      rw e (stmts_push (length n.stmts) ys x l.0 lt, block_pushed (shown_stmt n) ys ∙ ap (λ (t : Block). with_statement t (shown_stmt n x.index)) l.1)
    where
      block_pushed : (t : ℕ → Statement) (ys : List StmtId) → block_tree t (ys ++ x ∷ []) ≡ with_statement (block_tree t ys) (t x.index)
      block_pushed t [] = refl
      block_pushed t (y ∷ ys) = rw (block_pushed t ys) refl

  pub branches_then : (ys zs : List BranchNode) (x : BranchNode) → AreBranchesBelow m (length m.stmts) ys → AreBranchesBelow n (length n.stmts) (x ∷ []) → zs ≡ ys ++ x ∷ [] → AreBranchesBelow n (length n.stmts) zs × (branches_tree n (shown_stmt n) zs ≡ with_branch (branches_tree m (shown_stmt m) ys) x.line (shown n x.condition.index) (block_tree (shown_stmt n) x.body.items))
  branches_then ys zs x h p e =
      let l = branches_later ys h in
      rw e (branches_push ys l.0, branches_pushed ys ∙ ap (λ (t : Branches). with_branch t x.line (shown n x.condition.index) (block_tree (shown_stmt n) x.body.items)) l.1)
    where
      branches_push : (ys : List BranchNode) → AreBranchesBelow n (length n.stmts) ys → AreBranchesBelow n (length n.stmts) (ys ++ x ∷ [])
      branches_push [] h = p
      branches_push (y ∷ ys) h = (h.0, h.1, branches_push ys h.2)

      branches_pushed : (ys : List BranchNode) → branches_tree n (shown_stmt n) (ys ++ x ∷ []) ≡ with_branch (branches_tree n (shown_stmt n) ys) x.line (shown n x.condition.index) (block_tree (shown_stmt n) x.body.items)
      branches_pushed [] = refl
      branches_pushed (y ∷ ys) = rw (branches_pushed ys) refl

  pub handlers_then : (ys zs : List HandlerNode) (x : HandlerNode) → AreHandlersBelow m (length m.stmts) ys → AreHandlersBelow n (length n.stmts) (x ∷ []) → zs ≡ ys ++ x ∷ [] → AreHandlersBelow n (length n.stmts) zs × (handlers_tree n (shown_stmt n) zs ≡ with_handler (handlers_tree m (shown_stmt m) ys) x.line (texts_of n x.classes) (block_tree (shown_stmt n) x.body.items))
  handlers_then ys zs x h p e =
      let l = handlers_later ys h in
      rw e (handlers_push ys l.0, handlers_pushed ys ∙ ap (λ (t : Handlers). with_handler t x.line (texts_of n x.classes) (block_tree (shown_stmt n) x.body.items)) l.1)
    where
      handlers_push : (ys : List HandlerNode) → AreHandlersBelow n (length n.stmts) ys → AreHandlersBelow n (length n.stmts) (ys ++ x ∷ [])
      handlers_push [] h = p
      handlers_push (y ∷ ys) h = (h.0, h.1, handlers_push ys h.2)

      handlers_pushed : (ys : List HandlerNode) → handlers_tree n (shown_stmt n) (ys ++ x ∷ []) ≡ with_handler (handlers_tree n (shown_stmt n) ys) x.line (texts_of n x.classes) (block_tree (shown_stmt n) x.body.items)
      handlers_pushed [] = refl
      handlers_pushed (y ∷ ys) = rw (handlers_pushed ys) refl

  -- the parts of the header of a function
  pub def_later : (l : ℕ) (x : NameId) (qs : Vec ParameterNode) (r : Option TypeId) → IsHeaderThere m (node.Def l x qs r) → IsHeaderThere n (node.Def l x qs r) × (text_of n.names x ≡ text_of m.names x) × (parameters_tree n qs.items ≡ parameters_tree m qs.items) × (optional_type (shown_type n) r ≡ optional_type (shown_type m) r)
  def_later l x qs r h =
      let e = builds_extends xs m n b in
      ((header_later (node.Def l x qs r) h).0, ap (λ (v : List (List ℕ)). text_of v x) (ap (λ (s : State). s.names) b.stmts), parameters_kept m n e d qs.items h.1, optional_type_kept m n e d r h.2)
