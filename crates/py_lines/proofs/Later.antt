-- What was read keeps its trees while a module grows.
use Rattle.std.proofs.Common.{◌≡◌, ℕ, ◌<◌, List, [], ◌∷◌, ◌++◌, length, Option, refl, ap, arith, ◌∙◌}
use Rattle.spec_trees.specs.Stmt.{Parameter}
use Rattle.py_tree.specs.declared.ids.NameId.{NameId}
use Rattle.py_tree.specs.declared.ids.NamesId.{NamesId}
use Rattle.py_tree.specs.declared.ids.TypeId.{TypeId}
use Rattle.py_tree.specs.declared.stmts.ParameterNode.{ParameterNode}
use Rattle.py_tree.specs.Arena.{State, Extends, IsModule, shown, shown_type}
use Rattle.py_tree.specs.Names.{text_of}
use Rattle.py_tree.specs.Types.{optional_type, IsTypeBelow}
use Rattle.py_tree.specs.Stmts.{texts_of, parameters_tree, AreParametersThere}
use Rattle.py_tree.proofs.Arenas.{names_grow, lists_grow, exprs_grow, types_grow, text_kept as name_text_kept, shown_kept, optional_type_kept}
use Rattle.py_tree.proofs.TypeNodes.{optional_type_more}
use Rattle.py_tree.proofs.StmtNodes.{texts_kept, parameters_kept, parameters_there}
use Rattle.py_statements.specs.Given.{Grows}
use Rattle.py_lines.specs.declared.nodes.HeaderNode.{HeaderNode}
use Rattle.py_lines.specs.declared.nodes.HeaderNode.TheVariants as node
use Rattle.py_lines.specs.Headers.{parameter_tree, header_tree, IsParameterThere, IsHeaderThere}

-- what is read in m is read in n
module _ (m n : State) (g : Grows m n) (d : IsModule m) where
  pub type_later : (x : Option TypeId) → IsTypeBelow (length m.types) x → IsTypeBelow (length n.types) x × (optional_type (shown_type n) x ≡ optional_type (shown_type m) x)
  type_later x h = (optional_type_more (length m.types) (length n.types) (types_grow m n g.extends) x h, optional_type_kept m n g.extends d x h)

  pub parameters_later : (xs : List ParameterNode) → AreParametersThere m xs → AreParametersThere n xs × (parameters_tree n xs ≡ parameters_tree m xs)
  parameters_later xs h = (parameters_there m n g.extends xs h, parameters_kept m n g.extends d xs h)

  -- parameters of m with one more that is there in n
  pub parameters_then : (xs ys : List ParameterNode) (x : ParameterNode) → AreParametersThere m xs → IsParameterThere n x → ys ≡ xs ++ x ∷ [] → AreParametersThere n ys × (parameters_tree n ys ≡ parameters_tree m xs ++ parameter_tree n x ∷ [])
  parameters_then xs ys x h p e =
      let l = parameters_later xs h in
      rw e (parameters_push xs x l.0 p, parameters_pushed xs x ∙ ap (λ (ps : List Parameter). ps ++ parameter_tree n x ∷ []) l.1)
    where
      parameters_push : (xs : List ParameterNode) (x : ParameterNode) → AreParametersThere n xs → IsParameterThere n x → AreParametersThere n (xs ++ x ∷ [])
      parameters_push [] x h p = (p.0, p.1, p.2, tt)
      parameters_push (y ∷ xs) x h p = (h.0, h.1, h.2, parameters_push xs x h.3 p)

      parameters_pushed : (xs : List ParameterNode) (x : ParameterNode) → parameters_tree n (xs ++ x ∷ []) ≡ parameters_tree n xs ++ parameter_tree n x ∷ []
      parameters_pushed [] x = refl
      parameters_pushed (y ∷ xs) x = rw (parameters_pushed xs x) refl

-- a header of m is one of n, where all of m stands in n
module _ (m n : State) (e : Extends m n) (d : IsModule m) where
  text_there : (x : NameId) → x.index < length m.names → (x.index < length n.names) × (text_of n.names x ≡ text_of m.names x)
  text_there x lt = let more = names_grow m n e in (omega arith, name_text_kept m n x.index e lt)

  texts_there : (l : NamesId) → l.index < length m.lists → (l.index < length n.lists) × (texts_of n l ≡ texts_of m l)
  texts_there l lt = let more = lists_grow m n e in (omega arith, texts_kept m n e d l lt)

  expr_there : (i : ℕ) → i < length m.exprs → (i < length n.exprs) × (shown n i ≡ shown m i)
  expr_there i lt = let more = exprs_grow m n e in (omega arith, shown_kept m n i e d lt)

  pub header_kept : (x : HeaderNode) → IsHeaderThere m x → IsHeaderThere n x × (header_tree n x ≡ header_tree m x)
  header_kept (node.Def l x ps r) h =
      let a = text_there x h.0 in
      ((a.0, parameters_there m n e ps.items h.1, optional_type_more (length m.types) (length n.types) (types_grow m n e) r h.2), rw (a.1, parameters_kept m n e d ps.items h.1, optional_type_kept m n e d r h.2) refl)
  header_kept (node.Class l x) h = let a = text_there x h in (a.0, rw a.1 refl)
  header_kept (node.If l c) h = let a = expr_there c.index h in (a.0, rw a.1 refl)
  header_kept (node.Elif l c) h = let a = expr_there c.index h in (a.0, rw a.1 refl)
  header_kept (node.Else l) h = (tt, refl)
  header_kept (node.While l c) h = let a = expr_there c.index h in (a.0, rw a.1 refl)
  header_kept (node.For l x c) h =
      let a = text_there x h.0 in
      let b = expr_there c.index h.1 in
      ((a.0, b.0), rw (a.1, b.1) refl)
  header_kept (node.Try l) h = (tt, refl)
  header_kept (node.Except l xs) h = let a = texts_there xs h in (a.0, rw a.1 refl)
