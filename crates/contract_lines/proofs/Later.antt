-- Contract lines that are read stand while a module grows.
use Rattle.std.proofs.Common.{◌≡◌, ◌<◌, ℕ, List, [], ◌∷◌, ◌++◌, length, map, Option, Some, None, refl, ap, arith, ◌∙◌}
use Rattle.py_tree.specs.declared.ids.ExprId.{ExprId}
use Rattle.py_tree.specs.declared.ids.NamesId.{NamesId}
use Rattle.spec_trees.specs.Module.{Block, Module}
use Rattle.py_tree.specs.Arena.{State, Extends, IsModule, module_tree, shown_stmt}
use Rattle.py_tree.specs.Exprs.{IsBoundBelow}
use Rattle.py_tree.specs.Stmts.{block_tree, optional_expr}
use Rattle.py_tree.specs.declared.ids.NameId.{NameId}
use Rattle.py_tree.specs.Names.{AreNamesBelow, text_of}
use Rattle.py_tree.proofs.Arenas.{exprs_grow, lists_grow, names_grow, shown_kept, text_kept}
use Rattle.py_tree.proofs.Statements.{block_kept, shown_stmt_kept}
use Rattle.py_tree.proofs.StmtNodes.{texts_kept}
use Rattle.contract_owners.specs.declared.listing.Owned.{Owned}
use Rattle.contract_owners.specs.Members.{owned_in}
use Rattle.contract_lines.specs.declared.contracts.ContractLine.{ContractLine}
use Rattle.contract_lines.specs.Given.{Grows, optional_names, line_in, IsListThere, IsLineThere, AreLinesThere}

module _ (m n : State) (e : Extends m n) (d : IsModule m) where
  pub names_kept : (o : Option NamesId) → IsListThere m o → IsListThere n o × (optional_names n o ≡ optional_names m o)
  names_kept None h = (tt, refl)
  names_kept (Some l) h = let more = lists_grow m n e in (omega (arith, h, more), ap (λ (x : List (List ℕ)). Some x) (texts_kept m n e d l h))

  expr_kept : (o : Option ExprId) → IsBoundBelow (length m.exprs) o → IsBoundBelow (length n.exprs) o × (optional_expr n o ≡ optional_expr m o)
  expr_kept None h = (tt, refl)
  expr_kept (Some x) h = let more = exprs_grow m n e in (omega (arith, h, more), rw (shown_kept m n x.index e d h) refl)

  line_kept : (l : ContractLine) → IsLineThere m l → IsLineThere n l × (line_in n l ≡ line_in m l)
  line_kept l h = let x = expr_kept l.expr h.0 in let y = names_kept l.names h.1 in ((x.0, y.0), rw (x.1, y.1) refl)

  pub lines_kept : (ls : List ContractLine) → AreLinesThere m ls → AreLinesThere n ls × (map (line_in n) ls ≡ map (line_in m) ls)
  lines_kept [] h = (tt, refl)
  lines_kept (l ∷ ls) h = let x = line_kept l h.0 in let y = lines_kept ls h.1 in ((x.0, y.0), rw (x.1, y.1) refl)

-- the tree of the module stays
pub tree_kept : (m n : State) → Grows m n → IsModule m → module_tree n ≡ module_tree m
tree_kept m n g d = ap (λ (b : Block). the_module b) (ap (block_tree (shown_stmt n)) g.tops ∙ block_kept m n g.extends d m.tops d.tops)
  where
    the_module : Block → Module
    the_module b = record { body = b }

pub lines_push : (m : State) (ls : List ContractLine) (l : ContractLine) → AreLinesThere m ls → IsLineThere m l → AreLinesThere m (ls ++ l ∷ [])
lines_push m [] l h b = (b, tt)
lines_push m (k ∷ ls) l h b = (h.0, lines_push m ls l h.1 b)

pub ids_push : (m n : State) → Extends m n → (xs : List NameId) (x : NameId) → AreNamesBelow (length m.names) xs → x.index < length n.names
    → AreNamesBelow (length n.names) (xs ++ x ∷ []) × (map (text_of n.names) (xs ++ x ∷ []) ≡ map (text_of m.names) xs ++ text_of n.names x ∷ [])
ids_push m n e [] x h b = ((b, tt), refl)
ids_push m n e (y ∷ ys) x h b =
    let more = names_grow m n e in
    let rest = ids_push m n e ys x h.1 b in
    ((omega (arith, h.0, more), rest.0), rw (text_kept m n y.index e h.0, rest.1) refl)

-- a function or class is the same
pub owned_kept : (m n : State) → Extends m n → IsModule m → (o : Owned) → o.statement.index < length m.stmts → owned_in n o ≡ owned_in m o
owned_kept m n e d o lt = rw (shown_stmt_kept m n o.statement.index e d lt) refl
