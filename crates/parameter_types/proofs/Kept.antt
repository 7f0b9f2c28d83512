-- What stays while types are added to a module.
use Rattle.std.proofs.Common.{◌≡◌, List, ap, ◌∙◌}
use Rattle.std.specs.Global.{Vec}
use Rattle.std.specs.Prelude.{Option}
use Rattle.py_tree.specs.declared.ids.TypeId.{TypeId}
use Rattle.py_tree.specs.Arena.{State, IsModule, module_tree, shown_stmt}
use Rattle.py_tree.specs.Stmts.{block_tree}
use Rattle.py_tree.proofs.Statements.{block_kept}
use Rattle.py_types.specs.Given.{Grows}
use Rattle.read_annotations.specs.declared.annotation.Annotation.{Annotation}
use Rattle.read_annotations.specs.Reading.{AreAllWritten, AreListsThere, AreThere, AreWritten, all_written, shown_all, shown_lists, written}
use Rattle.read_annotations.proofs.Turns.{all_kept, annotations_kept, written_kept}

module _ (m n : State) (g : Grows m n) (v : IsModule m) where
  -- the statements
  pub body_kept : (module_tree n).body ≡ (module_tree m).body
  body_kept = ap (block_tree (shown_stmt n)) g.tops ∙ block_kept m n g.extends v m.tops v.tops

  -- annotations that are not read yet
  pub all_written_kept : (xs : List (Vec (Option TypeId))) → AreAllWritten m xs → AreAllWritten n xs × (all_written n xs ≡ all_written m xs)
  all_written_kept xs h = all_kept (λ (x : Vec (Option TypeId)). AreWritten m x.items) (λ (x : Vec (Option TypeId)). AreWritten n x.items) (λ (x : Vec (Option TypeId)). written m x.items) (λ (x : Vec (Option TypeId)). written n x.items) (λ x there. written_kept m n g v x.items there) xs h

  -- annotations that are read
  pub lists_kept : (xs : List (Vec (Option Annotation))) → AreListsThere m xs → AreListsThere n xs × (shown_lists n xs ≡ shown_lists m xs)
  lists_kept xs h = all_kept (λ (x : Vec (Option Annotation)). AreThere m x.items) (λ (x : Vec (Option Annotation)). AreThere n x.items) (λ (x : Vec (Option Annotation)). shown_all m x.items) (λ (x : Vec (Option Annotation)). shown_all n x.items) (annotations_kept m n g v) xs h
