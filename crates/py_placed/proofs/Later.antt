-- Lines that were read stand for the same lines while a module grows.
use Rattle.std.proofs.Common.{◌≡◌, ◌<◌, ◌≤◌, ℕ, List, [], ◌∷◌, length, refl, sym, arith, ◌∙◌}
use Rattle.spec_trees.specs.Stmt.{Line, simple, header, header_simple}
use Rattle.spec_grammar.specs.Blocks.{PlacedLine}
use Rattle.py_tree.specs.declared.ids.StmtId.{StmtId}
use Rattle.py_tree.specs.Arena.{State, Extends, IsModule, shown_stmt}
use Rattle.py_tree.proofs.Arenas.{stmts_grow}
use Rattle.py_tree.proofs.Statements.{shown_stmt_kept}
use Rattle.py_lines.specs.declared.nodes.LineNode.{LineNode}
use Rattle.py_lines.specs.declared.nodes.LineNode.TheVariants as line
use Rattle.py_lines.specs.Headers.{IsLine}
use Rattle.py_lines.proofs.Later.{header_kept}
use Rattle.py_placed.specs.declared.placed.PlacedLine as placed
use Rattle.py_placed.specs.Placed.{ArePlaced}

pub stmt_later : (m n : State) → Extends m n → IsModule m → (s : StmtId) → s.index < length m.stmts → (s.index < length n.stmts) × (shown_stmt n s.index ≡ shown_stmt m s.index)
stmt_later m n e d s lt = let more : length m.stmts ≤ length n.stmts = stmts_grow m n e in (omega arith, shown_stmt_kept m n s.index e d lt)

pub line_later : (m n : State) → Extends m n → IsModule m → (x : LineNode) (l : Line) → IsLine m x l → IsLine n x l
line_later m n e d (line.Simple s) (simple y) h = let b = stmt_later m n e d s h.0 in (b.0, b.1 ∙ h.1)
line_later m n e d (line.Header x) (header a) h = let b = header_kept m n e d x h.0 in (b.0, h.1 ∙ sym b.1)
line_later m n e d (line.HeaderSimple x s) (header_simple a y) h =
    let b = header_kept m n e d x h.0 in
    let c = stmt_later m n e d s h.2 in
    (b.0, h.1 ∙ sym b.1, c.0, c.1 ∙ h.3)
line_later m n e d (line.Simple s) (header a) h = absurd h
line_later m n e d (line.Simple s) (header_simple a y) h = absurd h
line_later m n e d (line.Header x) (simple y) h = absurd h
line_later m n e d (line.Header x) (header_simple a y) h = absurd h
line_later m n e d (line.HeaderSimple x s) (simple y) h = absurd h
line_later m n e d (line.HeaderSimple x s) (header a) h = absurd h

pub placed_later : (m n : State) → Extends m n → IsModule m → (xs : List placed.PlacedLine) (ps : List PlacedLine) → ArePlaced m xs ps → ArePlaced n xs ps
placed_later m n e d [] [] h = tt
placed_later m n e d (x ∷ xs) (p ∷ ps) h = ((h.0.0, h.0.1, line_later m n e d x.node p.line h.0.2), placed_later m n e d xs ps h.1)
placed_later m n e d [] (p ∷ ps) h = absurd h
placed_later m n e d (x ∷ xs) [] h = absurd h
