-- The phases over lines that were read, each from one line on.
use Rattle.std.proofs.Common.{◌≡◌, ℕ, ◌+◌, ◌<◌, Bool, true, false, List, [], ◌∷◌, ◌++◌, length, drop, map, Some, None, refl, sym, ap, get_or, ◌∙◌}
use Rattle.std.proofs.lemmas.List.{append_assoc, append-nil}
use Rattle.std.proofs.Math.Seq.{drop-length}
use Rattle.std.proofs.lemmas.Option.{slice_get_read}
use Rattle.spec_trees.specs.Stmt.{Line}
use Rattle.spec_grammar.specs.Blocks.{PlacedLine}
use Rattle.spec_syntax.specs.Phases.{is_deep, first_deep}
use Rattle.py_tree.specs.Arena.{State}
use Rattle.py_outline.specs.declared.outline.Outline.{Outline}
use Rattle.py_outline.specs.Outlines.{form_of, outline_of}
use Rattle.py_lines.specs.Headers.{IsLine}
use Rattle.py_placed.specs.declared.placed.PlacedLine as placed
use Rattle.py_placed.specs.Placed.{IsPlaced, ArePlaced}
use Rattle.py_blocks.proofs.Lines.{placed_at, placed_length}

-- the line at a place
module _ (m : State) (xs : List placed.PlacedLine) (ps : List PlacedLine) (h : ArePlaced m xs ps) (i : ℕ) (x : placed.PlacedLine) (lt : i < length xs) (e : x ≡ get_or xs i x) where
  found : (p : PlacedLine) × IsPlaced m x p × (drop i ps ≡ p ∷ drop (i + 1) ps)
  found = placed_at m xs ps i x h (slice_get_read xs (length xs) i x refl lt e)

  pub line_there : (line : Line) × IsLine m x.node line
  line_there = (found.0.line, found.1.2)

  deep_as : (b : Bool) → ((l : Line) → IsLine m x.node l → b ≡ is_deep (record { depth = x.depth; line = l })) → is_deep found.0 ≡ b
  deep_as b f = ap (λ (d : ℕ). is_deep (record { depth = d; line = found.0.line })) (sym found.1.0) ∙ sym (f found.0.line found.1.2)

  pub deep_turn : (b : Bool) → ((l : Line) → IsLine m x.node l → b ≡ is_deep (record { depth = x.depth; line = l })) → b ≡ false → first_deep (drop i ps) ≡ first_deep (drop (i + 1) ps)
  unfolding first_deep
  deep_turn b f t = rw (found.2, deep_as b f, t) refl

  pub deep_found : (b : Bool) → ((l : Line) → IsLine m x.node l → b ≡ is_deep (record { depth = x.depth; line = l })) → b ≡ true → first_deep (drop i ps) ≡ Some x.first
  unfolding first_deep
  deep_found b f t = rw (found.2, deep_as b f, t) (ap (λ (n : ℕ). Some n) (sym found.1.1))

  pub outline_turn : (os qs : List Outline) (o : Outline) → o.depth ≡ x.depth → o.line ≡ x.first → ((l : Line) → IsLine m x.node l → o.form ≡ form_of l) → qs ≡ os ++ o ∷ [] → os ++ map outline_of (drop i ps) ≡ qs ++ map outline_of (drop (i + 1) ps)
  outline_turn os qs o a b f more =
      let same : outline_of found.0 ≡ o = rw (sym found.1.0, sym found.1.1, sym (f found.0.line found.1.2), sym a, sym b) refl in
      rw (found.2, same, more) (sym (append_assoc os (o ∷ []) (map outline_of (drop (i + 1) ps))))

-- behind the last line
module _ (m : State) (xs : List placed.PlacedLine) (ps : List PlacedLine) (h : ArePlaced m xs ps) (i : ℕ) (e : i ≡ length xs) where
  none_left : drop i ps ≡ []
  none_left = rw (e, sym (placed_length m xs ps h)) (drop-length ps)

  pub deep_end : first_deep (drop i ps) ≡ None
  unfolding first_deep
  deep_end = rw none_left refl

  pub outline_end : (os : List Outline) → os ++ map outline_of (drop i ps) ≡ os
  outline_end os = rw none_left (append-nil os)
