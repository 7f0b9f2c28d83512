-- What holds while statements are added to a module.
use Rattle.std.proofs.Common.{◌≡◌, ℕ, List, [], ◌∷◌, ◌++◌, sym, ap, subst, ◌∙◌}
use Rattle.std.proofs.lemmas.List.{append-nil, append_assoc}
use Rattle.py_tree.specs.declared.stmts.StmtNode.{StmtNode}
use Rattle.py_tree.specs.Arena.{State, Extends, IsModule}
use Rattle.py_placed.specs.declared.placed.PlacedLine as placed
use Rattle.py_placed.proofs.Later.{placed_later}
use Rattle.py_blocks.specs.Given.{AreThere}
use Rattle.py_blocks.specs.Growth.{HasExtent, HaveExtents, Builds}

pub have_both : (xs : List (ℕ × ℕ)) (ys zs : List StmtNode) → HaveExtents xs ys → HaveExtents xs zs → HaveExtents xs (ys ++ zs)
have_both xs [] zs h p = p
have_both xs (y ∷ ys) zs h p = (h.0, have_both xs ys zs h.1 p)

pub builds_same : (xs : List (ℕ × ℕ)) (m : State) → IsModule m → Builds xs m m
builds_same xs m d = record {
  more = [];
  stmts = ap (λ (v : List StmtNode). let s : State = record m { stmts = v } in s) (sym (append-nil m.stmts));
  extents = tt;
  valid = d;
}

pub builds_equal : (xs : List (ℕ × ℕ)) (m n : State) → n ≡ m → IsModule n → Builds xs m n
builds_equal xs m n e d = subst (λ (v : State). Builds xs m v) (sym e) (builds_same xs m (subst IsModule e d))

pub builds_then : (xs : List (ℕ × ℕ)) (l m n : State) → Builds xs l m → Builds xs m n → Builds xs l n
builds_then xs l m n g h = record {
  more = g.more ++ h.more;
  stmts = h.stmts ∙ ap (λ (v : State). let s : State = record v { stmts = v.stmts ++ h.more } in s) g.stmts ∙ ap (λ (v : List StmtNode). let s : State = record l { stmts = v } in s) (append_assoc l.stmts g.more h.more);
  extents = have_both xs g.more h.more g.extents h.extents;
  valid = h.valid;
}

pub builds_stmt : (xs : List (ℕ × ℕ)) (m n : State) (x : StmtNode) → HasExtent xs x → n ≡ record m { stmts = m.stmts ++ x ∷ [] } → IsModule n → Builds xs m n
builds_stmt xs m n x h e d = record { more = x ∷ []; stmts = e; extents = (h, tt); valid = d }

-- all that was there stands
pub builds_extends : (xs : List (ℕ × ℕ)) (m n : State) → Builds xs m n → Extends m n
builds_extends xs m n b = record {
  more_names = [];
  names = ap (λ (s : State). s.names) b.stmts ∙ sym (append-nil m.names);
  more_lists = [];
  lists = ap (λ (s : State). s.lists) b.stmts ∙ sym (append-nil m.lists);
  more_exprs = [];
  exprs = ap (λ (s : State). s.exprs) b.stmts ∙ sym (append-nil m.exprs);
  more_types = [];
  types = ap (λ (s : State). s.types) b.stmts ∙ sym (append-nil m.types);
  more_stmts = b.more;
  stmts = ap (λ (s : State). s.stmts) b.stmts;
  more_tops = [];
  tops = ap (λ (s : State). s.tops) b.stmts ∙ sym (append-nil m.tops);
}

-- lines that stood for lines of a module stand for them still
pub there_later : (xs : List (ℕ × ℕ)) (m n : State) (ls : List placed.PlacedLine) → Builds xs m n → IsModule m → AreThere m ls → AreThere n ls
there_later xs m n ls b d h = (h.0, placed_later m n (builds_extends xs m n b) d ls h.0 h.1)
