-- A module that is read, from its lines to its statements.
use Rattle.std.proofs.Common.{add-one, append_assoc, drop-cons, ◌≡◌, ℕ, ◌+◌, ◌<◌, List, [], ◌∷◌, ◌++◌, length, drop, get_or, Some, None, Result, Err, refl, sym, ap, subst, ◌∙◌}
use Rattle.std.proofs.lemmas.List.{append-nil}
use Rattle.std.proofs.Math.Seq.{drop-length}
use Rattle.spec_trees.specs.Module as tree
use Rattle.spec_trees.specs.Module.{Block}
use Rattle.spec_grammar.specs.Blocks.{PlacedLine}
use Rattle.spec_grammar.specs.BlockReading.{module_of}
use Rattle.spec_grammar.proofs.BlockLaws.{is_module}
use Rattle.spec_syntax.specs.Lines.{WordLine}
use Rattle.spec_syntax.specs.Phases.{too_deep, by_lines, read_lines, first_overloaded, first_misplaced, parsed}
use Rattle.spec_syntax.proofs.NumberLaws.{none_smallest}
use Rattle.spec_syntax.proofs.PlacementLaws.{placed_is_module}
use Rattle.py_tree.specs.declared.ids.StmtId.{StmtId}
use Rattle.py_tree.specs.declared.stmts.StmtNode.{StmtNode}
use Rattle.py_tree.specs.declared.stmts.StmtNode.TheVariants as node
use Rattle.py_tree.specs.Arena.{State, Extends, IsModule, shown_stmt, module_tree}
use Rattle.py_tree.specs.Stmts.{block_tree, AreStmtsBelow}
use Rattle.py_tree.proofs.Statements.{block_kept}
use Rattle.py_statements.specs.Given.{IsPlain, ArePlainBehind, AddsPlain, Grows}
use Rattle.py_placed.specs.declared.errors.Misread.{Misread}
use Rattle.py_placed.specs.declared.errors.Misread.TheVariants as misread
use Rattle.py_placed.specs.Placed.{GivesLines}
use Rattle.py_blocks.specs.Growth.{HasExtent, HaveExtents, Builds}
use Rattle.py_blocks.proofs.Growth.{have_both}
use Rattle.py_parser.specs.Parsed.{GivesModule, misread_as}

-- ---- extents

plain_has : (xs : List (ℕ × ℕ)) (y : StmtNode) → IsPlain y → HasExtent xs y
plain_has xs (node.Def l k x ps r b) h = absurd h
plain_has xs (node.Class l k x b) h = absurd h
plain_has xs (node.Assign l d e) h = tt
plain_has xs (node.Annotate l d a e) h = tt
plain_has xs (node.Augment l d o e) h = tt
plain_has xs (node.Evaluate l e) h = tt
plain_has xs (node.Return l e) h = tt
plain_has xs (node.Pass l) h = tt
plain_has xs (node.Break l) h = tt
plain_has xs (node.Continue l) h = tt
plain_has xs (node.Assert l c e) h = tt
plain_has xs (node.Reraise l) h = tt
plain_has xs (node.Raise l n ys) h = tt
plain_has xs (node.Delete l e) h = tt
plain_has xs (node.Import l p) h = tt
plain_has xs (node.ImportFrom l n ns) h = tt
plain_has xs (node.If l c b bs d) h = tt
plain_has xs (node.While l c b d) h = tt
plain_has xs (node.For l n e b d) h = tt
plain_has xs (node.Try l b hs d) h = tt

-- statements that are no functions and no classes have no extents to tell
plain_have : (xs : List (ℕ × ℕ)) (ys : List StmtNode) → ArePlainBehind 0 ys → HaveExtents xs ys
plain_have xs [] h = tt
plain_have xs (y ∷ ys) h = (plain_has xs y h.0, plain_have xs ys h.1)

-- what is read into an empty module is plain
pub all_plain : (m n : State) → Grows m n → m.stmts ≡ [] → ArePlainBehind 0 n.stmts
unfolding AddsPlain
all_plain m n g e = subst (λ (v : List StmtNode). ArePlainBehind (length v) n.stmts) e g.plain

pub built_have : (xs : List (ℕ × ℕ)) (m n : State) → ArePlainBehind 0 m.stmts → Builds xs m n → HaveExtents xs n.stmts
built_have xs m n h b = subst (λ (v : List StmtNode). HaveExtents xs v) (sym (ap (λ (s : State). s.stmts) b.stmts)) (have_both xs m.stmts b.more (plain_have xs m.stmts h) b.extents)

-- ---- statements of the module itself

tops_extend : (m n : State) (xs : List StmtId) → n ≡ record m { tops = m.tops ++ xs } → Extends m n
tops_extend m n xs e = record {
  more_names = [];
  names = ap (λ (s : State). s.names) e ∙ sym (append-nil m.names);
  more_lists = [];
  lists = ap (λ (s : State). s.lists) e ∙ sym (append-nil m.lists);
  more_exprs = [];
  exprs = ap (λ (s : State). s.exprs) e ∙ sym (append-nil m.exprs);
  more_types = [];
  types = ap (λ (s : State). s.types) e ∙ sym (append-nil m.types);
  more_stmts = [];
  stmts = ap (λ (s : State). s.stmts) e ∙ sym (append-nil m.stmts);
  more_tops = xs;
  tops = ap (λ (s : State). s.tops) e;
}

pub tops_tree : (m n : State) (xs : List StmtId) → IsModule m → AreStmtsBelow (length m.stmts) xs → m.tops ≡ [] → n ≡ record m { tops = m.tops ++ xs } → module_tree n ≡ record { body = block_tree (shown_stmt m) xs }
tops_tree m n xs d h t e =
    let tops : n.tops ≡ xs = ap (λ (s : State). s.tops) e ∙ ap (λ (v : List StmtId). v ++ xs) t in
    ap (λ (b : Block). let r : tree.Module = record { body = b } in r) (ap (λ (v : List StmtId). block_tree (shown_stmt n) v) tops ∙ block_kept m n (tops_extend m n xs e) d xs h)

-- building leaves the statements of the module itself
pub tops_kept : (xs : List (ℕ × ℕ)) (m n : State) → Builds xs m n → m.tops ≡ [] → n.tops ≡ []
tops_kept xs m n b e = ap (λ (s : State). s.tops) b.stmts ∙ e

-- lines that stand where they may spell a module
pub has_module : (ps : List PlacedLine) → first_misplaced ps ≡ None → module_of ps ≡ None → ⊥
unfolding first_misplaced
has_module ps e f =
    let b = placed_is_module ps (none_smallest _ e) in
    let g = is_module ps b.0 b.1 in
    absurd cc

-- ---- lines

-- the error of lines that are not read tells the first of them
pub misread_told : (m : State) (e : Misread) (r : Result (List PlacedLine) ℕ) → GivesLines m (Err e) r → GivesModule (Err (misread_as e)) (by_lines r)
misread_told m (misread.NoLine n) r h = rw h refl
misread_told m misread.NoMemory r h = tt

-- ---- one more statement of the module itself

drop_next : (xs : List StmtId) (i : ℕ) (d : StmtId) → i < length xs → drop i xs ≡ get_or xs i d ∷ drop (i + 1) xs
drop_next xs i d lt = rw add-one (drop-cons xs i d lt)

pub next_below : (k : ℕ) (xs : List StmtId) (i : ℕ) (d : StmtId) → i < length xs → AreStmtsBelow k (drop i xs) → ((get_or xs i d).index < k) × AreStmtsBelow k (drop (i + 1) xs)
next_below k xs i d lt h = subst (λ (v : List StmtId). AreStmtsBelow k v) (drop_next xs i d lt) h

pub next_pushed : (m n : State) (xs : List StmtId) (i : ℕ) (d : StmtId) → i < length xs → n ≡ record m { tops = m.tops ++ get_or xs i d ∷ [] } → (let s : State = record n { tops = n.tops ++ drop (i + 1) xs } in s) ≡ (let s : State = record m { tops = m.tops ++ drop i xs } in s)
next_pushed m n xs i d lt p =
    ap (λ (v : State). let s : State = record v { tops = v.tops ++ drop (i + 1) xs } in s) p
    ∙ ap (λ (v : List StmtId). let s : State = record m { tops = v } in s) (append_assoc m.tops (get_or xs i d ∷ []) (drop (i + 1) xs))
    ∙ ap (λ (v : List StmtId). let s : State = record m { tops = m.tops ++ v } in s) (sym (drop_next xs i d lt))

pub all_pushed : (m n : State) (xs : List StmtId) (i : ℕ) → i ≡ length xs → (let s : State = record n { tops = n.tops ++ drop i xs } in s) ≡ (let s : State = record m { tops = m.tops ++ xs } in s) → n ≡ record m { tops = m.tops ++ xs }
all_pushed m n xs i e p = ap (λ (v : List StmtId). let s : State = record n { tops = v } in s) (sym (append-nil n.tops) ∙ ap (λ (v : List StmtId). n.tops ++ v) (sym (drop-length xs) ∙ ap (λ (k : ℕ). drop k xs) (sym e))) ∙ p

-- ---- the phase of loads

-- the results behind the phase of loads
pub parsed_deep : (ls : List WordLine) (n : ℕ) → first_overloaded ls ≡ Some n → parsed ls ≡ Err (too_deep n)
unfolding parsed
parsed_deep ls n e = rw e refl

pub parsed_lines : (ls : List WordLine) → first_overloaded ls ≡ None → parsed ls ≡ by_lines (read_lines ls)
unfolding parsed
parsed_lines ls e = rw e refl
