-- The steps of reading lines, each as one equation of what is read.
use Rattle.std.proofs.Common.{◌≡◌, ◌+◌, ◌<◌, ℕ, zero, suc, List, [], ◌∷◌, ◌++◌, length, get_or, map, take, drop, Option, Some, None, Result, Ok, Err, refl, sym, ap, subst, append_assoc, add-one, drop-cons, ◌∙◌}
use Rattle.std.proofs.Math.Seq.{drop-length}
use Rattle.std.proofs.lemmas.List.{take_more}
use Rattle.std.specs.Global.{Vec}
use Rattle.spec_trees.specs.Stmt.{Line}
use Rattle.spec_grammar.specs.Words.{Word, line_of}
use Rattle.spec_grammar.specs.Blocks.{PlacedLine}
use Rattle.spec_grammar.specs.HeaderReading.{read_line}
use Rattle.spec_grammar.proofs.HeaderLaws.{line_is}
use Rattle.spec_syntax.specs.Lines.{WordLine}
use Rattle.spec_syntax.specs.Phases.{line_before, read_lines}
use Rattle.spec_syntax.specs.Placement.{number_of}
use Rattle.spec_syntax.proofs.NumberLaws.{line_number}
use Rattle.py_tree.specs.Arena.{State, IsModule}
use Rattle.py_words.specs.declared.lines.WordLine as kept
use Rattle.py_words.specs.Lines.{line_seen}
use Rattle.py_statements.specs.Given.{Grows}
use Rattle.py_lines.specs.Given.{GivesLine}
use Rattle.py_placed.specs.declared.placed.PlacedLine as placed
use Rattle.py_placed.specs.declared.errors.Misread.{Misread}
use Rattle.py_placed.specs.declared.errors.Misread.TheVariants as error
use Rattle.py_placed.specs.Extents.{end_of, last_end, span_of, span_of_words}
use Rattle.py_placed.specs.Placed.{IsPlaced, ArePlaced, GivesLines}
use Rattle.py_placed.specs.Given.{GivesPlaced}
use Rattle.py_placed.proofs.Later.{placed_later}

-- ---- the last word

-- the words before the word at a place say nothing of where the last one ends
pub last_end_from : (e : ℕ) (s : List Word) (p : ℕ) (w : Word) (t : List Word) → drop p s ≡ w ∷ t → last_end e s ≡ last_end (end_of w) t
last_end_from e [] zero w t q = absurd cc
last_end_from e [] (suc p) w t q = absurd cc
last_end_from e (x ∷ s) zero w t q = ap (last_end e) q
last_end_from e (x ∷ s) (suc p) w t q = last_end_from (end_of x) s p w t q

-- ---- one line

-- the number of a line that is read is that of its first word
number_read : (s : List Word) (d : Line) → read_line s ≡ Some d → line_of s ≡ number_of d
number_read s d e = sym (line_number s d (line_is s d e))

pub line_placed : (m : State) (x : placed.PlacedLine) (l : WordLine) (o : Option Line) → o ≡ read_line l.words → x.depth ≡ l.depth → x.first ≡ line_of l.words → GivesLine m (Ok x.node) o → GivesPlaced m (Ok x) l o
line_placed m x l (Some d) e p q h = (p, q ∙ number_read l.words d (sym e), h)
line_placed m x l None e p q h = absurd h

-- ---- the lines up to one of them

-- lines before others
abbrev onto : List PlacedLine → Result (List PlacedLine) ℕ → Result (List PlacedLine) ℕ
onto ps (Ok qs) = Ok (ps ++ qs)
onto ps (Err n) = Err n

-- The lines xs stand for lines before those that are still to be read.
pub record IsBegun (m : State) (xs : List placed.PlacedLine) (rest whole : Result (List PlacedLine) ℕ) : Type 0 where
  pub lines : List PlacedLine
  pub here : ArePlaced m xs lines
  pub read : whole ≡ onto lines rest

pub begun_none : (m : State) (r : Result (List PlacedLine) ℕ) → IsBegun m [] r r
begun_none m (Ok ps) = record { lines = []; here = tt; read = refl }
begun_none m (Err n) = record { lines = []; here = tt; read = refl }

placed_push : (m : State) (xs : List placed.PlacedLine) (ps : List PlacedLine) (x : placed.PlacedLine) (p : PlacedLine) → ArePlaced m xs ps → IsPlaced m x p → ArePlaced m (xs ++ x ∷ []) (ps ++ p ∷ [])
placed_push m [] [] x p h q = (q, tt)
placed_push m (y ∷ xs) (k ∷ ps) x p h q = (h.0, placed_push m xs ps x p h.1 q)
placed_push m [] (k ∷ ps) x p h q = absurd h
placed_push m (y ∷ xs) [] x p h q = absurd h

abbrev place : WordLine → Line → PlacedLine
place l d = record { depth = l.depth; line = d }

onto_more : (ps : List PlacedLine) (l : WordLine) (d : Line) (r : Result (List PlacedLine) ℕ) → onto ps (line_before l (Some d) r) ≡ onto (ps ++ place l d ∷ []) r
onto_more ps l d (Ok qs) = ap Ok (sym (append_assoc ps (place l d ∷ []) qs))
onto_more ps l d (Err n) = refl

-- one more line
pub begun_more : (m n : State) (xs ys : List placed.PlacedLine) (x : placed.PlacedLine) (l : WordLine) (o : Option Line) (r s w : Result (List PlacedLine) ℕ) → Grows m n → IsModule m → IsBegun m xs r w → GivesPlaced n (Ok x) l o → r ≡ line_before l o s → ys ≡ xs ++ x ∷ [] → IsBegun n ys s w
begun_more m n xs ys x l (Some d) r s w g v h q e more =
    rw more (record {
      lines = h.lines ++ place l d ∷ [];
      here = placed_push n xs h.lines x (place l d) (placed_later m n g.extends v xs h.lines h.here) q;
      read = h.read ∙ ap (onto h.lines) e ∙ onto_more h.lines l d s;
    })
begun_more m n xs ys x l None r s w g v h q e more = absurd q

-- a line that is not read
pub begun_stuck : (m n : State) (xs : List placed.PlacedLine) (c : Misread) (l : WordLine) (o : Option Line) (r s w : Result (List PlacedLine) ℕ) → IsBegun m xs r w → GivesPlaced n (Err c) l o → r ≡ line_before l o s → GivesLines n (Err c) w
begun_stuck m n xs (error.NoLine k) l o r s w h q e = h.read ∙ ap (onto h.lines) e ∙ rw (q.0, q.1) refl
begun_stuck m n xs error.NoMemory l o r s w h q e = tt

begun_whole : (m : State) (v : Vec placed.PlacedLine) (w : Result (List PlacedLine) ℕ) → IsBegun m v.items (Ok []) w → GivesLines m (Ok v) w
begun_whole m v w h = rw (h.read, append_nil h.lines) h.here
  where
    append_nil : (ps : List PlacedLine) → ps ++ [] ≡ ps
    append_nil [] = refl
    append_nil (p ∷ ps) = rw (append_nil ps) refl

map_push : {A B : Type 0} (f : A → B) (xs : List A) (x : A) → map f (xs ++ x ∷ []) ≡ map f xs ++ f x ∷ []
map_push f [] x = refl
map_push f (y ∷ xs) x = rw (map_push f xs x) refl

-- the span of one more line
pub spans_more : (xs ys : List placed.PlacedLine) (x : placed.PlacedLine) (ls : List kept.WordLine) (i : ℕ) (l : kept.WordLine) → i < length ls → l ≡ get_or ls i l → map span_of xs ≡ map span_of_words (map line_seen (take i ls)) → span_of x ≡ span_of_words (line_seen l) → ys ≡ xs ++ x ∷ [] → map span_of ys ≡ map span_of_words (map line_seen (take (i + 1) ls))
spans_more xs ys x ls i l lt e h p more =
    let t : take (i + 1) ls ≡ take i ls ++ l ∷ [] = take_more ls i l lt ∙ ap (λ y. take i ls ++ y ∷ []) (sym e) in
    rw (more, t, map_push span_of xs x, map_push line_seen (take i ls) l, map_push span_of_words (map line_seen (take i ls)) (line_seen l), h, p) refl

-- ---- the lines from one of them on

pub line_turn : (ls : List kept.WordLine) (i : ℕ) (x : kept.WordLine) → i < length ls → x ≡ get_or ls i x → read_lines (map line_seen (drop i ls)) ≡ line_before (line_seen x) (read_line x.words) (read_lines (map line_seen (drop (i + 1) ls)))
unfolding read_lines
line_turn ls i x lt e =
    let d : drop i ls ≡ x ∷ drop (i + 1) ls = rw add-one (drop-cons ls i x lt ∙ ap (λ y. y ∷ drop (suc i) ls) (sym e)) in
    rw d refl

lines_end : (ls : List kept.WordLine) (i : ℕ) → i ≡ length ls → read_lines (map line_seen (drop i ls)) ≡ Ok []
unfolding read_lines
lines_end ls i e = rw (e, drop-length ls) refl

-- behind the last line
pub begun_end : (m : State) (v : Vec placed.PlacedLine) (ls : List kept.WordLine) (i : ℕ) (w : Result (List PlacedLine) ℕ) → i ≡ length ls → IsBegun m v.items (read_lines (map line_seen (drop i ls))) w → GivesLines m (Ok v) w
begun_end m v ls i w e h = begun_whole m v w (subst (λ r. IsBegun m v.items r w) (lines_end ls i e) h)
