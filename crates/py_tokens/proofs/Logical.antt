-- Turns of the loops over pieces and over logical lines.
use Rattle.std.proofs.Common.{◌≡◌, suc, ◌<◌, Bool, true, false, cond, List, [], ◌∷◌, ◌++◌, length, take, drop, filter, Option, refl, ap, arith, append_assoc}
use Rattle.std.proofs.lemmas.List.{append-nil}
use Rattle.spec_tokens.specs.declared.Kind.{Kind}
use Rattle.spec_tokens.specs.declared.Piece.{Piece}
use Rattle.spec_tokens.specs.declared.Refusal.{Refusal}
use Rattle.spec_tokens.specs.Refusals.{earlier, first_of, told}
use Rattle.spec_tokens.specs.Lines.{bracket_fault, bracket_refusals, left_open, open_behind, ends_line, begun_by, logical_lines, is_full, full_lines}
use Rattle.py_tokens.specs.Steps.{line_size}
use Rattle.py_tokens.proofs.Earlier.{told_first}

-- ---- brackets

pub brackets_turn : (a : Option Refusal) (outer : List Piece) (p : Piece) (ps rest : List Piece) → rest ≡ p ∷ ps
    → earlier (earlier a (first_of (told (bracket_fault outer p.kind) p.line []))) (first_of (bracket_refusals (open_behind outer p p.kind) ps)) ≡ earlier a (first_of (bracket_refusals outer rest))
unfolding bracket_refusals
brackets_turn a outer p ps rest e = rw e (told_first a (bracket_fault outer p.kind) p.line (bracket_refusals (open_behind outer p p.kind) ps))

pub brackets_end : (a : Option Refusal) (outer rest : List Piece) → length rest ≡ 0 → earlier a (first_of (bracket_refusals outer rest)) ≡ earlier a (first_of (left_open outer))
unfolding bracket_refusals
brackets_end a outer [] e = refl
brackets_end a outer (p ∷ ps) e = absurd (omega arith)

-- ---- logical lines

-- a line ends only where no bracket is open
none_open : (outer : List Piece) (k : Kind) → ends_line outer k ≡ true → outer ≡ []
none_open [] k e = refl
none_open (p ∷ outer) k e = absurd cc

pub line_size-some : (ps : List Piece) → 0 < length ps → 0 < line_size [] ps
line_size-some [] h = absurd (omega arith)
line_size-some (p ∷ ps) h = at (ends_line [] p.kind)
  where
    at : (b : Bool) → 0 < cond b 1 (suc (line_size (open_behind [] p p.kind) ps))
    at true = omega arith
    at false = omega arith

-- the logical lines of pieces are the first one and those behind it
logical_first : (outer : List Piece) (p : Piece) (ps : List Piece) → logical_lines outer (p ∷ ps) ≡ take (line_size outer (p ∷ ps)) (p ∷ ps) ∷ logical_lines [] (drop (line_size outer (p ∷ ps)) (p ∷ ps))
unfolding logical_lines
logical_first outer p [] = at (ends_line outer p.kind)
  where
    at : (b : Bool) → cond b ((p ∷ []) ∷ []) ((p ∷ []) ∷ []) ≡ take (cond b 1 1) (p ∷ []) ∷ logical_lines [] (drop (cond b 1 1) (p ∷ []))
    at true = refl
    at false = refl
logical_first outer p (q ∷ qs) = at (ends_line outer p.kind) refl (logical_first (open_behind outer p p.kind) q qs)
  where
    at : (b : Bool) → ends_line outer p.kind ≡ b
        → logical_lines (open_behind outer p p.kind) (q ∷ qs) ≡ take (line_size (open_behind outer p p.kind) (q ∷ qs)) (q ∷ qs) ∷ logical_lines [] (drop (line_size (open_behind outer p p.kind) (q ∷ qs)) (q ∷ qs))
        → cond b ((p ∷ []) ∷ logical_lines outer (q ∷ qs)) (begun_by p (logical_lines (open_behind outer p p.kind) (q ∷ qs)))
        ≡ take (cond b 1 (suc (line_size (open_behind outer p p.kind) (q ∷ qs)))) (p ∷ q ∷ qs) ∷ logical_lines [] (drop (cond b 1 (suc (line_size (open_behind outer p p.kind) (q ∷ qs)))) (p ∷ q ∷ qs))
    at true is h = rw (none_open outer p.kind is) refl
    at false is h = ap (begun_by p) h

full_first : (rest : List Piece) → 0 < length rest → full_lines rest ≡ filter is_full (take (line_size [] rest) rest ∷ logical_lines [] (drop (line_size [] rest) rest))
full_first [] h = absurd (omega arith)
full_first (p ∷ ps) h = ap (filter is_full) (logical_first [] p ps)

pub lines_keep : (done more : List (List Piece)) (rest line after : List Piece) → 0 < length rest → line ≡ take (line_size [] rest) rest → after ≡ drop (line_size [] rest) rest → is_full line ≡ true → more ≡ done ++ line ∷ []
    → more ++ full_lines after ≡ done ++ full_lines rest
lines_keep done more rest line after lt l a full m =
    let whole : is_full (take (line_size [] rest) rest) ≡ true = rw (← l) full in
    rw (m, a, l, full_first rest lt, whole) (append_assoc done (take (line_size [] rest) rest ∷ []) (full_lines (drop (line_size [] rest) rest)))

pub lines_skip : (done : List (List Piece)) (rest line after : List Piece) → 0 < length rest → line ≡ take (line_size [] rest) rest → after ≡ drop (line_size [] rest) rest → is_full line ≡ false
    → done ++ full_lines after ≡ done ++ full_lines rest
lines_skip done rest line after lt l a empty =
    let none : is_full (take (line_size [] rest) rest) ≡ false = rw (← l) empty in
    rw (a, full_first rest lt, none) refl

pub lines_end : (done : List (List Piece)) (rest : List Piece) → length rest ≡ 0 → done ++ full_lines rest ≡ done
unfolding logical_lines
lines_end done [] e = append-nil done
lines_end done (p ∷ ps) e = absurd (omega arith)
