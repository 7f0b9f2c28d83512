-- Turns of the loops over logical lines, where faults of indentation are told.
use Rattle.std.proofs.Common.{◌≡◌, ℕ, ◌+◌, ◌<◌, ◌≤◌, List, [], ◌∷◌, length, drop, map, get_or, Option, Bor, ap}
use Rattle.std.proofs.lemmas.List.{drop_more, drop_all}
use Rattle.spec_tokens.specs.declared.Piece.{Piece}
use Rattle.spec_tokens.specs.declared.Refusal.{Refusal}
use Rattle.spec_tokens.specs.Refusals.{earlier, first_of, told}
use Rattle.spec_tokens.specs.Lines.{leading, line_of, unit_behind, mixed_fault, mixed_refusals, columns_at, dedent_fault, dedent_refusals}
use Rattle.py_tokens.proofs.Earlier.{told_first, earlier_nothing}

-- lines as lists of pieces
abbrev pub shown : List (Bor (List Piece)) → List (List Piece)
shown lines = map (λ line. line.now) lines

-- the lines from a place on are the one there and those behind it
pub from_next : (lines : List (Bor (List Piece))) (i : ℕ) → i < length lines → shown (drop i lines) ≡ (get_or lines i (record { ref_ptr = (0, 0); now = [] })).now ∷ shown (drop (i + 1) lines)
from_next lines i lt = ap shown (drop_more lines i (record { ref_ptr = (0, 0); now = [] }) lt)

pub from_end : (lines : List (Bor (List Piece))) (i : ℕ) → length lines ≤ i → shown (drop i lines) ≡ []
from_end lines i le = ap shown (drop_all i lines le)

pub mixed_turn : (letters : List ℕ) (a : Option Refusal) (unit : Option ℕ) (l : List Piece) (rest after : List (List Piece)) → rest ≡ l ∷ after
    → earlier (earlier a (first_of (told (mixed_fault (unit_behind unit (leading letters l)) (leading letters l)) (line_of l) []))) (first_of (mixed_refusals letters (unit_behind unit (leading letters l)) after)) ≡ earlier a (first_of (mixed_refusals letters unit rest))
unfolding mixed_refusals
mixed_turn letters a unit l rest after e = rw e (told_first a (mixed_fault (unit_behind unit (leading letters l)) (leading letters l)) (line_of l) (mixed_refusals letters (unit_behind unit (leading letters l)) after))

pub mixed_end : (letters : List ℕ) (a : Option Refusal) (unit : Option ℕ) (rest : List (List Piece)) → rest ≡ [] → earlier a (first_of (mixed_refusals letters unit rest)) ≡ a
unfolding mixed_refusals
mixed_end letters a unit rest e = rw e (earlier_nothing a)

pub dedents_turn : (letters : List ℕ) (a : Option Refusal) (columns : List ℕ) (l : List Piece) (rest after : List (List Piece)) → rest ≡ l ∷ after
    → earlier (earlier a (first_of (told (dedent_fault (length (leading letters l)) columns) (line_of l) []))) (first_of (dedent_refusals letters (columns_at (length (leading letters l)) columns) after)) ≡ earlier a (first_of (dedent_refusals letters columns rest))
unfolding dedent_refusals
dedents_turn letters a columns l rest after e = rw e (told_first a (dedent_fault (length (leading letters l)) columns) (line_of l) (dedent_refusals letters (columns_at (length (leading letters l)) columns) after))

pub dedents_end : (letters : List ℕ) (a : Option Refusal) (columns : List ℕ) (rest : List (List Piece)) → rest ≡ [] → earlier a (first_of (dedent_refusals letters columns rest)) ≡ a
unfolding dedent_refusals
dedents_end letters a columns rest e = rw e (earlier_nothing a)
