-- The cut of letters is the one into the longest pieces.
use Rattle.std.proofs.Common.{◌≡◌, ℕ, zero, suc, ◌+◌, ◌-◌, ◌<◌, ◌≤◌, List, [], ◌∷◌, ◌++◌, length, take, drop, refl, sym, ap, subst, arith, ◌∙◌}
use Rattle.std.proofs.lemmas.List.{length-append, length-drop, length-take-le, take-append-drop, take_at, drop_at}
use Rattle.spec_tokens.specs.declared.Kind.{Kind}
use Rattle.spec_tokens.specs.declared.Piece.{Piece}
use Rattle.spec_tokens.specs.Pieces.{line_feeds, IsCut, no_piece, piece, ArePieces}
use Rattle.spec_tokens.specs.Cutting.{Front, piece_of, cut, pieces_of}
use Rattle.spec_tokens.proofs.Pieces.{piece_is, piece_only}
pub use Rattle.spec_tokens.proofs.Sizes.{piece_size}

-- letters that are to be passed first can be left away
cut_drop : (at line n : ℕ) (s : List ℕ) → cut at line n s ≡ cut at line 0 (drop n s)
unfolding cut
cut_drop at line zero s = refl
cut_drop at line (suc n) [] = refl
cut_drop at line (suc n) (c ∷ s) = cut_drop at line n s

-- the pieces of letters are the one at their front, and those of what follows it
pub cut_step : (at line : ℕ) (s : List ℕ) → 0 < length s
    → cut at line 0 s ≡ record { kind = (piece_of s).0; start = at; end = at + (piece_of s).1; line = line } ∷ cut (at + (piece_of s).1) (line + line_feeds (take (piece_of s).1 s)) 0 (drop (piece_of s).1 s)
unfolding cut
cut_step at line [] lt = absurd (omega arith)
cut_step at line (c ∷ s) lt = by (piece_of (c ∷ s)) (piece_size (c ∷ s) lt).0
  where
    by : (x : Front) → 0 < x.1
        → record { kind = x.0; start = at; end = at + x.1; line = line } ∷ cut (at + x.1) (line + line_feeds (take x.1 (c ∷ s))) (x.1 - 1) s
        ≡ record { kind = x.0; start = at; end = at + x.1; line = line } ∷ cut (at + x.1) (line + line_feeds (take x.1 (c ∷ s))) 0 (drop x.1 (c ∷ s))
    by (k, zero) h = absurd (omega arith)
    by (k, suc n) h =
        let e : suc n - 1 ≡ n = omega arith in
        rw e (ap (λ (ps : List Piece). record { kind = k; start = at; end = at + suc n; line = line } ∷ ps) (cut_drop (at + suc n) (line + line_feeds (take (suc n) (c ∷ s))) n s))

-- no letters have no pieces
cut_none : (at line : ℕ) → cut at line 0 [] ≡ []
unfolding cut
cut_none at line = refl

-- a cut whose first piece is the one at the front is a cut
step_is : (at line : ℕ) (k : Kind) (n : ℕ) (s : List ℕ) (ps : List Piece) → 0 < length s → piece_of s ≡ (k, n) → IsCut (at + n) (line + line_feeds (take n s)) (drop n s) ps
    → IsCut at line s (record { kind = k; start = at; end = at + n; line = line } ∷ ps)
step_is at line k n s ps lt e later =
    let here = piece_is s k n lt e in
    let own = length-take-le n s here.1 in
    subst (λ (m : ℕ). IsCut at line s (record { kind = k; start = at; end = at + m; line = line } ∷ ps)) own
    (piece here.2 (sym (take-append-drop n s)) (subst (λ (m : ℕ). IsCut (at + m) (line + line_feeds (take n s)) (drop n s) ps) (sym own) later))

-- letters are cut into their pieces, however many letters there are
cut_below : (bound at line : ℕ) (s : List ℕ) → length s ≤ bound → IsCut at line s (cut at line 0 s)
cut_below bound at line [] le = rw (cut_none at line) no_piece
cut_below zero at line (c ∷ s) le = absurd (omega arith)
cut_below (suc bound) at line (c ∷ s) le =
    let k : Kind = (piece_of (c ∷ s)).0 in
    let n : ℕ = (piece_of (c ∷ s)).1 in
    let size = piece_size (c ∷ s) (omega arith) in
    let less = length-drop (piece_of (c ∷ s)).1 (c ∷ s) in
    let later = cut_below bound (at + (piece_of (c ∷ s)).1) (line + line_feeds (take (piece_of (c ∷ s)).1 (c ∷ s))) (drop (piece_of (c ∷ s)).1 (c ∷ s)) (omega arith) in
    rw (cut_step at line (c ∷ s) (omega arith)) (step_is at line (piece_of (c ∷ s)).0 (piece_of (c ∷ s)).1 (c ∷ s) (cut (at + (piece_of (c ∷ s)).1) (line + line_feeds (take (piece_of (c ∷ s)).1 (c ∷ s))) 0 (drop (piece_of (c ∷ s)).1 (c ∷ s))) (omega arith) refl later)

-- letters are cut into no other pieces
cut_only : (at line : ℕ) (s : List ℕ) (ps : List Piece) → IsCut at line s ps → ps ≡ cut at line 0 s
cut_only at line s ps no_piece = sym (cut_none at line)
cut_only at line s ps (piece {k = k} {w = w} {r = r} {ps = qs} here parts later) =
    let only = piece_only k w r here in
    let found : piece_of s ≡ (k, length w) = ap piece_of parts ∙ only.1 in
    let whole = length-append w r in
    let size : length s ≡ length (w ++ r) = ap length parts in
    let some : 0 < length s = omega arith in
    let front : take (length w) s ≡ w = ap (take (length w)) parts ∙ take_at w r (length w) refl in
    let rest : drop (length w) s ≡ r = ap (drop (length w)) parts ∙ drop_at w r (length w) refl in
    rw (cut_step at line s some, found, front, rest) (ap (λ (ps : List Piece). record { kind = k; start = at; end = at + length w; line = line } ∷ ps) (cut_only (at + length w) (line + line_feeds w) r qs later))

-- all letters are cut into their pieces
pub are_pieces : (letters : List ℕ) → ArePieces letters (pieces_of letters)
are_pieces letters = cut_below (length letters) 0 1 letters (omega arith)

-- there is no other cut into pieces
pub pieces_only : (letters : List ℕ) (ps : List Piece) → ArePieces letters ps → ps ≡ pieces_of letters
pieces_only letters ps h = cut_only 0 1 letters ps h
