-- Turns of the loop over pieces.
use Rattle.std.proofs.Common.{◌≡◌, ℕ, zero, ◌+◌, ◌<◌, List, [], ◌∷◌, ◌++◌, length, take, drop, sym, ap, arith, append_assoc}
use Rattle.std.proofs.lemmas.List.{append-nil}
use Rattle.spec_tokens.specs.declared.Kind.{Kind}
use Rattle.spec_tokens.specs.declared.Piece.{Piece}
use Rattle.spec_tokens.specs.Pieces.{line_feeds}
use Rattle.spec_tokens.specs.Cutting.{piece_of, cut}
use Rattle.spec_tokens.proofs.Cuts.{cut_step}

-- one more piece before the others is one more behind the earlier ones
pub pieces_turn : (done more : List Piece) (start end line feeds : ℕ) (k : Kind) (n : ℕ) (rest front behind : List ℕ) → 0 < length rest → (k, n) ≡ piece_of rest → end ≡ start + n
    → front ≡ take n rest → behind ≡ drop n rest → feeds ≡ line_feeds front → more ≡ done ++ record { kind = k; start = start; end = end; line = line } ∷ []
    → more ++ cut end (line + feeds) zero behind ≡ done ++ cut start line zero rest
pieces_turn done more start end line feeds k n rest front behind left found e f b c m =
    let kind : (piece_of rest).0 ≡ k = ap (λ (x : Kind × ℕ). x.0) (sym found) in
    let size : (piece_of rest).1 ≡ n = ap (λ (x : Kind × ℕ). x.1) (sym found) in
    rw (m, c, f, b, e, cut_step start line rest left, kind, size) (append_assoc done (record { kind = k; start = start; end = start + n; line = line } ∷ []) (cut (start + n) (line + line_feeds (take n rest)) zero (drop n rest)))

pub no_pieces : (done : List Piece) (start line : ℕ) (rest : List ℕ) → length rest ≡ 0 → done ++ cut start line zero rest ≡ done
unfolding cut
no_pieces done start line [] e = append-nil done
no_pieces done start line (c ∷ s) e = absurd (omega arith)
