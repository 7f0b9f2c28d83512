-- Turns of the loops that append tokens.
use Rattle.std.proofs.Common.{◌≡◌, ℕ, zero, suc, ◌<◌, Bool, true, false, cond, List, [], ◌∷◌, ◌++◌, length, Option, Some, None, refl, ap, arith, append_assoc}
use Rattle.std.proofs.lemmas.List.{append-nil}
use Rattle.std.specs.Prelude.{nat_lt}
use Rattle.spec_tokens.specs.declared.Lexeme.{Lexeme}
use Rattle.spec_tokens.specs.declared.Piece.{Piece}
use Rattle.spec_tokens.specs.declared.TokenKind.{TokenKind}
use Rattle.spec_tokens.specs.declared.TokenKind.TheVariants.{Indent, Dedent, End}
use Rattle.spec_tokens.specs.Lines.{leading, innermost, dedents, columns_at}
use Rattle.spec_tokens.specs.Pieces.{spelling}
use Rattle.spec_tokens.specs.Tokens.{token_kind, kept, newline, line_tokens, times, margin, indentation, at_end, tokens_from}

-- ---- tokens of a line

-- a kept token and others are that token before them
kept_first : (k : Option TokenKind) (p : Piece) (ts : List Lexeme) → kept k p [] ++ ts ≡ kept k p ts
kept_first None p ts = refl
kept_first (Some k) p ts = refl

pub line_turn : (done more : List Lexeme) (letters : List ℕ) (p : Piece) (after rest : List Piece) → rest ≡ p ∷ after → 0 < length after → more ≡ done ++ kept (token_kind p.kind (spelling letters p)) p []
    → more ++ line_tokens letters after ≡ done ++ line_tokens letters rest
unfolding line_tokens
line_turn done more letters p [] rest e some m = absurd (omega arith)
line_turn done more letters p (q ∷ ps) rest e some m =
    rw (m, e, append_assoc done (kept (token_kind p.kind (spelling letters p)) p []) (line_tokens letters (q ∷ ps)), kept_first (token_kind p.kind (spelling letters p)) p (line_tokens letters (q ∷ ps))) refl

pub line_last : (done kept_so more : List Lexeme) (letters : List ℕ) (p : Piece) (after rest : List Piece) → rest ≡ p ∷ after → length after ≡ 0 → kept_so ≡ done ++ kept (token_kind p.kind (spelling letters p)) p [] → more ≡ kept_so ++ newline p.kind p ∷ []
    → more ++ line_tokens letters after ≡ done ++ line_tokens letters rest
unfolding line_tokens
line_last done kept_so more letters p (q ∷ ps) rest e none k m = absurd (omega arith)
line_last done kept_so more letters p [] rest e none k m =
    rw (m, k, e, append-nil ((done ++ kept (token_kind p.kind (spelling letters p)) p []) ++ newline p.kind p ∷ []), append_assoc done (kept (token_kind p.kind (spelling letters p)) p []) (newline p.kind p ∷ []), kept_first (token_kind p.kind (spelling letters p)) p (newline p.kind p ∷ [])) refl

pub line_end : (done : List Lexeme) (letters : List ℕ) (rest : List Piece) → length rest ≡ 0 → done ++ line_tokens letters rest ≡ done
unfolding line_tokens
line_end done letters [] e = append-nil done
line_end done letters (p ∷ ps) e = absurd (omega arith)

-- ---- tokens of one kind

-- n tokens before others are n tokens and then the others
pub times_first : (n : ℕ) (t : Lexeme) (ts : List Lexeme) → times n t [] ++ ts ≡ times n t ts
times_first zero t ts = refl
times_first (suc n) t ts = ap (λ (us : List Lexeme). t ∷ us) (times_first n t ts)

pub times_turn : (done more : List Lexeme) (k n : ℕ) (t : Lexeme) → k ≡ suc n → more ≡ done ++ t ∷ [] → more ++ times n t [] ≡ done ++ times k t []
times_turn done more k n t e m = rw (m, e) (append_assoc done (t ∷ []) (times n t []))

-- ---- logical lines

-- the tokens of an indentation before others are those tokens and then the others
indentation_first : (n : ℕ) (columns : List ℕ) (l : List Piece) (ts : List Lexeme) → indentation n columns l [] ++ ts ≡ indentation n columns l ts
indentation_first n columns [] ts = refl
indentation_first n columns (p ∷ l) ts = at (nat_lt (innermost columns) n)
  where
    at : (b : Bool) → cond b (record { kind = Indent; start = p.start; end = p.end; line = p.line } ∷ []) (times (dedents n columns) (record { kind = Dedent; start = margin p.kind p; end = margin p.kind p; line = p.line }) []) ++ ts
        ≡ cond b (record { kind = Indent; start = p.start; end = p.end; line = p.line } ∷ ts) (times (dedents n columns) (record { kind = Dedent; start = margin p.kind p; end = margin p.kind p; line = p.line }) ts)
    at true = refl
    at false = times_first (dedents n columns) (record { kind = Dedent; start = margin p.kind p; end = margin p.kind p; line = p.line }) ts

pub tokens_turn : (done mid more : List Lexeme) (letters columns : List ℕ) (l : List Piece) (rest after : List (List Piece)) → rest ≡ l ∷ after
    → mid ≡ done ++ indentation (length (leading letters l)) columns l [] → more ≡ mid ++ line_tokens letters l
    → more ++ tokens_from letters (columns_at (length (leading letters l)) columns) after ≡ done ++ tokens_from letters columns rest
unfolding tokens_from
tokens_turn done mid more letters columns l rest after e m o =
    let n : ℕ = length (leading letters l) in
    let others : List Lexeme = tokens_from letters (columns_at n columns) after in
    rw (o, m, e, append_assoc (done ++ indentation n columns l []) (line_tokens letters l) others, append_assoc done (indentation n columns l []) (line_tokens letters l ++ others), indentation_first n columns l (line_tokens letters l ++ others)) refl

pub tokens_end : (done mid more : List Lexeme) (letters columns : List ℕ) (rest : List (List Piece)) → rest ≡ [] → mid ≡ done ++ times (length columns) (at_end Dedent letters) [] → more ≡ mid ++ at_end End letters ∷ []
    → more ≡ done ++ tokens_from letters columns rest
unfolding tokens_from
tokens_end done mid more letters columns rest e m o =
    rw (o, m, e, append_assoc done (times (length columns) (at_end Dedent letters) []) (at_end End letters ∷ []), times_first (length columns) (at_end Dedent letters) (at_end End letters ∷ [])) refl
