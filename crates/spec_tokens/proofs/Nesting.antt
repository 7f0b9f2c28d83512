-- Each Dedent closes an Indent, and the End stands last.
use Rattle.std.proofs.Common.{◌≡◌, ℕ, zero, suc, ◌+◌, Bool, true, false, cond, List, [], ◌∷◌, ◌++◌, length, drop, Some, refl, subst, arith}
use Rattle.std.specs.Prelude.{nat_lt, filter}
use Rattle.std.specs.List.{list_all}
use Rattle.std.proofs.lemmas.Bool.{and_parts, and_from}
use Rattle.std.proofs.lemmas.List.{length-drop}
use Rattle.spec_tokens.specs.declared.Kind.{Kind}
use Rattle.spec_tokens.specs.declared.Kind.TheVariants as kind
use Rattle.spec_tokens.specs.declared.Lexeme.{Lexeme}
use Rattle.spec_tokens.specs.declared.Piece.{Piece}
use Rattle.spec_tokens.specs.declared.TokenKind.TheVariants.{Name, Keyword, Indent, Dedent, End}
use Rattle.spec_tokens.specs.Pieces.{spelling}
use Rattle.spec_tokens.specs.Lines.{logical_lines, is_full, full_lines, leading, innermost, dedents, columns_at}
use Rattle.spec_tokens.specs.Tokens.{is_keyword, token_kind, kept, newline, line_tokens, times, margin, indentation, at_end, tokens_from}
use Rattle.spec_tokens.specs.WellFormed.{AreNested, kinds}
use Rattle.spec_tokens.proofs.Sizes.{run_within}

-- ---- tokens of a line

-- the token of a piece opens and closes nothing
kept_nested : (n : ℕ) (k : Kind) (w : List ℕ) (p : Piece) (us ts : List Lexeme) → AreNested n (kinds (us ++ ts)) → AreNested n (kinds (kept (token_kind k w) p us ++ ts))
kept_nested n kind.Name w p us ts h = at (is_keyword w)
  where
    at : (b : Bool) → AreNested n (kinds (kept (cond b (Some Keyword) (Some Name)) p us ++ ts))
    at true = h
    at false = h
kept_nested n kind.Integer w p us ts h = h
kept_nested n kind.Text w p us ts h = h
kept_nested n kind.Operator w p us ts h = h
kept_nested n (kind.Open b) w p us ts h = h
kept_nested n (kind.Close b) w p us ts h = h
kept_nested n _ w p us ts h = h

-- what ends a line opens and closes nothing
newline_nested : (n : ℕ) (k : Kind) (p : Piece) (ts : List Lexeme) → AreNested n (kinds ts) → AreNested n (kinds (newline k p ∷ ts))
newline_nested n kind.LineEnd p ts h = h
newline_nested n _ p ts h = h

-- the tokens of a line open and close nothing
line_nested : (letters : List ℕ) (n : ℕ) (line : List Piece) (ts : List Lexeme) → AreNested n (kinds ts) → AreNested n (kinds (line_tokens letters line ++ ts))
unfolding line_tokens
line_nested letters n [] ts h = h
line_nested letters n (p ∷ []) ts h = kept_nested n p.kind (spelling letters p) p (newline p.kind p ∷ []) ts (newline_nested n p.kind p ts h)
line_nested letters n (p ∷ q ∷ line) ts h = kept_nested n p.kind (spelling letters p) p (line_tokens letters (q ∷ line)) ts (line_nested letters n (q ∷ line) ts h)

-- ---- indentation

-- a Dedent closes one
dedent_nested : (n : ℕ) (t : Lexeme) (ts : List Lexeme) → t.kind ≡ Dedent → AreNested n (kinds ts) → AreNested (suc n) (kinds (t ∷ ts))
dedent_nested n t ts k h = rw k h

-- Dedents close as many as they are
times_nested : (d m n : ℕ) (t : Lexeme) (ts : List Lexeme) → t.kind ≡ Dedent → m ≡ d + n → AreNested n (kinds ts) → AreNested m (kinds (times d t ts))
times_nested zero m n t ts k e h = let same : n ≡ m = omega arith in subst (λ (i : ℕ). AreNested i (kinds ts)) same h
times_nested (suc d) zero n t ts k e h = absurd (omega arith)
times_nested (suc d) (suc m) n t ts k e h = dedent_nested m t (times d t ts) k (times_nested d m n t ts k (omega arith) h)

-- a line opens and closes columns as its indentation does
indented_nested : (n : ℕ) (columns : List ℕ) (line : List Piece) (ts : List Lexeme) → is_full line ≡ true → AreNested (length (columns_at n columns)) (kinds ts) → AreNested (length columns) (kinds (indentation n columns line ts))
indented_nested n columns [] ts full h = absurd cc
indented_nested n columns (p ∷ line) ts full h = at (nat_lt (innermost columns) n) h
  where
    at : (b : Bool) → AreNested (length (cond b (n ∷ columns) (drop (dedents n columns) columns))) (kinds ts)
        → AreNested (length columns) (kinds (cond b (record { kind = Indent; start = p.start; end = p.end; line = p.line } ∷ ts)
        (times (dedents n columns) (record { kind = Dedent; start = margin p.kind p; end = margin p.kind p; line = p.line }) ts)))
    at true later = later
    at false later =
        let within = run_within (λ c. nat_lt n c) columns in
        let less = length-drop (dedents n columns) columns in
        times_nested (dedents n columns) (length columns) (length (drop (dedents n columns) columns)) (record { kind = Dedent; start = margin p.kind p; end = margin p.kind p; line = p.line }) ts refl (omega arith) later

-- ---- the whole text

-- what a filter leaves passes its test
filter_passes_all : (test : List Piece → Bool) (lines : List (List Piece)) → list_all test (filter test lines) ≡ true
filter_passes_all test [] = refl
filter_passes_all test (line ∷ lines) = at (test line) refl (filter_passes_all test lines)
  where
    at : (b : Bool) → test line ≡ b → list_all test (filter test lines) ≡ true → list_all test (cond b (line ∷ filter test lines) (filter test lines)) ≡ true
    at true e h = and_from (test line) (list_all test (filter test lines)) e h
    at false e h = h

-- the tokens of lines close the columns that are open
lines_nested : (letters columns : List ℕ) (lines : List (List Piece)) → list_all is_full lines ≡ true → AreNested (length columns) (kinds (tokens_from letters columns lines))
unfolding tokens_from
lines_nested letters columns [] full = times_nested (length columns) (length columns) 0 (at_end Dedent letters) (at_end End letters ∷ []) refl (omega arith) (refl, refl)
lines_nested letters columns (line ∷ lines) full =
    let both = and_parts (is_full line) (list_all is_full lines) full in
    let n = length (leading letters line) in
    indented_nested n columns line (line_tokens letters line ++ tokens_from letters (columns_at n columns) lines) both.0
    (line_nested letters (length (columns_at n columns)) line (tokens_from letters (columns_at n columns) lines) (lines_nested letters (columns_at n columns) lines both.1))

-- the tokens of pieces close what they open
pub pieces_nested : (letters : List ℕ) (ps : List Piece) → AreNested 0 (kinds (tokens_from letters [] (full_lines ps)))
pieces_nested letters ps = lines_nested letters [] (full_lines ps) (filter_passes_all is_full (logical_lines [] ps))
