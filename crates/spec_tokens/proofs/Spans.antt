-- The spans of pieces, of logical lines and of tokens: they stand in order, and each has a value.
use Rattle.std.proofs.Common.{◌≡◌, ℕ, zero, suc, ◌+◌, ◌^◌, ◌<◌, ◌≤◌, Bool, true, false, cond, List, [], ◌∷◌, ◌++◌, length, drop, Option, Some, None, refl, ap, subst, arith, ◌∙◌}
use Rattle.std.specs.Prelude.{⊤, ◌||◌, nat_le, nat_lt, is_none, filter}
use Rattle.std.specs.List.{All}
use Rattle.std.specs.Option.{is_some}
use Rattle.std.proofs.lemmas.Bool.{leb-false, ltb-true}
use Rattle.std.proofs.lemmas.List.{length-append}
use Rattle.std.proofs.lemmas.List.Elements.{All-nil, All-cons}
use Rattle.spec_tokens.specs.declared.Fault.TheVariants.{BigInteger, NumberForm, EscapeForm}
use Rattle.spec_tokens.specs.declared.Kind.{Kind}
use Rattle.spec_tokens.specs.declared.Kind.TheVariants as kind
use Rattle.spec_tokens.specs.declared.Lexeme.{Lexeme}
use Rattle.spec_tokens.specs.declared.Piece.{Piece}
use Rattle.spec_tokens.specs.declared.TokenKind.{TokenKind}
use Rattle.spec_tokens.specs.declared.TokenKind.TheVariants.{Name, Keyword, Int, Str, Indent, Dedent, End}
use Rattle.spec_tokens.specs.Pieces.{spelling, line_feeds, IsCut, no_piece, piece}
use Rattle.spec_tokens.specs.Values.{integer_value, is_zero_led, text_value}
use Rattle.spec_tokens.specs.Refusals.{goes_on_badly, fault_of}
use Rattle.spec_tokens.specs.Lines.{open_behind, ends_line, begun_by, logical_lines, is_full, full_lines, blank_at, leading, innermost, dedents, columns_at}
use Rattle.spec_tokens.specs.Tokens.{is_keyword, token_kind, kept, newline, line_tokens, times, margin, indentation, at_end, tokens_from}
use Rattle.spec_tokens.specs.WellFormed.{spelled, AreOrdered}
use Rattle.spec_tokens.proofs.Faults.{IsFaultless, AreFaultless}

-- ---- pieces

-- pieces stand in order between two places, and none has a fault
abbrev pub AreSpans : List ℕ → ℕ → ℕ → List Piece → Type 0
AreSpans letters from to [] = from ≤ to
AreSpans letters from to (p ∷ ps) = (from ≤ p.start) × (p.start ≤ p.end) × IsFaultless letters p × AreSpans letters p.end to ps

-- they end no earlier than they begin
spans_rise : (letters : List ℕ) (from to : ℕ) (ps : List Piece) → AreSpans letters from to ps → from ≤ to
spans_rise letters from to [] h = h
spans_rise letters from to (p ∷ ps) h = let later = spans_rise letters p.end to ps h.3 in omega arith

-- they also stand behind an earlier place
spans_lower : (letters : List ℕ) (n from to : ℕ) (ps : List Piece) → n ≤ from → AreSpans letters from to ps → AreSpans letters n to ps
spans_lower letters n from to [] le h = omega arith
spans_lower letters n from to (p ∷ ps) le h = (omega arith, h.1, h.2, h.3)

-- the pieces of letters stand in order within them
pub cut_spans : (letters : List ℕ) (at line : ℕ) (s : List ℕ) (ps : List Piece) → IsCut at line s ps → AreFaultless letters ps → AreSpans letters at (at + length s) ps
cut_spans letters at line s ps no_piece f = omega arith
cut_spans letters at line s ps (piece {w = w} {r = r} {ps = qs} here parts later) f =
    let size : length s ≡ length w + length r = ap length parts ∙ length-append w r in
    let more = cut_spans letters (at + length w) (line + line_feeds w) r qs later f.1 in
    let same : at + length w + length r ≡ at + length s = omega arith in
    (omega arith, omega arith, f.0, subst (λ (to : ℕ). AreSpans letters (at + length w) to qs) same more)

-- ---- logical lines

-- lines stand in order between two places, and so do the pieces of each
abbrev pub AreLines : List ℕ → ℕ → ℕ → List (List Piece) → Type 0
AreLines letters from to [] = from ≤ to
AreLines letters from to (line ∷ lines) = (end : ℕ) × AreSpans letters from end line × AreLines letters end to lines

-- they also stand behind an earlier place
lines_lower : (letters : List ℕ) (n from to : ℕ) (lines : List (List Piece)) → n ≤ from → AreLines letters from to lines → AreLines letters n to lines
lines_lower letters n from to [] le h = omega arith
lines_lower letters n from to (line ∷ lines) le (end, here, later) = (end, spans_lower letters n from end line le here, later)

-- a piece before lines stands in order with them
begun_lines : (letters : List ℕ) (from to : ℕ) (p : Piece) (lines : List (List Piece)) → from ≤ p.start → p.start ≤ p.end → IsFaultless letters p → AreLines letters p.end to lines
    → AreLines letters from to (begun_by p lines)
begun_lines letters from to p [] a b f h = (p.end, (a, b, f, omega arith), h)
begun_lines letters from to p (line ∷ lines) a b f (end, here, later) = (end, (a, b, f, here), later)

-- the logical lines of pieces stand in order
spans_lines : (letters : List ℕ) (from to : ℕ) (outer ps : List Piece) → AreSpans letters from to ps → AreLines letters from to (logical_lines outer ps)
unfolding logical_lines
spans_lines letters from to outer [] h = h
spans_lines letters from to outer (p ∷ ps) h = at (ends_line outer p.kind) (spans_lines letters p.end to outer ps h.3) (spans_lines letters p.end to (open_behind outer p p.kind) ps h.3)
  where
    at : (b : Bool) → AreLines letters p.end to (logical_lines outer ps) → AreLines letters p.end to (logical_lines (open_behind outer p p.kind) ps)
        → AreLines letters from to (cond b ((p ∷ []) ∷ logical_lines outer ps) (begun_by p (logical_lines (open_behind outer p p.kind) ps)))
    at true same inner = (p.end, (h.0, h.1, h.2, omega arith), same)
    at false same inner = begun_lines letters from to p (logical_lines (open_behind outer p p.kind) ps) h.0 h.1 h.2 inner

-- lines that are left when some are dropped stand in order
lines_filter : (letters : List ℕ) (test : List Piece → Bool) (from to : ℕ) (lines : List (List Piece)) → AreLines letters from to lines → AreLines letters from to (filter test lines)
lines_filter letters test from to [] h = h
lines_filter letters test from to (line ∷ lines) (end, here, later) = at (test line) (lines_filter letters test end to lines later)
  where
    at : (b : Bool) → AreLines letters end to (filter test lines) → AreLines letters from to (cond b (line ∷ filter test lines) (filter test lines))
    at true more = (end, here, more)
    at false more = lines_lower letters from end to (filter test lines) (spans_rise letters from end line here) more

-- the logical lines that are not blank stand in order
pub full_spans : (letters : List ℕ) (from to : ℕ) (ps : List Piece) → AreSpans letters from to ps → AreLines letters from to (full_lines ps)
full_spans letters from to ps h = lines_filter letters is_full from to (logical_lines [] ps) (spans_lines letters from to [] ps h)

-- ---- values

-- an integer is below 2^127, and a string has a value
abbrev pub HasValue : TokenKind → List ℕ → Type 0
HasValue Int w = integer_value w < 2 ^ 127
HasValue Str w = is_some (text_value w) ≡ true
HasValue _ w = ⊤

-- the kind of a token, where there is one, has its value
abbrev pub HasAny : Option TokenKind → List ℕ → Type 0
HasAny None w = ⊤
HasAny (Some k) w = HasValue k w

-- an integer with no fault is below 2^127
integer_below : (w r : List ℕ) → fault_of kind.Integer w r ≡ None → integer_value w < 2 ^ 127
integer_below w r h = at (nat_le (2 ^ 127) (integer_value w)) (is_zero_led w || goes_on_badly r) refl h
  where
    at : (a b : Bool) → nat_le (2 ^ 127) (integer_value w) ≡ a → cond a (Some BigInteger) (cond b (Some NumberForm) None) ≡ None → integer_value w < 2 ^ 127
    at true b e f = absurd cc
    at false b e f = leb-false (2 ^ 127) (integer_value w) e

-- a string with no fault has a value
text_some : (w r : List ℕ) → fault_of kind.Text w r ≡ None → is_some (text_value w) ≡ true
text_some w r h = at (text_value w) h
  where
    at : (o : Option (List ℕ)) → cond (is_none o) (Some EscapeForm) None ≡ None → is_some o ≡ true
    at None e = absurd cc
    at (Some v) e = refl

-- a name or a keyword needs no value
name_value : (w : List ℕ) → HasAny (token_kind kind.Name w) w
name_value w = at (is_keyword w)
  where
    at : (b : Bool) → HasAny (cond b (Some Keyword) (Some Name)) w
    at true = tt
    at false = tt

-- the token of a piece with no fault has its value
piece_value : (k : Kind) (w r : List ℕ) → fault_of k w r ≡ None → HasAny (token_kind k w) w
piece_value kind.Name w r h = name_value w
piece_value kind.Integer w r h = integer_below w r h
piece_value kind.Text w r h = text_some w r h
piece_value kind.Operator w r h = tt
piece_value (kind.Open b) w r h = tt
piece_value (kind.Close b) w r h = tt
piece_value _ w r h = tt

-- ---- tokens

-- tokens stand in order between two places, and have their values
abbrev pub AreTokens : List ℕ → ℕ → ℕ → List Lexeme → Type 0
AreTokens letters from to [] = from ≤ to
AreTokens letters from to (t ∷ ts) = (from ≤ t.start) × (t.start ≤ t.end) × HasValue t.kind (spelled letters t) × AreTokens letters t.end to ts

-- they also stand behind an earlier place
tokens_lower : (letters : List ℕ) (n from to : ℕ) (ts : List Lexeme) → n ≤ from → AreTokens letters from to ts → AreTokens letters n to ts
tokens_lower letters n from to [] le h = omega arith
tokens_lower letters n from to (t ∷ ts) le h = (omega arith, h.1, h.2, h.3)

-- tokens and those behind them stand in order
tokens_append : (letters : List ℕ) (from mid to : ℕ) (ts us : List Lexeme) → AreTokens letters from mid ts → AreTokens letters mid to us → AreTokens letters from to (ts ++ us)
tokens_append letters from mid to [] us h later = tokens_lower letters from mid to us h later
tokens_append letters from mid to (t ∷ ts) us h later = (h.0, h.1, h.2, tokens_append letters t.end mid to ts us h.3 later)

-- the token of a piece, where there is one, stands before those behind the piece
kept_tokens : (letters : List ℕ) (o : Option TokenKind) (p : Piece) (to : ℕ) (ts : List Lexeme) → p.start ≤ p.end → HasAny o (spelling letters p) → AreTokens letters p.end to ts
    → AreTokens letters p.start to (kept o p ts)
kept_tokens letters None p to ts le v later = tokens_lower letters p.start p.end to ts le later
kept_tokens letters (Some k) p to ts le v later = (omega arith, le, v, later)

-- the token of a piece, or what is behind a blank, stands before what is behind the piece
first_tokens : (letters : List ℕ) (k : Kind) (p : Piece) (to : ℕ) (ts : List Lexeme) → p.start ≤ p.end → HasAny (token_kind k (spelling letters p)) (spelling letters p) → AreTokens letters p.end to ts
    → AreTokens letters (margin k p) to (kept (token_kind k (spelling letters p)) p ts)
first_tokens letters kind.Blank p to ts le v later = later
first_tokens letters k p to ts le v later = kept_tokens letters (token_kind k (spelling letters p)) p to ts le v later

-- the last piece of a line and what ends the line stand in order
last_tokens : (letters : List ℕ) (k : Kind) (p : Piece) (to : ℕ) → p.start ≤ p.end → HasAny (token_kind k (spelling letters p)) (spelling letters p) → p.end ≤ to
    → AreTokens letters (margin k p) to (kept (token_kind k (spelling letters p)) p (newline k p ∷ []))
last_tokens letters kind.LineEnd p to le v last = (omega arith, le, tt, last)
last_tokens letters k p to le v last = first_tokens letters k p to (newline k p ∷ []) le v (omega arith, omega arith, tt, last)

-- the margin is at the first piece or behind it
margin_behind : (k : Kind) (p : Piece) → p.start ≤ p.end → p.start ≤ margin k p
margin_behind kind.Blank p le = le
margin_behind k p le = omega arith

-- the tokens of a line stand in order behind its margin
line_spans : (letters : List ℕ) (from to : ℕ) (p : Piece) (ps : List Piece) → AreSpans letters from to (p ∷ ps) → AreTokens letters (margin p.kind p) to (line_tokens letters (p ∷ ps))
unfolding line_tokens
line_spans letters from to p [] h = last_tokens letters p.kind p to h.1 (piece_value p.kind (spelling letters p) (drop p.end letters) h.2) h.3
line_spans letters from to p (q ∷ ps) h =
    let behind = margin_behind q.kind q h.3.1 in
    let next = h.3.0 in
    let later = tokens_lower letters p.end (margin q.kind q) to (line_tokens letters (q ∷ ps)) (omega arith) (line_spans letters p.end to q ps h.3) in
    first_tokens letters p.kind p to (line_tokens letters (q ∷ ps)) h.1 (piece_value p.kind (spelling letters p) (drop p.end letters) h.2) later

-- ---- indentation

-- empty tokens at a place stand before what is behind the place
times_tokens : (letters : List ℕ) (n : ℕ) (t : Lexeme) (to : ℕ) (ts : List Lexeme) → t.start ≡ t.end → HasValue t.kind (spelled letters t) → AreTokens letters t.end to ts → AreTokens letters t.end to (times n t ts)
times_tokens letters zero t to ts e v h = h
times_tokens letters (suc n) t to ts e v h = (omega arith, omega arith, v, times_tokens letters n t to ts e v h)

-- where a line is indented, its margin is behind its first piece
margin_blank : (k : Kind) (p : Piece) (w : List ℕ) → 0 < length (blank_at k w) → margin k p ≡ p.end
margin_blank kind.Blank p w lt = refl
margin_blank k p w lt = absurd (omega arith)

-- the tokens of a line, with its indentation, stand before what is behind the line
indented_spans : (letters columns : List ℕ) (from end to : ℕ) (line : List Piece) (ts : List Lexeme) → AreSpans letters from end line → AreTokens letters end to ts
    → AreTokens letters from to (indentation (length (leading letters line)) columns line (line_tokens letters line ++ ts))
unfolding line_tokens
indented_spans letters columns from end to [] ts h later = tokens_lower letters from end to ts h later
indented_spans letters columns from end to (p ∷ ps) ts h later =
    at (nat_lt (innermost columns) (length (leading letters (p ∷ ps)))) refl (tokens_append letters (margin p.kind p) end to (line_tokens letters (p ∷ ps)) ts (line_spans letters from end p ps h) later)
  where
    at : (b : Bool) → nat_lt (innermost columns) (length (leading letters (p ∷ ps))) ≡ b → AreTokens letters (margin p.kind p) to (line_tokens letters (p ∷ ps) ++ ts)
        → AreTokens letters from to (cond b (record { kind = Indent; start = p.start; end = p.end; line = p.line } ∷ (line_tokens letters (p ∷ ps) ++ ts))
        (times (dedents (length (leading letters (p ∷ ps))) columns) (record { kind = Dedent; start = margin p.kind p; end = margin p.kind p; line = p.line }) (line_tokens letters (p ∷ ps) ++ ts)))
    at true e here =
        let more = ltb-true (innermost columns) (length (leading letters (p ∷ ps))) e in
        let own = margin_blank p.kind p (spelling letters p) (omega arith) in
        (h.0, h.1, tt, subst (λ (m : ℕ). AreTokens letters m to (line_tokens letters (p ∷ ps) ++ ts)) own here)
    at false e here =
        let behind = margin_behind p.kind p h.1 in
        let first = h.0 in
        let dedent : Lexeme = record { kind = Dedent; start = margin p.kind p; end = margin p.kind p; line = p.line } in
        tokens_lower letters from (margin p.kind p) to (times (dedents (length (leading letters (p ∷ ps))) columns) dedent (line_tokens letters (p ∷ ps) ++ ts)) (omega arith)
        (times_tokens letters (dedents (length (leading letters (p ∷ ps))) columns) dedent to (line_tokens letters (p ∷ ps) ++ ts) refl tt here)

-- ---- the whole text

-- the tokens of lines stand in order within the letters
pub lines_tokens : (letters columns : List ℕ) (from : ℕ) (lines : List (List Piece)) → AreLines letters from (length letters) lines → AreTokens letters from (length letters) (tokens_from letters columns lines)
unfolding tokens_from
lines_tokens letters columns from [] h =
    tokens_lower letters from (length letters) (length letters) (times (length columns) (at_end Dedent letters) (at_end End letters ∷ [])) h
    (times_tokens letters (length columns) (at_end Dedent letters) (length letters) (at_end End letters ∷ []) refl tt (omega arith, omega arith, tt, omega arith))
lines_tokens letters columns from (line ∷ lines) (end, here, later) =
    let n = length (leading letters line) in
    indented_spans letters columns from end (length letters) line (tokens_from letters (columns_at n columns) lines) here (lines_tokens letters (columns_at n columns) end lines later)

-- ---- what is read off

-- such tokens stand in order
pub tokens_ordered : (letters : List ℕ) (from to : ℕ) (ts : List Lexeme) → AreTokens letters from to ts → AreOrdered from to ts
tokens_ordered letters from to [] h = h
tokens_ordered letters from to (t ∷ ts) h = (h.0, h.1, tokens_ordered letters t.end to ts h.3)

-- such tokens have their values
pub tokens_valued : (letters : List ℕ) (from to : ℕ) (ts : List Lexeme) → AreTokens letters from to ts → All (λ t. HasValue t.kind (spelled letters t)) ts
tokens_valued letters from to [] h = All-nil (λ t. HasValue t.kind (spelled letters t))
tokens_valued letters from to (t ∷ ts) h = All-cons (λ t. HasValue t.kind (spelled letters t)) t ts h.2 (tokens_valued letters t.end to ts h.3)
