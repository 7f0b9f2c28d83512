-- What is cut into tokens is well formed.
use Rattle.std.proofs.Common.{◌≡◌, ℕ, zero, suc, ◌+◌, ◌<◌, ◌≤◌, ◌^◌, true, List, [], ◌∷◌, length, map, get_or, None, Ok, refl, subst, arith}
use Rattle.std.specs.List.{All}
use Rattle.std.specs.Option.{is_some}
use Rattle.std.specs.Str.{all_scalars}
use Rattle.std.proofs.lemmas.List.Elements.{All-nil, All-cons, All-weaker}
use Rattle.spec_tokens.specs.declared.Lexeme.{Lexeme}
use Rattle.spec_tokens.specs.declared.Piece.{Piece}
use Rattle.spec_tokens.specs.declared.TokenKind.{TokenKind}
use Rattle.spec_tokens.specs.declared.TokenKind.TheVariants.{Int, Str}
use Rattle.spec_tokens.specs.Letters.{run, is_blank, lines_of, mark_size, without_mark, letters_of, ends_of}
use Rattle.spec_tokens.specs.Pieces.{ArePieces}
use Rattle.spec_tokens.specs.Lines.{full_lines}
use Rattle.spec_tokens.specs.Refusals.{first_of}
use Rattle.spec_tokens.specs.Values.{integer_value, text_value}
use Rattle.spec_tokens.specs.Tokens.{Scan, refusals, tokens_from, tokens_of}
use Rattle.spec_tokens.specs.WellFormed.{spelled, AreOrdered, place, IsWellFormed}
use Rattle.spec_tokens.proofs.Faults.{answer_scan, none_faultless}
use Rattle.spec_tokens.proofs.Nesting.{pieces_nested}
use Rattle.spec_tokens.proofs.Places.{ends_size, text_rises, text_boundary}
use Rattle.spec_tokens.proofs.Spans.{HasValue, AreSpans, AreTokens, cut_spans, full_spans, lines_tokens, tokens_ordered, tokens_valued}

-- where no refusal is the first, the tokens stand in order, and have their values
pieces_tokens : (letters : List ℕ) (ps : List Piece) → ArePieces letters ps → first_of (refusals letters ps) ≡ None → AreTokens letters 0 (length letters) (tokens_from letters [] (full_lines ps))
pieces_tokens letters ps cut none =
    let all : 0 + length letters ≡ length letters = omega arith in
    let spans = subst (λ (to : ℕ). AreSpans letters 0 to ps) all (cut_spans letters 0 1 letters ps cut (none_faultless letters ps none)) in
    lines_tokens letters [] 0 (full_lines ps) (full_spans letters 0 (length letters) ps spans)

-- the scan of a text whose letters are cut into these pieces
abbrev scan_of : List ℕ → List Piece → Scan
scan_of text ps =
    let letters = letters_of text in
    record { letters = letters; first = mark_size text; ends = ends_of text; indents = map (run is_blank) (lines_of letters); tokens = tokens_from letters [] (full_lines ps) }

-- a place is the one before all ends, or one of them
place_is : (s : Scan) (j : ℕ) → place s j ≡ get_or (s.first ∷ s.ends) j 0
place_is s zero = refl
place_is s (suc j) = refl

-- the scan of a text without refusals is well formed
scan_is : (text : List ℕ) (ps : List Piece) → all_scalars text ≡ true → ArePieces (letters_of text) ps → first_of (refusals (letters_of text) ps) ≡ None → IsWellFormed text (scan_of text ps)
scan_is text ps scalars cut none =
    let tokens = pieces_tokens (letters_of text) ps cut none in
    let ts = tokens_from (letters_of text) [] (full_lines ps) in
    let valued = tokens_valued (letters_of text) 0 (length (letters_of text)) ts tokens in
    record {
      ordered = tokens_ordered (letters_of text) 0 (length (letters_of text)) ts tokens;
      nested = pieces_nested (letters_of text) ps;
      integers = All-weaker (λ t. HasValue t.kind (spelled (letters_of text) t)) (λ t. t.kind ≡ Int → integer_value (spelled (letters_of text) t) < 2 ^ 127) (λ t v e. subst (λ (k : TokenKind). HasValue k (spelled (letters_of text) t)) e v) ts valued;
      strings = All-weaker (λ t. HasValue t.kind (spelled (letters_of text) t)) (λ t. t.kind ≡ Str → is_some (text_value (spelled (letters_of text) t)) ≡ true) (λ t v e. subst (λ (k : TokenKind). HasValue k (spelled (letters_of text) t)) e v) ts valued;
      places = ends_size (mark_size text) (without_mark text);
      rising = λ i j le within. rw (place_is (scan_of text ps) i, place_is (scan_of text ps) j) (text_rises text i j scalars le within);
      boundaries = λ j within. rw (place_is (scan_of text ps) j) (text_boundary text j scalars within);
    }

-- what is cut into tokens is well formed
pub well_formed : (text : List ℕ) (ps : List Piece) (s : Scan) → all_scalars text ≡ true → ArePieces (letters_of text) ps → tokens_of text ps ≡ Ok s → IsWellFormed text s
well_formed text ps s scalars cut is =
    let both = answer_scan (first_of (refusals (letters_of text) ps)) (scan_of text ps) s is in
    subst (λ (s : Scan). IsWellFormed text s) both.1 (scan_is text ps scalars cut both.0)

-- tokens in order between two places leave the second behind the first
ordered_to : (from to : ℕ) (ts : List Lexeme) → AreOrdered from to ts → from ≤ to
ordered_to from to [] h = h
ordered_to from to (t ∷ ts) h = let later = ordered_to t.end to ts h.2 in let first = h.0 in let own = h.1 in omega arith

-- each of the tokens that stand in order between two places stands between them
pub ordered_within : (from to : ℕ) (ts : List Lexeme) → AreOrdered from to ts → All (λ t. (from ≤ t.start) × (t.start ≤ t.end) × (t.end ≤ to)) ts
ordered_within from to [] h = All-nil (λ t. (from ≤ t.start) × (t.start ≤ t.end) × (t.end ≤ to))
ordered_within from to (t ∷ ts) h =
    let first = h.0 in
    let own = h.1 in
    let last = ordered_to t.end to ts h.2 in
    All-cons (λ t. (from ≤ t.start) × (t.start ≤ t.end) × (t.end ≤ to)) t ts (h.0, h.1, last)
    (All-weaker (λ u. (t.end ≤ u.start) × (u.start ≤ u.end) × (u.end ≤ to)) (λ t. (from ≤ t.start) × (t.start ≤ t.end) × (t.end ≤ to)) (λ u b. let behind = b.0 in (omega arith, b.1, b.2)) ts (ordered_within t.end to ts h.2))
